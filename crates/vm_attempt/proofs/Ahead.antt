-- How often a run can still be handed out to be executed: once for each pending run of its handle that waits, and once where the handle
-- isn't given yet. No call of a machine adds to that.
use Rattle.std.proofs.Common.{◌≡◌, ◌⊎◌, inl, inr, ap, ℕ, suc, ◌+◌, ◌≤◌, ◌&&◌, Bool, true, false, cond, List, [], ◌∷◌, ◌++◌, Some, None, refl, sym, subst, arith}
use Rattle.std.specs.Prelude.{◌==◌, if◌then◌else◌, find, nat_le}
use Rattle.std.proofs.lemmas.Bool.{eq-eqb}
use Rattle.std.proofs.lemmas.Bool.Decides.{nat_tests}
use Rattle.std.proofs.lemmas.Option.{same_Some}
use Rattle.await_trees.specs.declared.handle.NotificationHandle.{NotificationHandle}
use Rattle.journal_protocol.specs.Message.{Message}
use Rattle.journal_protocol.specs.Message.TheVariants as message
use Rattle.vm_runs.specs.Firsts.{with_first, without_first}
use Rattle.vm_runs.specs.Pending.{handle_of, has_handle, is_one_of, may_execute, run_started, to_execute, is_waiting_run}
use Rattle.vm_runs.specs.declared.pending.PendingRun.{PendingRun}
use Rattle.vm_state.specs.Counting.{next_index}
use Rattle.vm_machine.specs.declared.machine.Machine.{Machine}
use Rattle.vm_awaits.specs.Awaits.{executed}
use Rattle.vm_machine.specs.Commands.{handed_out, knows_next, prepared, runs_after}
use Rattle.vm_machine.specs.Proposals.{without_run}
use Rattle.vm_asks.specs.Requests.{ids_of}

-- a run of this handle waits to be executed
abbrev waits_as : NotificationHandle → PendingRun → Bool
waits_as handle run = is_waiting_run run.execution && has_handle handle run

-- how many of these runs do
abbrev waiting_of : NotificationHandle → List PendingRun → ℕ
waiting_of handle [] = 0
waiting_of handle (run ∷ runs) = cond (waits_as handle run) 1 0 + waiting_of handle runs

-- how often a run of this handle can still be handed out, by the handle that is given next
abbrev pub ahead_in : NotificationHandle → List PendingRun → ℕ → ℕ
ahead_in handle runs next = waiting_of handle runs + cond (nat_le next handle.0) 1 0

-- the same of a machine
abbrev pub ahead : NotificationHandle → Machine → ℕ
ahead handle v = ahead_in handle v.runs v.counters.handle

-- no run can be handed out more often than before
abbrev pub Fewer : Machine → Machine → Type 0
Fewer v w = (handle : NotificationHandle) → ahead handle w ≤ ahead handle v

-- a machine that hasn't failed had not before, and no run can be handed out more often
abbrev pub LivesOn : Machine → Machine → Type 0
LivesOn v w = w.failure ≡ None → (v.failure ≡ None) × Fewer v w

-- this run was handed out, so that it can be less often
abbrev pub HandsOut : NotificationHandle → Machine → Machine → Type 0
HandsOut handle v w = suc (ahead handle w) ≤ ahead handle v

number_same : (n : ℕ) → n ≤ n
number_same n = omega arith

then_less : (a b c : ℕ) → a ≤ b → b ≤ c → a ≤ c
then_less a b c h k = omega (arith, h, k)

pub fewer_same : (v : Machine) → Fewer v v
fewer_same v handle = number_same (ahead handle v)

pub fewer_then : (u v w : Machine) → Fewer u v → Fewer v w → Fewer u w
fewer_then u v w a b handle = then_less (ahead handle w) (ahead handle v) (ahead handle u) (b handle) (a handle)

-- the same by what the machine was before
pub handed_since : (handle : NotificationHandle) (u v w : Machine) → Fewer u v → HandsOut handle v w → HandsOut handle u w
handed_since handle u v w n h = then_less (suc (ahead handle w)) (ahead handle v) (ahead handle u) h (n handle)

-- a machine with the same pending runs and the same numbers
pub fewer_equal : (v w : Machine) → w.runs ≡ v.runs → w.counters ≡ v.counters → Fewer v w
fewer_equal v w runs counters handle = subst (λ n. n ≤ ahead handle v) (λ i. ahead_in handle (sym runs i) (sym counters i).handle) (number_same (ahead handle v))

-- ---- handles that are given

given_later : (n k h : ℕ) → n ≤ k → cond (nat_le k h) 1 0 ≤ cond (nat_le n h) 1 0
given_later n k h le = grind (arith, nat_tests)

later_fewer : (handle : NotificationHandle) (runs : List PendingRun) (n k : ℕ) → n ≤ k → ahead_in handle runs k ≤ ahead_in handle runs n
later_fewer handle runs n k le = omega (arith, given_later n k handle.0 le)

more_or_same : (n k : ℕ) → n ≤ n + k
more_or_same n k = omega arith

-- more handles are given
pub given_fewer : (k : ℕ) (v : Machine) → Fewer v (handed_out k v)
given_fewer k v handle = later_fewer handle v.runs v.counters.handle (v.counters.handle + k) (more_or_same v.counters.handle k)

-- ---- a run is called

waiting_append : (handle : NotificationHandle) (runs : List PendingRun) (run : PendingRun) → waiting_of handle (runs ++ run ∷ []) ≡ waiting_of handle runs + cond (waits_as handle run) 1 0
waiting_append handle [] run = omega arith
waiting_append handle (x ∷ runs) run = omega (arith, waiting_append handle runs run)

given_once : (n h : ℕ) → cond (n == h) 1 0 + cond (nat_le (n + 1) h) 1 0 ≤ cond (nat_le n h) 1 0
given_once n h = grind (arith, nat_tests)

called_fewer : (handle : NotificationHandle) (runs : List PendingRun) (n id index : ℕ) (name : List ℕ) → ahead_in handle (runs ++ to_execute (record { 0 = n }) id index name ∷ []) (n + 1) ≤ ahead_in handle runs n
called_fewer handle runs n id index name = omega (arith, waiting_append handle runs (to_execute (record { 0 = n }) id index name), given_once n handle.0)

calls_fewer : (handle : NotificationHandle) (m : Message) (n id index : ℕ) (known : Bool) (runs : List PendingRun) → ahead_in handle (runs_after m (record { 0 = n }) id index known runs) (n + ids_of m) ≤ ahead_in handle runs n
calls_fewer handle (message.Run c) n id index true runs = later_fewer handle runs n (n + 1) (more_or_same n 1)
calls_fewer handle (message.Run c) n id index false runs = called_fewer handle runs n id index c.name
calls_fewer handle m n id index known runs = later_fewer handle runs n (n + ids_of m) (more_or_same n (ids_of m))

-- what a call with a command changes before its command
pub prepared_fewer : (m : Message) (v : Machine) → Fewer v (prepared m v)
prepared_fewer m v handle = calls_fewer handle m v.counters.handle v.counters.completion (next_index v.counters.command) (knows_next v) v.runs

-- ---- a run is executed

waits_here : (any : List ℕ) (run : PendingRun) → may_execute any run ≡ true → waits_as (handle_of run) run ≡ true
waits_here any run may = both (is_waiting_run run.execution) (is_one_of any run.handle) (run.handle == run.handle) may (eq-eqb run.handle run.handle refl)
  where
    both : (a b c : Bool) → a && b ≡ true → c ≡ true → a && c ≡ true
    both true b c e f = f
    both false b c e f = e

starts_fewer : (handle : NotificationHandle) (any : List ℕ) (runs : List PendingRun) → waiting_of handle (with_first (may_execute any) run_started runs) ≤ waiting_of handle runs
starts_fewer handle any [] = omega arith
starts_fewer handle any (x ∷ runs) = by_test (may_execute any x) (starts_fewer handle any runs)
  where
    by_test : (b : Bool) → waiting_of handle (with_first (may_execute any) run_started runs) ≤ waiting_of handle runs → waiting_of handle (if b then run_started x ∷ runs else x ∷ with_first (may_execute any) run_started runs) ≤ cond (waits_as handle x) 1 0 + waiting_of handle runs
    by_test true fewer = omega arith
    by_test false fewer = omega (arith, fewer)

starts_one : (any : List ℕ) (runs : List PendingRun) (run : PendingRun) → find (may_execute any) runs ≡ Some run → suc (waiting_of (handle_of run) (with_first (may_execute any) run_started runs)) ≤ waiting_of (handle_of run) runs
starts_one any [] run found = absurd (cc)
starts_one any (x ∷ runs) run found = by_test (may_execute any x) refl (starts_one any runs run) found
  where
    one_less : (b : Bool) (n : ℕ) → b ≡ true → suc (0 + n) ≤ cond b 1 0 + n
    one_less true n e = omega arith
    one_less false n e = absurd (cc)

    by_test : (b : Bool) → may_execute any x ≡ b → (find (may_execute any) runs ≡ Some run → suc (waiting_of (handle_of run) (with_first (may_execute any) run_started runs)) ≤ waiting_of (handle_of run) runs) → cond b (Some x) (find (may_execute any) runs) ≡ Some run
        → suc (waiting_of (handle_of run) (if b then run_started x ∷ runs else x ∷ with_first (may_execute any) run_started runs)) ≤ cond (waits_as (handle_of run) x) 1 0 + waiting_of (handle_of run) runs
    by_test true may more is = one_less (waits_as (handle_of run) x) (waiting_of (handle_of run) runs) (subst (λ r. waits_as (handle_of r) x ≡ true) (same_Some x run is) (waits_here any x may))
    by_test false may more is = omega (arith, more is)

pub executed_fewer : (any : List ℕ) (v : Machine) → Fewer v (executed any v)
executed_fewer any v handle = omega (arith, starts_fewer handle any v.runs)

-- the run that is executed is handed out
pub executed_once : (any : List ℕ) (v : Machine) (run : PendingRun) → find (may_execute any) v.runs ≡ Some run → HandsOut (handle_of run) v (executed any v)
executed_once any v run found = omega (arith, starts_one any v.runs run found)

-- one of these runs has this handle
abbrev pub HasRunOf : NotificationHandle → List PendingRun → Type 0
HasRunOf handle [] = ⊥
HasRunOf handle (run ∷ runs) = (handle_of run ≡ handle) ⊎ HasRunOf handle runs

-- the run that is executed stays one of them
pub started_has : (any : List ℕ) (runs : List PendingRun) (run : PendingRun) → find (may_execute any) runs ≡ Some run → HasRunOf (handle_of run) (with_first (may_execute any) run_started runs)
started_has any [] run found = absurd (cc)
started_has any (x ∷ runs) run found = by_test (may_execute any x) found (started_has any runs run)
  where
    by_test : (b : Bool) → cond b (Some x) (find (may_execute any) runs) ≡ Some run → (find (may_execute any) runs ≡ Some run → HasRunOf (handle_of run) (with_first (may_execute any) run_started runs))
        → HasRunOf (handle_of run) (if b then run_started x ∷ runs else x ∷ with_first (may_execute any) run_started runs)
    by_test true is more = inl (ap handle_of (same_Some x run is))
    by_test false is more = inr (more is)

-- ---- a run's result is reported

without_fewer : (handle told : NotificationHandle) (runs : List PendingRun) → waiting_of handle (without_first (has_handle told) runs) ≤ waiting_of handle runs
without_fewer handle told [] = omega arith
without_fewer handle told (x ∷ runs) = by_test (has_handle told x) (without_fewer handle told runs)
  where
    by_test : (b : Bool) → waiting_of handle (without_first (has_handle told) runs) ≤ waiting_of handle runs → waiting_of handle (if b then runs else x ∷ without_first (has_handle told) runs) ≤ cond (waits_as handle x) 1 0 + waiting_of handle runs
    by_test true fewer = omega arith
    by_test false fewer = omega (arith, fewer)

-- the run isn't pending any more
pub ended_fewer : (told : NotificationHandle) (v : Machine) → Fewer v (without_run told v)
ended_fewer told v handle = omega (arith, without_fewer handle told v.runs)
