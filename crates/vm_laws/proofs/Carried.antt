-- What calls that are carried out leave of the state and of the counters, in replay as in Processing.
use Rattle.std.proofs.Common.{◌≡◌, ℕ, Bool, true, false, List, [], ◌∷◌, Option, Some, None, refl, sym, ap, subst, arith}
use native.Mathlib.Nat.{add-zero}
use Rattle.std.specs.Prelude.{if◌then◌else◌, ◌==◌}
use Rattle.journal_protocol.specs.Error.{Error}
use Rattle.journal_protocol.specs.NamedFault.{NamedFault}
use Rattle.journal_protocol.specs.NamedFault.TheVariants as fault
use Rattle.journal_protocol.specs.Message.{Message}
use Rattle.journal_protocol.specs.RawMessage.{RawMessage}
use Rattle.journal_protocol.specs.Equality.{header_equal}
use Rattle.journal_protocol.specs.Frames.{type_of}
use Rattle.journal_protocol.specs.Bodies.{message_in}
use Rattle.journal_protocol.specs.Types.{type_number}
use Rattle.vm_types.specs.declared.types.AwakeableHandle.{AwakeableHandle}
use Rattle.await_trees.specs.declared.handle.NotificationHandle.{NotificationHandle}
use Rattle.vm_state.specs.Counting.{missing_number, missing_signals, next_index, given_on}
use Rattle.vm_machine.specs.declared.machine.Machine.{Machine}
use Rattle.vm_machine.specs.Commands.{written, phase_after, popped, popped_from, compared, replayed, carried_out, prepared, command_if_counted, issued}
use Rattle.vm_types.specs.Options.{ignores_payloads}
use Rattle.vm_machine.specs.Outcomes.{Outcome, Done, Failed, ◌>>>◌, about_last}
use Rattle.vm_machine.specs.Phases.{is_running, is_processing}
use Rattle.vm_asks.specs.Requests.{changed, ids_of, with_ids}
use Rattle.journal_protocol.specs.NotificationResult.{NotificationResult}
use Rattle.std.specs.Prelude.{Result, Ok, Err}
use Rattle.vm_asks.specs.declared.state_read.StateRead.{StateRead}
use Rattle.vm_state.specs.declared.counters.Counters.{Counters}
use Rattle.vm_machine.specs.Commands.{entered, handed_out}
use Rattle.vm_machine.specs.Reads.{read_back, read_counted, read_popped, read_step, read_written, with_read_ready}
use Rattle.vm_asks.specs.StateReads.{eager_type, name_read, own_form, recorded_as, recorded_type, result_in, own_result}
use Rattle.vm_machine.specs.Signals.{awakeable_step, awakeable_counted, signal_counted, signal_step}
use Rattle.vm_laws.specs.Numbers.{Counted}

-- the same state and the same counters
abbrev Keeps : Machine → Machine → Type 0
Keeps v w = (w.state ≡ v.state) × (w.counters ≡ v.counters)

-- an event that answers nothing is done
abbrev pub IsDone : Outcome Unit → Machine → Type 0
IsDone o w = o ≡ Done tt w

pub same_machine : {A : Type 0} (a b : A) (v w : Machine) → Done a v ≡ Done b w → v ≡ w
same_machine a b v w h = cc

same_answer : {A : Type 0} (a b : A) (v w : Machine) → Done a v ≡ Done b w → b ≡ a
same_answer a b v w h = cc

pub no_answer : {A : Type 0} (e : Error) (a : A) (v w : Machine) → Failed e v ≡ Done a w → ⊥
no_answer e a v w h = cc

keeps_same : (v u w : Machine) → u ≡ w → Keeps v u → Keeps v w
keeps_same v u w h k = subst (Keeps v) h k

compared_at : (m : Message) (ignore b : Bool) (v w : Machine)
    → IsDone (if b then Done tt v else Failed (about_last fault.CommandMismatch v) v) w → Keeps v w
compared_at m ignore true v w h = keeps_same v v w (same_machine (tt {0}) tt v w h) (refl, refl)
compared_at m ignore false v w h = absurd (no_answer _ (tt {0}) v w h)

compared_keeps : (m : Message) (ignore : Bool) (recorded : Option Message) (v w : Machine) → IsDone (compared m ignore recorded v) w → Keeps v w
compared_keeps m ignore None v w h = absurd (no_answer _ (tt {0}) v w h)
compared_keeps m ignore (Some recorded) v w h = compared_at m ignore (header_equal recorded m ignore) v w h

typed_at : (m : Message) (ignore b : Bool) (raw : RawMessage) (v w : Machine)
    → IsDone ((if b then Done raw v else Failed (about_last fault.CommandTypeMismatch v) v) >>> λ r u. compared m ignore (message_in r.ty r.body) u) w → Keeps v w
typed_at m ignore true raw v w h = compared_keeps m ignore (message_in raw.ty raw.body) v w h
typed_at m ignore false raw v w h = absurd (no_answer _ (tt {0}) v w h)

popped_keeps : (m : Message) (ignore : Bool) (raws : List RawMessage) (v w : Machine)
    → IsDone (popped_from raws (type_of m) v >>> λ raw u. compared m ignore (message_in raw.ty raw.body) u) w → Keeps v w
popped_keeps m ignore [] v w h = absurd (no_answer _ (tt {0}) v w h)
popped_keeps m ignore (raw ∷ rest) v w h =
    typed_at m ignore (type_number raw.ty == type_number (type_of m)) raw (record v { commands = rest; phase = phase_after rest }) w h

carried_at : (m : Message) (ignore b : Bool) (v w : Machine) → IsDone (if b then Done tt (written m v) else replayed m ignore v) w → Keeps v w
unfolding replayed popped
carried_at m ignore true v w h = keeps_same v (written m v) w (same_machine (tt {0}) tt _ w h) (refl, refl)
carried_at m ignore false v w h = popped_keeps m ignore v.commands v w h

carried_keeps : (m : Message) (ignore : Bool) (v w : Machine) → IsDone (carried_out m ignore v) w → Keeps v w
unfolding carried_out
carried_keeps m ignore v w h = carried_at m ignore (is_processing v.phase) v w h

-- a call's answer is the handle that comes next
pub answered : (o : Outcome Unit) (given handle : NotificationHandle) (w : Machine) → (o >>> λ _ u. Done given u) ≡ Done handle w → IsDone o w × (handle ≡ given)
answered (Done t u) given handle w h = (ap (λ x. Done tt x) (same_machine given handle u w h), same_answer given handle u w h)
answered (Failed e u) given handle w h = absurd (no_answer e handle u w h)

-- what a call leaves
abbrev pub Leaves : Message → NotificationHandle → Machine → Machine → Type 0
Leaves m handle v w = (w.state ≡ changed (with_ids v.counters.completion m) v.state) × Counted (ids_of m) 0 (ids_of m) v.counters w.counters × (handle.0 ≡ v.counters.handle)

counted_leaves : (o : Option NamedFault) (m : Message) (unstable : Bool) (handle : NotificationHandle) (v w : Machine) → command_if_counted o m unstable v ≡ Done handle w → Leaves m handle v w
counted_leaves (Some name) m unstable handle v w h = absurd (no_answer _ handle v w h)
counted_leaves None m unstable handle v w h =
    let c = with_ids v.counters.completion m in
    let ignore = ignores_payloads v.options.non_determinism_checks unstable in
    let a = answered (carried_out c ignore (prepared m v)) (record { 0 = v.counters.handle }) handle w h in
    let k = carried_keeps c ignore (prepared m v) w a.0 in (
      k.0,
      subst (λ x. Counted (ids_of m) 0 (ids_of m) v.counters x) (sym k.1) (record { completions = refl; signals = sym (add-zero v.counters.signal); handles = refl }),
      ap (λ x. x.0) a.1,
    )

issued_at : (b : Bool) (m : Message) (unstable : Bool) (handle : NotificationHandle) (v w u : Machine) (e : Error)
    → (if b then command_if_counted (missing_number (ids_of m) 0 (ids_of m) v.counters) m unstable v else Failed e u) ≡ Done handle w → Leaves m handle v w
issued_at true m unstable handle v w u e h = counted_leaves (missing_number (ids_of m) 0 (ids_of m) v.counters) m unstable handle v w h
issued_at false m unstable handle v w u e h = absurd (no_answer e handle u w h)

pub issued_leaves : (m : Message) (unstable : Bool) (handle : NotificationHandle) (v w : Machine) → issued m unstable v ≡ Done handle w → Leaves m handle v w
unfolding issued
issued_leaves m unstable handle v w h = issued_at (is_running v.phase) m unstable handle v w _ _ h

pub issued_changes : (m : Message) (unstable : Bool) (handle : NotificationHandle) (v w : Machine) → issued m unstable v ≡ Done handle w → w.state ≡ changed (with_ids v.counters.completion m) v.state
issued_changes m unstable handle v w h = (issued_leaves m unstable handle v w h).0

pub issued_counts : (m : Message) (unstable : Bool) (handle : NotificationHandle) (v w : Machine) → issued m unstable v ≡ Done handle w → Counted (ids_of m) 0 (ids_of m) v.counters w.counters
issued_counts m unstable handle v w h = (issued_leaves m unstable handle v w h).1

pub issued_handle : (m : Message) (unstable : Bool) (handle : NotificationHandle) (v w : Machine) → issued m unstable v ≡ Done handle w → handle.0 ≡ v.counters.handle
issued_handle m unstable handle v w h = (issued_leaves m unstable handle v w h).2

-- ---- awakeables

abbrev pub Makes : AwakeableHandle → Machine → Machine → Type 0
Makes a v w = Counted 0 1 1 v.counters w.counters × (a.handle.0 ≡ v.counters.handle)

awakeable_counts : (o : Option NamedFault) (a : AwakeableHandle) (v w : Machine) → awakeable_counted o v ≡ Done a w → Makes a v w
awakeable_counts (Some name) a v w h = absurd (no_answer _ a v w h)
awakeable_counts None a v w h = (
  subst (λ u. Counted 0 1 1 v.counters u.counters) (same_machine _ a _ w h) (record { completions = omega arith; signals = refl; handles = refl }),
  ap (λ x. x.handle.0) (same_answer _ a _ w h),
)

awakeable_at : (b : Bool) (a : AwakeableHandle) (v w u : Machine) (e : Error)
    → (if b then awakeable_counted (missing_signals 1 1 v.counters) v else Failed e u) ≡ Done a w → Makes a v w
awakeable_at true a v w u e h = awakeable_counts (missing_signals 1 1 v.counters) a v w h
awakeable_at false a v w u e h = absurd (no_answer e a u w h)

pub awakeable_makes : (a : AwakeableHandle) (v w : Machine) → awakeable_step v ≡ Done a w → Makes a v w
unfolding awakeable_step
awakeable_makes a v w h = awakeable_at (is_running v.phase) a v w _ _ h

-- ---- named signals

-- a handle is given, and nothing else counts on
abbrev pub HandleGiven : NotificationHandle → Machine → Machine → Type 0
HandleGiven handle v w = Counted 0 0 1 v.counters w.counters × (handle.0 ≡ v.counters.handle)

signal_counts : (o : Option NamedFault) (name : List ℕ) (handle : NotificationHandle) (v w : Machine) → signal_counted o name v ≡ Done handle w → HandleGiven handle v w
signal_counts (Some fault) name handle v w h = absurd (no_answer _ handle v w h)
signal_counts None name handle v w h = (
  subst (λ u. Counted 0 0 1 v.counters u.counters) (same_machine _ handle _ w h) (record { completions = omega arith; signals = omega arith; handles = refl }),
  ap (λ x. x.0) (same_answer _ handle _ w h),
)

signal_at : (b : Bool) (name : List ℕ) (handle : NotificationHandle) (v w u : Machine) (e : Error)
    → (if b then signal_counted (missing_signals 0 1 v.counters) name v else Failed e u) ≡ Done handle w → HandleGiven handle v w
signal_at true name handle v w u e h = signal_counts (missing_signals 0 1 v.counters) name handle v w h
signal_at false name handle v w u e h = absurd (no_answer e handle u w h)

pub signal_makes : (name : List ℕ) (handle : NotificationHandle) (v w : Machine) → signal_step name v ≡ Done handle w → HandleGiven handle v w
unfolding signal_step
signal_makes name handle v w h = signal_at (is_running v.phase) name handle v w _ _ h

-- ---- state reads

-- one completion id and one handle are given, and the state stays
abbrev pub GivesOne : Machine → Outcome NotificationHandle → Type 0
GivesOne v (Done handle w) = Counted 1 0 1 v.counters w.counters × (handle.0 ≡ v.counters.handle) × (w.state ≡ v.state)
GivesOne v (Failed e w) = Unit {0}

one_given : (c : Counters) (command : Option ℕ) → Counted 1 0 1 c (given_on 1 (record c { command = command }))
one_given c command = record { completions = refl; signals = omega arith; handles = refl }

written_gives : (r : StateRead) (id : ℕ) (given : Option NotificationResult) (m : Message) (v : Machine)
    → GivesOne v (Done (record { 0 = v.counters.handle }) (with_read_ready id given (written m (handed_out 1 (entered (type_of m) (name_read r) v)))))
written_gives r id None m v = (one_given v.counters (Some (next_index v.counters.command)), refl, refl)
written_gives r id (Some result) m v = (one_given v.counters (Some (next_index v.counters.command)), refl, refl)

back_gives : (r : StateRead) (id : ℕ) (given : Result (Option NotificationResult) NamedFault) (raw : RawMessage) (rest : List RawMessage) (v : Machine)
    → GivesOne v (read_back v.counters.handle id given (record (handed_out 1 (entered (eager_type r) [] v)) { commands = rest; phase = phase_after rest; last_command = record { ty = recorded_type r raw; name = [] } }))
back_gives r id (Err name) raw rest v = tt
back_gives r id (Ok None) raw rest v = (one_given v.counters (Some (next_index v.counters.command)), refl, refl)
back_gives r id (Ok (Some result)) raw rest v = (one_given v.counters (Some (next_index v.counters.command)), refl, refl)

popped_gives : (r : StateRead) (commands : List RawMessage) (v : Machine) → GivesOne v (read_popped r v.counters.handle v.counters.completion commands (handed_out 1 (entered (eager_type r) [] v)))
popped_gives r [] v = tt
popped_gives r (raw ∷ rest) v = back_gives r v.counters.completion (recorded_as r v.counters.completion raw) raw rest v

numbered_gives : (r : StateRead) (v : Machine) (b : Bool)
    → GivesOne v (if b then Done (record { 0 = v.counters.handle }) (read_written r v.counters.completion (own_form r v.counters.completion v.state) v)
    else read_popped r v.counters.handle v.counters.completion v.commands (handed_out 1 (entered (eager_type r) [] v)))
numbered_gives r v true = let m = own_form r v.counters.completion v.state in written_gives r v.counters.completion (own_result (result_in m)) m v
numbered_gives r v false = popped_gives r v.commands v

read_counts : (o : Option NamedFault) (r : StateRead) (v : Machine) → GivesOne v (read_counted o r v)
read_counts (Some name) r v = tt
read_counts None r v = numbered_gives r v (is_processing v.phase)

running_gives : (b : Bool) (o : Option NamedFault) (e : Error) (r : StateRead) (v : Machine) → GivesOne v (if b then read_counted o r v else Failed e v)
running_gives true o e r v = read_counts o r v
running_gives false o e r v = tt

pub read_gives : (r : StateRead) (handle : NotificationHandle) (v w : Machine) → read_step r v ≡ Done handle w → Counted 1 0 1 v.counters w.counters × (handle.0 ≡ v.counters.handle) × (w.state ≡ v.state)
unfolding read_step
read_gives r handle v w h = subst (GivesOne v) h (running_gives (is_running v.phase) (missing_number 1 0 1 v.counters) _ r v)
