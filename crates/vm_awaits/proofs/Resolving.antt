-- An await of a tree that stays pending, and one of a handle or the cancel signal.
use Rattle.std.proofs.Common.{◌≡◌, ℕ, Bool, true, false, if◌then◌else◌, length, sym, ap, subst, refl, ◌∙◌, inl, inr, Option, Some, None, Result, Ok, Err}
use Rattle.std.specs.Prelude.{MatchBool, find}
use Rattle.std.specs.List.{list_any}
use Rattle.await_trees.specs.Handles.{handles_of}
use Rattle.await_trees.specs.Tree.{Tree, leaf}
use Rattle.await_tries.specs.Await.{LeastAwake, LeftPending}
use Rattle.await_tries.specs.Pairs.{first_of_two}
use Rattle.journal_protocol.specs.Error.{Error}
use Rattle.journal_protocol.specs.SignalDelivery.{SignalDelivery}
use Rattle.vm_types.specs.declared.types.AwaitResponse.{AwaitResponse}
use Rattle.vm_types.specs.declared.types.AwaitResponse.TheVariants.{AnyCompleted, ExecuteRun, WaitingExternalProgress}
use Rattle.journal_protocol.specs.NamedFault.TheVariants.{Suspended}
use Rattle.journal_protocol.specs.Errors.{named_error}
use Rattle.vm_parts.specs.Ephemerals.{any_in_flight}
use Rattle.vm_runs.specs.Pending.{handle_of, is_executing_in, may_execute}
use Rattle.vm_runs.specs.declared.pending.PendingRun.{PendingRun}
use Rattle.vm_machine.specs.Phases.{is_replaying}
use Rattle.vm_machine.specs.declared.fault.Fault.{Fault}
use Rattle.vm_machine.specs.declared.fault.Fault.TheVariants as fault
use Rattle.vm_machine.specs.declared.machine.Machine.{Machine}
use Rattle.vm_machine.specs.Outcomes.{Outcome, Done, Failed, Gives, GivesBy, lasting}
use Rattle.vm_awaits.specs.Awaits.{EndsBy, Tries, TriesOrCancels, has_woken, is_cancelled, or_cancelled, pending_in_replay, pending_on, waits_by, waits_on, with_used}

module _ (t left : Tree) (v u : Machine) (p : LeftPending v.options.signal_delivery v.results t left) (is : u ≡ with_used (length v.results.queued) v) where
  comes : (o : Outcome (Result AwaitResponse Error)) → pending_on left u ≡ o → Tries t v o
  comes o e = inr (left, p, sym e ∙ ap (λ (w : Machine). pending_on left w) is)

  pub stays_pending : (r : Result (Result AwaitResponse Error) Fault) (new : Machine) → Gives (pending_on left u) r u new → GivesBy (Tries t v) r v new
  stays_pending (Ok a) new g = comes (Done a new) g
  stays_pending (Err (fault.Refused e)) new g = (comes (Failed e new) g.0, g.1 ∙ ap lasting is)
  stays_pending (Err fault.Memory) new g = g ∙ ap lasting is

-- ---- a handle or the cancel signal

-- one that has woken ends by whether the cancel signal is there
pub woken_ends : (h n : ℕ) (v w : Machine) → ((delivery : SignalDelivery) → LeastAwake delivery v.results (first_of_two h 1) n) → w ≡ with_used n v
    → (r : Result (Result AwaitResponse Error) Fault) (new : Machine) → GivesBy (EndsBy (is_cancelled w) w) r w new → GivesBy (TriesOrCancels (leaf h) v) r v new
woken_ends h n v w least is (Ok a) new g = (Done (Ok AnyCompleted) w, inl (n, least v.options.signal_delivery, ap (Done (Ok AnyCompleted)) is), g)
woken_ends h n v w least is (Err (fault.Refused e)) new g =
    ((Done (Ok AnyCompleted) w, inl (n, least v.options.signal_delivery, ap (Done (Ok AnyCompleted)) is), g.0), g.1 ∙ ap lasting is)
woken_ends h n v w least is (Err fault.Memory) new g = g ∙ ap lasting is

-- what is waited for hasn't woken
done_asleep : (x a : Result AwaitResponse Error) (v w : Machine) → has_woken x ≡ false → Done x v ≡ Done a w → has_woken a ≡ false
done_asleep x a v w asleep h = let is : a ≡ x = cc in rw is asleep

failed_done : (e : Error) (a : Result AwaitResponse Error) (v w : Machine) → Failed e v ≡ Done a w → ⊥
failed_done e a v w h = cc

waits_asleep : (closed flight executing : Bool) (left : Tree) (v w : Machine) (a : Result AwaitResponse Error) → waits_by closed flight executing left v ≡ Done a w → has_woken a ≡ false
waits_asleep false flight executing left v w a h = done_asleep (Ok (WaitingExternalProgress true executing)) a _ w refl h
waits_asleep true true executing left v w a h = absurd (failed_done _ a v w h)
waits_asleep true false true left v w a h = done_asleep (Ok (WaitingExternalProgress false true)) a v w refl h
waits_asleep true false false left v w a h = done_asleep (Err (named_error Suspended None)) a _ w refl h

run_asleep : (run : Option PendingRun) (executing : Bool) (left : Tree) (v w : Machine) (a : Result AwaitResponse Error) → waits_on run executing left v ≡ Done a w → has_woken a ≡ false
run_asleep (Some run) executing left v w a h = done_asleep (Ok (ExecuteRun (handle_of run))) a _ w refl h
run_asleep None executing left v w a h = waits_asleep v.input_closed (any_in_flight v.ephemeral) executing left v w a h

replay_asleep : (replays : Bool) (left : Tree) (v w : Machine) (a : Result AwaitResponse Error)
    → (if replays then pending_in_replay (handles_of left) v else waits_on (find (may_execute (handles_of left)) v.runs) (list_any (is_executing_in (handles_of left)) v.runs) left v) ≡ Done a w → has_woken a ≡ false
replay_asleep true left v w a h = absurd (failed_done _ a v w h)
replay_asleep false left v w a h = run_asleep (find (may_execute (handles_of left)) v.runs) (list_any (is_executing_in (handles_of left)) v.runs) left v w a h

-- so an await that stays pending isn't ended by the cancel signal
module _ (h : ℕ) (v u : Machine) (left : (delivery : SignalDelivery) → LeftPending delivery v.results (first_of_two h 1) (first_of_two h 1)) (is : u ≡ with_used (length v.results.queued) v) where
  tries : (o : Outcome (Result AwaitResponse Error)) → pending_on (or_cancelled (leaf h)) u ≡ o → Tries (or_cancelled (leaf h)) v o
  tries o e = inr (or_cancelled (leaf h), left v.options.signal_delivery, sym e ∙ ap (λ (w : Machine). pending_on (or_cancelled (leaf h)) w) is)

  pub asleep_stays : (r : Result (Result AwaitResponse Error) Fault) (new : Machine) → Gives (pending_on (or_cancelled (leaf h)) u) r u new → GivesBy (TriesOrCancels (leaf h) v) r v new
  asleep_stays (Ok a) new g = (
    Done a new,
    tries (Done a new) g,
    subst (λ b. MatchBool b (EndsBy (is_cancelled new) new (Done a new)) (Done a new ≡ Done a new)) (sym (replay_asleep (is_replaying u.phase) (or_cancelled (leaf h)) u new a g)) refl,
  )
  asleep_stays (Err (fault.Refused e)) new g = ((Failed e new, tries (Failed e new) g.0, refl), g.1 ∙ ap lasting is)
  asleep_stays (Err fault.Memory) new g = g ∙ ap lasting is
