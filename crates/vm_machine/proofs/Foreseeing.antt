-- A call of several commands that is answered has all its handles, from the first on.
use Rattle.std.proofs.Common.{◌≡◌, ◌+◌, ◌<◌, ◌^◌, Bool, true, false, List, [], ◌∷◌, Option, Some, None, Result, Ok, Err, sym, subst}
use Rattle.std.specs.Prelude.{if◌then◌else◌, IfOk}
use Rattle.journal_protocol.specs.Error.{Error}
use Rattle.journal_protocol.specs.NamedFault.{NamedFault}
use Rattle.journal_protocol.specs.Message.{Message}
use Rattle.await_trees.specs.declared.handle.NotificationHandle.{NotificationHandle}
use Rattle.vm_state.specs.Counting.{missing_number}
use Rattle.vm_asks.specs.declared.command.Command.{Command}
use Rattle.vm_asks.specs.Asks.{all_ids, any_refusal, missing_for}
use Rattle.vm_asks.specs.Requests.{ids_of, name_of, shown_type, with_ids}
use Rattle.vm_machine.specs.declared.fault.Fault.{Fault}
use Rattle.vm_machine.specs.declared.machine.Machine.{Machine}
use Rattle.vm_machine.specs.Commands.{carried_out, commanded, commanded_unless, command_if_counted, entered, issued, prepared}
use Rattle.vm_types.specs.Options.{ignores_payloads}
use Rattle.vm_machine.specs.Several.{AllFit, commanded_before, foreseen, foreseen_unless, numbers_left}
use Rattle.vm_machine.specs.Outcomes.{Done, Failed, Gives, Outcome, ◌>>>◌, about_last}
use Rattle.vm_machine.specs.Phases.{is_running, state_fault}

none_done : {A P : Type 0} {e : Error} {v w : Machine} {a : A} → Failed e v ≡ Done a w → P
none_done h = absurd (cc)

-- ---- the first handle

answered_first : (handle : NotificationHandle) (o : Outcome Unit) (a : NotificationHandle) (w : Machine) → (o >>> λ _ u. Done handle u) ≡ Done a w → a ≡ handle
answered_first handle (Done t u) a w h = (let z : Done handle u ≡ Done a w = h in cc)
answered_first handle (Failed e u) a w h = absurd (cc)

counted_first : (o : Option NamedFault) (m : Message) (unstable : Bool) (v : Machine) (a : NotificationHandle) (w : Machine) → command_if_counted o m unstable v ≡ Done a w → a ≡ record { 0 = v.counters.handle }
counted_first (Some name) m unstable v a w h = none_done h
counted_first None m unstable v a w h = answered_first (record { 0 = v.counters.handle }) (carried_out (with_ids v.counters.completion m) (ignores_payloads v.options.non_determinism_checks unstable) (prepared m v)) a w h

issued_first : (m : Message) (unstable : Bool) (v : Machine) (a : NotificationHandle) (w : Machine) → issued m unstable v ≡ Done a w → a ≡ record { 0 = v.counters.handle }
unfolding issued
issued_first m unstable v a w = by_test (is_running v.phase)
  where
    by_test : (b : Bool) → (if b then command_if_counted (missing_number (ids_of m) 0 (ids_of m) v.counters) m unstable v else (let u = entered (shown_type m) (name_of m) v in Failed (about_last (state_fault v.phase) u) u)) ≡ Done a w → a ≡ record { 0 = v.counters.handle }
    by_test true h = counted_first (missing_number (ids_of m) 0 (ids_of m) v.counters) m unstable v a w h
    by_test false h = none_done h

commanded_first : (o : Option NamedFault) (m : Message) (unstable : Bool) (v : Machine) (a : NotificationHandle) (w : Machine) → commanded_unless o m unstable v ≡ Done a w → a ≡ record { 0 = v.counters.handle }
commanded_first (Some name) m unstable v a w h = none_done h
commanded_first None m unstable v a w h = issued_first m unstable v a w h

-- all that is needed is looked for before
foreseen_first : (c : Command) (cs : List Command) (v : Machine) (a : NotificationHandle) (w : Machine) → (foreseen c cs v >>> λ _ u. commanded c u) ≡ Done a w → a ≡ record { 0 = v.counters.handle }
unfolding foreseen
foreseen_first c cs v a w = by_refusal (any_refusal c cs)
  where
    by_numbers : (o : Option NamedFault) → (numbers_left o c v >>> λ _ u. commanded c u) ≡ Done a w → a ≡ record { 0 = v.counters.handle }
    by_numbers (Some name) h = none_done h
    by_numbers None h = commanded_first c.refusal c.message c.unstable v a w h

    by_running : (b : Bool) → ((if b then numbers_left (missing_for c cs v.counters) c v else (let u = entered (shown_type c.message) (name_of c.message) v in Failed (about_last (state_fault v.phase) u) u)) >>> λ _ u. commanded c u) ≡ Done a w → a ≡ record { 0 = v.counters.handle }
    by_running true h = by_numbers (missing_for c cs v.counters) h
    by_running false h = none_done h

    by_refusal : (o : Option NamedFault) → (foreseen_unless o c cs v >>> λ _ u. commanded c u) ≡ Done a w → a ≡ record { 0 = v.counters.handle }
    by_refusal (Some name) h = none_done h
    by_refusal None h = by_running (is_running v.phase) h

pub before_first : (c : Command) (cs : List Command) (v : Machine) (a : NotificationHandle) (w : Machine) → commanded_before c cs v ≡ Done a w → a ≡ record { 0 = v.counters.handle }
before_first c [] v a w h = commanded_first c.refusal c.message c.unstable v a w h
before_first c (b ∷ bs) v a w h = foreseen_first c (b ∷ bs) v a w h

-- ---- all of them

-- where the first command is made its handle is the next one, and all handles from there on fit that were looked for
pub fits_from : (c : Command) (cs : List Command) (v w : Machine) (r : Result NotificationHandle Fault) → Gives (commanded c v) r v w → v.counters.handle + all_ids c cs < 2 ^ 32 → IfOk r (AllFit c cs)
fits_from c cs v w (Ok a) gives fits = subst (AllFit c cs) (sym (commanded_first c.refusal c.message c.unstable v a w gives)) fits
fits_from c cs v w (Err e) gives fits = tt
