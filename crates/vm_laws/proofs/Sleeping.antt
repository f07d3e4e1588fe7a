-- What a sleep does in Processing.
use Rattle.std.proofs.Common.{◌≡◌, inl, inr, ℕ, ◌<◌, Option, Some, None, List, false, min, sym, ap, ◌∙◌, arith}
use Rattle.std.specs.Prelude.{if◌then◌else◌, Ok, Err}
use Rattle.std.proofs.lemmas.Bool.{lt-ltb}
use Rattle.journal_protocol.specs.Error.{Error}
use Rattle.journal_protocol.specs.NamedFault.{NamedFault}
use Rattle.journal_protocol.specs.NamedFault.TheVariants as fault
use Rattle.await_trees.specs.declared.handle.NotificationHandle.{NotificationHandle}
use Rattle.journal_protocol.specs.Message.{Message}
use Rattle.journal_protocol.specs.Message.TheVariants as message
use Rattle.vm_state.specs.Counting.{missing_number}
use Rattle.vm_machine.specs.declared.machine.Machine.{Machine}
use Rattle.vm_machine.specs.declared.phase.Phase.{Phase}
use Rattle.vm_machine.specs.declared.phase.Phase.TheVariants.{Processing}
use Rattle.vm_machine.specs.Commands.{carried_out, commanded, commanded_unless, command_if_counted, entered, issued, prepared, replayed, written}
use Rattle.vm_types.specs.Options.{ignores_payloads}
use Rattle.vm_machine.specs.Outcomes.{Outcome, Done, Failed, ◌>>>◌, IsStarved, about_last, called, called_at}
use Rattle.vm_machine.specs.Phases.{is_processing, is_running, state_fault}
use Rattle.vm_asks.specs.Requests.{shown_type, with_ids}
use Rattle.vm_asks.specs.Asks.{sleep_command}
use Rattle.invocation_vm.specs.Calls.{CallsCommand}
use Rattle.vm_laws.specs.Sleeps.{MaySleep, sleeping}
use Rattle.invocation_vm.specs.Views.{View}
use Rattle.invocation_vm.proofs.Failing.{viewed}

-- the command of a sleep, before it has its number
abbrev sleep_message : ℕ → List ℕ → Message
sleep_message millis name = message.Sleep (record { wake_up_time = millis; result_completion_id = 0; name = name })

-- the call that the time is in bounds of
in_bounds : (millis : ℕ) (name : List ℕ) (v : Machine) → millis < 18446744073709551616 → commanded (sleep_command millis name) v ≡ issued (sleep_message millis name) false v
in_bounds millis name v b =
    let same : min millis 18446744073709551615 ≡ millis = omega (arith, b) in
    ap (λ x. commanded_unless (if x then None else Some fault.OutOfBoundsDuration) (sleep_message (min millis 18446744073709551615) name) false v) (lt-ltb millis 18446744073709551616 b)
    ∙ ap (λ t. issued (sleep_message t name) false v) same

carries_out : (millis : ℕ) (name : List ℕ) (v : Machine) → v.phase ≡ Processing → command_if_counted None (sleep_message millis name) false v ≡ Done (record { 0 = v.counters.handle }) (sleeping millis name v)
unfolding carried_out
carries_out millis name v p =
    let m = sleep_message millis name in
    let c = with_ids v.counters.completion m in
    let answer : NotificationHandle = record { 0 = v.counters.handle } in
    ap (λ (x : Phase). (if is_processing x then Done tt (written c (prepared m v)) else replayed c (ignores_payloads v.options.non_determinism_checks false) (prepared m v)) >>> λ _ w. Done answer w) p

issues : (millis : ℕ) (name : List ℕ) (v : Machine) → MaySleep v → issued (sleep_message millis name) false v ≡ Done (record { 0 = v.counters.handle }) (sleeping millis name v)
unfolding issued
issues millis name v may =
    let m = sleep_message millis name in
    ap
    (λ (x : Phase). if is_running x then command_if_counted (missing_number 1 0 1 v.counters) m false v
    else (let w = entered (shown_type m) name v in Failed (about_last (state_fault v.phase) w) w))
    may.phase ∙ ap (λ (o : Option NamedFault). command_if_counted o m false v) may.numbers ∙ carries_out millis name v may.phase

sleeps : (millis : ℕ) (name : List ℕ) (v : Machine) → MaySleep v → millis < 18446744073709551616
    → called (commanded (sleep_command millis name) v) v ≡ Done (record { 0 = v.counters.handle }) (sleeping millis name v)
unfolding called
sleeps millis name v may b =
    ap (λ (o : Outcome NotificationHandle). called_at v.failure o v) (in_bounds millis name v b ∙ issues millis name v may)
    ∙ ap (λ (f : Option Error). called_at f (Done (record { 0 = v.counters.handle }) (sleeping millis name v)) v) may.live

same_done : {A : Type 0} (a b : A) (v w : Machine) → Done a v ≡ Done b w → (b ≡ a) × (w ≡ v)
same_done a b v w h = (cc, cc)

not_failed : {A : Type 0} (a : A) (e : Error) (v w : Machine) → Done a v ≡ Failed e w → ⊥
not_failed a e v w h = cc

pub slept : (millis : ℕ) (name : List ℕ) (handle : NotificationHandle) (old new : View) → MaySleep old.machine → millis < 18446744073709551616
    → CallsCommand (sleep_command millis name) (Ok handle) old new → (handle.0 ≡ old.machine.counters.handle) × (new ≡ record old { machine = sleeping millis name old.machine })
slept millis name handle old new may b c =
    let given : NotificationHandle = record { 0 = old.machine.counters.handle } in
    let s = same_done given handle (sleeping millis name old.machine) new.machine (sym (sleeps millis name old.machine may b) ∙ c.0.0) in
    (ap (λ x. x.0) s.0, viewed old new (sleeping millis name old.machine) s.1 c.0.1)

pub sleep_starved : (millis : ℕ) (name : List ℕ) (e : Error) (old new : View) → MaySleep old.machine → millis < 18446744073709551616
    → CallsCommand (sleep_command millis name) (Err e) old new → IsStarved old.machine e new.machine
sleep_starved millis name e old new may b c =
    let given : NotificationHandle = record { 0 = old.machine.counters.handle } in
    elim c.0.0 as (λ _. IsStarved old.machine e new.machine) [
      | inl x ↦ absurd (not_failed given e (sleeping millis name old.machine) new.machine (sym (sleeps millis name old.machine may b) ∙ x))
      | inr x ↦ x
    ]
