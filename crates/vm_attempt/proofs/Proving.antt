-- A replay in which no recorded command is left shows that the journal is a history of the handler.
use Rattle.std.proofs.Common.{◌≡◌, ℕ, List, [], ◌∷◌, ◌++◌, Option, Some, None, inr, refl, sym, ap, ◌∙◌, subst, append-nil}
use Rattle.journal_protocol.specs.RawMessage.{RawMessage}
use Rattle.journal_protocol.specs.Notification.{Notification}
use Rattle.vm_types.specs.declared.steps.Answer.{Answer}
use Rattle.await_trees.specs.declared.tree.UnresolvedFuture.{UnresolvedFuture}
use Rattle.vm_machine.specs.declared.machine.Machine.{Machine}
use Rattle.vm_machine.specs.declared.phase.Phase.{Phase}
use Rattle.vm_machine.specs.declared.phase.Phase.TheVariants.{WaitingStart, WaitingReplayEntries, Replaying, Processing, Closed}
use Rattle.vm_machine.specs.Commands.{phase_after}
use Rattle.vm_machine.specs.Phases.{is_running, shown_state}
use Rattle.vm_machine.specs.Queries.{state_of}
use Rattle.vm_types.specs.declared.types.State.TheVariants as state
use Rattle.std.specs.Prelude.{is_some, if◌then◌else◌}
use Rattle.journal_protocol.specs.Error.{Error}
use Rattle.invocation_vm.specs.Views.{View}
use Rattle.vm_model.specs.Fixed.{Fixed}
use Rattle.vm_model.specs.Histories.{Handed, Made}
use Rattle.vm_model.specs.HonestRounds.{IsToldOn}
use Rattle.journal_entries.specs.Journal.{Entry, commands_in, notifications_in}
use Rattle.journal_entries.specs.JournalFrames.{as_entries}
use Rattle.vm_model.specs.Moves.{start}
use Rattle.vm_model.proofs.Replays.{replay_is_history}
use Rattle.vm_attempt.specs.Heard.{Heard}
use Rattle.vm_attempt.specs.Arrivals.{arriving}
use Rattle.vm_attempt.specs.Journals.{setup_for}
use Rattle.vm_attempt.specs.Told.{HandlerRuns, Journal, ProvesHistory, ToldBy, arrivals, start_state}
use Rattle.vm_attempt.proofs.Proposed.{arriving_append, arriving_notified, kept_all}
use Rattle.vm_attempt.proofs.Replayed.{commands_same, notes_same}

-- if nothing came after the journal, the arrivals are its notifications
pub alone_arrivals : (fed : Heard) (j : Journal fed) → j.others ≡ [] → arrivals j ≡ notifications_in (as_entries j.entries)
alone_arrivals fed j none =
    ap (arriving fed.proposed) (ap (λ l. j.entries ++ l) none ∙ append-nil j.entries) ∙ arriving_notified fed.proposed j.entries j.none_acknowledge ∙ sym (notes_same j.entries)

pub run_proves : (fixed : Fixed) (fed : Heard) (answers : List Answer) (waiting : Option UnresolvedFuture) (taken : List (List ℕ)) (vm : View) → (k : HandlerRuns fixed fed answers waiting taken vm) → k.at.left ≡ [] → ProvesHistory fixed fed
run_proves fixed fed answers waiting taken vm k all = record {
  journal = k.journal;
  history = λ none base eager.
      let j = k.journal in
      let s = setup_for fixed j.start in
      let run : Made s fixed.handler (Handed (start_state j)) k.moves (start s j.input (notifications_in (as_entries j.entries)) j.rest) k.written k.at = subst (λ ns. Made s fixed.handler (Handed (start_state j)) k.moves (start s j.input ns j.rest) k.written k.at) (alone_arrivals fed j none) k.run in
      replay_is_history s fixed.handler (Handed (start_state j)) base (as_entries j.entries) j.first j.input j.rest k.moves k.written k.at (commands_same j.entries ∙ j.commands) j.reads_input run all eager;
}

-- in Processing no recorded command is left
none_left : (left : List RawMessage) → phase_after left ≡ Processing → left ≡ []
none_left [] is = refl
none_left (c ∷ left) is = absurd (let z : Replaying ≡ Processing = is in cc)

pub processing_proves : (fixed : Fixed) (fed : Heard) (answers : List Answer) (waiting : Option UnresolvedFuture) (taken : List (List ℕ)) (vm : View) → HandlerRuns fixed fed answers waiting taken vm → vm.machine.failure ≡ None → vm.machine.phase ≡ Processing → ProvesHistory fixed fed
processing_proves fixed fed answers waiting taken vm k alive at =
    let a = k.agrees (record { failure = alive; phase = ap is_running at }) in
    run_proves fixed fed answers waiting taken vm k (none_left k.at.left (sym (ap (λ (v : Machine). v.phase) a.machine) ∙ at))

-- a machine that is shown as in Processing is there
pub shows_processing : (v : Machine) → state_of v ≡ state.Processing → (v.failure ≡ None) × (v.phase ≡ Processing)
shows_processing v is = by_failure v.failure refl v.phase refl
  where
    by_phase : (p : Phase) → shown_state p ≡ state.Processing → p ≡ Processing
    by_phase WaitingStart e = absurd (let z : state.WaitingPreFlight ≡ state.Processing = e in cc)
    by_phase WaitingReplayEntries e = absurd (let z : state.WaitingPreFlight ≡ state.Processing = e in cc)
    by_phase Replaying e = absurd (let z : state.Replaying ≡ state.Processing = e in cc)
    by_phase Processing e = refl
    by_phase Closed e = absurd (let z : state.Closed ≡ state.Processing = e in cc)

    by_failure : (f : Option Error) → v.failure ≡ f → (p : Phase) → v.phase ≡ p → (v.failure ≡ None) × (v.phase ≡ Processing)
    by_failure None live p at = (live, by_phase v.phase (sym (ap (λ o. if is_some o then state.Closed else shown_state v.phase) live) ∙ is))
    by_failure (Some e) dead p at = absurd (let z : state.Closed ≡ state.Processing = sym (ap (λ o. if is_some o then state.Closed else shown_state v.phase) dead) ∙ is in cc)

-- An attempt is the handler's run over its journal, as honest rounds have it, in any order of arrivals and written commands.
pub told_on : (fixed : Fixed) (fed : Heard) (answers : List Answer) (written : List RawMessage) (t : ToldBy fixed fed answers written) (course : List Entry) → notifications_in course ≡ arriving fed.proposed t.journal.others → commands_in course ≡ written
    → IsToldOn (setup_for fixed t.journal.start) fixed.handler (as_entries t.journal.entries) (record { given = start_state t.journal; course = course; answers = answers })
told_on fixed fed answers written t course notes commands =
    let j = t.journal in
    let s = setup_for fixed j.start in
    let came : arrivals j ≡ notifications_in (as_entries j.entries) ++ notifications_in course =
    arriving_append fed.proposed j.entries j.others
    ∙ (λ i. (arriving_notified fed.proposed j.entries j.none_acknowledge ∙ sym (notes_same j.entries)) i ++ arriving (kept_all fed.proposed j.entries j.none_acknowledge i) j.others)
    ∙ ap (λ l. notifications_in (as_entries j.entries) ++ l) (sym notes)
    in
    record {
      first = j.first;
      input = j.input;
      reads = j.reads_input;
      rest = j.rest;
      begins = commands_same j.entries ∙ j.commands;
      moves = t.moves;
      at = t.at;
      made = subst (λ (x : List Notification × List RawMessage). Made s fixed.handler (Handed (start_state j)) t.moves (start s j.input x.0 j.rest) x.1 t.at) (λ i. (came i, sym commands i)) t.made;
      answered = inr (sym t.answers);
    }
