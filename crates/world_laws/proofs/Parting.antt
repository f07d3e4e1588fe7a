-- A step that fails while recorded commands are left refuses the call of the handler, unless it is out of memory.
use Rattle.std.proofs.Common.{◌≡◌, ◌≢◌, ◌⊎◌, ◌∙◌, ℕ, Bool, true, false, List, [], ◌∷◌, Option, Some, None, Result, Ok, Err, refl, sym, ap, subst, ⊎_elim, Global}
use Rattle.std.specs.Prelude.{is_some, if◌then◌else◌}
use Rattle.journal_protocol.specs.Error.{Error}
use Rattle.journal_protocol.specs.Errors.{no_memory}
use Rattle.journal_protocol.specs.RawMessage.{RawMessage}
use Rattle.await_trees.specs.declared.tree.UnresolvedFuture.{UnresolvedFuture}
use Rattle.journal_entries.specs.JournalFrames.{as_entries}
use Rattle.vm_state.specs.declared.state_map.StateMap.{StateMap}
use Rattle.vm_types.specs.declared.types.State.TheVariants as state
use Rattle.vm_machine.specs.declared.machine.Machine.{Machine}
use Rattle.vm_machine.specs.declared.phase.Phase.{Phase}
use Rattle.vm_machine.specs.declared.phase.Phase.TheVariants.{WaitingStart, WaitingReplayEntries, Replaying, Processing, Closed}
use Rattle.vm_machine.specs.Outcomes.{IsStarved}
use Rattle.vm_machine.specs.Phases.{shown_state}
use Rattle.vm_machine.specs.Queries.{state_of}
use Rattle.invocation_vm.specs.Making.{made}
use Rattle.invocation_vm.specs.Views.{View}
use Rattle.vm_model.specs.Calls.{Meaning}
use Rattle.vm_model.specs.Fixed.{Fixed}
use Rattle.vm_model.specs.Histories.{History}
use Rattle.vm_attempt.specs.declared.progress.Progress.{Progress}
use Rattle.vm_attempt.specs.declared.progress.Reply.{Reply}
use Rattle.vm_attempt.specs.declared.progress.Reply.TheVariants as reply
use Rattle.vm_attempt.specs.Record.{Record, heard}
use Rattle.vm_attempt.specs.Stepping.{Advances, InputIsRead, LacksMemory, MakesStep, StepAt, StepDoes, StepFrom, StepUnless, fresh_record, future_in, progress_of, replied, step_asked}
use Rattle.vm_attempt.specs.Courses.{Leads}
use Rattle.vm_attempt.specs.Journals.{setup_for}
use Rattle.vm_attempt.specs.Told.{AnswersInReplay, RefusesReplay, ReplayPremises, StarvesReplay}
use Rattle.vm_attempt.proofs.Replayed.{history_replayed}
use Rattle.world_laws.specs.Replays.{PartsAt}
use Rattle.world_laws.proofs.Replaying.{calls_replay}

-- a machine that is shown as replaying is there
pub shows_replaying : (v : Machine) → state_of v ≡ state.Replaying → (v.failure ≡ None) × (v.phase ≡ Replaying)
shows_replaying v is = by_failure v.failure refl v.phase refl
  where
    by_phase : (p : Phase) → shown_state p ≡ state.Replaying → p ≡ Replaying
    by_phase WaitingStart e = absurd (let z : state.WaitingPreFlight ≡ state.Replaying = e in cc)
    by_phase WaitingReplayEntries e = absurd (let z : state.WaitingPreFlight ≡ state.Replaying = e in cc)
    by_phase Replaying e = refl
    by_phase Processing e = absurd (let z : state.Processing ≡ state.Replaying = e in cc)
    by_phase Closed e = absurd (let z : state.Closed ≡ state.Replaying = e in cc)

    by_failure : (f : Option Error) → v.failure ≡ f → (p : Phase) → v.phase ≡ p → (v.failure ≡ None) × (v.phase ≡ Replaying)
    by_failure None live p at = (live, by_phase v.phase (sym (ap (λ o. if is_some o then state.Closed else shown_state v.phase) live) ∙ is))
    by_failure (Some e) dead p at = absurd (let z : state.Closed ≡ state.Replaying = sym (ap (λ o. if is_some o then state.Closed else shown_state v.phase) dead) ∙ is in cc)

abbrev an_error : Error → Result Progress Error
an_error e = Err e

abbrev an_answer : Progress → Result Progress Error
an_answer made = Ok made

same_error : (e d : Error) → an_error e ≡ an_error d → e ≡ d
same_error e d h = cc

-- what a failed step of a machine that replays leaves of an attempt, if memory didn't run out
record Stays (old new : Record) : Type 0 where
  starved : old.starved ≡ false
  over : old.over ≡ None
  answers : new.answers ≡ old.answers
  found : new.starved ≡ old.starved

module _ (m : Meaning) (old new : Record) (e : Error) (some : e ≢ no_memory) where
  abbrev Kept : Type 0
  Kept = (new.answers ≡ old.answers) × (new.starved ≡ old.starved)

  by_reply : (r : Result Reply Error) (w : View) (future : Option UnresolvedFuture) → new ≡ replied old future r w → Err e ≡ progress_of r → Kept
  by_reply (Ok (reply.Answer a)) w future is made = absurd (cc)
  by_reply (Ok (reply.Waiting input run)) w future is made = absurd (cc)
  by_reply (Ok (reply.Execute run)) w future is made = absurd (cc)
  by_reply (Ok reply.Suspended) w future is made = absurd (cc)
  by_reply (Ok reply.Ended) w future is made = absurd (cc)
  by_reply (Err d) w future is made = (ap (λ (r : Record). r.answers) is, ap (λ (r : Record). r.starved) is)

  advances : Advances m old (Err e) new → Kept
  advances =
      ⊎_elim
      (λ (x : LacksMemory old (Err e) new). absurd (some (same_error e no_memory x.0)))
      (λ (o : ((old.answers ≡ []) × InputIsRead old (Err e) new) ⊎ ((old.answers ≢ []) × MakesStep m old (Err e) new)).
      ⊎_elim
      (λ (x : (old.answers ≡ []) × InputIsRead old (Err e) new). (ap (λ (r : Record). r.answers) x.1.2, ap (λ (r : Record). r.starved) x.1.2))
      (λ (x : (old.answers ≢ []) × MakesStep m old (Err e) new). by_reply x.1.0 x.1.1 (future_in (step_asked m old)) x.1.3 x.1.4)
      o)

  unless : (f : Option Error) (over : Option Progress) (p : Phase) → old.over ≡ over → f ≡ None → p ≡ Replaying → old.vm.machine.phase ≡ p → StepUnless f over m old (Err e) new → (over ≡ None) × Kept
  unless (Some d) over p is live at same h = absurd (cc)
  unless None (Some made) p is live at same h = absurd (let z : an_error e ≡ an_answer made = h.0 in cc)
  unless None None p is live at same h = (refl, advances (subst (λ q. StepAt q m old (Err e) new) (same ∙ at) h))

  stays : (old.vm.machine.failure ≡ None) × (old.vm.machine.phase ≡ Replaying) → StepDoes m old (Err e) new → Stays old new
  stays live does = by_test old.starved refl does
    where
      by_test : (b : Bool) → old.starved ≡ b → StepFrom b m old (Err e) new → Stays old new
      by_test true is d = absurd (some (same_error e no_memory d.0))
      by_test false is d =
          let x = unless old.vm.machine.failure old.over old.vm.machine.phase refl live.0 live.1 refl d in
          record { starved = is; over = x.0; answers = x.1.0; found = x.1.1 }

-- ---- the call is refused

module _ (fixed : Fixed) (old new : Record) (e : Error) where
  abbrev Refuses : Type 0
  Refuses = RefusesReplay fixed (heard fixed.version old) old.answers e old.vm.machine new.vm.machine

  -- on a history no recorded command is left there
  none_left : (x : Refuses) (base : StateMap) → History (setup_for fixed x.journal.start) fixed.handler base (as_entries x.journal.entries) → x.at.left ≡ []
  none_left x base h = by_left x.at.left refl
    where
      by_left : (left : List RawMessage) → x.at.left ≡ left → left ≡ []
      by_left [] is = refl
      by_left (c ∷ further) is = absurd (history_replayed fixed (heard fixed.version old) old.answers e old.vm.machine new.vm.machine x c further is base h)

  refuses : e ≢ no_memory → Stays old new → AnswersInReplay fixed old (Err e) new → PartsAt fixed old e new
  refuses some x =
      ⊎_elim
      (λ (y : new.starved ≡ true). absurd (let z : false ≡ true = sym x.starved ∙ sym x.found ∙ y in cc))
      (λ (o : IsStarved old.vm.machine e new.vm.machine ⊎ (StarvesReplay fixed (heard fixed.version old) old.answers e old.vm.machine new.vm.machine ⊎ Refuses)).
      ⊎_elim
      (λ (y : IsStarved old.vm.machine e new.vm.machine). absurd (some y.error))
      (λ (o : StarvesReplay fixed (heard fixed.version old) old.answers e old.vm.machine new.vm.machine ⊎ Refuses).
      ⊎_elim
      (λ (y : StarvesReplay fixed (heard fixed.version old) old.answers e old.vm.machine new.vm.machine). absurd (some y.error))
      (λ (y : Refuses). (y, none_left y))
      o)
      o)

pub calls_part : (fixed : Fixed) (alloc : Global) (n : ℕ) (old new : Record) (e : Error) → Leads fixed.handler n (fresh_record (made alloc fixed.options fixed.version)) old → state_of old.vm.machine ≡ state.Replaying → old.answers ≢ [] → ReplayPremises fixed (heard fixed.version old)
    → StepDoes fixed.handler old (Err e) new → e ≢ no_memory → PartsAt fixed old e new
calls_part fixed alloc n old new e leads shown some p does known =
    let live = shows_replaying old.vm.machine shown in
    let x = stays fixed.handler old new e known live does in
    refuses fixed old new e known x
    (calls_replay fixed alloc n old new (Err e) leads (record { runs = some; starved = x.starved; over = x.over; failure = live.0; phase = live.1 }) p does)
