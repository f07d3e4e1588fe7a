-- On a journal on which the handler comes to its end an attempt comes to its end.
use Rattle.std.proofs.Common.{◌≡◌, ◌≢◌, ◌⊎◌, ◌+◌, ℕ, true, false, List, [], ◌++◌, Some, None, Result, Ok, Err, refl, sym, ap, ◌∙◌, subst, ⊎_elim}
use Rattle.std.specs.Prelude.{OnOk}
use Rattle.std.proofs.lemmas.Option.{same_Some}
use Rattle.journal_protocol.specs.Error.{Error}
use Rattle.journal_protocol.specs.RawMessage.{RawMessage}
use Rattle.journal_protocol.specs.Notification.{Notification}
use Rattle.vm_machine.specs.declared.machine.Machine.{Machine}
use Rattle.vm_machine.specs.declared.phase.Phase.{Phase}
use Rattle.vm_machine.specs.declared.phase.Phase.TheVariants.{WaitingStart, WaitingReplayEntries, Replaying, Processing, Closed}
use Rattle.vm_machine.specs.Outcomes.{DoesBy, IsStarved, Outcome, Done, Failed}
use Rattle.vm_machine.specs.Phases.{is_running}
use Rattle.invocation_vm.specs.Views.{View}
use Rattle.vm_model.specs.Calls.{Setup}
use Rattle.vm_model.specs.Calls.Move.{Awaits, Ends}
use Rattle.vm_model.specs.Deliveries.{HasNoTwo}
use Rattle.vm_model.specs.Finished.{HasFinished}
use Rattle.vm_model.specs.Fixed.{Fixed}
use Rattle.vm_model.specs.Histories.{Handed, IsPrefix, Made}
use Rattle.journal_entries.specs.Journal.{input_read_from, notifications_in}
use Rattle.journal_entries.specs.JournalFrames.{as_entries}
use Rattle.vm_model.specs.Moves.{Point, after, later, move_at, moved, next, start, uses_arrival}
use Rattle.vm_model.specs.Refusals.{IsRefusedFor}
use Rattle.vm_model.proofs.Ended.{ended_makes_nothing, ends_or_goes_on, finished_first, goes_on_unstuck}
use Rattle.vm_model.proofs.Refusals.{refused_stuck}
use Rattle.vm_model.proofs.Runs.{after_later, made_add, none_some}
use Rattle.journal_protocol.specs.SignalDelivery.TheVariants.{Queued}
use Rattle.vm_attempt.specs.declared.progress.Progress.{Progress}
use Rattle.vm_attempt.specs.declared.progress.Reply.{Reply}
use Rattle.vm_attempt.specs.declared.progress.Reply.TheVariants as reply
use Rattle.vm_attempt.specs.Record.{Record, heard}
use Rattle.vm_attempt.specs.Stepping.{Advances, InputIsRead, LacksMemory, MakesStep, StepAt, StepDoes, StepFrom, StepUnless, progress_of, step_asked}
use Rattle.vm_attempt.specs.Steps.{IfDone, Performs, ReadsBack, StepMade}
use Rattle.vm_attempt.specs.Agreement.{CallFollows, CallRefused, IsCutShort, IsSuspended, StillAgrees, Waits}
use Rattle.vm_attempt.specs.Arrivals.{arriving}
use Rattle.vm_attempt.specs.Ending.{FinishesOn, GoesToEnd, IsRunning}
use Rattle.vm_attempt.specs.Journals.{setup_for}
use Rattle.vm_attempt.specs.Told.{HandlerRuns, IsKeptUnder, IsLive, Journal, Premises, arrivals, begun, start_state}
use Rattle.vm_attempt.proofs.Advanced.{runs_of}
use Rattle.vm_attempt.proofs.Following.{agreeing_follows}
use Rattle.vm_attempt.proofs.Stepped.{asks_next}
use Rattle.vm_attempt.proofs.Proposed.{arriving_append, arriving_notified, kept_all}
use Rattle.vm_attempt.proofs.Replayed.{commands_same, notes_same}

module _ (fixed : Fixed) (old : Record) (k : HandlerRuns fixed (heard fixed.version old) old.answers old.waiting old.taken old.vm) (h : HasFinished (setup_for fixed k.journal.start) fixed.handler (as_entries k.journal.entries)) where
  abbrev s : Setup
  s = setup_for fixed k.journal.start

  -- what came after the journal
  abbrev more : List Notification
  more = arriving (heard fixed.version old).proposed k.journal.others

  -- the point where the handler ends
  abbrev end : Point
  end = later more h.at

  ended : after s fixed.handler h.told.0 (begun fixed k.journal) ≡ Some end
  ended =
      let j = k.journal in
      let P = (heard fixed.version old).proposed in
      let same = finished_first (sym h.begins ∙ commands_same j.entries ∙ j.commands) in
      let input : h.input ≡ j.input = same_Some h.input j.input (sym h.reads ∙ ap input_read_from same.0 ∙ j.reads_input) in
      let came : notifications_in (as_entries j.entries) ++ more ≡ arrivals j =
      (λ i. (notes_same j.entries ∙ sym (arriving_notified P j.entries j.none_acknowledge)) i ++ arriving (sym (kept_all P j.entries j.none_acknowledge) i) j.others)
      ∙ sym (arriving_append P j.entries j.others)
      in
      subst (λ p. after s fixed.handler h.told.0 p ≡ Some end) (λ i. start s (input i) (came i) (same.1 i))
      (after_later s fixed.handler more h.told.0 (start s h.input (notifications_in (as_entries j.entries)) h.rest) h.at h.told.1)

  -- where the run goes on to is that point, or a move leads on from there
  there : (at : Point) (n : ℕ) (made : List RawMessage) → Made s fixed.handler (Handed (start_state k.journal)) n k.at made at → (at ≡ end) ⊎ ((r : Point) × (next s fixed.handler at ≡ Some r))
  there at n made run = ends_or_goes_on s fixed.handler (Handed (start_state k.journal)) h.told.0 (k.moves + n) (begun fixed k.journal) end (k.written ++ made) at ended h.ends
      (made_add s fixed.handler (Handed (start_state k.journal)) k.moves n (begun fixed k.journal) k.written k.at made at k.run run)

  pub answers_begin : IsPrefix old.answers h.at.answers
  answers_begin = subst (λ l. IsPrefix l h.at.answers) k.answers (ended_makes_nothing s fixed.handler (Handed (start_state k.journal)) h.told.0 k.moves (begun fixed k.journal) end k.written k.at ended h.ends k.run).1

  -- no await waits there
  waits_not : (q : Point) → Waits s fixed.handler (start_state k.journal) k.at q → {P : Type 0} → P
  waits_not q x {P} =
      ⊎_elim
      (λ (e : q ≡ end). absurd (let z : Awaits ≡ Ends = sym x.asks ∙ ap (move_at s fixed.handler) e ∙ h.ends in cc))
      (λ (on : (r : Point) × (next s fixed.handler q ≡ Some r)).
      none_some (sym (ap (λ mv. moved mv q) x.asks ∙ ap (λ l. uses_arrival l q) x.no_arrival) ∙ on.1))
      (there q x.moves.moves [] x.moves.run)

  -- and no call is refused
  refused_not : (v : Machine) (e : Error) (w : Machine) → CallRefused s fixed.handler (start_state k.journal) k.at v e w → {P : Type 0} → P
  refused_not v e w x {P} =
      ⊎_elim
      (λ (same : x.at ≡ end).
      let reason : IsRefusedFor (move_at s fixed.handler end) end.left end.queue x.why = subst (λ (z : Point). IsRefusedFor (move_at s fixed.handler z) z.left z.queue x.why) same x.reason in
      let none : IsRefusedFor Ends [] end.queue x.why = subst (λ l. IsRefusedFor Ends l end.queue x.why) h.uses_all (subst (λ mv. IsRefusedFor mv end.left end.queue x.why) h.ends reason) in
      absurd none)
      (λ (on : (r : Point) × (next s fixed.handler x.at ≡ Some r)).
      goes_on_unstuck s fixed.handler (start_state k.journal) x.at on.0 on.1 (refused_stuck s fixed.handler (start_state k.journal) x.at x.why x.reason))
      (there x.at x.moves.moves x.made x.moves.run)

  replied_ends : (P : Type 0) (w : View) (x : Result Reply Error) → ((o : Outcome Reply) → Performs (fixed.handler k.at.answers) old.vm.machine o → IfDone o P → CallFollows s fixed.handler (start_state k.journal) k.written k.at old.vm.machine o)
      → DoesBy (Performs (fixed.handler k.at.answers) old.vm.machine) x old.vm.machine w.machine → OnOk x P → GoesToEnd (progress_of x)
  replied_ends P w (Ok (reply.Answer a)) f does g = tt
  replied_ends P w (Ok (reply.Waiting input run)) f does g =
      let y : StillAgrees input s fixed.handler (start_state k.journal) k.written k.at old.vm.machine w.machine = f (Done (reply.Waiting input run) w.machine) does g in
      waits_not y.at y.waits
  replied_ends P w (Ok (reply.Execute run)) f does g =
      let y : StillAgrees false s fixed.handler (start_state k.journal) k.written k.at old.vm.machine w.machine = f (Done (reply.Execute run) w.machine) does g in
      waits_not y.at y.waits
  replied_ends P w (Ok reply.Suspended) f does g =
      let y : IsSuspended s fixed.handler (start_state k.journal) k.at old.vm.machine w.machine = f (Done reply.Suspended w.machine) does g in
      waits_not y.at y.waits
  replied_ends P w (Ok reply.Ended) f does g = tt
  replied_ends P w (Err e) f does g =
      ⊎_elim
      (λ (x : Performs (fixed.handler k.at.answers) old.vm.machine (Failed e w.machine)).
      let y : CallRefused s fixed.handler (start_state k.journal) k.at old.vm.machine e w.machine ⊎ IsCutShort s fixed.handler (start_state k.journal) k.at old.vm.machine e w.machine = f (Failed e w.machine) x (tt {0}) in
      ⊎_elim
      (λ (z : CallRefused s fixed.handler (start_state k.journal) k.at old.vm.machine e w.machine). refused_not old.vm.machine e w.machine z)
      (λ (z : IsCutShort s fixed.handler (start_state k.journal) k.at old.vm.machine e w.machine). z.error)
      y)
      (λ (x : IsStarved old.vm.machine e w.machine). x.error)
      does

  asks_end : (result : Result Progress Error) (new : Record) → fixed.options.signal_delivery ≡ Queued → HasNoTwo k.at → IsLive old.vm.machine → MakesStep fixed.handler old result new → GoesToEnd result
  asks_end result new queues two live (x, w, does, is, made) =
      let st = fixed.handler k.at.answers in
      let same : step_asked fixed.handler old ≡ st = asks_next fixed.handler k.at old.answers old.waiting k.answers k.awaits in
      let step : StepMade st x old.vm w = subst (λ q. StepMade q x old.vm w) same does in
      subst GoesToEnd (sym made)
      (replied_ends (ReadsBack st old.vm.machine) w x (λ o. agreeing_follows s fixed.handler (start_state k.journal) k.written old.vm.machine k.at o (λ future _. (queues, two)) (k.rests live) (k.agrees live)) step.0.0 step.1)

-- ---- a step

module _ (fixed : Fixed) (old : Record) (result : Result Progress Error) (new : Record) (u : IsKeptUnder fixed old) (p : Premises fixed (heard fixed.version old)) (is : IsRunning old) (f : FinishesOn fixed (heard fixed.version old)) where
  advances_end : Advances fixed.handler old result new → GoesToEnd result
  advances_end =
      ⊎_elim
      (λ (x : LacksMemory old result new). subst GoesToEnd (sym x.0) refl)
      (λ (o : ((old.answers ≡ []) × InputIsRead old result new) ⊎ ((old.answers ≢ []) × MakesStep fixed.handler old result new)).
      ⊎_elim
      (λ (x : (old.answers ≡ []) × InputIsRead old result new). absurd (is.runs x.0))
      (λ (x : (old.answers ≢ []) × MakesStep fixed.handler old result new).
      let k = runs_of fixed old (u p) x.0 in
      asks_end fixed old k (f k.journal) result new p.queues (p.once k.journal k.moves k.written k.at k.run) is.live x.1)
      o)

  at_phase : (ph : Phase) → is_running ph ≡ true → StepAt ph fixed.handler old result new → GoesToEnd result
  at_phase WaitingStart running d = absurd (cc)
  at_phase WaitingReplayEntries running d = absurd (cc)
  at_phase Closed running d = absurd (cc)
  at_phase Replaying running d = advances_end d
  at_phase Processing running d = advances_end d

  pub step_ends : StepDoes fixed.handler old result new → GoesToEnd result
  step_ends d =
      at_phase old.vm.machine.phase is.live.phase
      (subst (λ f. StepUnless f None fixed.handler old result new) is.live.failure
      (subst (λ over. StepUnless old.vm.machine.failure over fixed.handler old result new) is.over (subst (λ b. StepFrom b fixed.handler old result new) is.starved d)))

-- the answers so far begin those of the end
pub answers_so_far : (fixed : Fixed) (r : Record) → IsKeptUnder fixed r → Premises fixed (heard fixed.version r) → r.answers ≢ [] → FinishesOn fixed (heard fixed.version r) → (j : Journal (heard fixed.version r)) × (h : HasFinished (setup_for fixed j.start) fixed.handler (as_entries j.entries)) × IsPrefix r.answers h.at.answers
answers_so_far fixed r u p some f =
    let k = runs_of fixed r (u p) some in
    (k.journal, f k.journal, answers_begin fixed r k (f k.journal))
