-- An attempt that replays a history is answered at each step until no recorded command is left, unless memory runs out.
use Rattle.std.proofs.Common.{◌≡◌, ◌≢◌, ◌⊎◌, ◌+◌, ◌≤◌, ℕ, zero, suc, false, List, [], ◌∷◌, ◌++◌, Option, Some, None, Result, Ok, Err, length, refl, sym, ap, ◌∙◌, subst, ⊎_elim, append-nil, length-append, arith}
use Rattle.std.specs.Prelude.{OnOk}
use Rattle.journal_protocol.specs.Error.{Error}
use Rattle.journal_protocol.specs.Errors.{no_memory}
use Rattle.journal_protocol.specs.RawMessage.{RawMessage}
use Rattle.journal_entries.specs.JournalFrames.{as_entries}
use Rattle.await_trees.specs.declared.tree.UnresolvedFuture.{UnresolvedFuture}
use Rattle.vm_types.specs.declared.steps.Answer.{Answer}
use Rattle.vm_types.specs.declared.steps.Step.{Step}
use Rattle.vm_state.specs.declared.state_map.StateMap.{StateMap}
use Rattle.vm_state.specs.Counting.{most}
use Rattle.vm_machine.specs.declared.machine.Machine.{Machine}
use Rattle.vm_machine.specs.declared.phase.Phase.TheVariants.{Replaying, Processing}
use Rattle.vm_machine.specs.Commands.{phase_after}
use Rattle.vm_machine.specs.Outcomes.{DoesBy, Done, Failed, IsStarved, Outcome}
use Rattle.invocation_vm.specs.Views.{View}
use Rattle.vm_model.specs.Calls.{Meaning, Setup}
use Rattle.vm_model.specs.Deliveries.{HasNoTwo}
use Rattle.vm_model.specs.Fixed.{Fixed}
use Rattle.vm_model.specs.Histories.{Handed, History, IsPrefix}
use Rattle.vm_model.specs.Moves.{Point, after, longer, move_at, next}
use Rattle.vm_model.specs.Refusals.{IsRefusedFor}
use Rattle.vm_model.proofs.Compared.{after_answers, append_none, moved_left, wrote_left}
use Rattle.vm_model.proofs.Refusals.{own_reason}
use Rattle.vm_model.proofs.Runs.{and_then_some, longer_nothing, made_add, made_after}
use Rattle.std.proofs.lemmas.Option.{same_Some}
use Rattle.journal_protocol.specs.SignalDelivery.TheVariants.{Queued}
use Rattle.vm_attempt.specs.Agreement.{Answered, CallFollows, CallRefused, HasEnded, IsCutShort, IsSuspended, StillAgrees}
use Rattle.vm_attempt.specs.declared.progress.Progress.{Progress}
use Rattle.vm_attempt.specs.declared.progress.Reply.{Reply}
use Rattle.vm_attempt.specs.declared.progress.Reply.TheVariants as reply
use Rattle.vm_attempt.specs.Record.{Record, heard}
use Rattle.vm_attempt.specs.Stepping.{MakesStep, future_in, progress_of, replied, step_asked}
use Rattle.vm_attempt.specs.Steps.{IfDone, Performs, ReadsBack, StepMade}
use Rattle.vm_attempt.specs.Journals.{setup_for}
use Rattle.vm_attempt.specs.Told.{HandlerRuns, IsLive, arrivals, begun, start_state}
use Rattle.vm_attempt.proofs.Following.{agreeing_follows}
use Rattle.vm_attempt.proofs.Replayed.{history_refuses}
use Rattle.vm_attempt.proofs.Stepped.{asks_next}
use Rattle.world_laws.proofs.Midway.{goes_through}
use Rattle.world_laws.proofs.Stepping.{lives_at}
use Rattle.world_laws.proofs.Weighing.{told_weighs, total, twice}

-- An answer came, and the handler runs.
pub record HasGoneOn (old new : Record) : Type 0 where
  pub one : length new.answers ≡ suc (length old.answers)
  pub starved : new.starved ≡ old.starved
  pub over : new.over ≡ old.over
  pub live : IsLive new.vm.machine

-- a step goes on, or memory ran out
abbrev pub GoesOn : Record → Result Progress Error → Record → Type 0
GoesOn old (Ok made) new = HasGoneOn old new
GoesOn old (Err e) new = e ≡ no_memory

front_none : (xs ys : List RawMessage) → xs ++ ys ≡ [] → xs ≡ []
front_none [] ys e = refl
front_none (x ∷ xs) ys e = absurd (cc)

module _ (fixed : Fixed) (old : Record) (k : HandlerRuns fixed (heard fixed.version old) old.answers old.waiting old.taken old.vm) (live : IsLive old.vm.machine) (at : old.vm.machine.phase ≡ Replaying) where
  abbrev s : Setup
  s = setup_for fixed k.journal.start

  abbrev first : Point
  first = begun fixed k.journal

  pub some_left : k.at.left ≢ []
  some_left none = let z : Replaying ≡ Processing = sym at ∙ ap (λ (v : Machine). v.phase) (k.agrees live).machine ∙ ap phase_after none in cc

  nothing_written : k.written ≡ []
  nothing_written = ⊎_elim (λ (e : k.written ≡ []). e) (λ (e : k.at.left ≡ []). absurd (some_left e)) (wrote_left s fixed.handler (Handed (start_state k.journal)) k.moves first k.written k.at k.run)

  -- the moves so far
  pub moved_here : after s fixed.handler k.moves first ≡ Some k.at
  moved_here =
      ap (after s fixed.handler k.moves) (sym (longer_nothing first) ∙ ap (λ l. longer l first) (sym nothing_written))
      ∙ made_after s fixed.handler (Handed (start_state k.journal)) k.moves first k.written k.at k.run

  weighs : total k.at.derived ≤ twice k.journal.rest
  weighs =
      let x = told_weighs s fixed.handler k.moves k.journal.input (arrivals k.journal) k.journal.rest k.at moved_here in
      omega (arith, x)

  module _ (base : StateMap) (h : History s fixed.handler base (as_entries k.journal.entries)) (room : twice k.journal.rest ≤ most) where
    -- no call is refused
    refused_not : (v w : Machine) (e : Error) → CallRefused s fixed.handler (start_state k.journal) k.at v e w → ⊥
    refused_not v w e x = by_left x.at.left refl
      where
        by_left : (left : List RawMessage) → x.at.left ≡ left → ⊥
        by_left [] is =
            goes_through s fixed.handler x.moves.moves (longer x.made k.at) x.at x.why k.journal.rest (k.rests live) (made_after s fixed.handler (Handed (start_state k.journal)) x.moves.moves k.at x.made x.at x.moves.run) (x.moves.answers ∙ append-nil k.at.answers)
            (λ e. some_left (front_none k.at.left x.made (sym e ∙ is)))
            (own_reason (move_at s fixed.handler x.at) x.at.queue x.why (subst (λ l. IsRefusedFor (move_at s fixed.handler x.at) l x.at.queue x.why) is x.reason))
            weighs room
        by_left (c ∷ further) is =
            history_refuses fixed (heard fixed.version old) k.journal base (k.moves + x.moves.moves) (k.written ++ x.made) x.at
            (made_add s fixed.handler (Handed (start_state k.journal)) k.moves x.moves.moves first k.written k.at x.made x.at k.run x.moves.run)
            c further is x.why x.reason h

    replied_goes : (P : Type 0) (w : View) (future : Option UnresolvedFuture) (x : Result Reply Error) → ((o : Outcome Reply) → Performs (fixed.handler k.at.answers) old.vm.machine o → IfDone o P → CallFollows s fixed.handler (start_state k.journal) k.written k.at old.vm.machine o)
        → DoesBy (Performs (fixed.handler k.at.answers) old.vm.machine) x old.vm.machine w.machine → OnOk x P → GoesOn old (progress_of x) (replied old future x w)
    replied_goes P w future (Ok (reply.Answer a)) f does g =
        let y : Answered s fixed.handler (start_state k.journal) k.written k.at old.vm.machine a w.machine = f (Done (reply.Answer a) w.machine) does g in
        let n = length-append old.answers (a ∷ []) in
        record { one = omega (arith, n); starved = refl; over = refl; live = lives_at s (start_state k.journal) (k.written ++ y.made) w.machine y.at y.agrees }
    replied_goes P w future (Ok (reply.Waiting input run)) f does g =
        let y : StillAgrees input s fixed.handler (start_state k.journal) k.written k.at old.vm.machine w.machine = f (Done (reply.Waiting input run) w.machine) does g in
        absurd (some_left y.waits.none_recorded)
    replied_goes P w future (Ok (reply.Execute run)) f does g =
        let y : StillAgrees false s fixed.handler (start_state k.journal) k.written k.at old.vm.machine w.machine = f (Done (reply.Execute run) w.machine) does g in
        absurd (some_left y.waits.none_recorded)
    replied_goes P w future (Ok reply.Suspended) f does g =
        let y : IsSuspended s fixed.handler (start_state k.journal) k.at old.vm.machine w.machine = f (Done reply.Suspended w.machine) does g in
        absurd (some_left y.waits.none_recorded)
    replied_goes P w future (Ok reply.Ended) f does g =
        let y : HasEnded fixed.handler k.at old.vm.machine w.machine = f (Done reply.Ended w.machine) does g in
        absurd (some_left y.no_command)
    replied_goes P w future (Err e) f does g =
        ⊎_elim
        (λ (x : Performs (fixed.handler k.at.answers) old.vm.machine (Failed e w.machine)).
        let y : CallRefused s fixed.handler (start_state k.journal) k.at old.vm.machine e w.machine ⊎ IsCutShort s fixed.handler (start_state k.journal) k.at old.vm.machine e w.machine = f (Failed e w.machine) x (tt {0}) in
        ⊎_elim
        (λ (z : CallRefused s fixed.handler (start_state k.journal) k.at old.vm.machine e w.machine). absurd (refused_not old.vm.machine w.machine e z))
        (λ (z : IsCutShort s fixed.handler (start_state k.journal) k.at old.vm.machine e w.machine). z.error)
        y)
        (λ (x : IsStarved old.vm.machine e w.machine). x.error)
        does

    -- a call of the handler goes on
    pub asks_go : fixed.options.signal_delivery ≡ Queued → HasNoTwo k.at → (result : Result Progress Error) (new : Record) → MakesStep fixed.handler old result new → GoesOn old result new
    asks_go queues two result new (x, w, does, is, made) =
        let st = fixed.handler k.at.answers in
        let same : step_asked fixed.handler old ≡ st = asks_next fixed.handler k.at old.answers old.waiting k.answers k.awaits in
        let step : StepMade st x old.vm w = subst (λ q. StepMade q x old.vm w) same does in
        subst (λ (z : Result Progress Error × Record). GoesOn old z.0 z.1) (λ i. (sym made i, sym is i))
        (replied_goes (ReadsBack st old.vm.machine) w (future_in (step_asked fixed.handler old)) x (λ o. agreeing_follows s fixed.handler (start_state k.journal) k.written old.vm.machine k.at o (λ future _. (queues, two)) (k.rests live) (k.agrees live)) step.0.0 step.1)

-- ---- how far it goes

-- where all commands are used, none is left later
spent : (s : Setup) (m : Meaning) (n : ℕ) (p q : Point) → p.left ≡ [] → after s m n p ≡ Some q → q.left ≡ []
spent s m zero p q e h = ap (λ z. z.left) (sym (same_Some p q h)) ∙ e
spent s m (suc n) p q e h =
    let x = and_then_some (next s m p) (after s m n) q h in
    let y = moved_left (move_at s m p) p x.0 x.1 in
    spent s m n x.0 q (append_none y.0 x.0.left (sym e ∙ y.1)) x.2

-- a point with commands left comes before one without
pub left_before : (s : Setup) (m : Meaning) (n k : ℕ) (z p q : Point) → after s m n z ≡ Some p → p.left ≢ [] → after s m k z ≡ Some q → q.left ≡ [] → IsPrefix p.answers q.answers
left_before s m zero k z p q h some e none = subst (λ x. IsPrefix x.answers q.answers) (same_Some z p h) (after_answers s m k z q e)
left_before s m (suc n) zero z p q h some e none = absurd (some (spent s m (suc n) z p (ap (λ x. x.left) (same_Some z q e) ∙ none) h))
left_before s m (suc n) (suc k) z p q h some e none =
    let x = and_then_some (next s m z) (after s m n) p h in
    let y = and_then_some (next s m z) (after s m k) q e in
    left_before s m n k x.0 p q x.2 some (subst (λ r. after s m k r ≡ Some q) (same_Some y.0 x.0 (sym y.1 ∙ x.1)) y.2) none
