-- Steps, one after another; and steps that change nothing, however many are made.
use Rattle.std.proofs.Common.{◌≡◌, ◌<◌, ◌≤◌, ◌-◌, ◌⊎◌, inl, ⊎_elim, ℕ, zero, suc, Bool, true, false, [], Option, Some, None, Result, Ok, Err, refl, sym, ap, ◌∙◌, subst, arith}
use Rattle.std.specs.Prelude.{◌≢◌, unwrap_or}
use Rattle.std.specs.Result.{result_err}
use Rattle.std.proofs.lemmas.Option.{same_Some}
use Rattle.journal_protocol.specs.Error.{Error}
use Rattle.journal_protocol.specs.NamedFault.TheVariants as fault
use Rattle.journal_protocol.specs.Errors.{named_error, no_memory}
use Rattle.vm_machine.specs.declared.phase.Phase.{Phase}
use Rattle.vm_machine.specs.declared.phase.Phase.TheVariants.{WaitingStart, WaitingReplayEntries, Replaying, Processing, Closed}
use Rattle.vm_machine.specs.Inputs.{input_step}
use Rattle.vm_machine.specs.Outcomes.{Failed, IsStarved, called}
use Rattle.vm_machine.specs.Phases.{is_running}
use Rattle.vm_model.specs.Calls.{Meaning}
use Rattle.vm_attempt.specs.declared.progress.Progress.{Progress}
use Rattle.vm_attempt.specs.declared.progress.Progress.TheVariants as progress
use Rattle.vm_attempt.specs.declared.progress.Reply.{Reply}
use Rattle.vm_attempt.specs.declared.progress.Reply.TheVariants as reply
use Rattle.vm_attempt.specs.Record.{Record}
use Rattle.vm_attempt.specs.Stepping.{Advances, MakesStep, LacksMemory, InputIsRead, StepAt, StepDoes, StepFrom, StepUnless, future_in, progress_of, replied, step_asked}
use Rattle.vm_attempt.specs.Told.{IsLive}
use Rattle.vm_attempt.proofs.Erring.{called_failed}
use Rattle.vm_attempt.proofs.Sending.{IsLeft, step_leaves}
use Rattle.world_rounds.specs.Inside.{may_go_on}
use Rattle.world_rounds.specs.Rounds.{Now, StepHappens, StepsHappen, error_of, first_error}

-- ---- steps, one after another

-- what each step keeps, all of them keep
pub steps_keep : (m : Meaning) (P : Now → Type 0) → ((now mid : Now) → StepHappens m now mid → P now → P mid) → (n : ℕ) (now end : Now) → StepsHappen m n now end → P now → P end
steps_keep m P each zero now end d p = subst P (sym d) p
steps_keep m P each (suc n) now end (mid, d, more) p = steps_keep m P each n mid end more (each now mid d p)

-- a step, and the steps after it
pub steps_more : (m : Meaning) (n : ℕ) (now mid end : Now) → 0 < n → StepHappens m now mid → StepsHappen m (n - 1) mid end → StepsHappen m n now end
steps_more m zero now mid end some d more = absurd (omega (arith, some))
steps_more m (suc n) now mid end some d more = (mid, d, subst (λ k. StepsHappen m k mid end) (let same : suc n - 1 ≡ n = omega arith in same) more)

-- none is left
pub steps_end : (m : Meaning) (n : ℕ) (now : Now) → n ≤ 0 → StepsHappen m n now now
steps_end m zero now none = refl
steps_end m (suc n) now none = absurd (omega (arith, none))

-- a step that changes nothing can be made any number of times
pub steps_stay : (m : Meaning) (n : ℕ) (now : Now) → StepHappens m now now → StepsHappen m n now now
steps_stay m zero now d = refl
steps_stay m (suc n) now d = (now, d, steps_stay m n now d)

-- ---- an attempt at rest

-- what an attempt answers to each step that changes nothing: it ran out of memory, its VM has failed, it is over, or its VM waits or is closed
abbrev resting : Bool → Option Error → Option Progress → Phase → Option (Result Progress Error)
resting true failure over phase = Some (Err no_memory)
resting false (Some e) over phase = Some (Err e)
resting false None (Some made) phase = Some (Ok made)
resting false None None WaitingStart = Some (Ok progress.NotReady)
resting false None None WaitingReplayEntries = Some (Ok progress.NotReady)
resting false None None Closed = Some (Err (named_error fault.Closed None))
resting false None None Replaying = None
resting false None None Processing = None

abbrev Rests : Record → Result Progress Error → Type 0
Rests r answer = resting r.starved r.vm.machine.failure r.over r.vm.machine.phase ≡ Some answer

-- it can make such a step
rests_so : (m : Meaning) (r : Record) (answer : Result Progress Error) → Rests r answer → StepDoes m r answer r
rests_so m r answer h = by_memory r.starved h
  where
    by_phase : (phase : Phase) → resting false None None phase ≡ Some answer → StepAt phase m r answer r
    by_phase WaitingStart h = (sym (same_Some (Ok progress.NotReady) answer h), refl)
    by_phase WaitingReplayEntries h = (sym (same_Some (Ok progress.NotReady) answer h), refl)
    by_phase Closed h = (sym (same_Some (Err (named_error fault.Closed None)) answer h), refl)
    by_phase Replaying h = absurd (cc)
    by_phase Processing h = absurd (cc)

    by_over : (over : Option Progress) → resting false None over r.vm.machine.phase ≡ Some answer → StepUnless None over m r answer r
    by_over (Some made) h = (sym (same_Some (Ok made) answer h), refl)
    by_over None h = by_phase r.vm.machine.phase h

    by_failure : (failure : Option Error) → resting false failure r.over r.vm.machine.phase ≡ Some answer → StepUnless failure r.over m r answer r
    by_failure (Some e) h = (inl (sym (same_Some (Err e) answer h)), refl)
    by_failure None h = by_over r.over h

    by_memory : (starved : Bool) → resting starved r.vm.machine.failure r.over r.vm.machine.phase ≡ Some answer → StepFrom starved m r answer r
    by_memory true h = (sym (same_Some (Err no_memory) answer h), refl)
    by_memory false h = by_failure r.vm.machine.failure h

-- it makes no other
rests_still : (m : Meaning) (r : Record) (answer : Result Progress Error) → Rests r answer → (result : Result Progress Error) (new : Record) → StepDoes m r result new → new ≡ r
rests_still m r answer h result new d = by_memory r.starved h d
  where
    by_phase : (phase : Phase) → resting false None None phase ≡ Some answer → StepAt phase m r result new → new ≡ r
    by_phase WaitingStart h d = d.1
    by_phase WaitingReplayEntries h d = d.1
    by_phase Closed h d = d.1
    by_phase Replaying h d = absurd (cc)
    by_phase Processing h d = absurd (cc)

    by_over : (over : Option Progress) → resting false None over r.vm.machine.phase ≡ Some answer → StepUnless None over m r result new → new ≡ r
    by_over (Some made) h d = d.1
    by_over None h d = by_phase r.vm.machine.phase h d

    by_failure : (failure : Option Error) → resting false failure r.over r.vm.machine.phase ≡ Some answer → StepUnless failure r.over m r result new → new ≡ r
    by_failure (Some e) h d = d.1
    by_failure None h d = by_over r.over h d

    by_memory : (starved : Bool) → resting starved r.vm.machine.failure r.over r.vm.machine.phase ≡ Some answer → StepFrom starved m r result new → new ≡ r
    by_memory true h d = d.1
    by_memory false h d = by_failure r.vm.machine.failure h d

-- ---- the step by which an attempt comes to rest

-- an answer after which a second one tells no other first error
abbrev TellsNoMore : Result Progress Error → Result Progress Error → Type 0
TellsNoMore result answer = (before : Option Error) → first_error (first_error before (error_of result)) (error_of answer) ≡ first_error before (error_of result)

tells_error : (e : Error) (answer : Result Progress Error) (before : Option Error) → first_error (first_error before (Some e)) (error_of answer) ≡ first_error before (Some e)
tells_error e answer None = refl
tells_error e answer (Some d) = refl

tells_nothing : (before : Option Error) → first_error (first_error before None) None ≡ first_error before None
tells_nothing None = refl
tells_nothing (Some d) = refl

tells_none : (made : Progress) (result : Result Progress Error) → TellsNoMore result (Ok made)
tells_none made (Err e) = tells_error e (Ok made)
tells_none made (Ok x) = tells_nothing

-- an attempt at rest, whose answers tell nothing more
record ComesToRest (result : Result Progress Error) (new : Record) : Type 0 where
  answer : Result Progress Error
  rests : Rests new answer
  quiet : TellsNoMore result answer

-- by the error of a call it has failed
failed_rests : (e d : Error) (new : Record) → new.starved ≡ false → new.vm.machine.failure ≡ Some d → ComesToRest (Err e) new
failed_rests e d new starved failure = record {
  answer = Err d;
  rests = λ i. resting (starved i) (failure i) new.over new.vm.machine.phase;
  quiet = tells_error e (Err d);
}

module _ (m : Meaning) (old : Record) (result : Result Progress Error) (new : Record) where
  memory_rests : result ≡ Err no_memory → new.starved ≡ true → ComesToRest result new
  memory_rests is starved = subst (λ x. ComesToRest x new) (sym is) (record {
    answer = Err no_memory;
    rests = ap (λ t. resting t new.vm.machine.failure new.over new.vm.machine.phase) starved;
    quiet = tells_error no_memory (Err no_memory);
  })

  reads_rests : old.starved ≡ false → old.vm.machine.failure ≡ None → (x : Result Progress Error) → InputIsRead old x new → may_go_on x ≡ false → ComesToRest x new
  reads_rests starved live (Ok made) d h = absurd (cc (sym h ∙ ap (λ (p : Progress). may_go_on (Ok p)) d.0))
  reads_rests starved live (Err e) (w, does, is) h =
      ⊎_elim
      (λ (x : called (input_step old.vm.machine) old.vm.machine ≡ Failed e w.machine). failed_rests e e new (ap (λ (z : Record). z.starved) is ∙ starved) (ap (λ (z : Record). z.vm.machine.failure) is ∙ (called_failed old.vm.machine (input_step old.vm.machine) e w.machine live x).0))
      (λ (x : IsStarved old.vm.machine e w.machine). failed_rests e (unwrap_or old.vm.machine.failure no_memory) new (ap (λ (z : Record). z.starved) is ∙ starved) (ap (λ (z : Record). z.vm.machine.failure) is ∙ x.failure))
      does.0

  asks_rests : old.starved ≡ false → IsLive old.vm.machine → MakesStep m old result new → may_go_on result ≡ false → ComesToRest result new
  asks_rests starved live (x, w, does, is, made) h = subst (λ z. ComesToRest z new) (sym made) (by_reply x (step_leaves (step_asked m old) old.vm.machine live x w.machine does.0.0) is (ap may_go_on (sym made) ∙ h))
    where
      over_rests : (p : Progress) → new ≡ record old { over = Some p; vm = w } → w.machine.failure ≡ old.vm.machine.failure → ComesToRest (Ok p) new
      over_rests p at failure = record {
        answer = Ok p;
        rests = ap (λ (z : Record). resting z.starved z.vm.machine.failure z.over z.vm.machine.phase) at ∙ λ i. resting (starved i) ((failure ∙ live.failure) i) (Some p) w.machine.phase;
        quiet = tells_none p (Ok p);
      }

      by_reply : (x : Result Reply Error) → IsLeft old.vm.machine x w.machine → new ≡ replied old (future_in (step_asked m old)) x w → may_go_on (progress_of x) ≡ false → ComesToRest (progress_of x) new
      by_reply (Ok (reply.Answer a)) k at h = absurd (cc)
      by_reply (Ok (reply.Waiting input run)) k at h = absurd (cc)
      by_reply (Ok (reply.Execute run)) k at h = absurd (cc)
      by_reply (Ok reply.Suspended) k at h = over_rests progress.Suspended at k.failure
      by_reply (Ok reply.Ended) k at h = over_rests progress.Ended at k.failure
      by_reply (Err e) k at h = failed_rests e e new (ap (λ (z : Record). z.starved) at ∙ starved) (ap (λ (z : Record). z.vm.machine.failure) at ∙ k.1)

  advances_rests : old.starved ≡ false → IsLive old.vm.machine → Advances m old result new → may_go_on result ≡ false → ComesToRest result new
  advances_rests starved live d h =
      ⊎_elim
      (λ (x : LacksMemory old result new). memory_rests x.0 (ap (λ (z : Record). z.starved) x.1))
      (λ (o : ((old.answers ≡ []) × InputIsRead old result new) ⊎ ((old.answers ≢ []) × MakesStep m old result new)).
      ⊎_elim
      (λ (x : (old.answers ≡ []) × InputIsRead old result new). reads_rests starved live.failure result x.1 h)
      (λ (x : (old.answers ≢ []) × MakesStep m old result new). asks_rests starved live x.1 h)
      o)
      d

  -- it was at rest
  stays_rests : (answer : Result Progress Error) → Rests old answer → new ≡ old → TellsNoMore result answer → ComesToRest result new
  stays_rests answer rests same quiet = record {
    answer = answer;
    rests = ap (λ (z : Record). resting z.starved z.vm.machine.failure z.over z.vm.machine.phase) same ∙ rests;
    quiet = quiet;
  }

  -- an attempt that answers so has come to rest
  step_rests : StepDoes m old result new → may_go_on result ≡ false → ComesToRest result new
  step_rests d h = by_memory old.starved refl d
    where
      by_phase : old.starved ≡ false → old.vm.machine.failure ≡ None → old.over ≡ None → (phase : Phase) → old.vm.machine.phase ≡ phase → StepAt phase m old result new → ComesToRest result new
      by_phase starved live going WaitingStart at d = stays_rests (Ok progress.NotReady) (λ i. resting (starved i) (live i) (going i) (at i)) d.1 (tells_none progress.NotReady result)
      by_phase starved live going WaitingReplayEntries at d = stays_rests (Ok progress.NotReady) (λ i. resting (starved i) (live i) (going i) (at i)) d.1 (tells_none progress.NotReady result)
      by_phase starved live going Closed at d = stays_rests (Err (named_error fault.Closed None)) (λ i. resting (starved i) (live i) (going i) (at i)) d.1 (subst (λ x. TellsNoMore x (Err (named_error fault.Closed None))) (sym d.0) (tells_error (named_error fault.Closed None) (Err (named_error fault.Closed None))))
      by_phase starved live going Replaying at d = advances_rests starved (record { failure = live; phase = ap is_running at }) d h
      by_phase starved live going Processing at d = advances_rests starved (record { failure = live; phase = ap is_running at }) d h

      by_over : old.starved ≡ false → old.vm.machine.failure ≡ None → (over : Option Progress) → old.over ≡ over → StepUnless None over m old result new → ComesToRest result new
      by_over starved live (Some made) at d = stays_rests (Ok made) (λ i. resting (starved i) (live i) (at i) old.vm.machine.phase) d.1 (tells_none made result)
      by_over starved live None at d = by_phase starved live at old.vm.machine.phase refl d

      by_failure : old.starved ≡ false → (failure : Option Error) → old.vm.machine.failure ≡ failure → StepUnless failure old.over m old result new → ComesToRest result new
      by_failure starved (Some e) at d = stays_rests (Err e) (λ i. resting (starved i) (at i) old.over old.vm.machine.phase) d.1
          (⊎_elim
          (λ (x : result ≡ Err e). subst (λ z. TellsNoMore z (Err e)) (sym x) (tells_error e (Err e)))
          (λ (x : result ≡ Err no_memory). subst (λ z. TellsNoMore z (Err e)) (sym x) (tells_error no_memory (Err e)))
          d.0)
      by_failure starved None at d = by_over starved at old.over refl d

      by_memory : (starved : Bool) → old.starved ≡ starved → StepFrom starved m old result new → ComesToRest result new
      by_memory true at d = memory_rests d.0 (ap (λ (z : Record). z.starved) d.1 ∙ at)
      by_memory false at d = by_failure at old.vm.machine.failure refl d

-- after an answer with which nothing goes on a step changes nothing
pub step_still : (m : Meaning) (old : Record) (result : Result Progress Error) (new : Record) → StepDoes m old result new → may_go_on result ≡ false → (next : Result Progress Error) (after : Record) → StepDoes m new next after → after ≡ new
step_still m old result new d h = let r = step_rests m old result new d h in rests_still m new r.answer r.rests

-- an answer's error
error_is : (result : Result Progress Error) → result_err result ≡ error_of result
error_is (Ok made) = refl
error_is (Err e) = refl

-- and so it does in a round
pub step_again : (m : Meaning) (old new : Now) (result : Result Progress Error) (r : Record) → StepDoes m old.attempt result r → new ≡ record old { attempt = r; error = first_error old.error (result_err result) } → may_go_on result ≡ false → StepHappens m new new
step_again m old new result r d is h =
    let rest = step_rests m old.attempt result r d h in
    let told : first_error old.error (result_err result) ≡ first_error old.error (error_of result) = ap (first_error old.error) (error_is result) in
    let now : new ≡ record old { attempt = r; error = first_error old.error (error_of result) } = is ∙ λ i. record old { attempt = r; error = told i } in
    subst (λ (z : Now). StepHappens m z z) (sym now)
    (rest.answer, r, rests_so m r rest.answer rest.rests, λ i. record old { attempt = r; error = sym (rest.quiet old.error) i })
