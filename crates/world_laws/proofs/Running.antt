-- What a step of an attempt that runs does: memory runs out for the answer, or the handler's call follows the run.
use Rattle.std.proofs.Common.{◌≡◌, ◌≢◌, ◌⊎◌, true, [], None, Result, Ok, Err, subst, inl, inr, ⊎_elim}
use Rattle.std.specs.Prelude.{OnOk}
use Rattle.journal_protocol.specs.Error.{Error}
use Rattle.vm_machine.specs.declared.machine.Machine.{Machine}
use Rattle.vm_machine.specs.declared.phase.Phase.{Phase}
use Rattle.vm_machine.specs.declared.phase.Phase.TheVariants.{WaitingStart, WaitingReplayEntries, Replaying, Processing, Closed}
use Rattle.vm_machine.specs.Outcomes.{DoesBy, Done}
use Rattle.vm_machine.specs.Phases.{is_running}
use Rattle.invocation_vm.specs.Views.{View}
use Rattle.vm_model.specs.Fixed.{Fixed}
use Rattle.vm_attempt.specs.declared.progress.Progress.{Progress}
use Rattle.vm_attempt.specs.declared.progress.Reply.{Reply}
use Rattle.vm_attempt.specs.Record.{Record, heard}
use Rattle.vm_attempt.specs.Stepping.{Advances, InputIsRead, LacksMemory, MakesStep, StepAt, StepDoes, StepFrom, StepUnless, future_in, progress_of, replied, step_asked}
use Rattle.vm_attempt.specs.Steps.{Performs, ReadsBack, StepMade}
use Rattle.vm_attempt.specs.Agreement.{CallFollows}
use Rattle.vm_attempt.specs.Ending.{IsRunning}
use Rattle.vm_attempt.specs.Journals.{setup_for}
use Rattle.vm_attempt.specs.Told.{HandlerRuns, IsKeptUnder, Premises, start_state}
use Rattle.vm_attempt.proofs.Advanced.{runs_of}
use Rattle.vm_attempt.proofs.Following.{agreeing_follows}
use Rattle.vm_attempt.proofs.Stepped.{asks_next}

-- the run of an attempt's handler
abbrev pub RunOf : Fixed → Record → Type 0
RunOf fixed r = HandlerRuns fixed (heard fixed.version r) r.answers r.waiting r.taken r.vm

-- what a call that was answered does, by the run
abbrev pub FollowsBy : (fixed : Fixed) (old : Record) → RunOf fixed old → Result Reply Error → Machine → Type 0
FollowsBy fixed old k (Ok a) w = CallFollows (setup_for fixed k.journal.start) fixed.handler (start_state k.journal) k.written k.at old.vm.machine (Done a w)
FollowsBy fixed old k (Err e) w = Unit {0}

-- the handler's call was made
pub record StepFollows (fixed : Fixed) (old : Record) (result : Result Progress Error) (new : Record) : Type 0 where
  pub run : RunOf fixed old
  pub answered : Result Reply Error
  pub view : View
  pub result_is : result ≡ progress_of answered
  pub record_is : new ≡ replied old (future_in (step_asked fixed.handler old)) answered view
  pub follows : FollowsBy fixed old run answered view.machine

module _ (fixed : Fixed) (old : Record) (result : Result Progress Error) (new : Record) (u : IsKeptUnder fixed old) (p : Premises fixed (heard fixed.version old)) (is : IsRunning old) where
  made_follows : old.answers ≢ [] → MakesStep fixed.handler old result new → StepFollows fixed old result new
  made_follows some (x, w, does, now, made) =
      record { run = k; answered = x; view = w; result_is = made; record_is = now; follows = by_reply x step.0.0 step.1 }
    where
      k : RunOf fixed old
      k = runs_of fixed old (u p) some

      step : StepMade (fixed.handler k.at.answers) x old.vm w
      step = subst (λ q. StepMade q x old.vm w) (asks_next fixed.handler k.at old.answers old.waiting k.answers k.awaits) does

      by_reply : (y : Result Reply Error) → DoesBy (Performs (fixed.handler k.at.answers) old.vm.machine) y old.vm.machine w.machine → OnOk y (ReadsBack (fixed.handler k.at.answers) old.vm.machine) → FollowsBy fixed old k y w.machine
      by_reply (Ok a) d g = agreeing_follows (setup_for fixed k.journal.start) fixed.handler (start_state k.journal) k.written old.vm.machine k.at (Done a w.machine) (λ future _. (p.queues, p.once k.journal k.moves k.written k.at k.run)) (k.rests is.live) (k.agrees is.live) d g
      by_reply (Err e) d g = tt

  advances_follow : Advances fixed.handler old result new → LacksMemory old result new ⊎ StepFollows fixed old result new
  advances_follow =
      ⊎_elim
      (λ (x : LacksMemory old result new). inl x)
      (λ (o : ((old.answers ≡ []) × InputIsRead old result new) ⊎ ((old.answers ≢ []) × MakesStep fixed.handler old result new)).
      inr (⊎_elim
      (λ (x : (old.answers ≡ []) × InputIsRead old result new). absurd (is.runs x.0))
      (λ (x : (old.answers ≢ []) × MakesStep fixed.handler old result new). made_follows x.0 x.1)
      o))

  follows_in : (ph : Phase) → is_running ph ≡ true → StepAt ph fixed.handler old result new → LacksMemory old result new ⊎ StepFollows fixed old result new
  follows_in WaitingStart running d = absurd (cc)
  follows_in WaitingReplayEntries running d = absurd (cc)
  follows_in Closed running d = absurd (cc)
  follows_in Replaying running d = advances_follow d
  follows_in Processing running d = advances_follow d

  pub step_follows : StepDoes fixed.handler old result new → LacksMemory old result new ⊎ StepFollows fixed old result new
  step_follows d =
      let awake = subst (λ b. StepFrom b fixed.handler old result new) is.starved d in
      let going = subst (λ over. StepUnless old.vm.machine.failure over fixed.handler old result new) is.over awake in
      follows_in old.vm.machine.phase is.live.phase (subst (λ f. StepUnless f None fixed.handler old result new) is.live.failure going)
