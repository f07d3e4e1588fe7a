-- An attempt that runs makes a step with a result, or comes to rest.
use Rattle.std.proofs.Common.{◌≡◌, ◌⊎◌, ◌+◌, ◌≤◌, ℕ, zero, suc, length, Result, Ok, Err, refl, sym, ap, ◌∙◌, subst, inl, inr, ⊎_elim, arith}
use Rattle.std.specs.Prelude.{Option, Some}
use Rattle.journal_protocol.specs.Error.{Error}
use Rattle.journal_protocol.specs.Errors.{no_memory}
use Rattle.await_trees.specs.declared.tree.UnresolvedFuture.{UnresolvedFuture}
use Rattle.vm_types.specs.declared.steps.Step.TheVariants as step
use Rattle.invocation_vm.specs.Views.{View}
use Rattle.vm_model.specs.Fixed.{Fixed}
use Rattle.vm_attempt.specs.declared.progress.Progress.TheVariants as progress
use Rattle.vm_attempt.specs.declared.progress.Progress.{Progress}
use Rattle.vm_attempt.specs.declared.progress.Reply.{Reply}
use Rattle.vm_attempt.specs.declared.progress.Reply.TheVariants as reply
use Rattle.vm_attempt.specs.Agreement.{HasEnded}
use Rattle.vm_attempt.specs.Blames.{IsBlamed, IsHonest, IsOwnError, ReportedResult}
use Rattle.vm_attempt.specs.Heard.{Heard}
use Rattle.vm_attempt.specs.Record.{Record, heard}
use Rattle.vm_attempt.specs.Stepping.{LacksMemory, StepDoes, future_in, progress_of, replied, step_asked}
use Rattle.vm_attempt.specs.Ending.{IsRunning}
use Rattle.vm_attempt.specs.Told.{HasCome, IsKeptUnder, Premises}
use Rattle.vm_attempt.proofs.Advanced.{runs_of, step_waits}
use Rattle.vm_attempt.proofs.Coming.{step_comes}
use Rattle.vm_attempt.proofs.Erring.{step_blames, step_errs}
use Rattle.vm_attempt.proofs.Replayed.{honest_fails}
use Rattle.vm_attempt.proofs.Under.{step_fed, step_under}
use Rattle.world_laws.specs.Limits.{AnswersAtMost, ComesToRest, StepsAnswered}
use Rattle.world_laws.proofs.Running.{FollowsBy, RunOf, StepFollows, step_follows}
use Rattle.world_laws.proofs.Stepping.{Lasts, StepsOn, one_longer, step_on, steps_last}

-- ---- one step

module _ (fixed : Fixed) (old new : Record) (k : RunOf fixed old) (w : View) (future : Option UnresolvedFuture) where
  -- of no reply is it said that the VM waits for known entries
  replied_ready : {P : Type 0} → (x : Result Reply Error) → Ok progress.NotReady ≡ progress_of x → P
  replied_ready (Ok (reply.Answer a)) e = absurd (cc)
  replied_ready (Ok (reply.Waiting input run)) e = absurd (cc)
  replied_ready (Ok (reply.Execute run)) e = absurd (cc)
  replied_ready (Ok reply.Suspended) e = absurd (cc)
  replied_ready (Ok reply.Ended) e = absurd (cc)
  replied_ready (Err why) e = absurd (cc)

  -- the handler's step is its end
  replied_ends : (x : Result Reply Error) → Ok progress.Ended ≡ progress_of x → FollowsBy fixed old k x w.machine → fixed.handler old.answers ≡ step.End
  replied_ends (Ok (reply.Answer a)) e f = absurd (cc)
  replied_ends (Ok (reply.Waiting input run)) e f = absurd (cc)
  replied_ends (Ok (reply.Execute run)) e f = absurd (cc)
  replied_ends (Ok reply.Suspended) e f = absurd (cc)
  replied_ends (Ok reply.Ended) e f =
      let y : HasEnded fixed.handler k.at old.vm.machine w.machine = f in
      sym (ap fixed.handler k.answers) ∙ y.step
  replied_ends (Err why) e f = absurd (cc)

module _ (fixed : Fixed) (old new : Record) (came : HasCome fixed old) (b : IsBlamed fixed old) (u : IsKeptUnder fixed old) (honest : IsHonest fixed (heard fixed.version old)) (is : IsRunning old) where
  fails_so : (e : Error) → StepDoes fixed.handler old (Err e) new → IsOwnError fixed (heard fixed.version new) new.closed new.answers (ReportedResult fixed new.failed_by) e
  fails_so e does =
      let fed : heard fixed.version new ≡ heard fixed.version old = step_fed fixed.version fixed.handler old (Err e) new does in
      let valid : IsHonest fixed (heard fixed.version new) = subst (IsHonest fixed) (sym fed) honest in
      ⊎_elim
      (λ (x : e ≡ no_memory). inl x)
      (λ (x : (new.vm.machine.failure ≡ Some e) × (new.over ≡ old.over)).
      honest_fails fixed (heard fixed.version new) new.closed new.answers (ReportedResult fixed new.failed_by) e valid ((step_blames fixed old (Err e) new came u b does).blame (x.1 ∙ is.over) e x.0))
      (step_errs fixed old (Err e) new b is.over does)

  rests_or_steps : (result : Result Progress Error) → StepDoes fixed.handler old result new → (result ≡ Ok progress.Stepped) ⊎ ComesToRest fixed old result new
  rests_or_steps (Ok progress.Stepped) does = inl refl
  rests_or_steps (Ok progress.NotReady) does =
      ⊎_elim
      (λ (x : LacksMemory old (Ok progress.NotReady) new). let e = x.0 in absurd (cc))
      (λ (x : StepFollows fixed old (Ok progress.NotReady) new). replied_ready fixed old new x.run x.view (future_in (step_asked fixed.handler old)) x.answered x.result_is)
      (step_follows fixed old (Ok progress.NotReady) new u honest.premises is does)
  rests_or_steps (Ok (progress.Waiting input run)) does = inr (step_waits fixed old (Ok (progress.Waiting input run)) new honest.premises (u honest.premises) is.over does)
  rests_or_steps (Ok (progress.ExecuteRun run)) does = inr (step_waits fixed old (Ok (progress.ExecuteRun run)) new honest.premises (u honest.premises) is.over does)
  rests_or_steps (Ok progress.Suspended) does = inr (step_waits fixed old (Ok progress.Suspended) new honest.premises (u honest.premises) is.over does)
  rests_or_steps (Ok progress.Ended) does =
      ⊎_elim
      (λ (x : LacksMemory old (Ok progress.Ended) new). let e = x.0 in absurd (cc))
      (λ (x : StepFollows fixed old (Ok progress.Ended) new). inr (replied_ends fixed old new x.run x.view (future_in (step_asked fixed.handler old)) x.answered x.result_is x.follows))
      (step_follows fixed old (Ok progress.Ended) new u honest.premises is does)
  rests_or_steps (Err e) does = inr (fails_so e does)

-- ---- several steps

-- what came, and why the VM may have failed, lasts too
blamed_on : (fixed : Fixed) (n : ℕ) (old new : Record) → HasCome fixed old → IsBlamed fixed old → IsKeptUnder fixed old → StepsAnswered fixed.handler n old new → HasCome fixed new × IsBlamed fixed new
blamed_on fixed zero old new came b u same = (subst (HasCome fixed) (sym same) came, subst (IsBlamed fixed) (sym same) b)
blamed_on fixed (suc n) old new came b u (mid, does, more) =
    blamed_on fixed n mid new (step_comes fixed old (Ok progress.Stepped) mid came does) (step_blames fixed old (Ok progress.Stepped) mid came u b does) (step_under fixed old (Ok progress.Stepped) mid u does) more

module _ (fixed : Fixed) (limit : ℕ) where
  -- the answers of an attempt that runs are those of a point of its run
  few_answers : (r : Record) → IsKeptUnder fixed r → Premises fixed (heard fixed.version r) → IsRunning r → AnswersAtMost fixed (heard fixed.version r) limit → length r.answers ≤ limit
  few_answers r u p is most =
      let k = runs_of fixed r (u p) is.runs in
      subst (λ l. length l ≤ limit) k.answers (most k.journal k.moves k.written k.at k.run)

  pub most_answers : (old mid : Record) (n : ℕ) → IsKeptUnder fixed old → IsHonest fixed (heard fixed.version old) → IsRunning old → AnswersAtMost fixed (heard fixed.version old) limit → StepsAnswered fixed.handler n old mid → length old.answers + n ≤ limit
  most_answers old mid n u honest is most steps =
      let x = steps_last fixed n old mid u honest.premises is steps in
      let few = few_answers mid x.kept (subst (Premises fixed) (sym x.fed) honest.premises) x.running (subst (λ (fed : Heard). AnswersAtMost fixed fed limit) (sym x.fed) most) in
      let count = x.count in
      omega (arith, few, count)

  -- a step more with a result would be one too many
  not_stepped : (old mid new : Record) (n : ℕ) → IsKeptUnder fixed old → IsHonest fixed (heard fixed.version old) → IsRunning old → AnswersAtMost fixed (heard fixed.version old) limit → limit ≤ length old.answers + n → Lasts fixed n old mid → StepDoes fixed.handler mid (Ok progress.Stepped) new → {P : Type 0} → P
  not_stepped old mid new n u honest is most enough x does =
      let under = subst (Premises fixed) (sym x.fed) honest.premises in
      let y = step_on fixed mid new x.kept under x.running does in
      let fed : heard fixed.version new ≡ heard fixed.version mid = step_fed fixed.version fixed.handler mid (Ok progress.Stepped) new does in
      let few = few_answers new (step_under fixed mid (Ok progress.Stepped) new x.kept does) (subst (Premises fixed) (sym fed) under) y.running (subst (λ (z : Heard). AnswersAtMost fixed z limit) (sym (fed ∙ x.fed)) most) in
      let one = one_longer mid new y in
      let count = x.count in
      absurd (omega (arith, few, one, count, enough))

  pub next_rests : (old mid new : Record) (n : ℕ) (result : Result Progress Error) → HasCome fixed old → IsBlamed fixed old → IsKeptUnder fixed old → IsHonest fixed (heard fixed.version old) → IsRunning old → AnswersAtMost fixed (heard fixed.version old) limit → limit ≤ length old.answers + n → StepsAnswered fixed.handler n old mid → StepDoes fixed.handler mid result new → ComesToRest fixed mid result new
  next_rests old mid new n result came b u honest is most enough steps does =
      let x = steps_last fixed n old mid u honest.premises is steps in
      let (came_mid, b_mid) = blamed_on fixed n old mid came b u steps in
      ⊎_elim
      (λ (e : result ≡ Ok progress.Stepped). not_stepped old mid new n u honest is most enough x (subst (λ z. StepDoes fixed.handler mid z new) e does))
      (λ (r : ComesToRest fixed mid result new). r)
      (rests_or_steps fixed mid new came_mid b_mid x.kept (subst (IsHonest fixed) (sym x.fed) honest) x.running result does)
