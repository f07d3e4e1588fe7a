-- A step that was asked for and made, in the words of the record.
use Rattle.std.proofs.Common.{◌≡◌, inr, List, [], Option, Result, Ok, Err, refl, ap, ◌∙◌, subst}
use Rattle.journal_protocol.specs.Error.{Error}
use Rattle.vm_types.specs.declared.steps.Answer.{Answer}
use Rattle.vm_types.specs.declared.steps.Step.{Step}
use Rattle.await_trees.specs.declared.tree.UnresolvedFuture.{UnresolvedFuture}
use Rattle.invocation_vm.specs.Views.{View}
use Rattle.vm_attempt.specs.declared.progress.Progress.{Progress}
use Rattle.vm_attempt.specs.declared.progress.Reply.{Reply}
use Rattle.vm_attempt.specs.declared.progress.Reply.TheVariants as reply
use Rattle.vm_attempt.specs.Record.{Record}
use Rattle.vm_attempt.specs.Steps.{StepMade}
use Rattle.vm_attempt.specs.Stepping.{StepFunction, step_asked, asked_from, future_in, replied, progress_of, Advances}

-- the VM's view before doesn't matter to the record after
settled_vm : (r : Record) (answers : List Answer) (mid : View) (future : Option UnresolvedFuture) (given : Result Reply Error) (w : View)
    → replied (record r { answers = answers; vm = mid }) future given w ≡ replied (record r { answers = answers }) future given w
settled_vm r answers mid future (Ok (reply.Answer a)) w = refl
settled_vm r answers mid future (Ok (reply.Waiting input run)) w = refl
settled_vm r answers mid future (Ok (reply.Execute run)) w = refl
settled_vm r answers mid future (Ok reply.Suspended) w = refl
settled_vm r answers mid future (Ok reply.Ended) w = refl
settled_vm r answers mid future (Err e) w = refl

pub asks_made : (meaning : StepFunction) (old : Record) (answers : List Answer) (mid w : View) (step : Step) (future : Option UnresolvedFuture) (given : Result Reply Error) (result : Result Progress Error) (new : Record)
    → answers ≡ old.answers → step ≡ asked_from old.waiting (meaning answers) → future ≡ future_in step → StepMade step given old.vm w
    → new ≡ replied (record old { answers = answers; vm = mid }) future given w → (answers ≡ [] → ⊥) → result ≡ progress_of given → Advances meaning old result new
asks_made meaning old answers mid w step future given result new same is kept done left some made =
    let next : step ≡ step_asked meaning old = is ∙ ap (λ xs. asked_from old.waiting (meaning xs)) same in
    inr (inr (
      (λ none. some (same ∙ none)),
      (
        given,
        w,
        subst (λ s. StepMade s given old.vm w) next done,
        left ∙ settled_vm old answers mid future given w ∙ ap (λ xs. replied (record old { answers = xs }) future given w) same
            ∙ ap (λ f. replied old f given w) (kept ∙ ap future_in next),
        made,
      ),
    ))
