-- What each call does to a VM that has failed.
use Rattle.vm_machine.specs.Proposals.{Proposes}
use Rattle.vm_types.specs.declared.runs.RunExitResult.{RunExitResult}
use Rattle.vm_retries.specs.declared.policy.RetryPolicy.{RetryPolicy}
use Rattle.std.proofs.Common.{◌≡◌, inl, inr, Option, Some, None, List, refl, sym, ap, ◌∙◌, subst}
use Rattle.std.specs.Prelude.{false, not, ◌&&◌, is_some, Result, Ok, Err}
use Rattle.std.specs.declared.alloc.AllocError.{AllocError}
use Rattle.journal_protocol.specs.Error.{Error}
use Rattle.journal_protocol.specs.RawMessage.{RawMessage}
use Rattle.await_trees.specs.declared.handle.NotificationHandle.{NotificationHandle}
use Rattle.await_trees.specs.declared.tree.UnresolvedFuture.{UnresolvedFuture}
use Rattle.await_trees.specs.Tree.{tree_of}
use Rattle.vm_awaits.specs.Awaits.{Awaits}
use Rattle.vm_awaits.specs.Cancels.{FollowsFirstPart}
use Rattle.journal_protocol.specs.Errors.{no_memory}
use Rattle.vm_types.specs.declared.types.AwaitResponse.{AwaitResponse}
use Rattle.vm_machine.specs.declared.machine.Machine.{Machine}
use Rattle.vm_machine.specs.Outcomes.{Outcome, Done, Failed, CalledAt, CalledBy, Does, DoesBy, called, flattened}
use Rattle.vm_machine.proofs.Calling.{answers_first}
use Rattle.vm_machine.specs.Ephemerals.{answers_ready}
use Rattle.vm_parts.specs.Ephemerals.{any_ready}
use Rattle.vm_machine.specs.Phases.{is_processing}
use Rattle.invocation_vm.specs.Calls.{CallsAnyAwait, CallsAwaitBy, CallsFlatAwait, CallsProposal}
use Rattle.invocation_vm.specs.Views.{View, AnswersFirst, Calls, Leaves}

pub viewed : (old new : View) (m : Machine) → new.machine ≡ m → new.undecoded ≡ old.undecoded → new ≡ record old { machine = m }
viewed old new m h u = λ i. record { undecoded = u i; machine = h i }

not_done : {A : Type 0} (e : Error) (a : A) (v w : Machine) → Failed e v ≡ Done a w → ⊥
not_done e a v w h = cc

same_failed : {A : Type 0} (o : Outcome A) (d e : Error) (v w : Machine) → o ≡ Failed d v → o ≡ Failed e w → (e ≡ d) × (w ≡ v)
same_failed o d e v w h k = (cc, cc)

first_at : {A : Type 0} (o : Outcome A) (r : Result A Error) (e : Error) (old new : View) → old.machine.failure ≡ Some e → o ≡ Failed e old.machine → Does o r old.machine new.machine → new.undecoded ≡ old.undecoded → AnswersFirst e r old new
first_at o (Ok a) e old new is f d u = absurd (not_done e a old.machine new.machine (sym f ∙ d))
first_at {A = A} o (Err x) e old new is f d u =
    elim d as (λ _. AnswersFirst {A = A} e (Err x) old new) [
      | inl h ↦ (let s = same_failed o e x old.machine new.machine f h in (inl (ap (λ y. Err y) s.0), viewed old new old.machine s.1 u))
      | inr h ↦ (inr (ap (λ y. Err y) h.error), viewed old new old.machine (h.stays e is) u)
    ]

pub first_fed : (raws : List RawMessage) (after : View) (r : Result Unit AllocError) (e : Error) (old new : View) → old.machine.failure ≡ Some e → Leaves raws after r old new → r ≡ Ok tt
first_fed raws after (Ok t) e old new is l = refl
first_fed raws after (Err x) e old new is l = absurd (let z : Some e ≡ None = sym is ∙ l.err.lives in cc)

pub first_answered : {A : Type 0} (step : Machine → Outcome A) (r : Result A Error) (e : Error) (old new : View) → old.machine.failure ≡ Some e → Calls step r old new → AnswersFirst e r old new
first_answered step r e old new f c = first_at (called (step old.machine) old.machine) r e old new f (answers_first (step old.machine) e old.machine f) c.0 c.1

-- the outcome of a call on a failed machine
awaited_at : {A : Type 0} (f : Option Error) (R : Outcome A → Type 0) (e : Error) (v : Machine) (o : Outcome A) → f ≡ Some e → CalledAt f R v o → o ≡ Failed e v
awaited_at None R e v o is h = absurd (let z : None ≡ Some e = is in cc)
awaited_at (Some d) R e v o is h = h ∙ ap (λ x. Failed x v) (let z : Some d ≡ Some e = is in cc)

first_by : {A : Type 0} (R : Outcome A → Type 0) (r : Result A Error) (e : Error) (old new : View) → old.machine.failure ≡ Some e → ((o : Outcome A) → R o → o ≡ Failed e old.machine) → DoesBy R r old.machine new.machine → new.undecoded ≡ old.undecoded → AnswersFirst e r old new
first_by R (Ok a) e old new is h d u = first_at (Done a new.machine) (Ok a) e old new is (h (Done a new.machine) d) refl u
first_by {A = A} R (Err x) e old new is h d u =
    elim d as (λ _. AnswersFirst {A = A} e (Err x) old new) [
      | inl f ↦ first_at {A = A} (Failed x new.machine) (Err x) e old new is (h (Failed x new.machine) f) (inl refl) u
      | inr s ↦ (inr (ap (λ y. Err y) s.error), viewed old new old.machine (s.stays e is) u)
    ]

pub first_proposed : (handle : NotificationHandle) (exit : RunExitResult) (policy : RetryPolicy) (r : Result Unit Error) (e : Error) (old new : View) → old.machine.failure ≡ Some e → CallsProposal handle exit policy r old new → AnswersFirst e r old new
first_proposed handle exit policy r e old new is c =
    let R = Proposes handle exit policy old.machine in
    first_by (CalledBy R old.machine) r e old new is (λ o. awaited_at old.machine.failure R e old.machine o is) c.0 c.1

-- if no ephemeral read is answered
any_awaited : (future : UnresolvedFuture) (r : Result AwaitResponse Error) (e : Error) (old new : View) → old.machine.failure ≡ Some e → CallsAnyAwait future r old new → AnswersFirst e r old new
any_awaited future r e old new is (answered, (whole, u), flat) =
    let R = Awaits (tree_of future) old.machine in
    let mid : View = record old { machine = whole.1 } in
    let first = first_by (CalledBy R old.machine) whole.0 e old mid is (λ o. awaited_at old.machine.failure R e old.machine o is) whole.2 refl in
    let stays : (d : Error) → whole.0 ≡ Err d → (answered ≡ Err d) × (new.machine ≡ whole.1) = λ d h. subst (λ x. FollowsFirstPart x answered whole.1 new.machine) h whole.3 in
    elim first.0 as (λ _. AnswersFirst e r old new) [
      | inl x ↦ (inl (flat ∙ ap flattened (stays e x).0), viewed old new old.machine ((stays e x).1 ∙ ap (λ (v : View). v.machine) first.1) u)
      | inr x ↦ (inr (flat ∙ ap flattened (stays no_memory x).0), viewed old new old.machine ((stays no_memory x).1 ∙ ap (λ (v : View). v.machine) first.1) u)
    ]

-- a failed machine answers no ephemeral read
none_ready : (v : Machine) (e : Error) → v.failure ≡ Some e → answers_ready v ≡ false
none_ready v e is = ap (λ (f : Option Error). not (is_some f) && (is_processing v.phase && any_ready v.ephemeral)) is

pub first_awaited : (future : UnresolvedFuture) (r : Result AwaitResponse Error) (e : Error) (old new : View) → old.machine.failure ≡ Some e → CallsFlatAwait future r old new → AnswersFirst e r old new
first_awaited future r e old new is h =
    any_awaited future r e old new is (subst (λ b. CallsAwaitBy b future r old new) (none_ready old.machine e is) h)
