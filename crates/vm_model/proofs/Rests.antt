-- As long as a call that asks for one command or none isn't answered, no part of a call is made.
use Rattle.std.proofs.Common.{◌≡◌, ℕ, zero, suc, List, [], ◌∷◌, ◌++◌, Some, refl, sym, ap, ◌∙◌, subst, append_assoc, append-nil}
use Rattle.std.proofs.lemmas.Option.{same_Some}
use Rattle.journal_protocol.specs.RawMessage.{RawMessage}
use Rattle.vm_types.specs.declared.steps.Answer.{Answer}
use Rattle.vm_asks.specs.Asks.{ask_of}
use Rattle.vm_model.specs.Calls.{Meaning, Setup}
use Rattle.vm_model.specs.Histories.{Knowledge, Made}
use Rattle.vm_model.specs.Moves.{Point, after, and_then, longer, next}
use Rattle.vm_model.proofs.Cancelling.{longer_list}
use Rattle.vm_model.proofs.Compared.{after_answers}
use Rattle.vm_model.proofs.Parts.{IsOfOne, next_keeps}
use Rattle.vm_model.proofs.Runs.{and_then_some, made_after}

-- no answer comes between
none_between : (xs gained more ys : List Answer) → ys ≡ (xs ++ gained) ++ more → ys ≡ xs → gained ≡ []
none_between xs [] more ys e same = refl
none_between xs (a ∷ gained) more ys e same = absurd (longer_list xs a (gained ++ more) (sym same ∙ e ∙ append_assoc xs (a ∷ gained) more))

after_keeps : (s : Setup) (m : Meaning) (n : ℕ) (p q : Point) → IsOfOne (ask_of s.version (m p.answers)) → q.answers ≡ p.answers → after s m n p ≡ Some q → q.derived.parts ≡ p.derived.parts
after_keeps s m zero p q one same h = ap (λ z. z.derived.parts) (sym (same_Some p q h))
after_keeps s m (suc n) p q one same h =
    let x = and_then_some (next s m p) (after s m n) q h in
    let r = x.0 in
    let a = after_answers s m 1 p r (ap (λ o. and_then o (after s m 0)) x.1) in
    let b = after_answers s m n r q x.2 in
    let none : a.0 ≡ [] = none_between p.answers a.0 b.0 q.answers (b.1 ∙ ap (λ l. l ++ b.0) a.1) same in
    let still : r.answers ≡ p.answers = a.1 ∙ ap (λ l. p.answers ++ l) none ∙ append-nil p.answers in
    after_keeps s m n r q (subst (λ l. IsOfOne (ask_of s.version (m l))) (sym still) one) (same ∙ sym still) x.2 ∙ next_keeps s m p r one x.1

pub made_keeps : (s : Setup) (m : Meaning) (K : Knowledge) (n : ℕ) (p : Point) (made : List RawMessage) (q : Point) → IsOfOne (ask_of s.version (m p.answers)) → q.answers ≡ p.answers → Made s m K n p made q → q.derived.parts ≡ p.derived.parts
made_keeps s m K n p made q one same h = after_keeps s m n (longer made p) q one same (made_after s m K n p made q h)
