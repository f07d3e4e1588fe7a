-- The code of a handler as a tree: the steps that it makes, and what comes after each answer.
use Rattle.std.specs.Prelude.{◌≡◌, refl, List, [], ◌∷◌}
use Rattle.vm_types.specs.declared.steps.Answer.{Answer}
use Rattle.vm_types.specs.declared.steps.Step.{Step}
use Rattle.vm_types.specs.declared.steps.Step.TheVariants as step
use Rattle.handler_flows.specs.declared.exit.Fault.{Fault}

-- the code of a part that gives an `A`: it gives a value, ends by a fault, is over, or makes a step
-- and goes on by its answer
pub data Code (A : Type 0) : Type 0 where
  Give : A → Code A
  Fail : Fault → Code A
  Over : Code A
  Ask : Step → (Answer → Code A) → Code A

-- what code does over a list of answers: it gives a value or ends by a fault, with answers left, or
-- its next step has no answer
pub data FlowOutcome (A : Type 0) : Type 0 where
  Given : A → List Answer → FlowOutcome A
  Failed : Fault → List Answer → FlowOutcome A
  Next : Step → FlowOutcome A

-- what code does over these answers
abbrev pub outcome : {A : Type 0} → Code A → List Answer → FlowOutcome A
outcome (Give value) answers = Given value answers
outcome (Fail fault) answers = Failed fault answers
outcome Over answers = Next step.End
outcome (Ask step next) [] = Next step
outcome (Ask step next) (answer ∷ answers) = outcome (next answer) answers

-- one part, and then another by its value
infixl 10 ◌>>=◌
unfoldable pub ◌>>=◌ : {A B : Type 0} → Code A → (A → Code B) → Code B
(Give value) >>= next = next value
(Fail fault) >>= next = Fail fault
Over >>= next = Over
(Ask step after) >>= next = Ask step (λ answer. after answer >>= next)

-- a part, and another by its fault
unfoldable pub rescued : {A : Type 0} → Code A → (Fault → Code A) → Code A
rescued (Give value) rescue = Give value
rescued (Fail fault) rescue = rescue fault
rescued Over rescue = Over
rescued (Ask step next) rescue = Ask step (λ answer. rescued (next answer) rescue)

-- an outcome, and then what follows its value
abbrev pub onward : {A B : Type 0} → FlowOutcome A → (A → Code B) → FlowOutcome B
onward (Given value answers) next = outcome (next value) answers
onward (Failed fault answers) next = Failed fault answers
onward (Next step) next = Next step

-- an outcome, and what follows its fault
abbrev pub aside : {A : Type 0} → FlowOutcome A → (Fault → Code A) → FlowOutcome A
aside (Given value answers) rescue = Given value answers
aside (Failed fault answers) rescue = outcome (rescue fault) answers
aside (Next step) rescue = Next step

-- the second part begins at the answers that the first leaves
pub goes_on : {A B : Type 0} (code : Code A) (next : A → Code B) (answers : List Answer)
    → outcome (code >>= next) answers ≡ onward (outcome code answers) next
unfolding ◌>>=◌
goes_on (Give value) next answers = refl
goes_on (Fail fault) next answers = refl
goes_on Over next answers = refl
goes_on (Ask step after) next [] = refl
goes_on (Ask step after) next (answer ∷ answers) = goes_on (after answer) next answers

-- so does the part that rescues
pub is_rescued : {A : Type 0} (code : Code A) (rescue : Fault → Code A) (answers : List Answer)
    → outcome (rescued code rescue) answers ≡ aside (outcome code answers) rescue
unfolding rescued
is_rescued (Give value) rescue answers = refl
is_rescued (Fail fault) rescue answers = refl
is_rescued Over rescue answers = refl
is_rescued (Ask step next) rescue [] = refl
is_rescued (Ask step next) rescue (answer ∷ answers) = is_rescued (next answer) rescue answers
