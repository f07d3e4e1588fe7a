use Rattle.await_trees.proofs.Sameness.{same_outcome, same_awake}
use Rattle.await_trees.proofs.laws.order_and_repetition_change_nothing.Goals as goal

pub returns : goal.returns
returns c = record { outcome = λ at t u e. same_outcome at e; awake = λ at t u e. same_awake at e }
