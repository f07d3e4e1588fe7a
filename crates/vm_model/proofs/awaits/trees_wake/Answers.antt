use Rattle.vm_model.proofs.Trees.{tree_least, tree_never}
use Rattle.vm_model.proofs.awaits.trees_wake.Goals as goal

pub returns-clause-ends : goal.returns-clause-ends
returns-clause-ends c = λ s t p n queued two h. tree_least s t p queued two n h

pub returns-clause-never : goal.returns-clause-never
returns-clause-never c = λ s t p n queued two h there. tree_never s t p queued two h n there
