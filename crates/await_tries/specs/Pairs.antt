-- The first of two leaves: most awaits are of one handle, and end by the cancel signal too.
use Rattle.std.specs.Prelude.{ℕ}
use Rattle.await_trees.specs.Tree.{Tree, leaf, node, none, more}
use Rattle.journal_attempt.specs.declared.future.FutureKind.TheVariants.{FirstCompleted}

-- it is awake once one of the two handles has a result
abbrev pub first_of_two : ℕ → ℕ → Tree
first_of_two one other = node FirstCompleted (more (leaf one) (more (leaf other) none))
