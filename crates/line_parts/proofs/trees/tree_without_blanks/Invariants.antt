use Rattle.std.proofs.Common.{length}
use Rattle.await_trees.specs.Tree.{Tree}
use Rattle.line_parts.specs.OpenNodes.{GoesOn, StandsAt}
use Rattle.line_parts.specs.Trees.{SpellsTree}
use Rattle.line_parts.proofs.trees.tree_without_blanks.Given as goal

abbrev pub invariant-loop-rest : goal.invariant-loop-rest
invariant-loop-rest l = record {
  stands : StandsAt l.text l.nodes.items l.last l.rest;
  goes_on : (t : Tree) → SpellsTree l.text t → GoesOn (length l.nodes.items) l.last l.rest;
}

abbrev pub decreases-loop-rest : goal.decreases-loop-rest
decreases-loop-rest l = length l.rest
