use Rattle.std.proofs.Common.{◌≡◌, take, drop, reverse}
use Rattle.await_trees.proofs.copying.take_trees.Given as goal

abbrev pub invariant-loop-i : goal.invariant-loop-i
invariant-loop-i l = record {
  row : l.row ≡ take l.i (reverse l.initial.trees.items);
  trees : reverse l.trees.items ≡ drop l.i (reverse l.initial.trees.items);
}
