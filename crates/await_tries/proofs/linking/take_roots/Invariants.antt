use Rattle.std.proofs.Common.{◌≡◌, ◌++◌, take, drop, reverse}
use Rattle.await_tries.proofs.linking.take_roots.Given as goal

abbrev pub invariant-loop-i : goal.invariant-loop-i
invariant-loop-i l = record {
  kids : l.kids.items ≡ l.initial.kids.items ++ take l.i (reverse l.initial.roots.items);
  roots : reverse l.roots.items ≡ drop l.i (reverse l.initial.roots.items);
}
