use Rattle.std.proofs.Common.{◌≡◌, ◌++◌, take}
use Rattle.vm_layers.proofs.short.add_texts.Given as goal

abbrev pub invariant-loop-name : goal.invariant-loop-name
invariant-loop-name l = l.names ≡ l.fn.names ++ take l.name-index l.more
