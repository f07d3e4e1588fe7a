use Rattle.std.proofs.Common.{take}
use Rattle.line_parts.specs.Values.{ArePairs}
use Rattle.line_parts.proofs.values.pairs_of.Given as goal

abbrev pub invariant-loop-word : goal.invariant-loop-word
invariant-loop-word l = ArePairs (take l.word-index l.words) l.pairs
