use Rattle.std.proofs.Common.{◌≡◌, take}
use Rattle.line_parts.specs.Values.{words_without}
use Rattle.line_parts.proofs.arguments.others.Given as goal

abbrev pub invariant-loop-word : goal.invariant-loop-word
invariant-loop-word l = l.others.items ≡ words_without l.flag (take l.word-index l.words)
