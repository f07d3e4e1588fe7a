use Rattle.std.proofs.Common.{take}
use Rattle.line_parts.specs.Values.{HasFlag}
use Rattle.line_parts.proofs.arguments.stands_once.Given as goal

abbrev pub invariant-loop-word : goal.invariant-loop-word
invariant-loop-word l = HasFlag l.flag (take l.word-index l.words) l.stands
