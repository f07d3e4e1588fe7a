use Rattle.std.proofs.Common.{codes, take}
use Rattle.lines.specs.Fields.{texts_named}
use Rattle.line_parts.specs.Targets.{AreHeaders}
use Rattle.call_lines.proofs.callees.headers_of.Given as goal

abbrev pub invariant-loop-word : goal.invariant-loop-word
invariant-loop-word l = AreHeaders (texts_named (codes "header=") (take l.word-index l.words)) l.headers
