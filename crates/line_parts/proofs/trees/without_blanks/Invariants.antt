use Rattle.std.proofs.Common.{◌≡◌, false, ◌++◌, drop}
use Rattle.line_parts.specs.Trees.{without_blanks}
use Rattle.line_parts.proofs.trees.without_blanks.Given as goal

abbrev pub invariant-loop-byte : goal.invariant-loop-byte
invariant-loop-byte l = l.tight.items ++ without_blanks l.after_comma (drop l.byte-index l.text) ≡ without_blanks false l.text
