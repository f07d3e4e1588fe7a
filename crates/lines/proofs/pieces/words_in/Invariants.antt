use Rattle.std.proofs.Common.{◌≡◌, ◌≤◌, ◌-◌, length}
use Rattle.lines.specs.declared.pieces.Charset.TheVariants.{Ascii}
use Rattle.lines.proofs.Wording.{IsAsciiTo, IsCutToWords}
use Rattle.lines.proofs.pieces.words_in.Given as goal

abbrev pub decreases-loop-i : goal.decreases-loop-i
decreases-loop-i l = length l.text - l.i

abbrev pub invariant-loop-i : goal.invariant-loop-i
invariant-loop-i l = IsCutToWords l.start l.i l.text l.words.items l.nesting × (l.charset ≡ Ascii → IsAsciiTo l.i l.text) × (l.i ≤ length l.text)
