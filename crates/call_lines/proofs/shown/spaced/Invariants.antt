use Rattle.std.proofs.Common.{◌≡◌, ◌++◌, take}
use Rattle.call_lines.specs.Texts.{spaced}
use Rattle.call_lines.proofs.shown.spaced.Given as goal

abbrev pub invariant-loop-item : goal.invariant-loop-item
invariant-loop-item g l = l.line ≡ l.initial.line ++ spaced g.T.Shown.text (take l.item-index l.items)
