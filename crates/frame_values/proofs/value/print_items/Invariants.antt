use Rattle.std.proofs.Common.{◌≡◌, ◌++◌, take, flat_map}
use Rattle.std.specs.Prelude.{codes}
use Rattle.frame_values.proofs.value.print_items.Given as goal

abbrev pub invariant-loop-item : goal.invariant-loop-item
invariant-loop-item g l = l.line ≡ l.initial.line ++ flat_map (λ it. codes ", " ++ g.T.Value.notation.text it) (take l.item-index l.others)
