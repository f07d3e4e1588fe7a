use Rattle.std.proofs.Common.{◌≡◌, length}
use Rattle.std.specs.Vec.Iter.{into_iter_items, into_iter_len}
use Rattle.engine_lines.proofs.Handlers.{TargetsOn}
use Rattle.engine_lines.proofs.targets.targets_of.Given as goal

abbrev pub invariant-loop-planned : goal.invariant-loop-planned
invariant-loop-planned l =
    TargetsOn (into_iter_items l.initial.planned-iterator) (into_iter_items l.planned-iterator) l.targets.items
    × (into_iter_len l.planned-iterator ≡ length (into_iter_items l.planned-iterator))
