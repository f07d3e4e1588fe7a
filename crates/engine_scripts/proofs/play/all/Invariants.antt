use Rattle.std.proofs.Common.{◌≡◌, length}
use Rattle.std.specs.Vec.Iter.{into_iter_items, into_iter_len}
use Rattle.engine_scripts.proofs.Playing.{DoesOn}
use Rattle.engine_scripts.proofs.play.all.Given as goal

abbrev pub invariant-loop-numbered : goal.invariant-loop-numbered
invariant-loop-numbered l =
    DoesOn (into_iter_items l.initial.numbered-iterator) (into_iter_items l.numbered-iterator) l.initial.engine l.initial.report l.engine l.report
    × (into_iter_len l.numbered-iterator ≡ length (into_iter_items l.numbered-iterator))
