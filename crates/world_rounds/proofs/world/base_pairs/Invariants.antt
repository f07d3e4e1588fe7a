use Rattle.std.proofs.Common.{◌≡◌}
use Rattle.world_rounds.specs.Worlds.{pairs_given}
use Rattle.world_rounds.proofs.world.base_pairs.Given as goal

abbrev pub invariant-loop-key : goal.invariant-loop-key
invariant-loop-key l = record { so_far : l.base ≡ pairs_given l.yielded }
