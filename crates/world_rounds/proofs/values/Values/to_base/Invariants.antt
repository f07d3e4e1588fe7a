use Rattle.std.proofs.Common.{◌≡◌, ◌++◌, true}
use Rattle.world_rounds.specs.States.{pairs_in, values_in}
use Rattle.world_rounds.proofs.values.Values.to_base.Given as goal

abbrev pub invariant-loop-key : goal.invariant-loop-key
invariant-loop-key l = record { so_far : l.base ++ pairs_in (λ key. true) l.key-iterator ≡ values_in l.self }
