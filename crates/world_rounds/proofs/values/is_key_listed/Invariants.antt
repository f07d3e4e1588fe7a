use Rattle.std.proofs.Common.{◌≡◌, drop}
use Rattle.world_rounds.specs.States.{is_key_listed}
use Rattle.world_rounds.proofs.values.is_key_listed.Given as goal

abbrev pub invariant-loop-k : goal.invariant-loop-k
invariant-loop-k l = record { left : is_key_listed (drop l.k-index l.keys) l.key ≡ is_key_listed l.keys l.key }
