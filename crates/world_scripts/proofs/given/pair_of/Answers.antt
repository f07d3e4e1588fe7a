use Rattle.std.proofs.Common.{arith}
use Rattle.std.proofs.lemmas.Grind.{common_steps}
use Rattle.world_scripts.proofs.Pairing.{count_blamed}
use Rattle.world_scripts.proofs.given.pair_of.Goals.{in_default-via-then-as_slice-lt2, in_default-via-else-as_slice-lt2+else-this-lt3}
use Rattle.world_scripts.proofs.given.pair_of.Goals as goal

pub returns-in_default-clause-none : goal.returns-in_default-clause-none
returns-in_default-clause-none c = elim c.in_default.branch [
  | in_default-via-then-as_slice-lt2 w ↦ grind (arith, common_steps, count_blamed)
  | in_default-via-else-as_slice-lt2+else-this-lt3 w ↦ grind (arith, common_steps, count_blamed)
]
