use Rattle.std.proofs.Common.{◌≡◌, take}
use Rattle.std.specs.Prelude.{map}
use Rattle.c_calls.specs.Given.{pair_of}
use Rattle.c_calls.proofs.given.pairs_of.Given as goal

abbrev pub invariant-loop-pair : goal.invariant-loop-pair
invariant-loop-pair l = l.texts ≡ map pair_of (take l.pair-index l.pairs)
