use Rattle.std.proofs.Common.{◌≡◌, take}
use Rattle.std.specs.Prelude.{map}
use Rattle.c_calls.specs.Given.{header_of}
use Rattle.c_calls.proofs.given.headers_of.Given as goal

abbrev pub invariant-loop-pair : goal.invariant-loop-pair
invariant-loop-pair l = l.headers ≡ map header_of (take l.pair-index l.pairs)
