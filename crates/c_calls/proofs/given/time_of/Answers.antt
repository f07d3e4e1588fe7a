use Rattle.std.proofs.Common.{arith}
use Rattle.c_calls.proofs.given.time_of.Goals as goal

pub returns : goal.returns
returns c = let nanos = c.from_millis.ensures in omega (arith, nanos)
