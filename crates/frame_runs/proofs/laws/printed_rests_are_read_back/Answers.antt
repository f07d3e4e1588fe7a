use Rattle.std.proofs.Common.{arith}
use Rattle.frame_runs.proofs.ReadingBack.{rest_read_back}
use Rattle.frame_runs.proofs.laws.printed_rests_are_read_back.Goals as goal

pub returns : goal.returns
returns c = rest_read_back c.args._rest.now (λ k. omega (arith, c.type_inv._rest k))
