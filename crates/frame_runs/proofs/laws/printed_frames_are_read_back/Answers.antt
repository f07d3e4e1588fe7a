use Rattle.std.proofs.Common.{arith}
use Rattle.frame_runs.proofs.ReadingBack.{frame_read_back}
use Rattle.frame_runs.proofs.laws.printed_frames_are_read_back.Goals as goal

pub returns : goal.returns
returns c = frame_read_back (record { ty = c.args._ty; body = c.args._body.now }) (λ k. omega (arith, c.type_inv._body k))
