use Rattle.vm_laws.proofs.SeveralCalls.{makes_both}
use Rattle.vm_laws.proofs.deadlines.deadlines_follow_their_calls.Goals as goal

pub returns : goal.returns
returns c = makes_both
