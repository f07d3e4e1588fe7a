use Rattle.vm_attempt.proofs.Following.{agreeing_follows}
use Rattle.vm_attempt.proofs.laws.calls_follow.Goals as goal

pub returns : goal.returns
returns c = agreeing_follows
