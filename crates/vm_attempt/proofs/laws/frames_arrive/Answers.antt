use Rattle.vm_attempt.proofs.Blaming.{frames_arrive}
use Rattle.vm_attempt.proofs.laws.frames_arrive.Goals as goal

pub returns : goal.returns
returns c = frames_arrive
