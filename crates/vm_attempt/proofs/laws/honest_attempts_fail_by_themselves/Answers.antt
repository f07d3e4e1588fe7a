use Rattle.vm_attempt.specs.Blames.{RefusedResult}
use Rattle.vm_attempt.proofs.Replayed.{honest_fails}
use Rattle.vm_attempt.proofs.laws.honest_attempts_fail_by_themselves.Goals as goal

pub returns : goal.returns
returns c = λ fixed r fed closed answers e. honest_fails fixed fed closed answers (RefusedResult fixed r) e
