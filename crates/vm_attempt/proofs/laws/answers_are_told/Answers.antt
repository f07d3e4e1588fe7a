use Rattle.vm_attempt.proofs.Advanced.{kept_told}
use Rattle.vm_attempt.proofs.laws.answers_are_told.Goals as goal

pub returns : goal.returns
returns c = λ fixed r u f p. kept_told fixed r f (u p)
