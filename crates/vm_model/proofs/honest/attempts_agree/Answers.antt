use Rattle.vm_model.proofs.Honesty.{attempts_agree}
use Rattle.vm_model.proofs.honest.attempts_agree.Goals as goal

pub returns : goal.returns
returns c = attempts_agree
