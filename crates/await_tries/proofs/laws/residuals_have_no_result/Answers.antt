use Rattle.await_tries.proofs.Messages.{none_present}
use Rattle.await_tries.proofs.laws.residuals_have_no_result.Goals as goal

pub returns : goal.returns
returns c = none_present
