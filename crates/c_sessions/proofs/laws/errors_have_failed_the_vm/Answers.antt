use Rattle.c_sessions.proofs.Erring.{error_failed}
use Rattle.c_sessions.proofs.laws.errors_have_failed_the_vm.Goals as goal

pub returns : goal.returns
returns c = error_failed
