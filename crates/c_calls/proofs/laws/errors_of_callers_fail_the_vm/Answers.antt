use Rattle.c_calls.proofs.Commands.{attach_fails, call_fails, deadline_fails, get_fails, send_fails}
use Rattle.c_calls.proofs.laws.errors_of_callers_fail_the_vm.Goals as goal

pub returns-clause-call : goal.returns-clause-call
returns-clause-call c = call_fails

pub returns-clause-deadline : goal.returns-clause-deadline
returns-clause-deadline c = deadline_fails

pub returns-clause-send : goal.returns-clause-send
returns-clause-send c = send_fails

pub returns-clause-attach : goal.returns-clause-attach
returns-clause-attach c = attach_fails

pub returns-clause-get : goal.returns-clause-get
returns-clause-get c = get_fails
