use Rattle.c_calls.proofs.Told.{head_refuses, output_refuses, ready_refuses}
use Rattle.c_calls.proofs.laws.queries_have_errors_of_their_own.Goals as goal

pub returns-clause-ready : goal.returns-clause-ready
returns-clause-ready c = ready_refuses

pub returns-clause-head : goal.returns-clause-head
returns-clause-head c = head_refuses

pub returns-clause-output : goal.returns-clause-output
returns-clause-output c = output_refuses
