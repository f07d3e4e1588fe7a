use Rattle.invocation_vm.proofs.Failing.{first_answered, first_awaited, first_fed, first_proposed}
use Rattle.vm_laws.proofs.SeveralCalls.{several_answer_first}
use Rattle.vm_laws.proofs.vm.first_error_is_answered.Goals as goal

pub returns-clause-calls : goal.returns-clause-calls
returns-clause-calls g c = first_answered

pub returns-clause-awaits : goal.returns-clause-awaits
returns-clause-awaits g c = first_awaited

pub returns-clause-proposals : goal.returns-clause-proposals
returns-clause-proposals g c = first_proposed

pub returns-clause-quiet : goal.returns-clause-quiet
returns-clause-quiet g c = first_fed

pub returns-clause-several : goal.returns-clause-several
returns-clause-several g c = several_answer_first
