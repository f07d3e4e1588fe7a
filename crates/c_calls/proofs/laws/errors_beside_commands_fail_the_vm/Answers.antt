use Rattle.c_calls.proofs.Commands.{awakeable_fails, close_fails, input_fails, propose_fails, report_fails, retryable_fails, signal_fails, take_fails}
use Rattle.c_calls.proofs.laws.errors_beside_commands_fail_the_vm.Goals as goal

pub returns-clause-awakeable : goal.returns-clause-awakeable
returns-clause-awakeable c = awakeable_fails

pub returns-clause-signal : goal.returns-clause-signal
returns-clause-signal c = signal_fails

pub returns-clause-take : goal.returns-clause-take
returns-clause-take c = take_fails

pub returns-clause-input : goal.returns-clause-input
returns-clause-input c = input_fails

pub returns-clause-close : goal.returns-clause-close
returns-clause-close c = close_fails

pub returns-clause-propose : goal.returns-clause-propose
returns-clause-propose c = propose_fails

pub returns-clause-retryable : goal.returns-clause-retryable
returns-clause-retryable c = retryable_fails

pub returns-clause-report : goal.returns-clause-report
returns-clause-report c = report_fails
