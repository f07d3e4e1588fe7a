use Rattle.c_calls.proofs.Commands.{awakened_fails, cancel_fails, end_fails, peek_fails, promise_fails, promised_fails, run_fails, signalled_fails, sleep_fails, write_fails}
use Rattle.c_calls.proofs.laws.errors_of_commands_fail_the_vm.Goals as goal

pub returns-clause-sleep : goal.returns-clause-sleep
returns-clause-sleep c = sleep_fails

pub returns-clause-promise : goal.returns-clause-promise
returns-clause-promise c = promise_fails

pub returns-clause-peek : goal.returns-clause-peek
returns-clause-peek c = peek_fails

pub returns-clause-promised : goal.returns-clause-promised
returns-clause-promised c = promised_fails

pub returns-clause-awakened : goal.returns-clause-awakened
returns-clause-awakened c = awakened_fails

pub returns-clause-signalled : goal.returns-clause-signalled
returns-clause-signalled c = signalled_fails

pub returns-clause-cancel : goal.returns-clause-cancel
returns-clause-cancel c = cancel_fails

pub returns-clause-write : goal.returns-clause-write
returns-clause-write c = write_fails

pub returns-clause-end : goal.returns-clause-end
returns-clause-end c = end_fails

pub returns-clause-run : goal.returns-clause-run
returns-clause-run c = run_fails
