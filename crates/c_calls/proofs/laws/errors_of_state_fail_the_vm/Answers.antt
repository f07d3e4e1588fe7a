use Rattle.c_calls.proofs.Commands.{clear_all_fails, clear_fails, ephemeral_fails, keys_fails, set_fails, taken_fails, value_fails}
use Rattle.c_calls.proofs.laws.errors_of_state_fail_the_vm.Goals as goal

pub returns-clause-set : goal.returns-clause-set
returns-clause-set c = set_fails

pub returns-clause-clear : goal.returns-clause-clear
returns-clause-clear c = clear_fails

pub returns-clause-clear_all : goal.returns-clause-clear_all
returns-clause-clear_all c = clear_all_fails

pub returns-clause-get : goal.returns-clause-get
returns-clause-get c = value_fails

pub returns-clause-keys : goal.returns-clause-keys
returns-clause-keys c = keys_fails

pub returns-clause-ephemeral : goal.returns-clause-ephemeral
returns-clause-ephemeral c = ephemeral_fails

pub returns-clause-taken : goal.returns-clause-taken
returns-clause-taken c = taken_fails
