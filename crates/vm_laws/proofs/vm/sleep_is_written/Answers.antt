use Rattle.vm_laws.proofs.Sleeping.{slept, sleep_starved}
use Rattle.vm_laws.proofs.vm.sleep_is_written.Goals as goal

pub returns-clause-slept : goal.returns-clause-slept
returns-clause-slept c = slept

pub returns-clause-starved : goal.returns-clause-starved
returns-clause-starved c = sleep_starved
