use Rattle.vm_model.proofs.Uses.{arrivals_used, commands_used}
use Rattle.vm_model.proofs.lists.lists_are_used.Goals as goal

pub returns-clause-commands : goal.returns-clause-commands
returns-clause-commands c = commands_used

pub returns-clause-arrivals : goal.returns-clause-arrivals
returns-clause-arrivals c = arrivals_used
