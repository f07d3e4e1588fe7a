use Rattle.vm_model.proofs.Standing.{command_stands, read_stands}
use Rattle.vm_model.proofs.told.own_commands_stand.Goals as goal

pub returns-clause-commands : goal.returns-clause-commands
returns-clause-commands c = command_stands

pub returns-clause-reads : goal.returns-clause-reads
returns-clause-reads c = read_stands
