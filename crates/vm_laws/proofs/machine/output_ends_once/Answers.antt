use Rattle.vm_laws.proofs.Endings.{issued_writes, awakeable_writes, signal_writes, read_writes, await_writes, take_writes, input_writes, end_writes, report_writes, message_writes, proposals_write, malformed_writes, close_writes}
use Rattle.vm_laws.proofs.Ephemerals.{ephemeral_writes, take_ephemeral_writes}
use Rattle.vm_laws.proofs.machine.output_ends_once.Goals as goal

pub returns-clause-commands : goal.returns-clause-commands
returns-clause-commands c = issued_writes

pub returns-clause-awakeables : goal.returns-clause-awakeables
returns-clause-awakeables c = awakeable_writes

pub returns-clause-signals : goal.returns-clause-signals
returns-clause-signals c = signal_writes

pub returns-clause-reads : goal.returns-clause-reads
returns-clause-reads c = read_writes

pub returns-clause-awaits : goal.returns-clause-awaits
returns-clause-awaits c = await_writes

pub returns-clause-takes : goal.returns-clause-takes
returns-clause-takes c = take_writes

pub returns-clause-ephemeral_reads : goal.returns-clause-ephemeral_reads
returns-clause-ephemeral_reads c = ephemeral_writes

pub returns-clause-ephemeral_takes : goal.returns-clause-ephemeral_takes
returns-clause-ephemeral_takes c = take_ephemeral_writes

pub returns-clause-inputs : goal.returns-clause-inputs
returns-clause-inputs c = input_writes

pub returns-clause-ends : goal.returns-clause-ends
returns-clause-ends c = end_writes

pub returns-clause-reports : goal.returns-clause-reports
returns-clause-reports c = report_writes

pub returns-clause-messages : goal.returns-clause-messages
returns-clause-messages c = message_writes

pub returns-clause-malformed : goal.returns-clause-malformed
returns-clause-malformed c = malformed_writes

pub returns-clause-closings : goal.returns-clause-closings
returns-clause-closings c = close_writes

pub returns-clause-proposals : goal.returns-clause-proposals
returns-clause-proposals c = proposals_write
