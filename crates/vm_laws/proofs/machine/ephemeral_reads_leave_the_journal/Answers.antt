use Rattle.vm_laws.proofs.Ephemerals.{notification_leaves, read_leaves, take_leaves}
use Rattle.vm_laws.proofs.machine.ephemeral_reads_leave_the_journal.Goals as goal

pub returns-clause-reads : goal.returns-clause-reads
returns-clause-reads c = read_leaves

pub returns-clause-takes : goal.returns-clause-takes
returns-clause-takes c = take_leaves

pub returns-clause-notifications : goal.returns-clause-notifications
returns-clause-notifications c = notification_leaves
