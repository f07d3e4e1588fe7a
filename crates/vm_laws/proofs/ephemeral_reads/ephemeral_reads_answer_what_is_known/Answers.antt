use Rattle.vm_laws.proofs.KnownReads.{read_answered, read_refused}
use Rattle.vm_laws.proofs.ephemeral_reads.ephemeral_reads_answer_what_is_known.Goals as goal

pub returns-clause-refused : goal.returns-clause-refused
returns-clause-refused c = read_refused

pub returns-clause-answered : goal.returns-clause-answered
returns-clause-answered c = read_answered
