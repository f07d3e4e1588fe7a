use Rattle.c_sessions.proofs.Erring.{memory_status, refused_status, reported_status}
use Rattle.c_sessions.proofs.laws.out_of_memory_has_a_status_of_its_own.Goals as goal

pub returns-clause-memory : goal.returns-clause-memory
returns-clause-memory c = memory_status

pub returns-clause-other : goal.returns-clause-other
returns-clause-other c = refused_status

pub returns-clause-reported : goal.returns-clause-reported
returns-clause-reported c = reported_status
