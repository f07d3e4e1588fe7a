use Rattle.vm_attempt.proofs.Blaming.{frames_fail}
use Rattle.vm_attempt.proofs.Entries.{journals_come}
use Rattle.vm_attempt.proofs.laws.journals_come.Goals as goal

pub returns-clause-fails : goal.returns-clause-fails
returns-clause-fails c = frames_fail

pub returns-clause-comes : goal.returns-clause-comes
returns-clause-comes c = journals_come
