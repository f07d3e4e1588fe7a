use Rattle.vm_model.proofs.Carried.{completions_once, replays_once, other_once}
use Rattle.vm_model.proofs.Once.{run_once}
use Rattle.vm_model.proofs.lists.completions_come_once.Goals as goal

pub returns-clause-told : goal.returns-clause-told
returns-clause-told c = completions_once

pub returns-clause-attempts : goal.returns-clause-attempts
returns-clause-attempts c = run_once

pub returns-clause-replayed : goal.returns-clause-replayed
returns-clause-replayed c = λ s m n input ns cs p e once none. replays_once s m input ns cs once n p e none

pub returns-clause-versions : goal.returns-clause-versions
returns-clause-versions c = λ s m other n k input ns cs p q. other_once s m other input ns cs n k p q
