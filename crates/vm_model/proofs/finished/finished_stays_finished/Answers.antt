use Rattle.vm_model.specs.Histories.{Honest}
use Rattle.vm_model.proofs.Ended.{attempt_is_quiet, rounds_are_quiet, run_makes_no_more}
use Rattle.vm_model.proofs.finished.finished_stays_finished.Goals as goal

pub returns-clause-attempt : goal.returns-clause-attempt
returns-clause-attempt c = attempt_is_quiet

pub returns-clause-rounds : goal.returns-clause-rounds
returns-clause-rounds c = λ s m base. rounds_are_quiet s m (Honest base)

pub returns-clause-undisturbed : goal.returns-clause-undisturbed
returns-clause-undisturbed c = run_makes_no_more
