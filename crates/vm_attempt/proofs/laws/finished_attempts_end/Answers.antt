use Rattle.vm_attempt.proofs.Ending.{answers_so_far, step_ends}
use Rattle.vm_attempt.proofs.laws.finished_attempts_end.Goals as goal

pub returns-clause-step : goal.returns-clause-step
returns-clause-step c = step_ends

pub returns-clause-answers : goal.returns-clause-answers
returns-clause-answers c = answers_so_far
