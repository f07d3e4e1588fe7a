use Rattle.vm_model.proofs.Results.{newest_present, present_next}
use Rattle.vm_model.proofs.Took.{take_answers, told_took}
use Rattle.vm_model.proofs.awaits.results_are_present.Goals as goal

pub returns-clause-present : goal.returns-clause-present
returns-clause-present c = present_next

pub returns-clause-completions : goal.returns-clause-completions
returns-clause-completions c = newest_present

pub returns-clause-taken : goal.returns-clause-taken
returns-clause-taken c = told_took

pub returns-clause-answered : goal.returns-clause-answered
returns-clause-answered c = take_answers
