use Rattle.vm_model.proofs.Honesty.{run_is_undisturbed, whole_round, whole_rounds}
use Rattle.vm_model.proofs.honest.whole_rounds.Goals as goal

pub returns-clause-round : goal.returns-clause-round
returns-clause-round c = whole_round

pub returns-clause-rounds : goal.returns-clause-rounds
returns-clause-rounds c = whole_rounds

pub returns-clause-undisturbed : goal.returns-clause-undisturbed
returns-clause-undisturbed c = run_is_undisturbed
