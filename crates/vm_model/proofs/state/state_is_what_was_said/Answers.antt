use Rattle.vm_model.proofs.SaidLast.{all_known, keys_said, last_says, none_says}
use Rattle.vm_model.proofs.state.state_is_what_was_said.Goals as goal

pub returns-clause-last : goal.returns-clause-last
returns-clause-last c = last_says

pub returns-clause-untouched : goal.returns-clause-untouched
returns-clause-untouched c = none_says

pub returns-clause-all_known : goal.returns-clause-all_known
returns-clause-all_known c = all_known

pub returns-clause-keys : goal.returns-clause-keys
returns-clause-keys c = keys_said
