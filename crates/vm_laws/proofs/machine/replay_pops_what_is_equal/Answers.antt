use Rattle.vm_laws.proofs.Replaying.{pops, none_left, other_type, not_read, not_equal}
use Rattle.vm_laws.proofs.machine.replay_pops_what_is_equal.Goals as goal

pub returns-clause-popped : goal.returns-clause-popped
returns-clause-popped c = pops

pub returns-clause-none_left : goal.returns-clause-none_left
returns-clause-none_left c = none_left

pub returns-clause-other_type : goal.returns-clause-other_type
returns-clause-other_type c = other_type

pub returns-clause-not_read : goal.returns-clause-not_read
returns-clause-not_read c = not_read

pub returns-clause-not_equal : goal.returns-clause-not_equal
returns-clause-not_equal c = not_equal
