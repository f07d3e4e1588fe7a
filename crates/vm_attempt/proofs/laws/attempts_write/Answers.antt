use Rattle.vm_attempt.proofs.Coming.{close_comes, feed_comes, made_comes, step_comes, take_comes}
use Rattle.vm_attempt.proofs.Finishing.{finish_comes}
use Rattle.vm_attempt.proofs.laws.attempts_write.Goals as goal

pub returns-clause-made : goal.returns-clause-made
returns-clause-made c = made_comes

pub returns-clause-fed : goal.returns-clause-fed
returns-clause-fed c = feed_comes

pub returns-clause-closed : goal.returns-clause-closed
returns-clause-closed c = close_comes

pub returns-clause-taken : goal.returns-clause-taken
returns-clause-taken c = take_comes

pub returns-clause-stepped : goal.returns-clause-stepped
returns-clause-stepped c = step_comes

pub returns-clause-told : goal.returns-clause-told
returns-clause-told c = finish_comes
