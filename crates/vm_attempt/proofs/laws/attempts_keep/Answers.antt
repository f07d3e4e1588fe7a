use Rattle.vm_attempt.proofs.Advanced.{made_kept}
use Rattle.vm_attempt.proofs.Under.{close_under, feed_under, step_under, take_under}
use Rattle.vm_attempt.proofs.Finishing.{finish_under}
use Rattle.vm_attempt.proofs.laws.attempts_keep.Goals as goal

pub returns-clause-made : goal.returns-clause-made
returns-clause-made c = λ fixed alloc p. made_kept fixed alloc

pub returns-clause-fed : goal.returns-clause-fed
returns-clause-fed c = feed_under

pub returns-clause-closed : goal.returns-clause-closed
returns-clause-closed c = close_under

pub returns-clause-taken : goal.returns-clause-taken
returns-clause-taken c = take_under

pub returns-clause-stepped : goal.returns-clause-stepped
returns-clause-stepped c = step_under

pub returns-clause-told : goal.returns-clause-told
returns-clause-told c = λ fixed handle exit policy old result new came u does. finish_under fixed handle exit policy old result new came does u
