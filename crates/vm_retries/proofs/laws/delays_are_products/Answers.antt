use Rattle.std.proofs.Common.{arith}
use Rattle.vm_retries.proofs.Delays.{whole, below}
use Rattle.vm_retries.proofs.laws.delays_are_products.Goals as goal

pub returns-clause-whole : goal.returns-clause-whole
returns-clause-whole c initial f most steps fits one = whole initial f most steps (omega arith) one

pub returns-clause-below : goal.returns-clause-below
returns-clause-below c initial f most steps fits few = below initial f most steps (omega arith) few
