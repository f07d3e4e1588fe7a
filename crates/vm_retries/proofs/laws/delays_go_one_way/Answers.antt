use Rattle.std.proofs.Common.{arith}
use Rattle.vm_retries.proofs.Delays.{never_falls, never_rises}
use Rattle.vm_retries.proofs.laws.delays_go_one_way.Goals as goal

pub returns-clause-never_falls : goal.returns-clause-never_falls
returns-clause-never_falls c initial f most count later fits rises order = never_falls initial f most count later (omega arith) rises order

pub returns-clause-never_rises : goal.returns-clause-never_rises
returns-clause-never_rises c initial f most count later fits falls order = never_rises initial f most count later (omega arith) falls order
