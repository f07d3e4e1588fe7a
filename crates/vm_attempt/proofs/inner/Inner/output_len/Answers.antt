use Rattle.vm_attempt.proofs.Lengths.{both_counted}
use Rattle.invocation_vm.specs.Seen.{seen}
use Rattle.vm_attempt.proofs.inner.Inner.output_len.Goals as goal

pub returns-clause-len : goal.returns-clause-len
returns-clause-len g c = rw (c.saturating_add.ensures, c.len.ensures, c.waiting_len.ensures.len) (both_counted c.args.self.now.taken (seen c.args.self.now.vm).machine.output)
