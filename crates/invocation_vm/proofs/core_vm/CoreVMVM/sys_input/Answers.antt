use Rattle.invocation_vm.proofs.Fresh.{skips_settled}
use Rattle.invocation_vm.proofs.core_vm.CoreVMVM.sys_input.Goals as goal

pub returns-clause-fresh : goal.returns-clause-fresh
returns-clause-fresh c = skips_settled c.read_input-given.result c.settle.result c.args.self.now.machine c.read_input-given.new.machine c.settle.new.self c.in_default.ensures c.read_input-given.ensures c.settle.ensures
