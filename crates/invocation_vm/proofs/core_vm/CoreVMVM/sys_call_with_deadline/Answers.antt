use Rattle.invocation_vm.proofs.core_vm.CoreVMVM.sys_call_with_deadline.Goals as goal

pub returns : goal.returns
returns c = rw (c.call-call.ensures, c.name_text-name.ensures, c.sleep-deadline.ensures, c.empty.ensures) at c.deadline_call_of.ensures
