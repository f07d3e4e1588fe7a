use Rattle.std.proofs.Common.{ap, subst, ◌∙◌}
use Rattle.vm_asks.specs.Asks.{call_command, call_handles}
use Rattle.invocation_vm.specs.Calls.{CallsFor}
use Rattle.invocation_vm.specs.Seen.{seen}
use Rattle.invocation_vm.proofs.core_vm.CoreVMVM.sys_call.Goals as goal

pub returns : goal.returns
returns c =
    subst (λ a. CallsFor call_handles a c.call_of.result (seen c.args.self.now) (seen c.call_of.new.self))
    (c.call.ensures ∙ ap (λ n. call_command c.args.target c.args.input n c.args.options c.args.self.now.machine.version) c.name_text-name.ensures) c.call_of.ensures
