use Rattle.std.proofs.Common.{ap, subst, ◌∙◌}
use Rattle.vm_asks.specs.Asks.{millis_of, send_command, send_handle}
use Rattle.invocation_vm.specs.Calls.{CallsFor}
use Rattle.invocation_vm.specs.Seen.{seen}
use Rattle.invocation_vm.proofs.core_vm.CoreVMVM.sys_send.Goals as goal

pub returns : goal.returns
returns c =
    let millis = millis_of c.args.execution_time_since_unix_epoch in
    subst (λ a. CallsFor send_handle a c.send_of.result (seen c.args.self.now) (seen c.send_of.new.self))
    (c.send.ensures ∙ ap (λ n. send_command c.args.target c.args.input millis n c.args.options c.args.self.now.machine.version) c.name_text-name.ensures) c.send_of.ensures
