use Rattle.std.proofs.Common.{sym, ◌∙◌}
use Rattle.invocation_vm.proofs.Feeds.{has_no_room}
use Rattle.invocation_vm.proofs.core_vm.CoreVMVM.notify_input.Goals as goal

pub returns-in-Err : goal.returns-in-Err
returns-in-Err c = has_no_room _ _ c.in-Err.error _ _ (sym c.has_failed.ensures ∙ c.if-has_failed.false) c.starve.ensures.state
