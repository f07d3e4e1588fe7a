use Rattle.std.proofs.Common.{sym}
use Rattle.await_tries.specs.Left.{tree_left}
use Rattle.vm_awaits.proofs.Waiting.{pends_so}
use Rattle.vm_awaits.proofs.awaits.pend_on.Goals as goal

pub returns : goal.returns
returns c =
    let none = rw c.as_slice-2.ensures.value at c.in_default.ensures.run in
    let is = rw c.as_slice-3.ensures.value at c.any_executing_in_this_set-executing.ensures in
    pends_so (tree_left c.args.left.now) c.args.machine.now c.execute_run.new.machine c.wait_or_suspend.new.machine c.in_ok-handles.handles.items c.any_executing_in_this_set-executing.result c.wait_or_suspend.result
    c.in_ok-handles.ensures (sym c.if-is_replaying.ensures) none c.in_default.ensures.none is c.wait_or_suspend.ensures
