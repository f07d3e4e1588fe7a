use Rattle.vm_machine.proofs.Preparing.{mapped_more}
use Rattle.vm_machine.proofs.machine.Machine.hand_out.Goals as goal

pub loop-i-preserved : goal.loop-i-preserved
loop-i-preserved c =
    record { mapped = mapped_more c.args.self.now c.loop-i.self c.loop-i.i c.map_handle.new.self c.loop-i.invariant.mapped c.in_ok-map_handle.ensures.ok }
