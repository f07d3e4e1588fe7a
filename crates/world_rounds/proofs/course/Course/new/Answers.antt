use Rattle.std.proofs.Common.{length, ap}
use Rattle.world_rounds.proofs.Continuing.{new_lasts, new_seen}
use Rattle.world_rounds.proofs.course.Course.new.Goals as goal

pub invariant_of-result : goal.invariant_of-result
invariant_of-result g c = new_lasts (λ h. g.H.Handler.meaning h.now) (g.H.Handler.meaning c.args.handler.now) c.world.inside.setting c.world.inside.journal (length c.as_slice-given.result.now) c.new_desk-desk.result c.world.invariant (ap length c.as_slice-given.ensures.value) c.new_desk-desk.ensures.journal

pub returns : goal.returns
returns g c = new_seen c.args.handler.now c.args.world (record { setting = c.world.inside.setting; journal = c.world.inside.journal }) (length c.as_slice-given.result.now) c.new_desk-desk.result.journal c.world.view_is (ap length c.as_slice-given.ensures.value) c.new_desk-desk.ensures.journal
