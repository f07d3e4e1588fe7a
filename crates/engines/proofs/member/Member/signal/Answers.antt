use Rattle.engine_inboxes.proofs.Coming.{signal_stays}
use Rattle.engines.proofs.Beginnings.{waits_lasts}
use Rattle.engines.proofs.member.Member.signal.Goals as goal

pub invariant_of-result : goal.invariant_of-result
invariant_of-result g c = waits_lasts c.self.inside.course.given c.self.inside.course.journal c.self.inside.inbox.waiting.items c.self.inside.inbox.next c.signal.new.self.waiting.items c.signal.new.self.next c.in-Ok.ensures.1
    (signal_stays c.self.inside.course.journal c.self.inside.inbox.waiting.items c.self.inside.inbox.next c.args.signal c.args.brings c.signal.new.self.waiting.items c.signal.new.self.next c.in-Ok.ensures.0 c.in-Ok.ensures.1 c.self.invariant.waits)
    c.self.invariant
