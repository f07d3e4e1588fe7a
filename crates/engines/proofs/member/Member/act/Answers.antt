use Rattle.engines.proofs.Beginnings.{same_lasts}
use Rattle.engines.proofs.member.Member.act.Goals as goal

pub invariant_of-result : goal.invariant_of-result
invariant_of-result g c = same_lasts c.self.inside.course c.in-Ok.course c.self.inside.inbox.waiting.items c.self.inside.inbox.next c.in-Ok.ensures.given c.in-Ok.ensures.ok c.self.invariant
