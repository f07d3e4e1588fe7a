use Rattle.std.proofs.Common.{ap}
use Rattle.world_rounds.specs.Course.{CourseView}
use Rattle.engines.proofs.Beginnings.{same_lasts}
use Rattle.engines.proofs.member.Member.stop.Goals as goal

pub invariant_of-result : goal.invariant_of-result
invariant_of-result g c = same_lasts c.self.inside.course c.stop.result c.self.inside.inbox.waiting.items c.self.inside.inbox.next (ap (λ (v : CourseView _). v.given) c.stop.ensures) (ap (λ (v : CourseView _). v.journal) c.stop.ensures) c.self.invariant
