use Rattle.std.proofs.Common.{ap}
use Rattle.world_rounds.specs.Course.{CourseView}
use Rattle.engines.proofs.Beginnings.{begin_seen, begins_handed, begins_leaves, same_lasts}
use Rattle.engines.proofs.member.Member.begin.Goals as goal

pub invariant_of-result : goal.invariant_of-result
invariant_of-result g c =
    let l = begins_leaves c.args.round.now c.args.base c.self.inside.course c.in-Ok.course (begins_handed c.args.round.now c.args.base c.self.inside.course c.stop.result c.handed.result c.in-Ok.course c.stop.ensures c.handed.ensures c.in-Ok.ensures.ok) in
    same_lasts c.self.inside.course c.in-Ok.course c.self.inside.inbox.waiting.items c.self.inside.inbox.next l.1 l.0 c.self.invariant

pub returns-in-Ok-clause-ok : goal.returns-in-Ok-clause-ok
returns-in-Ok-clause-ok g c = begin_seen c.args.round.now c.args.base c.args.self c.self.inside.course c.in-Ok.course c.self.inside.inbox.waiting.items c.self.inside.inbox.next c.self.view_is (begins_handed c.args.round.now c.args.base c.self.inside.course c.stop.result c.handed.result c.in-Ok.course c.stop.ensures c.handed.ensures c.in-Ok.ensures.ok)
