use Rattle.engines.proofs.Beginnings.{happens_given}
use Rattle.engines.proofs.Storing.{own_leaves}
use Rattle.engines.proofs.member.act_in.Goals as goal

pub returns-in-Ok-clause-ok : goal.returns-in-Ok-clause-ok
returns-in-Ok-clause-ok g c = own_leaves (g.H.Handler.meaning c.args.course.handler) c.args.event.now c.args.course.live c.args.course c.in-Ok.course c.requires c.in-Ok.ensures.ok

pub returns-in-Ok-clause-given : goal.returns-in-Ok-clause-given
returns-in-Ok-clause-given g c = happens_given (g.H.Handler.meaning c.args.course.handler) c.args.event.now c.args.course.live c.args.course c.in-Ok.course c.in-Ok.ensures.ok
