use Rattle.std.proofs.Common.{sym, subst}
use Rattle.engine_inboxes.specs.Faults.{IsMemoryOrFull}
use Rattle.engines.proofs.Beginnings.{outside_alone}
use Rattle.engines.proofs.Storing.{one_stored}
use Rattle.engines.proofs.member.store_one.Goals as goal

pub returns-in-Ok-clause-ok : goal.returns-in-Ok-clause-ok
returns-in-Ok-clause-ok g c = one_stored (g.H.Handler.meaning c.args.course.handler) c.args.course.live c.args.course c.in-Ok.course c.in-Ok.ensures.ok

pub returns-in-Err-clause-replayable : goal.returns-in-Err-clause-replayable
returns-in-Err-clause-replayable g c = λ h. subst IsMemoryOrFull (sym c.stored_of.ensures.value) (outside_alone c.args.course.live c.in-Err.fault (c.in-Err.ensures.outside h))

pub returns-in-Ok-clause-runs : goal.returns-in-Ok-clause-runs
returns-in-Ok-clause-runs g c = c.in-Ok.ensures.runs
