use Rattle.std.proofs.Common.{inr, refl}
use Rattle.engines.proofs.Changing.{row_added}
use Rattle.engines.proofs.engine.Engine.calls.Goals as goal

pub returns-in-Ok-clause-row : goal.returns-in-Ok-clause-row
returns-in-Ok-clause-row g c = (refl, inr (row_added c.args.callee c.args.self.now.invocations.items c.args.by c.in-Some.it.now (record c.in-Some.it.now { callees = c.push.new.self }) c.in-Some.ensures.item.3.0 c.in-Some.ensures.value refl c.in-Ok.ensures.items))
