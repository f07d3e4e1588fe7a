use Rattle.std.proofs.Common.{Some, inr, refl}
use Rattle.engines.proofs.Changing.{becomes_so, ends_so}
use Rattle.engines.proofs.engine.Engine.perform.Goals as goal

pub returns-in-Some-clause-does : goal.returns-in-Some-clause-does
returns-in-Some-clause-does g c = ends_so c.args.by c.args.effect c.in-Result.ends c.args.self.now _ c.in-Result.is
    (refl, inr (becomes_so (λ a. record a { ended = Some c.in-Result.ends }) c.args.self.now.invocations.items c.args.by c.in-Some.it.now c.in-Some.ensures.item.3.0 c.in-Some.ensures.value))
