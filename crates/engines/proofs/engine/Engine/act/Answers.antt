use Rattle.std.proofs.Common.{inr, refl}
use Rattle.engines.proofs.Changing.{none_goes, some_goes}
use Rattle.engines.specs.Members.{Acts, MemberView}
use Rattle.engines.proofs.engine.Engine.act.Goals as goal

pub returns-in_default-take-clause-does : goal.returns-in_default-take-clause-does
returns-in_default-take-clause-does g c = (refl, inr (none_goes (λ (m : MemberView _). Acts (g.H.Handler.meaning m.course.handler) c.args.event.now m) c.args.self.now.invocations.items c.args.place c.in-Some.it.now c.in-Some.ensures.item.3.0 c.in-Some.ensures.value c.take.result c.take.new.self c.take.ensures.value c.in_default-take.is c.take.ensures.after))

pub returns-in-Ok-clause-does : goal.returns-in-Ok-clause-does
returns-in-Ok-clause-does g c = (refl, inr (some_goes (λ (m : MemberView _). Acts (g.H.Handler.meaning m.course.handler) c.args.event.now m) c.args.self.now.invocations.items c.args.place c.in-Some.it.now c.in-Some.ensures.item.3.0 c.in-Some.ensures.value c.take.result c.in-Some-take.member c.in-Ok.member c.take.ensures.value c.in-Some-take.is c.in-Ok.ensures.ok))
