use Rattle.std.proofs.Common.{inr, refl}
use Rattle.engines.proofs.Changing.{none_goes, some_goes}
use Rattle.std.proofs.Common.{◌≡◌}
use Rattle.engines.specs.Members.{MemberView, stopped}
use Rattle.engines.proofs.engine.Engine.stop.Goals as goal

pub returns-in_default-take : goal.returns-in_default-take
returns-in_default-take g c = (refl, inr (none_goes (λ (m m' : MemberView _). m' ≡ stopped m) c.args.self.now.invocations.items c.args.place c.in-Some.it.now c.in-Some.ensures.item.3.0 c.in-Some.ensures.value c.take.result c.take.new.self c.take.ensures.value c.in_default-take.is c.take.ensures.after))

pub returns-in-Some-take : goal.returns-in-Some-take
returns-in-Some-take g c = (refl, inr (some_goes (λ (m m' : MemberView _). m' ≡ stopped m) c.args.self.now.invocations.items c.args.place c.in-Some.it.now c.in-Some.ensures.item.3.0 c.in-Some.ensures.value c.take.result c.in-Some-take.member c.stop.result c.take.ensures.value c.in-Some-take.is c.stop.ensures))
