use Rattle.std.proofs.Common.{inr, refl}
use Rattle.engines.proofs.Changing.{may_so, none_goes, some_goes}
use Rattle.engines.specs.Engines.{whole_round}
use Rattle.engines.specs.HandedOn.{BeginsHanded, base_at}
use Rattle.engines.specs.Members.{GoesBy}
use Rattle.engines.proofs.engine.Engine.begin.Goals as goal

pub returns-in_default-take-clause-does : goal.returns-in_default-take-clause-does
returns-in_default-take-clause-does g c = may_so c.may_begin.result c.args.place c.args.self.now _ c.may_begin.ensures c.if-not-may_begin.false (refl, inr (none_goes (GoesBy (BeginsHanded {H = g.row.H.Denot} whole_round (base_at c.args.self.now c.args.place))) c.args.self.now.invocations.items c.args.place c.in-Some.it.now c.in-Some.ensures.item.3.0 c.in-Some.ensures.value c.take.result c.take.new.self c.take.ensures.value c.in_default-take.is c.take.ensures.after))

pub returns-clause-does : goal.returns-clause-does
returns-clause-does g c = may_so c.may_begin.result c.args.place c.args.self.now _ c.may_begin.ensures c.if-not-may_begin.false (refl, inr (some_goes (GoesBy (BeginsHanded {H = g.row.H.Denot} whole_round (base_at c.args.self.now c.args.place))) c.args.self.now.invocations.items c.args.place c.in-Some.it.now c.in-Some.ensures.item.3.0 c.in-Some.ensures.value c.take.result c.in-Some-take.member c.in-Ok-begin.member c.take.ensures.value c.in-Some-take.is (rw c.whole_round.ensures at (rw c.in-Ok.ensures at c.in-Ok-begin.ensures.ok))))
