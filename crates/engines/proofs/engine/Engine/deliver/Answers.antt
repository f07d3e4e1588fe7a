use Rattle.std.proofs.Common.{inr, refl, sym, ◌∙◌}
use Rattle.engines.proofs.Changing.{brings_some, ended_delivers, none_delivers, some_delivers}
use Rattle.engines.proofs.engine.Engine.deliver.Goals as goal

pub returns-then-is_some-clause-does : goal.returns-then-is_some-clause-does
returns-then-is_some-clause-does g c = brings_some (λ h. g.H.Handler.meaning h) c.args.place c.args.at c.in-Ok-Some.field-0 c.in-Ok-Some.brought c.args.self.now _ c.in-Ok-Some.ensures c.in-Ok-Some.field-0-is (refl, inr (ended_delivers (λ h. g.H.Handler.meaning h) c.args.at c.in-Ok-Some.brought c.args.self.now.invocations.items c.args.place c.in-Some.it.now c.in-Some.ensures.item.3.0 c.in-Some.ensures.value (sym c.is_some.ensures ∙ c.if-is_some.true)))

pub returns-in_default-take-clause-does : goal.returns-in_default-take-clause-does
returns-in_default-take-clause-does g c = brings_some (λ h. g.H.Handler.meaning h) c.args.place c.args.at c.in-Ok-Some.field-0 c.in-Ok-Some.brought c.args.self.now _ c.in-Ok-Some.ensures c.in-Ok-Some.field-0-is (refl, inr (none_delivers (λ h. g.H.Handler.meaning h) c.args.at c.in-Ok-Some.brought c.args.self.now.invocations.items c.args.place c.in-Some.it.now c.in-Some.ensures.item.3.0 c.in-Some.ensures.value c.take.result c.take.new.self (sym c.is_some.ensures ∙ c.if-is_some.false) c.take.ensures.value c.in_default-take.is c.take.ensures.after))

pub returns-in-Ok-clause-does : goal.returns-in-Ok-clause-does
returns-in-Ok-clause-does g c = brings_some (λ h. g.H.Handler.meaning h) c.args.place c.args.at c.in-Ok-Some.field-0 c.in-Ok-Some.brought c.args.self.now _ c.in-Ok-Some.ensures c.in-Ok-Some.field-0-is (refl, inr (some_delivers (λ h. g.H.Handler.meaning h) c.args.at c.in-Ok-Some.brought c.args.self.now.invocations.items c.args.place c.in-Some.it.now c.in-Some.ensures.item.3.0 c.in-Some.ensures.value c.take.result c.in-Some-take.member c.in-Ok.member (sym c.is_some.ensures ∙ c.if-is_some.false) c.take.ensures.value c.in-Some-take.is c.in-Ok.ensures.ok))
