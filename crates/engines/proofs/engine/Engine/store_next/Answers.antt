use Rattle.std.proofs.Common.{sym, ◌∙◌}
use Rattle.std.proofs.Common.{inr, refl}
use Rattle.engines.proofs.Changing.{ended_stores, none_stores, some_stores}
use Rattle.engines.proofs.Replaying.{one_replays}
use Rattle.engines.proofs.engine.Engine.store_next.Goals as goal

pub returns-then-is_some-clause-does : goal.returns-then-is_some-clause-does
returns-then-is_some-clause-does g c = (refl, inr (ended_stores (λ h. g.H.Handler.meaning h) c.args.self.now.invocations.items c.args.place c.in-Some.it.now c.in-Some.ensures.item.3.0 c.in-Some.ensures.value (sym c.is_some.ensures ∙ c.if-is_some.true)))

pub returns-in_default-take-clause-does : goal.returns-in_default-take-clause-does
returns-in_default-take-clause-does g c = (refl, inr (none_stores (λ h. g.H.Handler.meaning h) c.args.self.now.invocations.items c.args.place c.in-Some.it.now c.in-Some.ensures.item.3.0 c.in-Some.ensures.value c.take.result c.take.new.self (sym c.is_some.ensures ∙ c.if-is_some.false) c.take.ensures.value c.in_default-take.is c.take.ensures.after))

pub returns-in-Ok-clause-does : goal.returns-in-Ok-clause-does
returns-in-Ok-clause-does g c = (refl, inr (some_stores (λ h. g.H.Handler.meaning h) c.args.self.now.invocations.items c.args.place c.in-Some.it.now c.in-Some.ensures.item.3.0 c.in-Some.ensures.value c.take.result c.in-Some-take.member c.in-Ok.member c.in-Ok.effect (sym c.is_some.ensures ∙ c.if-is_some.false) c.take.ensures.value c.in-Some-take.is c.in-Ok.ensures.ok))

pub returns-in-Err-clause-replaying : goal.returns-in-Err-clause-replaying
returns-in-Err-clause-replaying g c = λ r. c.in-Err.ensures.replaying (one_replays c.args.self.now c.args.place c.in-Some.it.now c.take.result c.in-Some-take.member c.in-Some.ensures.item.3.0 c.in-Some.ensures.value c.take.ensures.value c.in-Some-take.is r)
