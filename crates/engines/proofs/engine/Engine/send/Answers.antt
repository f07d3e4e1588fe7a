use Rattle.std.proofs.Common.{◌≡◌, Some, inr, refl, ap, ◌∙◌}
use Rattle.engines.proofs.Changing.{none_goes, sends_some, some_goes}
use Rattle.engines.specs.Lookups.{place_of}
use Rattle.engines.specs.Members.{MemberView, with_signal}
use Rattle.engines.proofs.engine.Engine.send.Goals as goal

pub returns-in_default-take-clause-does : goal.returns-in_default-take-clause-does
returns-in_default-take-clause-does g c = sends_some c.args.sent (Some c.in-Some.place) c.in-Some.place c.args.self.now _ (c.in-Some.ensures ∙ ap (place_of c.args.self.now.invocations.items) c.as_slice.ensures) refl
    (refl, inr (none_goes (λ (a b : MemberView g.row.H.Denot). b ≡ with_signal c.args.sent.signal c.args.sent.brings a) c.args.self.now.invocations.items c.in-Some.place c.in-Some-get_mut.it.now c.in-Some-get_mut.ensures.item.3.0 c.in-Some-get_mut.ensures.value c.take.result c.take.new.self c.take.ensures.value c.in_default-take.is c.take.ensures.after))

pub returns-clause-does : goal.returns-clause-does
returns-clause-does g c = sends_some c.args.sent (Some c.in-Some.place) c.in-Some.place c.args.self.now _ (c.in-Some.ensures ∙ ap (place_of c.args.self.now.invocations.items) c.as_slice.ensures) refl
    (refl, inr (some_goes (λ (a b : MemberView g.row.H.Denot). b ≡ with_signal c.args.sent.signal c.args.sent.brings a) c.args.self.now.invocations.items c.in-Some.place c.in-Some-get_mut.it.now c.in-Some-get_mut.ensures.item.3.0 c.in-Some-get_mut.ensures.value c.take.result c.in-Some-take.member c.in-Ok.member c.take.ensures.value c.in-Some-take.is c.in-Ok.ensures.ok))
