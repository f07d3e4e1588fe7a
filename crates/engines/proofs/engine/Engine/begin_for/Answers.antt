use Rattle.engine_inboxes.proofs.Coming.{on_ok_then}
use Rattle.engines.specs.Engines.{AddsCallee, BeginsFor, ChangesAt}
use Rattle.engines.proofs.engine.Engine.begin_for.Goals as goal

pub returns-in-Ok-clause-does : goal.returns-in-Ok-clause-does
returns-in-Ok-clause-does g c = on_ok_then c.calls.result (ChangesAt {H = g.row.H.Denot} c.args.by (AddsCallee (record { call = c.args.begun.id_completes; place = c.in-Ok.place })) c.ordered.new.self c.calls.new.self) (BeginsFor {H = g.row.H.Denot} c.args.by c.args.begun c.args.self.now c.calls.new.self)
    (λ h. record { mid = c.ordered.new.self; place = c.in-Ok.place; orders = c.in-Ok.ensures.does; row = h })
    c.calls.ensures.row
