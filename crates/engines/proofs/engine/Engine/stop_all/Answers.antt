use Rattle.std.proofs.Common.{◌<◌, length, ap, ◌∙◌, rules}
use Rattle.engines.specs.declared.engine.Engine.{Engine}
use Rattle.engines.proofs.Changing.{stops_more}
use Rattle.engines.proofs.engine.Engine.stop_all.Goals as goal

pub loop-place-preserved : goal.loop-place-preserved
loop-place-preserved g c =
    let lt : c.loop-place.place < length c.args.self.now.invocations.items = search rules in
    record {
      engine = c.stop.ensures.0 ∙ ap {A = Engine g.row.H.Denot} (λ z. record z { invocations = c.stop.new.self.invocations }) c.loop-place.invariant.engine;
      all = stops_more c.args.self.now.invocations.items c.loop-place.self.invocations.items c.stop.new.self.invocations.items c.loop-place.place lt c.loop-place.invariant.all c.stop.ensures.1;
    }
