use Rattle.std.proofs.Common.{◌≡◌, length, refl, rules, subst, sym}
use Rattle.std.specs.Prelude.{OnOk, slice_index_or}
use Rattle.engines.specs.Engines.{MakesInvocation}
use Rattle.std.proofs.lemmas.Option.{slice_get-get_or}
use Rattle.engines.proofs.Changing.{made_so}
use Rattle.engines.proofs.engine.Engine.make.Goals as goal
use Rattle.engines.proofs.engine.Engine.make.Goals.{in-Err-push, in-Ok-push}

pub returns-clause-made : goal.returns-clause-made
returns-clause-made g c =
    let at : c.len-place.result ≡ length c.args.self.now.invocations.items = search rules in
    elim c.match-push.branch [
      | in-Ok-push w ↦ subst (λ r. OnOk r (MakesInvocation {H = g.row.H.Denot} c.args.target c.args.order c.args.begun c.args.self.now (record c.args.self.now { invocations = c.push.new.self }))) (sym w.result-is)
          (made_so c.args.self.now (record c.args.self.now { invocations = c.push.new.self }) c.args.target (slice_index_or c.args.self.now.targets.now c.args.target c.index-self-target.result) c.args.order c.args.begun c.len-place.result c.in-Ok.id c.in-Ok-world_of.world.setting c.in-Ok-world_of.world.journal c.new_invocation-made.result
          (slice_get-get_or c.args.self.now.targets.now c.args.target c.index-self-target.result c.requires) at c.in-Ok.ensures c.in-Ok-world_of.ensures.setting c.in-Ok-world_of.ensures.journal c.new_invocation-made.ensures.made c.new_invocation-made.ensures.calls_none c.in-Ok-world_of.ensures.whole refl w.in-Ok-push.ensures.items)
      | in-Err-push w ↦ subst (λ r. OnOk r (MakesInvocation {H = g.row.H.Denot} c.args.target c.args.order c.args.begun c.args.self.now (record c.args.self.now { invocations = c.push.new.self }))) (sym w.result-is) tt
    ]
