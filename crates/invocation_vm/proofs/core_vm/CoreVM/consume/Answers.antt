use Rattle.std.proofs.Common.{◌∙◌}
use Rattle.invocation_vm.proofs.Feeds.{came_more}
use Rattle.invocation_vm.proofs.core_vm.CoreVM.consume.Goals as goal

pub frames-preserved : goal.frames-preserved
frames-preserved c =
    let t = rw c.in-Ok-true.field-0-test at c.in-Ok-true.ensures.ok in
    record {
      live = t.0;
      quiet = t.2 ∙ c.frames.invariant.quiet;
      came = came_more _ _ _ t.4.0 _ _ _ c.frames.invariant.came t.4.1 t.4.2;
      same = t.3 ∙ c.frames.invariant.same;
    }
