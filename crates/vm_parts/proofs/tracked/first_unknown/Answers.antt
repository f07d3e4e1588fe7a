use Rattle.std.proofs.Common.{ap, ◌∙◌}
use Rattle.std.specs.Prelude.{not}
use Rattle.vm_parts.proofs.Tracking.{unresolved-take-more}
use Rattle.vm_parts.proofs.tracked.first_unknown.Goals as goal

pub loop-place-preserved : goal.loop-place-preserved
loop-place-preserved c =
    unresolved-take-more c.args.calls.now c.loop-place.place c.index-calls-place.result c.loop-place-test.true (c.is_none.ensures ∙ ap not c.if-is_none.false) c.loop-place.invariant
