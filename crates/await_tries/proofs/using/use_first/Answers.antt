use Rattle.std.proofs.Common.{ap, ◌∙◌}
use Rattle.await_tries.specs.Used.{used}
use Rattle.await_tries.proofs.Moves.{used_more, next_is}
use Rattle.await_tries.proofs.using.use_first.Goals as goal

pub loop-preserved : goal.loop-preserved
loop-preserved c = c.use_one.ensures.used ∙ next_is c.loop.results ∙ ap (λ w. used w 1) c.loop.invariant ∙ used_more c.args.results.now c.loop.counter
