use Rattle.std.proofs.Common.{refl, ap, ◌∙◌}
use Rattle.await_tries.specs.Leaves.{result_outcome}
use Rattle.await_tries.proofs.Courses.{leaf_takes}
use Rattle.await_tries.proofs.following.leaf_course.Goals as goal

pub returns : goal.returns
returns c = leaf_takes c.args.delivery c.args.results.now c.args.handle _ (c.outcome_with.ensures ∙ ap result_outcome c.first_result.ensures) c.uses_until.ensures refl
