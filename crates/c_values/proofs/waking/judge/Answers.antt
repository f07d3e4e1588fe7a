use Rattle.std.proofs.Common.{◌∙◌, ap}
use Rattle.c_values.specs.Children.{judged_by}
use Rattle.c_values.specs.Waking.{outcome_in}
use Rattle.c_values.proofs.Judging.{node_judged}
use Rattle.c_values.proofs.waking.judge.Goals as goal

pub returns : goal.returns
returns c = λ ts e.
    c.judge_by.ensures
    ∙ ap (λ ls. judged_by c.args.node.now.kind ls c.args.trees.now) (c.as_slice.ensures.value ∙ c.in_ok-leaves.ensures)
    ∙ node_judged (outcome_in c.args.came.now) c.args.node.now ts c.args.trees.now e
