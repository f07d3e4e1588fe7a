use Rattle.std.specs.Prelude.{codes}
use Rattle.frame_values.proofs.Bracketing.{begins_with, begins_without}
use Rattle.frame_values.proofs.nested.behind_list_front.Goals as goal

pub returns-in-Some-clause-some : goal.returns-in-Some-clause-some
returns-in-Some-clause-some c = begins_with (codes "nested=[") c.args.text.now c.in-Some.list.now c.in-Some.ensures

pub returns-in-None-clause-none : goal.returns-in-None-clause-none
returns-in-None-clause-none c = begins_without (codes "nested=[") c.args.text.now c.in-None.ensures
