use Rattle.std.proofs.Common.{ap, ◌∙◌}
use Rattle.await_arrivals.specs.Entries.{not_taken}
use Rattle.await_arrivals.proofs.Moves.{entered, given_push, where_ok}
use Rattle.await_arrivals.proofs.eager.EagerResults.append.Goals as goal

pub returns-clause-ok : goal.returns-clause-ok
returns-clause-ok c =
    where_ok c.push.result (λ e. rw (← c.self.view_is) (ap not_taken e ∙ given_push c.self.inside.log (entered c.args.read))) c.push.ensures.ok
