use Rattle.std.proofs.Common.{ap, ◌∙◌, take, drop}
use Rattle.await_arrivals.specs.Entries.{not_taken}
use Rattle.await_arrivals.proofs.Moves.{grown_or_not, grown, where_ok, same_came}
use Rattle.await_arrivals.proofs.arrivals.Arrivals.append.Goals as goal

pub invariant_of-self : goal.invariant_of-self
invariant_of-self c =
    let s = c.self.inside in
    grown_or_not s.seen s.log c.push.new.self c.args.notification c.push.result c.self.invariant.0 c.self.invariant.1 c.push.ensures.ok c.push.ensures.err

pub returns-clause-ok : goal.returns-clause-ok
returns-clause-ok c =
    let s = c.self.inside in
    let g = grown s.seen s.log c.args.notification c.self.invariant.0 c.self.invariant.1 in
    where_ok c.push.result (λ e.
    rw (← c.self.view_is) (same_came _ _ (ap (λ z. not_taken (drop s.seen z)) e ∙ g.queued) (ap (λ z. not_taken (take s.seen z)) e ∙ g.delivered))) c.push.ensures.ok
