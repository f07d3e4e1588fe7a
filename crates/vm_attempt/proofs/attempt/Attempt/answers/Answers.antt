use Rattle.vm_attempt.specs.Inside.{the_record}
use Rattle.vm_attempt.proofs.Advanced.{kept_told}
use Rattle.vm_attempt.proofs.Freshly.{come_fresh}
use Rattle.vm_attempt.proofs.InReplay.{told_in_replay}
use Rattle.vm_attempt.proofs.Written.{none_before_input}
use Rattle.vm_attempt.proofs.attempt.Attempt.answers.Goals as goal
use Rattle.vm_model.specs.Fixed.{fixed_by}

pub returns-clause-came : goal.returns-clause-came
returns-clause-came g c = rw (← c.self.view_is) c.self.invariant.0

pub returns-clause-begins : goal.returns-clause-begins
returns-clause-begins g c =
    let a = c.self.inside in
    let fixed = fixed_by (g.H.Handler.meaning a.inner.handler) a.version a.options in
    rw (← c.self.view_is) (none_before_input fixed (the_record a.inner) c.self.invariant.0 c.output_len.ensures.whole)

pub returns-clause-told : goal.returns-clause-told
returns-clause-told g c =
    let a = c.self.inside in
    let fixed = fixed_by (g.H.Handler.meaning a.inner.handler) a.version a.options in
    rw (← c.self.view_is) (λ p. kept_told fixed (the_record a.inner) c.output_len.ensures.whole (c.self.invariant.2 p))

pub returns-clause-replayed : goal.returns-clause-replayed
returns-clause-replayed g c =
    let a = c.self.inside in
    let fixed = fixed_by (g.H.Handler.meaning a.inner.handler) a.version a.options in
    rw (← c.self.view_is) (told_in_replay fixed (the_record a.inner) c.output_len.ensures.whole c.self.invariant.6)

pub returns-clause-fresh : goal.returns-clause-fresh
returns-clause-fresh g c =
    let a = c.self.inside in
    let fixed = fixed_by (g.H.Handler.meaning a.inner.handler) a.version a.options in
    rw (← c.self.view_is) (come_fresh fixed (the_record a.inner) c.self.invariant.0 c.output_len.ensures.whole)
