use Rattle.vm_attempt.specs.Inside.{the_record}
use Rattle.vm_attempt.proofs.Written.{writes_whole}
use Rattle.vm_attempt.proofs.attempt.Attempt.output_len.Goals as goal
use Rattle.vm_model.specs.Fixed.{fixed_by}

pub returns-clause-whole : goal.returns-clause-whole
returns-clause-whole g c =
    let a = c.self.inside in
    let fixed = fixed_by (g.H.Handler.meaning a.inner.handler) a.version a.options in
    rw (← c.self.view_is) (writes_whole fixed (the_record a.inner) c.self.invariant.0 c.output_len.ensures.whole)
