use Rattle.vm_attempt.specs.Inside.{the_fields, the_record}
use Rattle.vm_attempt.proofs.Blamed.{take_blames}
use Rattle.vm_attempt.proofs.Caused.{take_led}
use Rattle.vm_attempt.proofs.Coming.{take_comes}
use Rattle.vm_attempt.proofs.InReplay.{take_in_replay}
use Rattle.vm_attempt.proofs.Late.{take_late}
use Rattle.vm_attempt.proofs.Sleeping.{take_sleeps}
use Rattle.vm_attempt.proofs.Steady.{take_told}
use Rattle.vm_attempt.proofs.Under.{take_under}
use Rattle.vm_attempt.proofs.attempt.Attempt.take_output.Goals as goal
use Rattle.vm_model.specs.Fixed.{fixed_by}

pub invariant_of-self : goal.invariant_of-self
invariant_of-self g c =
    let a = c.self.inside in
    let fixed = fixed_by (g.H.Handler.meaning a.inner.handler) a.version a.options in
    let old = the_record a.inner in
    let new = the_record c.take_output-taken.new.self in
    let does = take_told (the_fields a.inner) c.take_output-taken.result (the_fields c.take_output-taken.new.self) c.take_output-taken.ensures.does in
    rw c.take_output-taken.ensures.handler (
      take_comes fixed old c.take_output-taken.result new c.self.invariant.0 does,
      take_blames fixed old c.take_output-taken.result new c.self.invariant.1 does,
      take_under fixed old c.take_output-taken.result new c.self.invariant.2 does,
      take_late fixed old c.take_output-taken.result new c.self.invariant.3 does,
      take_sleeps fixed old c.take_output-taken.result new c.self.invariant.4 does,
      c.output_len.ensures.whole,
      take_in_replay fixed old c.take_output-taken.result new c.self.invariant.6 does,
      take_led fixed old c.take_output-taken.result new does c.self.invariant.7,
    )

pub returns-clause-does : goal.returns-clause-does
returns-clause-does g c =
    let a = c.self.inside in
    rw (← c.self.view_is) (take_told (the_fields a.inner) c.take_output-taken.result (the_fields c.take_output-taken.new.self) c.take_output-taken.ensures.does)
