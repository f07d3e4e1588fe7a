use Rattle.vm_attempt.specs.Inside.{the_fields, the_record}
use Rattle.vm_attempt.proofs.Blamed.{close_blames}
use Rattle.vm_attempt.proofs.Caused.{close_led}
use Rattle.vm_attempt.proofs.Coming.{close_comes}
use Rattle.vm_attempt.proofs.InReplay.{close_in_replay}
use Rattle.vm_attempt.proofs.Late.{close_late}
use Rattle.vm_attempt.proofs.Sleeping.{close_sleeps}
use Rattle.vm_attempt.proofs.Steady.{close_told}
use Rattle.vm_attempt.proofs.Under.{close_under}
use Rattle.vm_attempt.proofs.attempt.Attempt.close.Goals as goal
use Rattle.vm_model.specs.Fixed.{fixed_by}

pub invariant_of-self : goal.invariant_of-self
invariant_of-self g c =
    let a = c.self.inside in
    let fixed = fixed_by (g.H.Handler.meaning a.inner.handler) a.version a.options in
    let old = the_record a.inner in
    let new = the_record c.close-closed.new.self in
    let does = close_told fixed (the_fields a.inner) c.close-closed.result (the_fields c.close-closed.new.self) c.self.invariant.0 c.self.invariant.5 c.output_len.ensures.whole c.close-closed.ensures.does in
    rw c.close-closed.ensures.handler (
      close_comes fixed old c.close-closed.result new c.self.invariant.0 does,
      close_blames fixed old c.close-closed.result new c.self.invariant.0 c.self.invariant.1 does,
      close_under fixed old c.close-closed.result new c.self.invariant.2 does,
      close_late fixed old c.close-closed.result new c.self.invariant.3 does,
      close_sleeps fixed old c.close-closed.result new c.self.invariant.4 does,
      c.output_len.ensures.whole,
      close_in_replay fixed old c.close-closed.result new c.self.invariant.6 does,
      close_led fixed old c.close-closed.result new does c.self.invariant.7,
    )

pub returns-clause-does : goal.returns-clause-does
returns-clause-does g c =
    let a = c.self.inside in
    let fixed = fixed_by (g.H.Handler.meaning a.inner.handler) a.version a.options in
    rw (← c.self.view_is) (close_told fixed (the_fields a.inner) c.close-closed.result (the_fields c.close-closed.new.self) c.self.invariant.0 c.self.invariant.5 c.output_len.ensures.whole c.close-closed.ensures.does)
