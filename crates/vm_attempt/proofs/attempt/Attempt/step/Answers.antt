use Rattle.vm_attempt.specs.Inside.{the_fields, the_record}
use Rattle.vm_attempt.proofs.Caused.{step_caused, step_is_own, step_led}
use Rattle.vm_attempt.proofs.Coming.{step_comes}
use Rattle.vm_attempt.proofs.Erring.{step_blames}
use Rattle.vm_attempt.proofs.Freshly.{come_fresh}
use Rattle.vm_attempt.proofs.InReplay.{replays_in_replay, step_in_replay}
use Rattle.vm_attempt.proofs.Late.{step_late}
use Rattle.vm_attempt.proofs.Sleeping.{step_sleeps, waits_rightly}
use Rattle.vm_attempt.proofs.Steady.{step_told}
use Rattle.vm_attempt.proofs.Under.{step_under}
use Rattle.vm_attempt.proofs.attempt.Attempt.step.Goals as goal
use Rattle.vm_model.specs.Fixed.{fixed_by}

pub invariant_of-self : goal.invariant_of-self
invariant_of-self g c =
    let a = c.self.inside in
    let fixed = fixed_by (g.H.Handler.meaning a.inner.handler) a.version a.options in
    let does = step_told fixed (the_fields a.inner) c.step-progress.result (the_fields c.step-progress.new.self) c.self.invariant.0 c.self.invariant.5 c.output_len.ensures.whole c.step-progress.ensures.does in
    rw c.step-progress.ensures.handler (
      step_comes fixed (the_record a.inner) c.step-progress.result (the_record c.step-progress.new.self) c.self.invariant.0 does,
      step_blames fixed (the_record a.inner) c.step-progress.result (the_record c.step-progress.new.self) c.self.invariant.0 c.self.invariant.2 c.self.invariant.1 does,
      step_under fixed (the_record a.inner) c.step-progress.result (the_record c.step-progress.new.self) c.self.invariant.2 does,
      step_late fixed (the_record a.inner) c.step-progress.result (the_record c.step-progress.new.self) c.self.invariant.0 c.self.invariant.3 does,
      step_sleeps fixed (the_record a.inner) c.step-progress.result (the_record c.step-progress.new.self) c.self.invariant.2 c.self.invariant.4 does,
      c.output_len.ensures.whole,
      step_in_replay fixed (the_record a.inner) c.step-progress.result (the_record c.step-progress.new.self) c.self.invariant.6 does,
      step_led fixed (the_record a.inner) c.step-progress.result (the_record c.step-progress.new.self) does c.self.invariant.7,
    )

pub returns-clause-does : goal.returns-clause-does
returns-clause-does g c =
    let a = c.self.inside in
    let fixed = fixed_by (g.H.Handler.meaning a.inner.handler) a.version a.options in
    rw (← c.self.view_is) (step_told fixed (the_fields a.inner) c.step-progress.result (the_fields c.step-progress.new.self) c.self.invariant.0 c.self.invariant.5 c.output_len.ensures.whole c.step-progress.ensures.does)

pub returns-clause-waits : goal.returns-clause-waits
returns-clause-waits g c =
    let a = c.self.inside in
    let fixed = fixed_by (g.H.Handler.meaning a.inner.handler) a.version a.options in
    let does = step_told fixed (the_fields a.inner) c.step-progress.result (the_fields c.step-progress.new.self) c.self.invariant.0 c.self.invariant.5 c.output_len.ensures.whole c.step-progress.ensures.does in
    rw (← c.self.view_is) (waits_rightly fixed (the_record a.inner) c.step-progress.result (the_record c.step-progress.new.self) c.self.invariant.2 c.self.invariant.4 does c.output_len.ensures.whole)

pub returns-clause-replays : goal.returns-clause-replays
returns-clause-replays g c =
    let a = c.self.inside in
    let fixed = fixed_by (g.H.Handler.meaning a.inner.handler) a.version a.options in
    let does = step_told fixed (the_fields a.inner) c.step-progress.result (the_fields c.step-progress.new.self) c.self.invariant.0 c.self.invariant.5 c.output_len.ensures.whole c.step-progress.ensures.does in
    rw (← c.self.view_is) (λ is p. replays_in_replay fixed (the_record a.inner) c.step-progress.result (the_record c.step-progress.new.self) c.self.invariant.6 is p does)

pub returns-clause-blamed : goal.returns-clause-blamed
returns-clause-blamed g c =
    let a = c.self.inside in
    let fixed = fixed_by (g.H.Handler.meaning a.inner.handler) a.version a.options in
    let does = step_told fixed (the_fields a.inner) c.step-progress.result (the_fields c.step-progress.new.self) c.self.invariant.0 c.self.invariant.5 c.output_len.ensures.whole c.step-progress.ensures.does in
    let new = the_record c.step-progress.new.self in
    let led = step_led fixed (the_record a.inner) c.step-progress.result new does c.self.invariant.7 in
    rw (← c.self.view_is) (step_caused fixed (the_record a.inner) c.step-progress.result new c.self.invariant.0 c.self.invariant.2 c.self.invariant.1 c.self.invariant.3 led does)

pub returns-clause-honest : goal.returns-clause-honest
returns-clause-honest g c =
    let a = c.self.inside in
    let fixed = fixed_by (g.H.Handler.meaning a.inner.handler) a.version a.options in
    let does = step_told fixed (the_fields a.inner) c.step-progress.result (the_fields c.step-progress.new.self) c.self.invariant.0 c.self.invariant.5 c.output_len.ensures.whole c.step-progress.ensures.does in
    let new = the_record c.step-progress.new.self in
    let led = step_led fixed (the_record a.inner) c.step-progress.result new does c.self.invariant.7 in
    rw (← c.self.view_is) (λ honest. step_is_own fixed new c.step-progress.result honest (step_caused fixed (the_record a.inner) c.step-progress.result new c.self.invariant.0 c.self.invariant.2 c.self.invariant.1 c.self.invariant.3 led does))

pub returns-clause-fresh : goal.returns-clause-fresh
returns-clause-fresh g c =
    let a = c.self.inside in
    let fixed = fixed_by (g.H.Handler.meaning a.inner.handler) a.version a.options in
    let does = step_told fixed (the_fields a.inner) c.step-progress.result (the_fields c.step-progress.new.self) c.self.invariant.0 c.self.invariant.5 c.output_len.ensures.whole c.step-progress.ensures.does in
    rw (← c.self.view_is) (come_fresh fixed (the_record c.step-progress.new.self) (step_comes fixed (the_record a.inner) c.step-progress.result (the_record c.step-progress.new.self) c.self.invariant.0 does) c.output_len.ensures.whole)
