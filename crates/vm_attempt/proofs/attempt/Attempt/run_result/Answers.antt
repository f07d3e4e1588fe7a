use Rattle.vm_attempt.specs.Inside.{the_fields, the_record}
use Rattle.vm_attempt.proofs.Caused.{finish_caused, finish_is_own, finish_led}
use Rattle.vm_attempt.proofs.Finishing.{finish_blames, finish_comes, finish_in_replay, finish_late, finish_sleeps, finish_told, finish_under}
use Rattle.vm_attempt.proofs.attempt.Attempt.run_result.Goals as goal
use Rattle.vm_model.specs.Fixed.{fixed_by}

pub invariant_of-self : goal.invariant_of-self
invariant_of-self g c =
    let a = c.self.inside in
    let fixed = fixed_by (g.H.Handler.meaning a.inner.handler) a.version a.options in
    let old = the_record a.inner in
    let new = the_record c.run_result-told.new.self in
    let came = c.self.invariant.0 in
    let does = finish_told fixed c.args.handle c.args.exit c.args.policy (the_fields a.inner) c.run_result-told.result (the_fields c.run_result-told.new.self) came c.self.invariant.5 c.output_len.ensures.whole c.run_result-told.ensures.does in
    rw c.run_result-told.ensures.handler (
      finish_comes fixed c.args.handle c.args.exit c.args.policy old c.run_result-told.result new came does,
      finish_blames fixed c.args.handle c.args.exit c.args.policy old c.run_result-told.result new came does c.self.invariant.1,
      finish_under fixed c.args.handle c.args.exit c.args.policy old c.run_result-told.result new came does c.self.invariant.2,
      finish_late fixed c.args.handle c.args.exit c.args.policy old c.run_result-told.result new came does c.self.invariant.3,
      finish_sleeps fixed c.args.handle c.args.exit c.args.policy old c.run_result-told.result new came does c.self.invariant.3 c.self.invariant.4,
      c.output_len.ensures.whole,
      finish_in_replay fixed c.args.handle c.args.exit c.args.policy old c.run_result-told.result new came does c.self.invariant.6,
      finish_led fixed c.args.handle c.args.exit c.args.policy old c.run_result-told.result new does c.self.invariant.7,
    )

pub returns-clause-does : goal.returns-clause-does
returns-clause-does g c =
    let a = c.self.inside in
    let fixed = fixed_by (g.H.Handler.meaning a.inner.handler) a.version a.options in
    rw (← c.self.view_is) (finish_told fixed c.args.handle c.args.exit c.args.policy (the_fields a.inner) c.run_result-told.result (the_fields c.run_result-told.new.self) c.self.invariant.0 c.self.invariant.5 c.output_len.ensures.whole c.run_result-told.ensures.does)

pub returns-clause-blamed : goal.returns-clause-blamed
returns-clause-blamed g c =
    let a = c.self.inside in
    let fixed = fixed_by (g.H.Handler.meaning a.inner.handler) a.version a.options in
    let old = the_record a.inner in
    let new = the_record c.run_result-told.new.self in
    let came = c.self.invariant.0 in
    let does = finish_told fixed c.args.handle c.args.exit c.args.policy (the_fields a.inner) c.run_result-told.result (the_fields c.run_result-told.new.self) came c.self.invariant.5 c.output_len.ensures.whole c.run_result-told.ensures.does in
    rw (← c.self.view_is)
    (finish_caused fixed c.args.handle c.args.exit c.args.policy old c.run_result-told.result new does
    (finish_blames fixed c.args.handle c.args.exit c.args.policy old c.run_result-told.result new came does c.self.invariant.1)
    (finish_late fixed c.args.handle c.args.exit c.args.policy old c.run_result-told.result new came does c.self.invariant.3)
    (finish_led fixed c.args.handle c.args.exit c.args.policy old c.run_result-told.result new does c.self.invariant.7))

pub returns-clause-honest : goal.returns-clause-honest
returns-clause-honest g c =
    let a = c.self.inside in
    let fixed = fixed_by (g.H.Handler.meaning a.inner.handler) a.version a.options in
    let old = the_record a.inner in
    let new = the_record c.run_result-told.new.self in
    let came = c.self.invariant.0 in
    let does = finish_told fixed c.args.handle c.args.exit c.args.policy (the_fields a.inner) c.run_result-told.result (the_fields c.run_result-told.new.self) came c.self.invariant.5 c.output_len.ensures.whole c.run_result-told.ensures.does in
    rw (← c.self.view_is)
    (λ honest.
    finish_is_own fixed new c.run_result-told.result honest
    (finish_caused fixed c.args.handle c.args.exit c.args.policy old c.run_result-told.result new does
    (finish_blames fixed c.args.handle c.args.exit c.args.policy old c.run_result-told.result new came does c.self.invariant.1)
    (finish_late fixed c.args.handle c.args.exit c.args.policy old c.run_result-told.result new came does c.self.invariant.3)
    (finish_led fixed c.args.handle c.args.exit c.args.policy old c.run_result-told.result new does c.self.invariant.7)))
