use Rattle.vm_attempt.specs.Inside.{the_fields, the_record}
use Rattle.vm_attempt.proofs.Blamed.{feed_blames}
use Rattle.vm_attempt.proofs.Caused.{feed_led}
use Rattle.vm_attempt.proofs.Coming.{feed_comes}
use Rattle.vm_attempt.proofs.InReplay.{feed_in_replay}
use Rattle.vm_attempt.proofs.Late.{feed_late}
use Rattle.vm_attempt.proofs.Sleeping.{feed_sleeps}
use Rattle.vm_attempt.proofs.Steady.{feed_told}
use Rattle.vm_attempt.proofs.Under.{feed_under}
use Rattle.vm_attempt.proofs.attempt.Attempt.feed.Goals as goal
use Rattle.vm_model.specs.Fixed.{fixed_by}

pub invariant_of-self : goal.invariant_of-self
invariant_of-self g c =
    let a = c.self.inside in
    let fixed = fixed_by (g.H.Handler.meaning a.inner.handler) a.version a.options in
    let old = the_record a.inner in
    let new = the_record c.feed-fed.new.self in
    let does = feed_told fixed c.args.piece (the_fields a.inner) c.feed-fed.result (the_fields c.feed-fed.new.self) c.self.invariant.0 c.self.invariant.5 c.output_len.ensures.whole c.feed-fed.ensures.does in
    rw c.feed-fed.ensures.handler (
      feed_comes fixed c.args.piece old c.feed-fed.result new c.self.invariant.0 does,
      feed_blames fixed c.args.piece old c.feed-fed.result new c.self.invariant.0 c.self.invariant.1 does,
      feed_under fixed c.args.piece old c.feed-fed.result new c.self.invariant.2 does,
      feed_late fixed c.args.piece old c.feed-fed.result new c.self.invariant.1 c.self.invariant.3 does,
      feed_sleeps fixed c.args.piece old c.feed-fed.result new c.self.invariant.3 c.self.invariant.4 does,
      c.output_len.ensures.whole,
      feed_in_replay fixed c.args.piece old c.feed-fed.result new c.self.invariant.6 does,
      feed_led fixed c.args.piece old c.feed-fed.result new does c.self.invariant.7,
    )

pub returns-clause-does : goal.returns-clause-does
returns-clause-does g c =
    let a = c.self.inside in
    let fixed = fixed_by (g.H.Handler.meaning a.inner.handler) a.version a.options in
    rw (← c.self.view_is) (feed_told fixed c.args.piece (the_fields a.inner) c.feed-fed.result (the_fields c.feed-fed.new.self) c.self.invariant.0 c.self.invariant.5 c.output_len.ensures.whole c.feed-fed.ensures.does)
