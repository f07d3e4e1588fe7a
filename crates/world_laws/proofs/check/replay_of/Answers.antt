use Rattle.std.proofs.Common.{false, ◌++◌, ap, ◌∙◌, refl, sym}
use Rattle.std.specs.List.{concat}
use Rattle.world_laws.proofs.Checking.{attempt_shows}
use Rattle.world_laws.proofs.check.replay_of.Goals as goal

pub returns : goal.returns
returns g c = record {
  shown =
      attempt_shows c.args.alloc (g.H.Handler.meaning c.args.handler.now) c.args.setting.now (record { partial = false; keys = c.new.result; retry_count = 0; duration = 0; events = c.new-2.result }) c.args.journal.now c.in_ok-bytes.bytes
      c.in_ok-attempt.attempt.record_of c.feed.new.self.record_of c.replay_steps.new.attempt.record_of c.feed.result (g.H.Handler.meaning c.feed.new.self.handler.now) c.args.steps c.replay_steps.result
      c.requires.entries refl c.in_ok-start.ensures.whole c.in_ok-start.ensures.texts (c.in_ok-bytes.ensures.bytes ∙ ap (λ l. l ++ concat c.args.journal.now) c.in_ok-start.ensures.bytes) c.in_ok-attempt.ensures.record
      (sym c.is_err.ensures.value ∙ c.if-is_err.false)
      c.feed.ensures.does
      (ap g.H.Handler.meaning (ap (λ h. h.now) c.feed.ensures.handler ∙ c.in_ok-attempt.ensures.handler))
      c.replay_steps.ensures.shown;
}
