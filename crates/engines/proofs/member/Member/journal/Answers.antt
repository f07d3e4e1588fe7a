use Rattle.std.proofs.Common.{subst}
use Rattle.engines.specs.Members.{MemberView, case_in}
use Rattle.engines.proofs.Beginnings.{all_once, first_replayable}
use Rattle.world_rounds.specs.Guarantees.{HasOneResultEach, HasRightKinds, IsExactlyOnce, IsReplayable}
use Rattle.world_rounds.specs.Rounds.{ReplaysAndQueues}
use Rattle.engines.proofs.member.Member.journal.Goals as goal

pub returns-clause-one_run : goal.returns-clause-one_run
returns-clause-one_run g c = subst (λ (v : MemberView _). ReplaysAndQueues v.course.setting.options → IsExactlyOnce (case_in (g.H.Handler.meaning v.course.handler) v.course) v.course.journal) c.self.view_is
    (all_once (g.H.Handler.meaning c.self.inside.course.handler) c.self.inside.course c.self.invariant.began c.journal.ensures.one_run)

pub returns-clause-replayable : goal.returns-clause-replayable
returns-clause-replayable g c = subst (λ (v : MemberView _). ReplaysAndQueues v.course.setting.options → IsReplayable (case_in (g.H.Handler.meaning v.course.handler) v.course) v.course.journal) c.self.view_is
    (λ r. c.journal.ensures.history (first_replayable (g.H.Handler.meaning c.self.inside.course.handler) c.self.inside.course c.self.invariant.began r))

pub returns-clause-once : goal.returns-clause-once
returns-clause-once g c = subst (λ (v : MemberView _). ReplaysAndQueues v.course.setting.options → HasOneResultEach (case_in (g.H.Handler.meaning v.course.handler) v.course) v.course.journal) c.self.view_is
    (λ r. c.journal.ensures.once (first_replayable (g.H.Handler.meaning c.self.inside.course.handler) c.self.inside.course c.self.invariant.began r))

pub returns-clause-kinds : goal.returns-clause-kinds
returns-clause-kinds g c = subst (λ (v : MemberView _). ReplaysAndQueues v.course.setting.options → HasRightKinds v.course.journal) c.self.view_is
    (λ r. c.journal.ensures.kinds (first_replayable (g.H.Handler.meaning c.self.inside.course.handler) c.self.inside.course c.self.invariant.began r))
