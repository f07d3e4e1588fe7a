use Rattle.std.proofs.Common.{take, subst}
use Rattle.world_rounds.specs.Course.{AreRun, CourseView}
use Rattle.world_rounds.specs.Guarantees.{HasOneResultEach, HasRightKinds, IsExactlyOnce}
use Rattle.world_rounds.specs.Rounds.{ReplaysAndQueues}
use Rattle.world_rounds.specs.Sound.{IsSoundFor}
use Rattle.world_rounds.proofs.Continuing.{course_kinds, course_once, course_one_run, course_run, course_sound}
use Rattle.world_rounds.proofs.course.Course.journal.Given as given
use Rattle.world_rounds.proofs.course.Course.journal.Goals as goal

-- rounds lead to the journal
run : (g : given.Over) (c : goal.After-as_slice g) → AreRun (g.H.Handler.meaning c.self.inside.handler.now) c.self.inside.setting (take c.self.inside.given c.self.inside.desk.journal) c.self.inside.desk.journal
run g c = course_run (λ h. g.H.Handler.meaning h.now) (g.H.Handler.meaning c.self.inside.handler.now) c.self.inside.setting c.self.inside.given c.self.inside.desk c.self.inside.attempt c.self.invariant c.ends_of.ensures

pub returns-clause-run : goal.returns-clause-run
returns-clause-run g c = subst (λ (v : CourseView _). AreRun (g.H.Handler.meaning v.handler) v.setting (take v.given v.journal) v.journal) c.self.view_is (run g c)

pub returns-clause-history : goal.returns-clause-history
returns-clause-history g c = subst (λ (v : CourseView _). IsSoundFor (g.H.Handler.meaning v.handler) v.setting (take v.given v.journal) → IsSoundFor (g.H.Handler.meaning v.handler) v.setting v.journal) c.self.view_is (course_sound _ _ _ _ c.self.invariant.first (run g c))

pub returns-clause-one_run : goal.returns-clause-one_run
returns-clause-one_run g c = subst (λ (v : CourseView _). ReplaysAndQueues v.setting.options → IsExactlyOnce (record { handler = g.H.Handler.meaning v.handler; setting = v.setting }) (take v.given v.journal) → IsExactlyOnce (record { handler = g.H.Handler.meaning v.handler; setting = v.setting }) v.journal) c.self.view_is (course_one_run _ _ _ _ c.self.invariant.first (run g c))

pub returns-clause-once : goal.returns-clause-once
returns-clause-once g c = subst (λ (v : CourseView _). IsSoundFor (g.H.Handler.meaning v.handler) v.setting (take v.given v.journal) → HasOneResultEach (record { handler = g.H.Handler.meaning v.handler; setting = v.setting }) v.journal) c.self.view_is (course_once _ _ _ _ c.self.invariant.first (run g c))

pub returns-clause-kinds : goal.returns-clause-kinds
returns-clause-kinds g c = subst (λ (v : CourseView _). IsSoundFor (g.H.Handler.meaning v.handler) v.setting (take v.given v.journal) → HasRightKinds v.journal) c.self.view_is (course_kinds _ _ _ _ c.self.invariant.first (run g c))
