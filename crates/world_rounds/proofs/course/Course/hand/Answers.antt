use Rattle.std.proofs.Common.{◌≤◌, length, ap, refl, subst, sym, ◌∙◌}
use Rattle.world_rounds.specs.Course.{CourseView, live_now}
use Rattle.world_rounds.proofs.Continuing.{hand_lasts, hand_seen}
use Rattle.world_rounds.proofs.course.Course.hand.Goals as goal

pub invariant_of-result : goal.invariant_of-result
invariant_of-result g c = hand_lasts (λ h. g.H.Handler.meaning h.now) (g.H.Handler.meaning c.self.inside.handler.now) c.self.inside.setting (record c.self.inside.setting { base = c.args.base }) c.self.inside.given c.self.inside.desk c.self.inside.desk c.self.inside.attempt (subst (λ (v : CourseView _). length v.journal ≤ v.given) (sym c.self.view_is) c.requires.unstored) refl c.self.invariant

pub returns : goal.returns
returns g c = hand_seen c.args.self c.self.inside.handler.now c.self.inside.setting (record c.self.inside.setting { base = c.args.base }) c.self.inside.given c.self.inside.desk.journal (live_now c.self.inside.desk c.self.inside.attempt) c.args.base c.self.view_is (ap (λ (v : CourseView _). v.live) c.self.view_is ∙ c.requires.none) refl
