use Rattle.world_rounds.proofs.Continuing.{stop_lasts}
use Rattle.world_rounds.proofs.course.Course.stop.Goals as goal

pub invariant_of-result : goal.invariant_of-result
invariant_of-result g c = stop_lasts (λ h. g.H.Handler.meaning h.now) (g.H.Handler.meaning c.self.inside.handler.now) c.self.inside.setting c.self.inside.given c.self.inside.desk c.self.inside.attempt c.self.invariant c.ends_of.ensures
