use Rattle.std.proofs.Common.{ap}
use Rattle.world_rounds.specs.Course.{CourseView}
use Rattle.world_rounds.proofs.Continuing.{happens_lasts_in}
use Rattle.world_rounds.proofs.OfRuns.{none_stored, outside_seen, runs_seen}
use Rattle.world_rounds.proofs.course.Course.happen.Goals as goal

pub invariant_of-result-in-Ok : goal.invariant_of-result-in-Ok
invariant_of-result-in-Ok g c = happens_lasts_in (λ h. g.H.Handler.meaning h.now) (g.H.Handler.meaning c.self.inside.handler.now) c.self.inside.setting c.self.inside.given c.self.inside.desk c.self.inside.attempt c.in-Some.attempt c.args.event.now c.happen_at.new.desk c.happen_at.new.place c.in-Some.is c.self.invariant c.in-Ok.ensures.does (ap g.H.Handler.meaning c.in-Ok.ensures.handler) c.in-Ok.ensures.made_for

pub returns-in-Err-clause-outside : goal.returns-in-Err-clause-outside
returns-in-Err-clause-outside g c = outside_seen (λ h. g.H.Handler.meaning h.now) (λ h. g.H.Handler.meaning h) c.self.inside.handler.now c.self.inside.setting c.self.inside.given c.self.inside.desk c.self.inside.attempt c.in-Some.attempt c.args.self c.self.view_is c.in-Some.is c.self.invariant c.args.event.now c.in-Err.fault c.in-Err.ensures.does

pub returns-clause-runs : goal.returns-clause-runs
returns-clause-runs g c = runs_seen (λ h. g.H.Handler.meaning h.now) (λ h. g.H.Handler.meaning h) c.self.inside.handler.now c.self.inside.setting c.self.inside.given c.self.inside.desk c.self.inside.attempt c.in-Some.attempt c.args.self c.self.view_is c.in-Some.is c.self.invariant c.args.event.now c.happen_at.new.desk c.happen_at.new.place.record_of c.in-Ok.ensures.does

pub returns-in-None-clause-runs : goal.returns-in-None-clause-runs
returns-in-None-clause-runs g c = λ replays. none_stored c.args.event.now c.args.self.journal c.self.inside.desk.journal (ap (λ (v : CourseView _). v.journal) c.self.view_is)
