use Rattle.engine_inboxes.proofs.Coming.{on_ok_then}
use Rattle.engines.specs.Engines.{HappeningDoes}
use Rattle.engines.proofs.Replaying.{no_arrival_so}
use Rattle.engine_fences.specs.Fences.{FencedDoes}
use Rattle.engine_fences.proofs.Granting.{granted}
use Rattle.engine_fences.proofs.fences.FencedEngine.happen.Goals as goal

pub returns-in-Ok-clause-does : goal.returns-in-Ok-clause-does
returns-in-Ok-clause-does g c = on_ok_then c.happen.result (HappeningDoes (λ h. g.H.Handler.meaning h) c.args.asked.now.happening c.args.self.now.engine c.happen.new.self) (FencedDoes (λ h. g.H.Handler.meaning h) c.args.asked.now c.args.self.now (record c.args.self.now { engine = c.happen.new.self; epochs = c.name_epoch.new.epochs }))
    (granted (λ h. g.H.Handler.meaning h) c.grants.result c.args.asked.now c.args.self.now (record c.args.self.now { engine = c.happen.new.self; epochs = c.name_epoch.new.epochs }) c.grants.ensures c.if-not-grants.false c.in-Ok.ensures.names)
    c.happen.ensures.does

pub returns-in-Err-clause-err : goal.returns-in-Err-clause-err
returns-in-Err-clause-err g c = no_arrival_so c.in-Err.fault c.in-Err.ensures.err

pub returns-in-Err-clause-replaying : goal.returns-in-Err-clause-replaying
returns-in-Err-clause-replaying g c = λ r. c.in-Err.ensures.err
