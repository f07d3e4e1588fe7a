use Rattle.std.specs.Prelude.{OnOk}
use Rattle.std.proofs.Common.{sym, subst}
use Rattle.engines.specs.Engines.{HappeningDoes}
use Rattle.engines.specs.Replaying.{AllReplay}
use Rattle.engines.proofs.Replaying.{no_arrival, under_premise}
use Rattle.engines.proofs.engine.Engine.happen.Goals as goal

pub returns-in-Act-clause-does : goal.returns-in-Act-clause-does
returns-in-Act-clause-does g c = subst (λ e. OnOk c.act.result (HappeningDoes (λ h. g.H.Handler.meaning h) e c.args.self.now c.act.new.self)) (sym c.in-Act.is) c.act.ensures.does

pub returns-in-Deliver-clause-does : goal.returns-in-Deliver-clause-does
returns-in-Deliver-clause-does g c = subst (λ e. OnOk c.deliver.result (HappeningDoes (λ h. g.H.Handler.meaning h) e c.args.self.now c.deliver.new.self)) (sym c.in-Deliver.is) c.deliver.ensures.does

pub returns-in-Submit-clause-err : goal.returns-in-Submit-clause-err
returns-in-Submit-clause-err g c = no_arrival c.submit.result c.submit.ensures.err

pub returns-in-Submit-clause-replaying : goal.returns-in-Submit-clause-replaying
returns-in-Submit-clause-replaying g c = under_premise (AllReplay c.args.self.now) c.submit.result c.submit.ensures.err

pub returns-in-Begin-clause-err : goal.returns-in-Begin-clause-err
returns-in-Begin-clause-err g c = no_arrival c.begin.result c.begin.ensures.err

pub returns-in-Begin-clause-replaying : goal.returns-in-Begin-clause-replaying
returns-in-Begin-clause-replaying g c = under_premise (AllReplay c.args.self.now) c.begin.result c.begin.ensures.err

pub returns-in-Act-clause-err : goal.returns-in-Act-clause-err
returns-in-Act-clause-err g c = no_arrival c.act.result c.act.ensures.err

pub returns-in-Act-clause-replaying : goal.returns-in-Act-clause-replaying
returns-in-Act-clause-replaying g c = under_premise (AllReplay c.args.self.now) c.act.result c.act.ensures.err

pub returns-in-Deliver-clause-err : goal.returns-in-Deliver-clause-err
returns-in-Deliver-clause-err g c = no_arrival c.deliver.result c.deliver.ensures.err

pub returns-in-Deliver-clause-replaying : goal.returns-in-Deliver-clause-replaying
returns-in-Deliver-clause-replaying g c = under_premise (AllReplay c.args.self.now) c.deliver.result c.deliver.ensures.err
