use Rattle.engine_fences.proofs.Ordered.{all_in_order, front_in_turn}
use Rattle.engine_fences.proofs.signals.signals_come_in_order.Goals as goal

pub returns-clause-order : goal.returns-clause-order
returns-clause-order g c = λ events new d. all_in_order (λ h. g.H.Handler.meaning h) events c.args.engine.now new d

pub returns-clause-front : goal.returns-clause-front
returns-clause-front g c = λ place. front_in_turn c.args.engine.now place
