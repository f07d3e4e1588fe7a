use Rattle.engine_fences.proofs.Naming.{all_named}
use Rattle.engine_fences.proofs.Signalling.{none_from_nowhere, signals_come}
use Rattle.engine_fences.proofs.signals.signals_come_once.Goals as goal

pub returns-clause-once : goal.returns-clause-once
returns-clause-once g c = λ events new d. signals_come (λ h. g.H.Handler.meaning h) events c.args.engine.now new d

pub returns-clause-sent : goal.returns-clause-sent
returns-clause-sent g c = λ none events new d. none_from_nowhere (λ h. g.H.Handler.meaning h) events c.args.engine.now new none d

pub returns-clause-named : goal.returns-clause-named
returns-clause-named g c = λ none events new d few. all_named (λ h. g.H.Handler.meaning h) events c.args.engine.now new none d few
