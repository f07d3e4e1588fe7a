use Rattle.engine_fences.proofs.Completing.{completions_asked, completions_own, ids_rise}
use Rattle.engine_fences.proofs.completions.completions_are_asked_for.Goals as goal

pub returns-clause-asked : goal.returns-clause-asked
returns-clause-asked g c = λ none events new d. completions_asked (λ h. g.H.Handler.meaning h) events c.args.engine.now new none d

pub returns-clause-ids : goal.returns-clause-ids
returns-clause-ids g c = λ none events new d. ids_rise (λ h. g.H.Handler.meaning h) events c.args.engine.now new none d

pub returns-clause-own : goal.returns-clause-own
returns-clause-own g c = λ none r events new d. completions_own (λ h. g.H.Handler.meaning h) events c.args.engine.now new none r d
