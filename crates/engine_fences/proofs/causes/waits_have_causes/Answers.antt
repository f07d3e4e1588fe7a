use Rattle.engine_fences.proofs.Inboxes.{inboxes_asked, inboxes_caused}
use Rattle.engine_fences.proofs.Causing.{waits_have_causes}
use Rattle.engine_fences.proofs.causes.waits_have_causes.Goals as goal

pub returns-clause-causes : goal.returns-clause-causes
returns-clause-causes g c = λ kept. waits_have_causes c.args.engine.now kept

pub returns-clause-asked : goal.returns-clause-asked
returns-clause-asked g c = λ none events new d. inboxes_asked (λ h. g.H.Handler.meaning h) events c.args.engine.now new none d

pub returns-clause-inboxes : goal.returns-clause-inboxes
returns-clause-inboxes g c = λ none events new d. inboxes_caused (λ h. g.H.Handler.meaning h) events c.args.engine.now new none d
