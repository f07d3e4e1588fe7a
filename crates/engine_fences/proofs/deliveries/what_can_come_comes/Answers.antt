use Rattle.engine_fences.proofs.Delivering.{all_delivered, all_have_to_wait, what_can_comes}
use Rattle.engine_fences.proofs.deliveries.what_can_come_comes.Goals as goal

pub returns-clause-comes : goal.returns-clause-comes
returns-clause-comes g c = what_can_comes (λ h. g.H.Handler.meaning h) c.args.engine.now

pub returns-clause-all : goal.returns-clause-all
returns-clause-all g c = λ place new live d. all_delivered (λ h. g.H.Handler.meaning h) place c.args.engine.now new live d

pub returns-clause-causes : goal.returns-clause-causes
returns-clause-causes g c = λ none events mid new place h live d. all_have_to_wait (λ h. g.H.Handler.meaning h) events c.args.engine.now mid new place none h live d
