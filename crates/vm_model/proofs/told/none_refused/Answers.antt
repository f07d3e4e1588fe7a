use Rattle.vm_model.proofs.Compared.{none_refused}
use Rattle.vm_model.proofs.Refusals.{own_reason, refused_stuck}
use Rattle.vm_model.proofs.told.none_refused.Goals as goal

pub returns-clause-reasons : goal.returns-clause-reasons
returns-clause-reasons c = refused_stuck

pub returns-clause-own : goal.returns-clause-own
returns-clause-own c = own_reason

pub returns-clause-on_histories : goal.returns-clause-on_histories
returns-clause-on_histories c = none_refused
