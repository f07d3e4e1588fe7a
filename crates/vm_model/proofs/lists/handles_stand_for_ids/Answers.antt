use Rattle.vm_model.proofs.Spans.{told_cancel}
use Rattle.vm_model.proofs.Uses.{handles_stand, handles_stay}
use Rattle.vm_model.proofs.lists.handles_stand_for_ids.Goals as goal

pub returns-clause-stands : goal.returns-clause-stands
returns-clause-stands c = handles_stand

pub returns-clause-stays : goal.returns-clause-stays
returns-clause-stays c = handles_stay

pub returns-clause-cancel : goal.returns-clause-cancel
returns-clause-cancel c = told_cancel
