use Rattle.vm_model.proofs.Likeness.{agree_alike, alike_everywhere, alike_on_back, finished_alike, history_alike, sound_alike, told_alike}
use Rattle.vm_model.proofs.families.erased_alike.Goals as goal

pub returns-clause-back : goal.returns-clause-back
returns-clause-back c = alike_on_back

pub returns-clause-told : goal.returns-clause-told
returns-clause-told c = told_alike

pub returns-clause-history : goal.returns-clause-history
returns-clause-history c = history_alike

pub returns-clause-sound : goal.returns-clause-sound
returns-clause-sound c = sound_alike

pub returns-clause-agree : goal.returns-clause-agree
returns-clause-agree c = agree_alike

pub returns-clause-everywhere : goal.returns-clause-everywhere
returns-clause-everywhere c = alike_everywhere

pub returns-clause-finished : goal.returns-clause-finished
returns-clause-finished c = finished_alike
