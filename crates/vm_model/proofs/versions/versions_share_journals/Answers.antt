use Rattle.vm_model.specs.Histories.{Honest, Whole}
use Rattle.vm_model.proofs.Agreeing.{agree_back, history_same, one_run_same, sound_same}
use Rattle.vm_model.proofs.versions.versions_share_journals.Goals as goal

pub returns-clause-back : goal.returns-clause-back
returns-clause-back c = agree_back

pub returns-clause-history : goal.returns-clause-history
returns-clause-history c = history_same

pub returns-clause-sound : goal.returns-clause-sound
returns-clause-sound c = sound_same

pub returns-clause-one_run : goal.returns-clause-one_run
returns-clause-one_run c = λ s m other base. one_run_same s m other (Honest base)

pub returns-clause-undisturbed : goal.returns-clause-undisturbed
returns-clause-undisturbed c = λ s m other base. one_run_same s m other (Whole base)
