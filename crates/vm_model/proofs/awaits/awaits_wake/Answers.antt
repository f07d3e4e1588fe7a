use Rattle.std.proofs.Common.{refl}
use Rattle.vm_model.proofs.Waking.{answers_awake, await_least, await_runs, none_ends}
use Rattle.vm_model.proofs.awaits.awaits_wake.Goals as goal

pub returns-clause-only : goal.returns-clause-only
returns-clause-only c = await_least

pub returns-clause-uses : goal.returns-clause-uses
returns-clause-uses c = λ s m future j p at h. await_runs s m future j p p.queue refl at h

pub returns-clause-awake : goal.returns-clause-awake
returns-clause-awake c = answers_awake

pub returns-clause-none : goal.returns-clause-none
returns-clause-none c = none_ends
