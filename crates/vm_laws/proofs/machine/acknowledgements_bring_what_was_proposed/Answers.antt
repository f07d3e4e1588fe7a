use Rattle.vm_laws.proofs.Acknowledging.{kept_comes, none_comes, none_kept_early}
use Rattle.vm_laws.proofs.machine.acknowledgements_bring_what_was_proposed.Goals as goal

pub returns-clause-kept : goal.returns-clause-kept
returns-clause-kept c = kept_comes

pub returns-clause-none : goal.returns-clause-none
returns-clause-none c = none_comes

pub returns-clause-early : goal.returns-clause-early
returns-clause-early c = none_kept_early
