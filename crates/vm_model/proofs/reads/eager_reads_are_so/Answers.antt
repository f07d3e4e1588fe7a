use Rattle.std.proofs.Common.{subst}
use Rattle.vm_model.specs.Histories.{EagerFrom}
use Rattle.vm_model.proofs.Eager.{all_keys_brought, values_brought}
use Rattle.vm_model.proofs.reads.eager_reads_are_so.Goals as goal

pub returns-clause-values : goal.returns-clause-values
returns-clause-values c = λ s m base journal h before behind raw read splits is. values_brought base before raw behind read (subst (EagerFrom base) splits h.eager) is

pub returns-clause-keys : goal.returns-clause-keys
returns-clause-keys c = λ s m base journal h before behind raw read splits is whole. all_keys_brought base before raw behind read (subst (EagerFrom base) splits h.eager) is whole
