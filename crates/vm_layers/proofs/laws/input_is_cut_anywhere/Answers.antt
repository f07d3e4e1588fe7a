use Rattle.vm_layers.proofs.Coming.{both_come, one_comes}
use Rattle.vm_layers.proofs.laws.input_is_cut_anywhere.Goals as goal

pub returns-clause-join : goal.returns-clause-join
returns-clause-join g c = λ layer. both_come (g.L.Layer.front layer) (g.L.Layer.whole_stays layer) (g.L.Layer.malformed_stays layer)

pub returns-clause-one : goal.returns-clause-one
returns-clause-one g c = λ layer. one_comes (g.L.Layer.front layer)
