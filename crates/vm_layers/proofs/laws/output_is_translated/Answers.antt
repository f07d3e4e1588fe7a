use Rattle.vm_layers.proofs.Output.{handed_out}
use Rattle.vm_layers.proofs.laws.output_is_translated.Goals as goal

pub returns : goal.returns
returns g c = λ layer. handed_out (g.L.Layer.Has layer) (g.L.Layer.Fits layer) (g.L.Layer.frame layer)
