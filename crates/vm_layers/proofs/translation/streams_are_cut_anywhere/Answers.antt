use Rattle.vm_layers.proofs.Cutting.{all_steps, cut_anywhere}
use Rattle.vm_layers.proofs.translation.streams_are_cut_anywhere.Goals as goal

pub returns-clause-whole : goal.returns-clause-whole
returns-clause-whole g c = λ from to. all_steps (g.A.Layer.front from) (g.B.Layer.Fits to) (g.B.Layer.frame to) (g.A.Layer.whole_stays from)

pub returns-clause-one : goal.returns-clause-one
returns-clause-one g c = λ from to. cut_anywhere (g.A.Layer.front from) (g.B.Layer.Has to) (g.B.Layer.Fits to) (g.B.Layer.frame to) (g.A.Layer.whole_stays from) (g.B.Layer.fits_has to)
