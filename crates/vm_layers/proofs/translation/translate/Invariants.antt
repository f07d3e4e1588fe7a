use Rattle.std.proofs.Common.{length}
use Rattle.vm_layers.specs.Layers.{Moves}
use Rattle.vm_layers.proofs.translation.translate.Given as goal

abbrev pub invariant-loop-message : goal.invariant-loop-message
invariant-loop-message g l = Moves (g.A.Layer.front l.from) (g.B.Layer.Fits l.to) (g.B.Layer.frame l.to) l.fn.stream l.stream l.fn.out.items l.out.items

abbrev pub decreases-loop-message : goal.decreases-loop-message
decreases-loop-message g l = length l.stream
