use Rattle.std.proofs.Common.{subst, sym, ◌++◌}
use Rattle.vm_layers.specs.Layers.{HoldsMessages}
use Rattle.std.proofs.Common.{map}
use Rattle.vm_layers.proofs.Translating.{frames_read}
use Rattle.vm_layers.proofs.translation.translated_messages_are_read.Goals as goal

pub returns : goal.returns
returns g c = λ from to stream rest out more moved.
    subst (λ z. HoldsMessages (g.B.Layer.front to) (z ++ more) (map (g.B.Layer.as_read to) moved.messages) more) (sym moved.written)
    (frames_read (g.B.Layer.front to) (g.B.Layer.Fits to) (g.B.Layer.frame to) (g.B.Layer.as_read to) (g.B.Layer.read_back to) moved.messages more moved.fit)
