use Rattle.std.proofs.Common.{drop}
use Rattle.vm_layers.proofs.Translating.{one_more}
use Rattle.vm_layers.proofs.translation.translate.Goals as goal

pub loop-message-preserved : goal.loop-message-preserved
loop-message-preserved g c =
    let read = rw c.in-Some.is at c.in_ok-message.ensures in
    rw c.advance.ensures (one_more (g.A.Layer.front c.args.from.now) (g.B.Layer.Fits c.args.to.now) (g.B.Layer.frame c.args.to.now) c.args.stream.now c.loop-message.stream
    c.args.out.now.items c.loop-message.out.items c.encode.new.out.items c.in-Some.message (drop c.in-Some.len c.loop-message.stream) c.loop-message.invariant read.1
    c.in_ok-encode.ensures.0 c.in_ok-encode.ensures.1)
