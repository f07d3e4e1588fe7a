use Rattle.std.proofs.Common.{◌≡◌, take}
use Rattle.std.specs.List.{flat_map}
use Rattle.journal_protocol.specs.FutureNode.{FutureNode}
use Rattle.vm_layers.proofs.short.names_of.Given as goal

abbrev pub invariant-loop-node : goal.invariant-loop-node
invariant-loop-node l = l.names ≡ flat_map (λ (n : FutureNode). n.waiting_named_signals) (take l.node-index l.nodes)
