-- Output that is taken in the layer of a peer.
use Rattle.std.proofs.Common.{◌≡◌, ℕ, List, length, inl, inr}
use Rattle.std.specs.Prelude.{Result, Err}
use Rattle.invocation_vm.specs.declared.core_vm.CoreVM.{CoreVM}
use Rattle.vm_layers.specs.Steps.{IsSettled}
use Rattle.vm_layers.specs.declared.layer.LayerFault.{LayerFault}
use Rattle.vm_layers.specs.declared.layer.LayerFault.TheVariants.{Memory}
use Rattle.c_values.specs.declared.status.Status.{Status}
use Rattle.c_values.specs.declared.status.Status.TheVariants as status
use Rattle.c_sessions.specs.declared.peer.Peer.{Peer}
use Rattle.c_sessions.specs.Peers.{DrainedOver, HandedOut, TakenOver, stops_by}

-- what has a frame was taken, and handed out
pub handed : (ended : Result (Unit {0}) LayerFault) (told : Status) (len : ℕ) (before after : List ℕ) (p mid q : Peer) (old new : CoreVM) → IsSettled ended → TakenOver ended p mid old new → HandedOut (stops_by ended) told len before after mid q → DrainedOver told len before after p q old new
handed ended told len before after p mid q old new settled taken out = inl (record { mid = mid; ended = ended; settled = settled; taken = taken; handed = out })

-- no memory was found
pub starved : (told : Status) (len : ℕ) (before after : List ℕ) (p q : Peer) (old new : CoreVM) → TakenOver (Err Memory) p q old new → told ≡ status.NoMemory → len ≡ length q.sent.items → after ≡ before → DrainedOver told len before after p q old new
starved told len before after p q old new taken is waits room = inr (record { status = is; taken = taken; waits = waits; room = room })
