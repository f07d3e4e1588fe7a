-- What a call from C does to a session's VM whose peer speaks another layer.
use Rattle.std.specs.Prelude.{◌≡◌, ◌⊎◌, ◌<◌, ◌==◌, ◌++◌, ℕ, if◌then◌else◌, Bool, true, false, List, [], length, drop, Option, Some, None, Result, Ok, Err}
use Rattle.invocation_vm.specs.declared.core_vm.CoreVM.{CoreVM}
use Rattle.invocation_vm.specs.Seen.{seen}
use Rattle.journal_protocol.specs.Version.{Version}
use Rattle.journal_protocol.specs.Version.TheVariants as version
use Rattle.vm_layers.specs.Layers.{Moves, Stops}
use Rattle.vm_layers.specs.Own.{own_front}
use Rattle.vm_layers.specs.Short.{HasMessage, IsShort, short, short_front}
use Rattle.vm_layers.specs.Steps.{IsSettled}
use Rattle.vm_layers.specs.Transcoding.{ComesOver, StarvesOver, WithOutput, unsent}
use Rattle.vm_layers.specs.declared.layer.LayerFault.{LayerFault}
use Rattle.vm_layers.specs.declared.layer.LayerFault.TheVariants.{Memory}
use Rattle.vm_layers.specs.declared.short.Short.{Short}
use Rattle.c_sessions.specs.declared.peer.Peer.{Peer}
use Rattle.c_sessions.specs.declared.peer.Spoken.{Spoken}
use Rattle.c_sessions.specs.declared.peer.Spoken.TheVariants as spoken
use Rattle.c_values.specs.declared.status.Status.{Status}
use Rattle.c_values.specs.declared.status.Status.TheVariants as status

-- the layer of a number
abbrev pub layer_at : ℕ → Option Spoken
layer_at n =
    if n == 0 then Some spoken.Own
    else if n == 1 then Some spoken.Short
    else if n == 2 then Some spoken.ShortV6
    else None

-- no byte waits, either way
abbrev pub NothingWaits : Peer → Type 0
NothingWaits p = (p.transcoder.input ≡ []) × (p.transcoder.output ≡ []) × (p.sent.items ≡ [])

-- a new peer that speaks the second layer, in this version of it or in that of the VM
abbrev pub SpeaksShort : Option Version → Peer → Type 0
SpeaksShort fixed p = NothingWaits p × (p.fixed ≡ fixed) × (p.transcoder.layer.mark ≡ false)

-- a new peer that speaks this layer; nothing stands between the VM and one that speaks the VM's own
abbrev pub IsPeerOf : Spoken → Option Peer → Type 0
IsPeerOf spoken.Own None = Unit {0}
IsPeerOf spoken.Short (Some p) = SpeaksShort None p
IsPeerOf spoken.ShortV6 (Some p) = SpeaksShort (Some version.V6) p
IsPeerOf said p = ⊥

-- the version in which a peer speaks to a VM of this version
abbrev pub version_over : Option Version → Version → Version
version_over None v = v
version_over (Some fixed) v = fixed

-- the layer as the peer speaks it to this VM
abbrev pub layer_to : Peer → CoreVM → Short
layer_to p vm = record p.transcoder.layer {
  version = version_over p.fixed (seen vm).machine.version;
}

-- the way out stays as it is
abbrev pub OnlyInput : Peer → Peer → CoreVM → Type 0
OnlyInput p q vm = (q.transcoder.layer ≡ layer_to p vm) × (q.fixed ≡ p.fixed)
    × (q.transcoder.output ≡ p.transcoder.output) × (q.sent ≡ p.sent)

-- Bytes of the peer are fed. Without memory the VM is as it was, or has failed for it among the
-- messages that the bytes bring, or before a fault that follows them.
abbrev pub FedOver : List ℕ → Status → Peer → Peer → CoreVM → CoreVM → Type 0
FedOver bytes status.Done p q old new =
    ComesOver (short_front (layer_to p old).version) p.transcoder.input bytes (seen old)
    q.transcoder.input (seen new) × OnlyInput p q old
FedOver bytes status.NoMemory p q old new = ((new ≡ old) × (q ≡ p))
    ⊎ (StarvesOver (short_front (layer_to p old).version) p.transcoder.input bytes (seen old)
    q.transcoder.input (seen new) × OnlyInput p q old)
FedOver bytes told p q old new = ⊥

-- What C hasn't taken is written to the front of the room for it, if there is so much. If it is
-- nothing, and a message stops the rest, C learns this.
abbrev pub HandedOut : Bool → Status → ℕ → List ℕ → List ℕ → Peer → Peer → Type 0
HandedOut stops status.Done len before after p q = (len ≡ length p.sent.items)
    × (after ≡ p.sent.items ++ drop len before) × (q.sent.items ≡ []) × (q.fixed ≡ p.fixed)
    × (q.transcoder ≡ p.transcoder) × ((stops ≡ true) → (p.sent.items ≡ [] → ⊥))
HandedOut stops status.NoRoom len before after p q = (len ≡ length p.sent.items)
    × (length before < len) × (after ≡ before) × (q ≡ p)
HandedOut true status.NoFrame len before after p q = (len ≡ 0) × (p.sent.items ≡ [])
    × (after ≡ before) × (q ≡ p)
HandedOut stops told len before after p q = ⊥

-- whether a message without a frame stopped a translation of output
abbrev pub stops_by : Result (Unit {0}) LayerFault → Bool
stops_by (Ok _) = false
stops_by (Err _) = true

-- The messages that the VM wrote and C wasn't handed out yet are taken as far as each has a frame
-- in the peer's layer, and follow what C hasn't taken: `mid` is the peer then.
pub record TakenOver (ended : Result (Unit {0}) LayerFault) (p mid : Peer) (old new : CoreVM)
    : Type 0 where
  pub moved : Moves own_front (IsShort (layer_to p old)) (short (layer_to p old))
      (unsent p.transcoder.output (seen old)) (unsent mid.transcoder.output (seen new))
      p.sent.items mid.sent.items
  pub stops : Stops own_front (HasMessage (layer_to p old)) (IsShort (layer_to p old))
      (unsent mid.transcoder.output (seen new)) ended
  pub quiet : WithOutput (seen old) (seen new)
  pub layer : mid.transcoder.layer ≡ layer_to p old
  pub input : mid.transcoder.input ≡ p.transcoder.input
  pub fixed : mid.fixed ≡ p.fixed

-- All that has a frame is taken, and handed out.
pub record DrainsOver (told : Status) (len : ℕ) (before after : List ℕ) (p q : Peer)
    (old new : CoreVM) : Type 0 where
  pub mid : Peer
  pub ended : Result (Unit {0}) LayerFault
  pub settled : IsSettled ended
  pub taken : TakenOver ended p mid old new
  pub handed : HandedOut (stops_by ended) told len before after mid q

-- No memory is found for it. Nothing is lost: what was taken waits for C.
pub record StarvesTaking (told : Status) (len : ℕ) (before after : List ℕ) (p q : Peer)
    (old new : CoreVM) : Type 0 where
  pub status : told ≡ status.NoMemory
  pub taken : TakenOver (Err Memory) p q old new
  pub waits : len ≡ length q.sent.items
  pub room : after ≡ before

-- the VM's output is taken in the peer's layer
abbrev pub DrainedOver : Status → ℕ → List ℕ → List ℕ → Peer → Peer → CoreVM → CoreVM → Type 0
DrainedOver told len before after p q old new = DrainsOver told len before after p q old new
    ⊎ StarvesTaking told len before after p q old new
