-- What a call from C does to the session that it is given.
use Rattle.std.specs.Prelude.{◌≡◌, ◌⊎◌, ◌<◌, ◌++◌, ℕ, false, List, [], length, drop, Option, Some, None, Ok}
use Rattle.std.specs.List.{concat}
use Rattle.std.specs.Vec.{vec_ptr}
use Rattle.std.proofs.Common.{Global, Vec}
use Rattle.vm_parts.specs.Outboxes.{len_of}
use Rattle.invocation_vm.specs.declared.core_vm.CoreVM.{CoreVM}
use Rattle.invocation_vm.specs.Seen.{seen}
use Rattle.invocation_vm.specs.Views.{StarvesAmong, TakesOutput, after_input, messages_in_bytes}
use Rattle.vm_types.specs.declared.reply.Reply.TheVariants as reply
use Rattle.c_sessions.specs.Peers.{DrainedOver, FedOver, IsPeerOf, NothingWaits}
use Rattle.c_sessions.specs.declared.outgoing.Outgoing.{Outgoing}
use Rattle.c_sessions.specs.declared.peer.Peer.{Peer}
use Rattle.c_sessions.specs.declared.peer.Spoken.{Spoken}
use Rattle.c_sessions.specs.declared.session.Session.{Session}
use Rattle.c_values.specs.declared.status.Status.{Status}
use Rattle.c_values.specs.declared.status.Status.TheVariants as status

-- no VM, no answer, no reply, and nothing is lent; its peer speaks this layer, and nothing of it
-- waits
abbrev pub IsEmpty : Spoken → Session → Type 0
IsEmpty said s = (s.vm ≡ None) × (s.answer ≡ []) × (s.reply ≡ reply.Nothing) × (s.mimics ≡ false)
    × (s.lent.items ≡ []) × IsPeerOf said s.peer

-- a session was made, and it is empty; or there is none, since no memory was found, or since the
-- number names no layer
abbrev pub IsNewSession : Option Spoken → Status → Option Session → Type 0
IsNewSession (Some said) status.Done (Some made) = IsEmpty said made
IsNewSession (Some said) status.NoMemory None = Unit {0}
IsNewSession None status.BadNumber None = Unit {0}
IsNewSession said told made = ⊥

-- The last answer is written to the front of the room for it, if there is so much.
abbrev pub AnswerRead : Status → ℕ → List ℕ → List ℕ → Option Session → Type 0
AnswerRead status.Done len before after (Some s) = (len ≡ length s.answer)
    × (after ≡ s.answer ++ drop len before)
AnswerRead status.NoRoom len before after (Some s) = (len ≡ length s.answer) × (length before < len)
    × (after ≡ before)
AnswerRead status.NoSession len before after None = (len ≡ 0) × (after ≡ before)
AnswerRead told len before after s = ⊥

-- Bytes are fed to a VM. Without memory it is as it was, or has failed for it among the messages
-- that the bytes bring.
abbrev pub Fed : List ℕ → Status → Option CoreVM → Option CoreVM → Type 0
Fed bytes status.Done (Some old) (Some new) = seen new ≡ after_input (seen old) bytes
Fed bytes status.NoMemory (Some old) (Some new) =
    (new ≡ old) ⊎ StarvesAmong (messages_in_bytes (seen old) bytes) (seen old).machine
    (seen new).machine
Fed bytes status.NoVm None None = Unit {0}
Fed bytes told old new = ⊥

-- Bytes are fed to a VM, in the layer that its peer speaks.
abbrev pub FedBy : List ℕ → Status → Option Peer → Option Peer → Option CoreVM → Option CoreVM
    → Type 0
FedBy bytes told None None old new = Fed bytes told old new
FedBy bytes told (Some p) (Some q) (Some old) (Some new) = FedOver bytes told p q old new
FedBy bytes status.NoVm (Some p) (Some q) None None = q ≡ p
FedBy bytes told p q old new = ⊥

-- Bytes are fed to the VM of the session that there is.
abbrev pub InputFed : List ℕ → Status → Option Session → Option Session → Type 0
InputFed bytes status.NoSession None None = Unit {0}
InputFed bytes told (Some old) (Some new) = FedBy bytes told old.peer new.peer old.vm new.vm
    × (new.answer ≡ old.answer) × (new.reply ≡ old.reply) × (new.mimics ≡ old.mimics)
    × (new.lent ≡ old.lent)
InputFed bytes told old new = ⊥

-- The output of a VM is taken, and written to the front of the room for it, if there is so much;
-- else nothing is changed.
abbrev pub Drained : Status → ℕ → List ℕ → List ℕ → Option CoreVM → Option CoreVM → Type 0
Drained status.Done len before after (Some old) (Some new) =
    let output = concat (seen old).machine.output in
    TakesOutput (Ok output) (seen old) (seen new) × (len ≡ length output)
    × (after ≡ output ++ drop len before)
Drained status.NoRoom len before after (Some old) (Some new) =
    (len ≡ len_of (seen old).machine.output) × (length before < len) × (after ≡ before)
    × (new ≡ old)
Drained status.NoMemory len before after (Some old) (Some new) = (len
    ≡ len_of (seen old).machine.output) × (after ≡ before) × (new ≡ old)
Drained status.NoVm len before after None None = (len ≡ 0) × (after ≡ before)
Drained told len before after old new = ⊥

-- The output of a VM is taken, in the layer that its peer speaks.
abbrev pub DrainedBy : Status → ℕ → List ℕ → List ℕ → Option Peer → Option Peer → Option CoreVM
    → Option CoreVM → Type 0
DrainedBy told len before after None None old new = Drained told len before after old new
DrainedBy told len before after (Some p) (Some q) (Some old) (Some new) =
    DrainedOver told len before after p q old new
DrainedBy status.NoVm len before after (Some p) (Some q) None None =
    (len ≡ 0) × (after ≡ before) × (q ≡ p)
DrainedBy told len before after p q old new = ⊥

-- nothing waits beside a VM any more; its peer speaks what it spoke
abbrev pub PeerCleared : Option Peer → Option Peer → Type 0
PeerCleared None None = Unit {0}
PeerCleared (Some p) (Some q) = NothingWaits q × (q.fixed ≡ p.fixed)
    × (q.transcoder.layer ≡ p.transcoder.layer)
PeerCleared p q = ⊥

-- only what waits beside the VM is dropped
abbrev pub IsCleared : Session → Session → Type 0
IsCleared old new = PeerCleared old.peer new.peer × (new.vm ≡ old.vm) × (new.answer ≡ old.answer)
    × (new.reply ≡ old.reply) × (new.mimics ≡ old.mimics) × (new.lent ≡ old.lent)

-- The output of the VM of the session that there is.
abbrev pub OutputTaken : Status → ℕ → List ℕ → List ℕ → Option Session → Option Session → Type 0
OutputTaken status.NoSession len before after None None = (len ≡ 0) × (after ≡ before)
OutputTaken told len before after (Some old) (Some new) =
    DrainedBy told len before after old.peer new.peer old.vm new.vm
    × (new.answer ≡ old.answer) × (new.reply ≡ old.reply) × (new.mimics ≡ old.mimics)
    × (new.lent ≡ old.lent)
OutputTaken told len before after old new = ⊥

-- ---- output that is lent

-- where a buffer lies, and how many bytes it has
abbrev pub outgoing_of : Vec ℕ Global → Outgoing
outgoing_of buffer = record { at = vec_ptr buffer; len = length buffer.items }

-- The output of a VM moves to a buffer, instead of what that held.
abbrev pub Lends : Status → Option CoreVM → Option CoreVM → Vec ℕ Global → Vec ℕ Global → Type 0
Lends status.Done (Some old) (Some new) before after =
    TakesOutput (Ok after.items) (seen old) (seen new)
Lends status.NoVm None None before after = after ≡ before
Lends told old new before after = ⊥

-- The same, if the VM's peer speaks the VM's own layer: nothing is lent to one that speaks another.
abbrev pub LendsBy : Option Peer → Status → Option CoreVM → Option CoreVM → Vec ℕ Global
    → Vec ℕ Global → Type 0
LendsBy None told old new before after = Lends told old new before after
LendsBy (Some p) status.Layered old new before after = (new ≡ old) × (after ≡ before)
LendsBy (Some p) told old new before after = ⊥

-- C gets where the buffer lies, or nothing.
abbrev pub IsLentAt : Status → Vec ℕ Global → Outgoing → Outgoing → Type 0
IsLentAt status.Done buffer before after = after ≡ outgoing_of buffer
IsLentAt told buffer before after = after ≡ before

-- The output of the VM of the session that there is moves to a buffer of the session, and C gets
-- where that lies. Each other call leaves the buffer as it is, and where it is.
abbrev pub OutputLent : Status → Outgoing → Outgoing → Option Session → Option Session → Type 0
OutputLent status.NoSession before after None None = after ≡ before
OutputLent told before after (Some old) (Some new) =
    LendsBy old.peer told old.vm new.vm old.lent new.lent × IsLentAt told new.lent before after
    × (new.answer ≡ old.answer) × (new.reply ≡ old.reply) × (new.mimics ≡ old.mimics)
    × (new.peer ≡ old.peer)
OutputLent told before after old new = ⊥
