-- What a call of a session's VM from C does, whichever it is, and how its reply is read.
use Rattle.std.specs.Prelude.{◌≡◌, ◌==◌, ℕ, Bool, true, false, List, Option, Some, None, Result, Ok, Err, is_some}
use Rattle.std.proofs.Common.{Global}
use Rattle.journal_protocol.specs.Error.{Error}
use Rattle.journal_protocol.specs.Version.{Version}
use Rattle.vm_types.specs.declared.options.VMOptions.{VMOptions}
use Rattle.vm_calls.specs.Making.{VmIsMade}
use Rattle.invocation_vm.specs.declared.core_vm.CoreVM.{CoreVM}
use Rattle.invocation_vm.specs.Seen.{seen}
use Rattle.invocation_vm.specs.Views.{View}
use Rattle.vm_types.specs.declared.reply.Reply.{Reply}
use Rattle.c_sessions.specs.declared.peer.Peer.{Peer}
use Rattle.c_sessions.specs.declared.replied.Replied.{Replied}
use Rattle.c_sessions.specs.declared.session.Session.{Session}
use Rattle.c_values.specs.declared.status.Status.{Status}
use Rattle.c_values.specs.declared.status.Status.TheVariants as status
use Rattle.c_values.specs.Written.{BytesWritten}
use Rattle.c_sessions.specs.Sessions.{PeerCleared}
use Rattle.c_sessions.specs.Replies.{kept_told, mimics_by, part_of, summary, numbers_by}

-- what a call returns to C: its reply's summary; or, if it isn't made, the reason
abbrev pub outcome_told : Result Reply Status → Replied
outcome_told (Ok reply) = summary reply
outcome_told (Err status) = kept_told status

-- the reply that is kept: that of the call; the last one if it isn't made
abbrev pub reply_kept : Result Reply Status → Reply → Reply
reply_kept (Ok reply) last = reply
reply_kept (Err status) last = last

-- `does` says what the call does to the VM. The call is made: C gets its reply's summary, and the
-- reply is kept instead of the last one. Or it isn't made: C gets the reason.
abbrev pub IsMadeOf : (Result Reply Status → View → View → Type 0) → Result Replied Status → View
    → View → Reply → Reply → Type 0
IsMadeOf does (Ok told) old new last kept = does (Ok kept) old new × (told ≡ summary kept)
IsMadeOf does (Err status) old new last kept = does (Err status) old new × (kept ≡ last)

-- whether the outcome is an error
abbrev pub is_refused : Result Reply Status → Bool
is_refused outcome = (outcome_told outcome).status == 5

-- `does` says what the call does to the VM. C gets the call's outcome, and its reply is kept. An
-- error by which the VM hasn't failed has a kind of its own, and out of memory by which it has a
-- status. `was` and `is` say whether the VM's error only reads so, before the call and after it.
pub record IsCalled (does : Result Reply Status → View → View → Type 0) (replied : Replied)
    (old new : CoreVM) (was is : Bool) (last next : Reply) : Type 0 where
  pub outcome : Result Reply Status
  pub done : does outcome (seen old) (seen new)
  pub mimics : is ≡ mimics_by was (is_some (seen old).machine.failure) (seen new).machine.failure
      (is_refused outcome)
  pub told : replied ≡ numbers_by (is_some (seen new).machine.failure) is (outcome_told outcome)
  pub kept : next ≡ reply_kept outcome last

-- A call is made of the VM that there is.
abbrev pub OnVm : (Result Reply Status → View → View → Type 0) → Replied → Option CoreVM
    → Option CoreVM → Bool → Bool → Reply → Reply → Type 0
OnVm does told (Some old) (Some new) was is last kept = IsCalled does told old new was is last kept
OnVm does told None None was is last kept =
    (told ≡ kept_told status.NoVm) × (is ≡ was) × (kept ≡ last)
OnVm does told old new was is last kept = ⊥

-- A call is made of the VM of the session that there is. The last answer to a line stays, what
-- waits beside the VM, and the output that C was lent, where it lies.
abbrev pub CalledFromC : (Result Reply Status → View → View → Type 0) → Replied → Option Session
    → Option Session → Type 0
CalledFromC does told (Some old) (Some new) =
    OnVm does told old.vm new.vm old.mimics new.mimics old.reply new.reply
    × (new.answer ≡ old.answer)
    × (new.lent ≡ old.lent) × (new.peer ≡ old.peer)
CalledFromC does told None None = told ≡ kept_told status.NoSession
CalledFromC does told old new = ⊥

-- A call whose reply has bytes of the VM's own isn't made if the session's peer speaks another
-- layer: they wait for it still.
abbrev pub OwnOver : Option Peer → (Result Reply Status → View → View → Type 0) → Replied → Session
    → Session → Type 0
OwnOver None does told old new = CalledFromC does told (Some old) (Some new)
OwnOver (Some p) does told old new = (told ≡ kept_told status.Layered) × (new ≡ old)

-- Such a call, of the VM of the session that there is.
abbrev pub OwnFromC : (Result Reply Status → View → View → Type 0) → Replied → Option Session
    → Option Session → Type 0
OwnFromC does told (Some old) (Some new) = OwnOver old.peer does told old new
OwnFromC does told None None = told ≡ kept_told status.NoSession
OwnFromC does told old new = ⊥

-- A VM is put into the session that there is, instead of the last one. If there is none, C gets
-- the reason; out of memory has a status of its own. The last answer to a line stays, and so does
-- the output that C was lent. Nothing waits beside the new VM.
abbrev pub MadeFromC : Global → VMOptions → Result Version Error → Replied → Option Session
    → Option Session → Type 0
MadeFromC alloc options wanted told (Some old) (Some new) =
    VmIsMade alloc options wanted new.reply new.vm
    × (told ≡ numbers_by true false (summary new.reply)) × (new.mimics ≡ false)
    × (new.answer ≡ old.answer) × (new.lent ≡ old.lent) × PeerCleared old.peer new.peer
MadeFromC alloc options wanted told None None = told ≡ kept_told status.NoSession
MadeFromC alloc options wanted told old new = ⊥

-- A part is written, if there is one.
abbrev pub part_read : Option (List ℕ) → Status → ℕ → List ℕ → List ℕ → Type 0
part_read (Some part) told len before after = BytesWritten part told len before after
part_read None status.NoPart len before after = (len ≡ 0) × (after ≡ before)
part_read None told len before after = ⊥

-- A part of the last reply is read.
abbrev pub PartRead : ℕ → Status → ℕ → List ℕ → List ℕ → Option Session → Type 0
PartRead at told len before after (Some s) = part_read (part_of s.reply at) told len before after
PartRead at status.NoSession len before after None = (len ≡ 0) × (after ≡ before)
PartRead at told len before after None = ⊥
