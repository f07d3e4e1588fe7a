-- What a line of a script from C does to the session that it is given.
use Rattle.std.specs.Prelude.{◌≡◌, ◌==◌, ℕ, Bool, true, false, List, length, slice_get, Option, Some, None, is_some}
use Rattle.std.proofs.Common.{Global}
use Rattle.call_scripts.specs.Transcripts.{IsUnanswered, Transcribes}
use Rattle.invocation_vm.specs.Seen.{seen}
use Rattle.invocation_vm.specs.declared.core_vm.CoreVM.{CoreVM}
use Rattle.journal_protocol.specs.Error.{Error}
use Rattle.c_sessions.specs.Replies.{mimics_by}
use Rattle.c_sessions.specs.declared.peer.Peer.{Peer}
use Rattle.c_sessions.specs.declared.session.Session.{Session}
use Rattle.c_values.specs.declared.status.Status.{Status}
use Rattle.c_values.specs.declared.status.Status.TheVariants as status

-- the error of a VM that has failed
abbrev pub failure_of : Option CoreVM → Option Error
failure_of (Some vm) = (seen vm).machine.failure
failure_of None = None

-- whether an answer that begins with this byte is an error: `e` of `err`
abbrev pub begins_refusal : Option ℕ → Bool
begins_refusal (Some byte) = byte == 101
begins_refusal None = false

abbrev pub is_refusal_text : List ℕ → Bool
is_refusal_text answer = begins_refusal (slice_get answer 0)

-- after a line that was an error or not: whether the VM's error only reads as out of memory
abbrev pub mimics_after : Session → Option CoreVM → Bool → Bool
mimics_after old vm refused =
    mimics_by old.mimics (is_some (failure_of old.vm)) (failure_of vm) refused

-- A line was performed on the session's VM, and its answer is the session's. Without memory the
-- last answer stays, and the VM is as it was, or the line was performed.
abbrev pub LineDone : Global → List ℕ → Status → Session → Session → Type 0
LineDone alloc line status.Done old new =
    Transcribes alloc old.vm new.vm line new.answer
    × (new.mimics ≡ mimics_after old new.vm (is_refusal_text new.answer))
    × (new.reply ≡ old.reply) × (new.lent ≡ old.lent) × (new.peer ≡ old.peer)
LineDone alloc line status.NoMemory old new =
    (new.answer ≡ old.answer) × IsUnanswered alloc old.vm new.vm line
    × (new.mimics ≡ mimics_after old new.vm true)
    × (new.reply ≡ old.reply) × (new.lent ≡ old.lent) × (new.peer ≡ old.peer)
LineDone alloc line told old new = ⊥

-- A session whose peer speaks another layer has no lines.
abbrev pub LineAsked : Option Peer → Global → List ℕ → Status → Session → Session → Type 0
LineAsked None alloc line told old new = LineDone alloc line told old new
LineAsked (Some p) alloc line status.Layered old new = new ≡ old
LineAsked (Some p) alloc line told old new = ⊥

-- A line is performed on the session that there is; `len` is the length of its answer.
abbrev pub LineSent : Global → List ℕ → Status → ℕ → Option Session → Option Session → Type 0
LineSent alloc line status.NoSession len None None = len ≡ 0
LineSent alloc line told len (Some old) (Some new) =
    LineAsked old.peer alloc line told old new × (len ≡ length new.answer)
LineSent alloc line told len old new = ⊥
