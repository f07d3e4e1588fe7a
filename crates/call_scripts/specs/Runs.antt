-- How a run of the program ends, and what it has written then.
use Rattle.std.specs.Prelude.{◌≢◌, ◌≡◌, ℕ, List, [], Option, None, IfSome}
use Rattle.std.proofs.Common.{Global}
use Rattle.std.specs.declared.io.Error.{Error as IoError}
use Rattle.invocation_vm.specs.declared.core_vm.CoreVM.{CoreVM}
use Rattle.call_scripts.specs.Transcripts.{TranscriptIsWritten, IsBegun}
use Rattle.call_scripts.specs.declared.run_end.RunEnd.{RunEnd}
use Rattle.call_scripts.specs.declared.run_end.RunEnd.TheVariants.{ReadFailed, NoMemory, WriteFailed, Done}

-- Out of memory at a line: what is written are the answers of the lines before it.
pub record IsOutOfMemoryAt (alloc : Global) (script : List ℕ) (old : Option CoreVM)
    (before after : Option (List ℕ)) : Type 0 where
  pub rest : List ℕ
  pub last : Option CoreVM
  pub is_written : TranscriptIsWritten alloc script rest old last before after
  pub is_left : rest ≢ []

-- An answer was cut: what is written are the answers before it, and a beginning of it.
pub record IsCut (alloc : Global) (script : List ℕ) (old : Option CoreVM)
    (before after : Option (List ℕ)) : Type 0 where
  pub rest : List ℕ
  pub last : Option CoreVM
  pub between : Option (List ℕ)
  pub is_written : TranscriptIsWritten alloc script rest old last before between
  pub is_left : rest ≢ []
  pub is_begun : IsBegun alloc rest last between after

-- what is written of a script's answers, if they have ended so
abbrev pub EndsScript : Global → List ℕ → Option CoreVM → Option (List ℕ) → Option (List ℕ)
    → (IoError → Type 0) → RunEnd → Type 0
EndsScript alloc script old before after write_fails (ReadFailed e) = ⊥
EndsScript alloc script old before after write_fails NoMemory =
    IsOutOfMemoryAt alloc script old before after
EndsScript alloc script old before after write_fails (WriteFailed e) = write_fails e
    × IsCut alloc script old before after
EndsScript alloc script old before after write_fails Done =
    (last : Option CoreVM) × TranscriptIsWritten alloc script [] old last before after

-- The script is all that the reader had left, if this is known. Its lines are answered with no VM
-- at first.
pub record IsRun (alloc : Global) (remaining before after : Option (List ℕ))
    (write_fails : IoError → Type 0) (end : RunEnd) : Type 0 where
  pub script : List ℕ
  pub read : IfSome remaining (λ bytes. script ≡ bytes)
  pub ends : EndsScript alloc script None before after write_fails end

-- What each end of a run says. `runs` says that a script was answered up to that end; `read` that
-- all was read, and `unwritten` that nothing was written.
abbrev pub IsRunEnd : (RunEnd → Type 0) → (IoError → Type 0) → Type 0 → Type 0 → RunEnd → Type 0
IsRunEnd runs read_fails read unwritten (ReadFailed e) = read_fails e × unwritten
IsRunEnd runs read_fails read unwritten NoMemory = read × runs NoMemory
IsRunEnd runs read_fails read unwritten (WriteFailed e) = read × runs (WriteFailed e)
IsRunEnd runs read_fails read unwritten Done = read × runs Done
