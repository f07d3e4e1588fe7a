-- What each end of a run says.
use Rattle.std.specs.Prelude.{ℕ, List, Option}
use Rattle.std.specs.Io.KnownBytes.{Appends}
use Rattle.std.specs.declared.io.Error.{Error as IoError}
use Rattle.program_runs.specs.Streams.{AppendsSome}
use Rattle.program_runs.specs.declared.run_end.RunEnd.{RunEnd}
use Rattle.program_runs.specs.declared.run_end.RunEnd.TheVariants.{Refused, ReadFailed, NoMemory, WriteFailed, Written}

-- What each end of a run says. `refuses` says why the run is refused; `does` what it has done, and
-- what is written of its output into a writer that held and now holds these bytes; `read` that all
-- was read, and `unwritten` that nothing was written.
abbrev pub Says : {R D : Type 0} → (R → Type 0) → ((List ℕ → Type 0) → D → Type 0)
    → Option (List ℕ) → Option (List ℕ) → (IoError → Type 0) → (IoError → Type 0) → Type 0 → Type 0
    → RunEnd R D → Type 0
Says refuses does held holds read_fails write_fails read unwritten (Refused why) =
    refuses why × unwritten
Says refuses does held holds read_fails write_fails read unwritten (ReadFailed e) =
    read_fails e × unwritten
Says refuses does held holds read_fails write_fails read unwritten NoMemory = read × unwritten
Says refuses does held holds read_fails write_fails read unwritten (WriteFailed x e) =
    write_fails e × read × does (AppendsSome held holds) x
Says refuses does held holds read_fails write_fails read unwritten (Written x) =
    read × does (Appends held holds) x
