-- The exit statuses of the programs.
use Rattle.std.specs.Prelude.{ℕ}
use Rattle.program_runs.specs.declared.exit_status.ExitStatus.{ExitStatus}
use Rattle.program_runs.specs.declared.exit_status.ExitStatus.TheVariants as status
use Rattle.program_runs.specs.declared.run_end.RunEnd.{RunEnd}
use Rattle.program_runs.specs.declared.run_end.RunEnd.TheVariants.{Refused, ReadFailed, NoMemory, WriteFailed, Written}

-- the number of each
abbrev pub exit_code : ExitStatus → ℕ
exit_code status.Done = 0
exit_code status.Failed = 1
exit_code status.Usage = 2
exit_code status.Suspended = 3

-- The status of a run that ended so. `refused` says the status of each refusal, and `done` that of
-- what a run has done, if its output is written.
abbrev pub status_of : {R D : Type 0} → (R → ExitStatus) → (D → ExitStatus) → RunEnd R D
    → ExitStatus
status_of refused done (Refused why) = refused why
status_of refused done (ReadFailed e) = status.Failed
status_of refused done NoMemory = status.Failed
status_of refused done (WriteFailed x e) = status.Failed
status_of refused done (Written x) = done x
