-- The exit statuses of the program.
use Rattle.program_runs.specs.declared.exit_status.ExitStatus.{ExitStatus}
use Rattle.program_runs.specs.declared.exit_status.ExitStatus.TheVariants as status
use Rattle.program_vmrun.specs.declared.run_end.AttemptEnd.{AttemptEnd}
use Rattle.program_vmrun.specs.declared.run_end.AttemptEnd.TheVariants as attempt_end
use Rattle.program_vmrun.specs.declared.run_end.Refusal.{Refusal}
use Rattle.program_vmrun.specs.declared.run_end.Refusal.TheVariants as refusal

-- 0 if the handler has ended, 3 if the invocation is suspended, and else 1; its output is written
abbrev pub attempt_status : AttemptEnd → ExitStatus
attempt_status attempt_end.Ended = status.Done
attempt_status attempt_end.Suspended = status.Suspended
attempt_status (attempt_end.Failed e) = status.Failed
attempt_status attempt_end.Stalled = status.Failed

-- 2 if the handler is unknown, 1 if the content type is refused
abbrev pub runner_refusal_status : Refusal → ExitStatus
runner_refusal_status refusal.UnknownHandler = status.Usage
runner_refusal_status (refusal.ContentType e) = status.Failed
