-- The exit statuses of the program.
use Rattle.std.specs.Prelude.{Option, Some, None}
use Rattle.program_runs.specs.declared.exit_status.ExitStatus.{ExitStatus}
use Rattle.program_runs.specs.declared.exit_status.ExitStatus.TheVariants as status
use Rattle.engine_inboxes.specs.declared.fault.EngineFault.{EngineFault}
use Rattle.engine_lines.specs.declared.run_end.Refusal.{Refusal}
use Rattle.engine_lines.specs.declared.run_end.Refusal.TheVariants.{OtherArguments, UnknownContentType, NoMeaning}

-- 0 if all events have happened, and their report is written; 1 if a fault has stopped them
abbrev pub ending_status : Option EngineFault → ExitStatus
ending_status None = status.Done
ending_status (Some fault) = status.Failed

-- 2 if the arguments are others or a line has no meaning, 1 if the content type is none
abbrev pub refusal_status : Refusal → ExitStatus
refusal_status OtherArguments = status.Usage
refusal_status UnknownContentType = status.Failed
refusal_status (NoMeaning number copy) = status.Usage
