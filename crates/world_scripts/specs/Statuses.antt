-- The exit statuses of the program.
use Rattle.std.specs.Prelude.{Option, Some, None}
use Rattle.program_runs.specs.declared.exit_status.ExitStatus.{ExitStatus}
use Rattle.program_runs.specs.declared.exit_status.ExitStatus.TheVariants as status
use Rattle.world_scripts.specs.declared.run_end.Refusal.{Refusal}
use Rattle.world_scripts.specs.declared.run_end.Refusal.TheVariants.{UnknownHandler, UnknownContentType, NoMeaning}
use Rattle.world_scripts.specs.declared.stop.Stop.{Stop}

-- 0 if all rounds have run, 1 if a fault has stopped them; the report is written
abbrev pub rounds_status : Option Stop → ExitStatus
rounds_status None = status.Done
rounds_status (Some stop) = status.Failed

-- 2 if the handler is unknown or a line has no meaning, 1 if the content type is none
abbrev pub rounds_refusal_status : Refusal → ExitStatus
rounds_refusal_status UnknownHandler = status.Usage
rounds_refusal_status UnknownContentType = status.Failed
rounds_refusal_status (NoMeaning number copy) = status.Usage
