-- The exit status of a run of the program.
use Rattle.program_runs.specs.declared.exit_status.ExitStatus.{ExitStatus}
use Rattle.program_runs.specs.declared.exit_status.ExitStatus.TheVariants as status
use Rattle.call_scripts.specs.declared.run_end.RunEnd.{RunEnd}
use Rattle.call_scripts.specs.declared.run_end.RunEnd.TheVariants.{ReadFailed, NoMemory, WriteFailed, Done}

-- 0 if each line of the script is answered, else 1
abbrev pub status_of_script : RunEnd → ExitStatus
status_of_script (ReadFailed e) = status.Failed
status_of_script NoMemory = status.Failed
status_of_script (WriteFailed e) = status.Failed
status_of_script Done = status.Done
