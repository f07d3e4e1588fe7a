-- The exit status of a run that is refused.
use Rattle.program_runs.specs.declared.exit_status.ExitStatus.{ExitStatus}
use Rattle.program_runs.specs.declared.exit_status.ExitStatus.TheVariants as status
use Rattle.frame_runs.specs.declared.refusal.Refusal.{Refusal}
use Rattle.frame_runs.specs.declared.refusal.Refusal.TheVariants.{Usage, BadLine}

-- 2 if the arguments make no sense, 1 if a line has no meaning
abbrev pub frames_refusal_status : Refusal → ExitStatus
frames_refusal_status Usage = status.Usage
frames_refusal_status (BadLine number copy) = status.Failed
