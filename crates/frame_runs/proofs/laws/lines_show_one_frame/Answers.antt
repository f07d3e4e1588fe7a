use Rattle.frame_runs.proofs.OneFrame.{line_once}
use Rattle.frame_runs.proofs.laws.lines_show_one_frame.Goals as goal

pub returns : goal.returns
returns c = line_once
