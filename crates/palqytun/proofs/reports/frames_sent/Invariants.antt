use Rattle.std.proofs.Common.{◌≡◌, ◌++◌, length}
use Rattle.journal_entries.specs.Frames.{frames_of}
use Rattle.palqytun.proofs.reports.frames_sent.Given as goal

abbrev pub invariant-loop-decoder : goal.invariant-loop-decoder
invariant-loop-decoder l = (frames_of l.report.output).0 ≡ l.frames.items ++ (frames_of l.decoder).0

abbrev pub decreases-loop-decoder : goal.decreases-loop-decoder
decreases-loop-decoder l = length l.decoder
