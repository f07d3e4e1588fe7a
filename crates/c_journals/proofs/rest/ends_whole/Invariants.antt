use Rattle.std.proofs.Common.{◌≡◌, length}
use Rattle.journal_entries.specs.Frames.{frames_of}
use Rattle.c_journals.proofs.rest.ends_whole.Given as goal

abbrev pub invariant-loop : goal.invariant-loop
invariant-loop l = record { same : (frames_of l.left).1 ≡ (frames_of l.fn.left).1 }

abbrev pub decreases-loop : goal.decreases-loop
decreases-loop l = length l.left
