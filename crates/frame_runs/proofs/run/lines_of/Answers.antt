use Rattle.journal_protocol.proofs.Facts.{frame_long}
use Rattle.frame_runs.proofs.run.lines_of.Goals as goal

pub loop-text-smaller-in_ok-add_frame_line : goal.loop-text-smaller-in_ok-add_frame_line
loop-text-smaller-in_ok-add_frame_line c = let h = rw c.in-Some.is at c.in_ok-raw.ensures.spelled in frame_long c.in-Some.raw.ty c.in-Some.raw.body c.next_whole.new.decoder c.loop-text.decoder h

pub loop-text-smaller : goal.loop-text-smaller
loop-text-smaller c = let h = rw c.in-Some.is at c.in_ok-raw.ensures.spelled in frame_long c.in-Some.raw.ty c.in-Some.raw.body c.next_whole.new.decoder c.loop-text.decoder h
