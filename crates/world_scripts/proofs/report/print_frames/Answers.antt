use Rattle.journal_protocol.proofs.Facts.{frame_long}
use Rattle.world_scripts.proofs.report.print_frames.Goals as goal

pub loop-raw-smaller-in_ok-word : goal.loop-raw-smaller-in_ok-word
loop-raw-smaller-in_ok-word c = let h = rw c.in-Some.is at c.in_ok-raw.ensures in frame_long c.in-Some.raw.ty c.in-Some.raw.body c.next_whole.new.decoder c.loop-raw.decoder h

pub loop-raw-smaller : goal.loop-raw-smaller
loop-raw-smaller c = let h = rw c.in-Some.is at c.in_ok-raw.ensures in frame_long c.in-Some.raw.ty c.in-Some.raw.body c.next_whole.new.decoder c.loop-raw.decoder h
