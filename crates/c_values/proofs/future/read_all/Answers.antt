use Rattle.journal_protocol.proofs.Facts.{whole_shorter}
use Rattle.c_values.proofs.future.read_all.Goals as goal

pub loop-decoder-smaller : goal.loop-decoder-smaller
loop-decoder-smaller c = let h = rw c.in-Some.is at c.in_ok-raw.ensures.some in whole_shorter c.loop-decoder.decoder c.in-Some.raw c.next_whole.new.decoder h

pub loop-decoder-smaller-in_ok-note : goal.loop-decoder-smaller-in_ok-note
loop-decoder-smaller-in_ok-note c = let h = rw c.in-Some.is at c.in_ok-raw.ensures.some in whole_shorter c.loop-decoder.decoder c.in-Some.raw c.next_whole.new.decoder h
