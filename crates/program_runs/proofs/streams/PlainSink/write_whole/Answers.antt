use Rattle.program_runs.proofs.Writing.{flushed}
use Rattle.program_runs.proofs.streams.PlainSink.write_whole.Goals as goal

pub returns-clause-part : goal.returns-clause-part
returns-clause-part g c =
    flushed c.flush.result (g.W.Write.contents c.args.self.now.0) (g.W.Write.contents c.write_all.new.writer) (g.W.Write.contents c.flush.new.self) c.args.bytes.now c.in_ok-write_all.ensures.ok c.flush.ensures.bytes
