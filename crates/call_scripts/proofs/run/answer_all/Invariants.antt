use Rattle.std.proofs.Common.{length}
use Rattle.std.specs.declared.io.Error.{Error as IoError}
use Rattle.call_scripts.specs.Transcripts.{TranscriptIsWritten}
use Rattle.call_scripts.proofs.run.answer_all.Given as goal

abbrev pub invariant-loop-rest : goal.invariant-loop-rest
invariant-loop-rest g l =
    TranscriptIsWritten l.alloc l.script l.rest l.initial.vm l.vm (g.W.Sink.contents l.initial.writer) (g.W.Sink.contents l.writer) × ((e : IoError) → g.W.Sink.fails l.writer e → g.W.Sink.fails l.initial.writer e)

abbrev pub decreases-loop-rest : goal.decreases-loop-rest
decreases-loop-rest g l = length l.rest
