-- Futures as they stand in a message and on a line.
use Rattle.std.proofs.Common.{List, refl}
use Rattle.journal_protocol.specs.FutureNode.{FutureNode}
use Rattle.journal_attempt.specs.Futures.{future_format}
use Rattle.frame_values.specs.Futures.{future_notation}
use Rattle.frame_runs.proofs.Fitting.{Item, never_left_out}
use Rattle.frame_runs.proofs.FutureTexts.{future_reads}
use Rattle.frame_runs.proofs.OneFuture.{future_once, future_something}

abbrev pub future_item : Item (List FutureNode)
future_item = record {
  format = future_format;
  value = future_notation;
  reads = future_reads;
  once = future_once;
  left_out = never_left_out future_notation (λ nodes. refl);
  something = future_something;
}
