use Rattle.std.proofs.Common.{◌≡◌, drop}
use Rattle.await_arrivals.specs.Entries.{with_results}
use Rattle.await_arrivals.proofs.log.none_left.Given as goal

abbrev pub invariant-loop-entry : goal.invariant-loop-entry
invariant-loop-entry l = with_results l.entries ≡ with_results (drop l.entry-index l.entries)
