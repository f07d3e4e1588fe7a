use Rattle.std.proofs.Common.{◌≡◌, ◌≤◌, length, take}
use Rattle.await_arrivals.specs.Entries.{Tracked, with_results}
use Rattle.await_arrivals.proofs.log.track.Given as goal

abbrev pub invariant-loop-entry : goal.invariant-loop-entry
invariant-loop-entry l = record {
  tracked : Tracked (with_results (take l.entry-index l.entries)) l.index l.slots.items;
  place : length (with_results (take l.entry-index l.entries)) ≡ l.place;
  few : l.place ≤ l.entry-index;
}
