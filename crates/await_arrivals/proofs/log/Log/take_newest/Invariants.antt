use Rattle.std.proofs.Common.{◌≡◌, take, drop, length}
use Rattle.await_arrivals.specs.Results.{newest, newest_after, results_of, without_all}
use Rattle.await_arrivals.specs.Entries.{not_taken}
use Rattle.await_arrivals.proofs.log.Log.take_newest.Given as goal

abbrev pub invariant-loop-result : goal.invariant-loop-result
invariant-loop-result l = record {
  found : newest (results_of l.id (not_taken (take l.seen l.initial.self))) ≡ newest_after l.found (results_of l.id (not_taken (take l.seen l.self)));
  left : without_all l.id (not_taken (take l.seen l.initial.self)) ≡ without_all l.id (not_taken (take l.seen l.self));
  rest : drop l.seen l.self ≡ drop l.seen l.initial.self;
  len : length l.self ≡ length l.initial.self;
}

abbrev pub decreases-loop-result : goal.decreases-loop-result
decreases-loop-result l = length (results_of l.id (not_taken (take l.seen l.self)))
