use Rattle.std.proofs.Common.{◌≡◌, ◌≤◌, ℕ, length}
use Rattle.await_tries.specs.Used.{used}
use Rattle.await_tries.proofs.using.use_all.Given as goal

abbrev pub invariant-loop : goal.invariant-loop
invariant-loop l = (n : ℕ) × (n ≤ length l.initial.results.queued) × (l.results ≡ used l.initial.results n)

abbrev pub decreases-loop : goal.decreases-loop
decreases-loop l = length l.results.queued
