use Rattle.std.proofs.Common.{◌≡◌}
use Rattle.await_tries.specs.Used.{used}
use Rattle.await_tries.proofs.using.use_first.Given as goal

abbrev pub invariant-loop : goal.invariant-loop
invariant-loop l = l.results ≡ used l.initial.results l.counter
