use Rattle.std.proofs.Common.{◌≡◌, length}
use Rattle.await_tries.proofs.following.no_courses.Given as goal

abbrev pub invariant-loop : goal.invariant-loop
invariant-loop l = length l.courses.items ≡ l.counter
