use Rattle.std.proofs.Common.{◌≡◌, ◌++◌, drop}
use Rattle.std.specs.List.{concat}
use Rattle.world_rounds.proofs.round.wait_all.Given as goal

abbrev pub invariant-loop-entry : goal.invariant-loop-entry
invariant-loop-entry l = record { waits : l.waiting.items ++ concat (drop l.entry-index l.journal) ≡ l.fn.waiting.items ++ concat l.fn.journal }
