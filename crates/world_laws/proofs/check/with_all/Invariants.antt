use Rattle.std.proofs.Common.{◌≡◌, ◌++◌, drop}
use Rattle.std.specs.List.{concat}
use Rattle.world_laws.proofs.check.with_all.Given as goal

abbrev pub invariant-loop-entry : goal.invariant-loop-entry
invariant-loop-entry l = record { waits : l.bytes.items ++ concat (drop l.entry-index l.journal) ≡ l.fn.bytes.items ++ concat l.fn.journal }
