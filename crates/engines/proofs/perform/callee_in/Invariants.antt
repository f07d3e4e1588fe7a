use Rattle.std.proofs.Common.{◌≡◌, drop}
use Rattle.engines.specs.Lookups.{callee_in}
use Rattle.engines.proofs.perform.callee_in.Given as goal

abbrev pub invariant-loop-row : goal.invariant-loop-row
invariant-loop-row l = callee_in l.call (drop l.row-index l.rows) ≡ callee_in l.call l.rows
