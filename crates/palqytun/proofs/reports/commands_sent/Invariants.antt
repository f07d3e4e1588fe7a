use Rattle.std.proofs.Common.{◌≡◌, ◌++◌, drop}
use Rattle.palqytun.proofs.Sending.{stored_among}
use Rattle.palqytun.proofs.reports.commands_sent.Given as goal

abbrev pub invariant-loop-raw : goal.invariant-loop-raw
invariant-loop-raw l = stored_among l.raw-items ≡ l.commands.items ++ stored_among (drop l.raw-index l.raw-items)
