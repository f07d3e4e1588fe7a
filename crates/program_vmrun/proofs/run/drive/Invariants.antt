use Rattle.std.proofs.Common.{◌≡◌}
use Rattle.program_vmrun.specs.Runs.{Stepped}
use Rattle.program_vmrun.proofs.run.drive.Given as goal

abbrev pub invariant-loop : goal.invariant-loop
invariant-loop g l = Stepped (g.H.Handler.meaning l.fn.attempt.handler) l.counter l.fn.attempt.record_of l.attempt.record_of × (l.attempt.handler ≡ l.fn.attempt.handler)
