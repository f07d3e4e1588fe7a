use Rattle.std.proofs.Common.{take}
use Rattle.engine_fences.specs.Fences.{AllFenced}
use Rattle.engine_fences.proofs.fences.run_fenced.Given as goal

abbrev pub invariant-loop-asked : goal.invariant-loop-asked
invariant-loop-asked g l = AllFenced (λ h. g.H.Handler.meaning h) (take l.asked-index l.events) l.initial.engine l.engine
