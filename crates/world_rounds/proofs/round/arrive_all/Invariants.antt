use Rattle.std.proofs.Common.{take}
use Rattle.world_rounds.specs.Rounds.{ArrivalsDo}
use Rattle.world_rounds.proofs.round.arrive_all.Given as goal

abbrev pub invariant-loop-place : goal.invariant-loop-place
invariant-loop-place l = record { so_far : ArrivalsDo (take l.place l.events) l.fn.journal l.journal }
