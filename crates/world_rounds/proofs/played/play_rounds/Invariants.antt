use Rattle.std.proofs.Common.{map, take}
use Rattle.world_rounds.specs.Inside.{report_view}
use Rattle.world_rounds.specs.Rounds.{RoundsDo}
use Rattle.world_rounds.specs.Worlds.{IsJournal}
use Rattle.world_rounds.proofs.played.play_rounds.Given as goal

abbrev pub invariant-loop-round : goal.invariant-loop-round
invariant-loop-round g l = record {
  entries : IsJournal l.journal;
  so_far : RoundsDo (g.H.Handler.meaning l.handler) l.fn.world.setting (take l.round-index l.rounds) l.fn.world.journal (map report_view l.reports.items) l.journal;
}
