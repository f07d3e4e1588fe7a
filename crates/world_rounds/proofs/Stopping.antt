-- Rounds that are stopped: the rounds before, and the fault alone.
use Rattle.std.proofs.Common.{◌≡◌, ℕ, suc, ◌+◌, ◌<◌, List, [], ◌∷◌, length, map, take, drop, slice_index_or, sym, ap, ◌∙◌, subst}
use Rattle.std.proofs.lemmas.List.{length-map}
use Rattle.vm_model.specs.Calls.{Meaning}
use Rattle.world_rounds.specs.declared.types.Report.{Report}
use Rattle.world_rounds.specs.declared.types.Round.{Round}
use Rattle.world_rounds.specs.declared.types.Setting.{Setting}
use Rattle.world_rounds.specs.declared.placed.PlacedFault.{PlacedFault}
use Rattle.world_rounds.specs.Inside.{report_view}
use Rattle.world_rounds.specs.Places.{RoundStops, RoundsStop}
use Rattle.world_rounds.specs.Rounds.{ReportView, RoundsDo, RoundsFault}
use Rattle.world_rounds.proofs.Lists.{whole_at}
use Rattle.world_rounds.proofs.Placing.{round_faults_so}
use Rattle.world_rounds.proofs.Rounding.{rounds_fail}

pub rounds_fault_so : (m : Meaning) (w : Setting) (rounds : List Round) (old : List (List ℕ)) (reports : List ReportView) (at : PlacedFault) → RoundsStop m w rounds old reports at → RoundsFault m w rounds old at.fault
rounds_fault_so m w rounds old reports at s =
    subst (λ rs. RoundsFault m w rs old at.fault) (sym s.split) (rounds_fail m w s.before s.round s.after old reports s.journal at.fault s.ended (round_faults_so m w s.round s.journal at.event at.fault s.stops))

-- each round has a report
as_many : (m : Meaning) (w : Setting) (rounds : List Round) (old : List (List ℕ)) (reports : List ReportView) (new : List (List ℕ)) → RoundsDo m w rounds old reports new → length reports ≡ length rounds
as_many m w [] old reports new d = ap length d.0
as_many m w (r ∷ rs) old reports new (mid, report, more, is, does, others) = ap length is ∙ ap suc (as_many m w rs mid more new others)

pub rounds_stop : (m : Meaning) (w : Setting) (rounds : List Round) (old : List (List ℕ)) (reports : List Report) (journal : List (List ℕ)) (i : ℕ) (r : Round) (at : PlacedFault) → i < length rounds → r ≡ slice_index_or rounds i r → RoundsDo m w (take i rounds) old (map report_view reports) journal → at.round ≡ length reports → RoundStops m w r journal at.event at.fault → RoundsStop m w rounds old (map report_view reports) at
rounds_stop m w rounds old reports journal i r at lt is ended place stops = record {
  before = take i rounds;
  round = r;
  after = drop (i + 1) rounds;
  split = whole_at rounds i r lt is;
  counted = place ∙ sym (length-map reports report_view) ∙ as_many m w (take i rounds) old (map report_view reports) journal ended;
  journal = journal;
  ended = ended;
  stops = stops;
}
