-- Well-behaved rounds in which each attempt may run another handler of one family, whoever runs
-- them.
use Rattle.std.specs.Prelude.{◌≡◌, List, [], ◌∷◌}
use Rattle.journal_entries.specs.Journal.{Entry}
use Rattle.vm_model.specs.Alike.{AlikeHandlers}
use Rattle.vm_model.specs.Calls.{Meaning, Setup}
use Rattle.vm_model.specs.Histories.{Knowledge}
use Rattle.vm_model.specs.HonestRounds.{Attempted, HonestRound, IsHanded, IsToldOn}

-- an attempt, and the handler that it runs
pub record MemberAttempt : Type 0 where
  pub handler : Meaning
  pub attempt : Attempted

-- Well-behaved rounds, one after another: replay can't tell the handler of each from this one, and
-- each attempt is its handler's run over the journal and was handed a state that `Knows` allows.
abbrev pub MemberRounds : Setup → Meaning → Knowledge → List Entry → List MemberAttempt
    → List Entry → Type 0
MemberRounds s m Knows before [] after = after ≡ before
MemberRounds s m Knows before (a ∷ more) after =
    (mid : List Entry) × AlikeHandlers s m a.handler × IsHanded Knows before a.attempt
    × IsToldOn s a.handler before a.attempt × HonestRound before a.attempt.course mid
    × MemberRounds s m Knows mid more after
