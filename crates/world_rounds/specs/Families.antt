-- Rounds in which each attempt may run another handler, as one that takes the time anew, of those
-- that replay can't tell apart.
use Rattle.std.specs.Prelude.{◌≡◌, ℕ, false, List, [], ◌∷◌}
use Rattle.std.specs.List.{AllByRecursion}
use Rattle.vm_model.specs.Alike.{AlikeHandlers}
use Rattle.vm_model.specs.Calls.{Meaning}
use Rattle.world_rounds.specs.Worlds.{setup_of}
use Rattle.world_rounds.specs.declared.types.Round.{Round}
use Rattle.world_rounds.specs.declared.types.Setting.{Setting}
use Rattle.world_rounds.specs.Owning.{OwnOf}
use Rattle.world_rounds.specs.Rounds.{ReportView, RoundDoes}
use Rattle.world_rounds.specs.Sound.{IsSoundFor}

-- a round, and the handler that its attempt runs
pub record Played : Type 0 where
  pub handler : Meaning
  pub round : Round

-- this handler's attempt runs in the round
abbrev pub played_by : Meaning → Round → Played
played_by handler round = record { handler = handler; round = round }

-- rounds, one after another, each with its own handler
abbrev pub PlayedDo : Setting → List Played → List (List ℕ) → List ReportView → List (List ℕ)
    → Type 0
PlayedDo w [] old reports new = (reports ≡ []) × (new ≡ old)
PlayedDo w (p ∷ ps) old reports new =
    (mid : List (List ℕ)) × (report : ReportView) × (more : List ReportView)
    × (reports ≡ report ∷ more) × RoundDoes p.handler w p.round old report mid
    × PlayedDo w ps mid more new

-- replay can't tell the handler of any of these rounds from this one
abbrev pub AreAlikeTo : Setting → Meaning → List Played → Type 0
AreAlikeTo w m played = AllByRecursion (λ p. AlikeHandlers (setup_of w) m p.handler) played

-- no round is partial
abbrev pub NoneIsPartial : List Played → Type 0
NoneIsPartial played = AllByRecursion (λ p. p.round.partial ≡ false) played

-- each round's handler can replay the journal with which its round begins
abbrev pub EachCanReplay : (w : Setting) (played : List Played) (old : List (List ℕ))
    (reports : List ReportView) (new : List (List ℕ)) → PlayedDo w played old reports new → Type 0
EachCanReplay w [] old reports new d = Unit {0}
EachCanReplay w (p ∷ ps) old reports new (mid, report, more, is, one, others) =
    IsSoundFor p.handler w old × EachCanReplay w ps mid more new others

-- each round's report has an error of its attempt's own, if it has one
abbrev pub EachIsOwn : (w : Setting) (played : List Played) (old : List (List ℕ))
    (reports : List ReportView) (new : List (List ℕ)) → PlayedDo w played old reports new → Type 0
EachIsOwn w [] old reports new d = Unit {0}
EachIsOwn w (p ∷ ps) old reports new (mid, report, more, is, one, others) =
    OwnOf p.handler w p.round old report mid one × EachIsOwn w ps mid more new others
