-- With what a round begins.
use Rattle.std.specs.Prelude.{◌≡◌, ◌/◌, ◌<◌, ◌^◌, ℕ, true, List, [], ◌∷◌, codes}
use Rattle.std.specs.Borrow.{Bor}
use Rattle.std.specs.Duration.{as_nanos}
use Rattle.std.specs.List.{AllZip}
use Rattle.std.specs.declared.time.Duration.{Duration}
use Rattle.lines.specs.Atoms.{IsText}
use Rattle.lines.specs.Fields.{IsSet, are_named, texts_named}
use Rattle.line_parts.specs.Values.{HasFlag, words_without}
use Rattle.lines.specs.Durations.{IsTime}
use Rattle.lines.specs.Words.{IsNumberOf}
use Rattle.world_rounds.specs.declared.types.Round.{Round}

-- texts that are these keys
abbrev pub AreKeys : List (List ℕ) → List (List ℕ) → Type 0
AreKeys found keys = AllZip (λ text key. IsText text key) found keys

-- the whole milliseconds of a duration, which fit 64 bits
abbrev pub IsWholeMilliseconds : List ℕ → ℕ → Type 0
IsWholeMilliseconds text millis =
    (time : Duration) × IsTime text time × (millis ≡ as_nanos time / 1000000) × (millis < 2 ^ 64)

-- what may be said of a round, beside `partial`
abbrev pub round_names : List (List ℕ)
round_names = codes "key=" ∷ codes "retry=" ∷ codes "duration=" ∷ []

-- the words say this of a round, in which nothing happens yet
pub record SaysRound (words : List (Bor (List ℕ))) (round : Round) : Type 0 where
  pub partial : HasFlag (codes "partial") words round.partial
  pub keys : AreKeys (texts_named (codes "key=") (words_without (codes "partial") words)) round.keys
  pub retry_count : IsSet (IsNumberOf 32) 0
      (texts_named (codes "retry=") (words_without (codes "partial") words)) round.retry_count
  pub duration : IsSet IsWholeMilliseconds 0
      (texts_named (codes "duration=") (words_without (codes "partial") words)) round.duration
  pub events : round.events ≡ []
  pub only : are_named round_names (words_without (codes "partial") words) ≡ true
