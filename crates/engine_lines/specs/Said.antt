-- What a line of a script says: its first word names it, and its numbers are in their places.
use Rattle.std.specs.Prelude.{◌≡◌, ◌⊎◌, ◌-◌, ◌/◌, ◌<◌, ◌^◌, ℕ, Bool, true, false, List, [], ◌∷◌, length, drop, nat_eq, codes}
use Rattle.std.specs.Borrow.{Bor}
use Rattle.std.specs.Duration.{as_nanos}
use Rattle.std.specs.List.{starts_with}
use Rattle.std.specs.Str.{IsTrimAscii, IsUtf8}
use Rattle.std.specs.declared.time.Duration.{Duration}
use Rattle.lines.specs.Atoms.{IsAtom, IsText}
use Rattle.lines.specs.Durations.{IsTime}
use Rattle.lines.specs.Fields.{IsOptional, IsSet, are_named, texts_named}
use Rattle.lines.specs.Pieces.{AreWords}
use Rattle.lines.specs.Text.{says_nothing}
use Rattle.lines.specs.Words.{AreTwoTexts, IsNumberOf, text_at, words_after_first}
use Rattle.line_parts.specs.Results.{IsProposal}
use Rattle.call_lines.specs.Said.{SaysStep}
use Rattle.engine_lines.specs.declared.said.Asked.{Asked}
use Rattle.engine_lines.specs.declared.said.Deed.{Deed}
use Rattle.engine_lines.specs.declared.said.Deed.TheVariants as deed
use Rattle.engine_lines.specs.declared.said.Event.{Event}
use Rattle.engine_lines.specs.declared.said.Event.TheVariants as event
use Rattle.engine_lines.specs.declared.said.Named.{Named}
use Rattle.engine_lines.specs.declared.said.Said.{Said}
use Rattle.engine_lines.specs.declared.said.Said.TheVariants as said

-- ---- handlers

-- the words after a handler's names: none, or that it is exclusive
abbrev pub IsExclusive : List (Bor (List ℕ)) → Bool → Type 0
IsExclusive words true = (length words ≡ 1) × (text_at 0 words ≡ codes "exclusive")
IsExclusive words false = words ≡ []

-- the names of a handler, and whether it is exclusive
pub record NamesHandler (words : List (Bor (List ℕ))) (named : Named) : Type 0 where
  pub names : AreTwoTexts words (named.service, named.handler)
  pub exclusive : IsExclusive (drop 2 words) named.exclusive

-- ---- times and numbers

-- the whole milliseconds of a duration, which fit 64 bits
abbrev pub IsWholeTime : List ℕ → ℕ → Type 0
IsWholeTime text millis =
    (time : Duration) × IsTime text time × (millis ≡ as_nanos time / 1000000) × (millis < 2 ^ 64)

-- one of them, and no other word
abbrev pub IsTimeAlone : List (Bor (List ℕ)) → ℕ → Type 0
IsTimeAlone words millis = (length words ≡ 1) × IsWholeTime (text_at 0 words) millis

-- one number below 2 ^ bits, and no other word
abbrev pub IsNumberAlone : ℕ → List (Bor (List ℕ)) → ℕ → Type 0
IsNumberAlone bits words number = (length words ≡ 1) × IsNumberOf bits (text_at 0 words) number

-- a number, or the greatest one where it is `all`
abbrev pub IsCountOrAll : List ℕ → ℕ → Type 0
IsCountOrAll text count = ((text ≡ codes "all") × (count ≡ 2 ^ 64 - 1)) ⊎ IsNumberOf 64 text count

-- one count, and no other word
abbrev pub IsCountAlone : List (Bor (List ℕ)) → ℕ → Type 0
IsCountAlone words count = (length words ≡ 1) × IsCountOrAll (text_at 0 words) count

-- one count, or no word, which stands for 1
abbrev pub AreStored : List (Bor (List ℕ)) → ℕ → Type 0
AreStored words count = ((words ≡ []) × (count ≡ 1)) ⊎ IsCountAlone words count

-- one number, or no word, which stands for 1
abbrev pub AreStepsMade : List (Bor (List ℕ)) → ℕ → Type 0
AreStepsMade words steps = ((words ≡ []) × (steps ≡ 1)) ⊎ IsNumberAlone 64 words steps

-- ---- events

-- what may be said of an invocation that is asked for
abbrev pub asked_names : List (List ℕ)
asked_names = codes "key=" ∷ codes "idem=" ∷ codes "at=" ∷ []

-- the words ask for this invocation
pub record AsksFor (words : List (Bor (List ℕ))) (asked : Asked) : Type 0 where
  pub service : IsText (text_at 0 words) asked.service
  pub handler : IsText (text_at 1 words) asked.handler
  pub parameter : IsAtom (text_at 2 words) asked.parameter
  pub key : IsOptional IsText (texts_named (codes "key=") (drop 3 words)) asked.key
  pub idempotency_key : IsOptional IsText (texts_named (codes "idem=") (drop 3 words))
      asked.idempotency_key
  pub begins : IsSet IsWholeTime 0 (texts_named (codes "at=") (drop 3 words)) asked.begins
  pub only : are_named asked_names (drop 3 words) ≡ true

-- a line's first word, and those after the number of an invocation, say that this happens to it
abbrev pub SaysDeed : List ℕ → List (Bor (List ℕ)) → Deed → Type 0
SaysDeed word others deed.Begin = (word ≡ codes "begin") × (others ≡ [])
SaysDeed word others (deed.Piece n) = (word ≡ codes "piece") × IsCountAlone others n
SaysDeed word others deed.Close = (word ≡ codes "close") × (others ≡ [])
SaysDeed word others (deed.Steps n) = (word ≡ codes "step") × AreStepsMade others n
SaysDeed word others (deed.RunResult p) = (word ≡ codes "run_result") × IsProposal others p
SaysDeed word others (deed.Deliver at) = (word ≡ codes "deliver") × IsNumberAlone 32 others at
SaysDeed word others deed.DeliverAll = (word ≡ codes "deliver") × (length others ≡ 1)
    × (text_at 0 others ≡ codes "all")
SaysDeed word others (deed.Store n) = (word ≡ codes "store") × AreStored others n
SaysDeed word others deed.Stop = (word ≡ codes "stop") × (others ≡ [])

-- a line's first word and those after it say that this happens
abbrev pub SaysHappening : List ℕ → List (Bor (List ℕ)) → Event → Type 0
SaysHappening word others (event.Submit asked) = (word ≡ codes "submit") × AsksFor others asked
SaysHappening word others (event.To number does) = IsNumberOf 32 (text_at 0 others) number
    × SaysDeed word (words_after_first others) does
SaysHappening word others event.Crash = (word ≡ codes "crash") × (others ≡ [])
SaysHappening word others (event.Clock time) = (word ≡ codes "clock") × IsTimeAlone others time
SaysHappening word others (event.Settle times) = (word ≡ codes "settle")
    × IsNumberAlone 64 others times

-- ---- lines

-- a line's first word and those after it say this
abbrev pub SaysOfEngine : List ℕ → List (Bor (List ℕ)) → Said → Type 0
SaysOfEngine word others said.Nothing = ⊥
SaysOfEngine word others (said.Handler named) = (word ≡ codes "handler") × NamesHandler others named
SaysOfEngine word others (said.Step step) = ⊥
SaysOfEngine word others (said.Event e) = SaysHappening word others e

-- the words of a line say this
abbrev pub SaysOfWords : List (Bor (List ℕ)) → Said → Type 0
SaysOfWords words it = SaysOfEngine (text_at 0 words) (words_after_first words) it

-- what a line says that isn't empty, has no blanks at its ends and is no step
abbrev pub SaysRow : List ℕ → Said → Type 0
SaysRow text it = (words : List (Bor (List ℕ))) × AreWords text words × SaysOfWords words it

-- what a line says whose blanks at the ends are taken off, by whether it is a step's
abbrev pub SaysTrimmed : Bool → List ℕ → Said → Type 0
SaysTrimmed is_step text said.Nothing = says_nothing text ≡ true
SaysTrimmed true text (said.Step step) = (says_nothing text ≡ false) × SaysStep text step
SaysTrimmed true text (said.Handler named) = ⊥
SaysTrimmed true text (said.Event e) = ⊥
SaysTrimmed false text it = (says_nothing text ≡ false) × SaysRow text it

-- whether a line is a step's: it begins with two blanks
abbrev pub is_step_line : List ℕ → Bool
is_step_line text = starts_with nat_eq text (codes "  ")

-- what a line says, which is UTF-8; blanks at its ends don't count, except the two before
-- a step
abbrev pub SaysEngineLine : List ℕ → Said → Type 0
SaysEngineLine text it = (trimmed : List ℕ) × IsTrimAscii text trimmed × IsUtf8 trimmed
    × SaysTrimmed (is_step_line text) trimmed it
