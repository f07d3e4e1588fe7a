-- What C lends for a call, as values.
use Rattle.std.specs.Prelude.{◌≡◌, ◌*◌, ◌⊎◌, Bool, true, false, ℕ, if◌then◌else◌, List, [], ◌∷◌, Option, Some, None}
use Rattle.std.specs.Duration.{as_nanos}
use Rattle.std.specs.Str.{IsUtf8}
use Rattle.std.specs.declared.time.Duration.{Duration}
use Rattle.journal_protocol.specs.Header.{Header}
use Rattle.c_values.specs.declared.status.Status.{Status}
use Rattle.c_values.specs.declared.status.Status.TheVariants as status
use Rattle.c_calls.specs.declared.given.MayLend.{MayLend}
use Rattle.c_calls.specs.declared.given.Pair.{Pair}

-- one of these texts isn't UTF-8
abbrev pub SomeIsNoText : List (List ℕ) → Type 0
SomeIsNoText [] = ⊥
SomeIsNoText (text ∷ texts) = (¬ IsUtf8 text) ⊎ SomeIsNoText texts

-- no memory is found, or one of these texts isn't UTF-8
abbrev pub IsWhy : List (List ℕ) → Status → Type 0
IsWhy texts status.NoMemory = Unit {0}
IsWhy texts status.BadText = SomeIsNoText texts
IsWhy texts other = ⊥

-- why these texts can't be copied
pub record CannotCopy (texts : List (List ℕ)) (given : Status) : Type 0 where
  pub why : IsWhy texts given

-- why no call can be made of what C gave: no memory is found, one of these texts isn't UTF-8, or a
-- number names no case
abbrev pub Misfits : List (List ℕ) → Type 0 → Status → Type 0
Misfits texts NamesNone status.NoMemory = Unit {0}
Misfits texts NamesNone status.BadText = SomeIsNoText texts
Misfits texts NamesNone status.BadNumber = NamesNone
Misfits texts NamesNone other = ⊥

-- bytes, if they are given
abbrev pub optional_of : MayLend → Option (List ℕ)
optional_of may = if may.is_given then Some may.lent.bytes.now else None

-- the text that has to be UTF-8 if it is given
abbrev pub lent_texts : MayLend → List (List ℕ)
lent_texts may = if may.is_given then may.lent.bytes.now ∷ [] else []

-- a key and its value
abbrev pub pair_of : Pair → List ℕ × List ℕ
pair_of pair = (pair.key.bytes.now, pair.value.bytes.now)

abbrev pub header_of : Pair → Header
header_of pair = record { key = pair.key.bytes.now; value = pair.value.bytes.now }

abbrev pub texts_of_pair : Pair → List (List ℕ)
texts_of_pair pair = pair.key.bytes.now ∷ pair.value.bytes.now ∷ []

-- a span of this number of milliseconds
abbrev pub IsSpan : ℕ → Duration → Type 0
IsSpan millis span = as_nanos span ≡ millis * 1_000_000

-- a span of this number of milliseconds, if it is given
abbrev pub IsSpanIf : Bool → ℕ → Option Duration → Type 0
IsSpanIf true millis (Some span) = IsSpan millis span
IsSpanIf false millis None = Unit {0}
IsSpanIf is_given millis other = ⊥
