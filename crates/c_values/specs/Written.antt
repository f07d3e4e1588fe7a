-- What a call writes for C.
use Rattle.std.specs.Prelude.{◌≡◌, ◌<◌, ◌++◌, ℕ, List, length, drop, Result, Ok, Err}
use Rattle.c_values.specs.declared.status.Status.{Status}
use Rattle.c_values.specs.declared.status.Status.TheVariants as status

-- Bytes are written to the front of the room for them, if there is so much.
abbrev pub BytesWritten : List ℕ → Status → ℕ → List ℕ → List ℕ → Type 0
BytesWritten bytes status.Done len before after =
    (len ≡ length bytes) × (after ≡ bytes ++ drop len before)
BytesWritten bytes status.NoRoom len before after =
    (len ≡ length bytes) × (length before < len) × (after ≡ before)
BytesWritten bytes told len before after = ⊥

-- nothing is written
abbrev pub NoneWritten : ℕ → List ℕ → List ℕ → Type 0
NoneWritten len before after = (len ≡ 0) × (after ≡ before)

-- Bytes are written to the front of the room for them, if there is so much; or this is why there
-- are none. Out of memory nothing is written.
abbrev pub WrittenOrWhy : Status → Result (List ℕ) Status → ℕ → List ℕ → List ℕ → Type 0
WrittenOrWhy status.NoMemory found len before after = NoneWritten len before after
WrittenOrWhy status.Done (Ok bytes) len before after =
    (len ≡ length bytes) × (after ≡ bytes ++ drop len before)
WrittenOrWhy status.NoRoom (Ok bytes) len before after =
    (len ≡ length bytes) × (length before < len) × (after ≡ before)
WrittenOrWhy named (Ok bytes) len before after = ⊥
WrittenOrWhy named (Err why) len before after = (named ≡ why) × NoneWritten len before after
