-- Keys of the state, and the number that stands beside each.
use Rattle.std.specs.Prelude.{◌≡◌, ℕ, zero, suc, ◌+◌, ◌*◌, ◌<◌, List, slice_index}

-- the first n bytes of a text as a number, the most significant first; a shorter text is filled
-- with zeros
abbrev pub number_of_front : ℕ → List ℕ → ℕ
number_of_front zero text = 0
number_of_front (suc n) text = number_of_front n text * 256 + slice_index text n

-- a key's number is that of its first eight bytes
pub record IsKeyNumber (number : ℕ) (text : List ℕ) : Type 0 where
  pub is : number ≡ number_of_front 8 text
  pub bytes : (k : ℕ) → slice_index text k < 256
