-- The places of children, each with when its child goes.
use Rattle.std.specs.Prelude.{ℕ, ◌≡◌, ◌<◌, List, get_or, Option, Some}
use Rattle.std.specs.List.{Contains}

-- each of the first n places whose child goes is listed with when it does
abbrev pub Listed : {D : Type 0} → (D → ℕ × ℕ) → (ℕ → Option ℕ) → List D → List ℕ → ℕ → Type 0
Listed {D} key end due children n =
    (place by : ℕ) → place < n → end (get_or children place 0) ≡ Some by → (d : D) × Contains due d
    × (key d ≡ (by, place))
