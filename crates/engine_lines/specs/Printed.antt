-- What is fixed of the lines of frames.
use Rattle.std.specs.Prelude.{◌≡◌, ℕ, List, ◌++◌}

-- something is added
abbrev pub AddsText : List ℕ → List ℕ → Type 0
AddsText old new = (added : List ℕ) × (new ≡ old ++ added)
