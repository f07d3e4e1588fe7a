-- What a translator is asked for, one step after another.
use Rattle.std.specs.Prelude.{◌≡◌, ℕ, List, [], ◌∷◌, ◌++◌, Option, Some, None, Result, Err}
use Rattle.journal_protocol.specs.Message.{Message}
use Rattle.vm_layers.specs.Layers.{Front, Moves}
use Rattle.vm_layers.specs.declared.layer.LayerFault.{LayerFault}
use Rattle.vm_layers.specs.declared.layer.LayerFault.TheVariants.{Memory}

-- A step is a piece that is pushed, or none: what is whole is translated. So the bytes wait, and
-- the output grows.
abbrev pub Runs : (List ℕ → Front) → (Message → Type 0) → (Message → List ℕ)
    → List (Option (List ℕ)) → List ℕ → List ℕ → List ℕ → List ℕ → Type 0
Runs front Fits frame [] waited waits old new = (waits ≡ waited) × (new ≡ old)
Runs front Fits frame (Some piece ∷ steps) waited waits old new =
    Runs front Fits frame steps (waited ++ piece) waits old new
Runs front Fits frame (None ∷ steps) waited waits old new =
    (mid : List ℕ) × (out : List ℕ) × Moves front Fits frame waited mid old out
    × Runs front Fits frame steps mid waits out new

-- all the bytes that were pushed
abbrev pub pushed : List (Option (List ℕ)) → List ℕ
pushed [] = []
pushed (Some piece ∷ steps) = piece ++ pushed steps
pushed (None ∷ steps) = pushed steps

-- a translation went as far as it can: it didn't stop because memory ran out
abbrev pub IsSettled : Result (Unit {0}) LayerFault → Type 0
IsSettled (Err Memory) = ⊥
IsSettled result = Unit {0}
