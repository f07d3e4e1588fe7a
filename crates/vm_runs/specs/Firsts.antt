-- The first item of a list that passes a test.
use Rattle.std.specs.Prelude.{Bool, if◌then◌else◌, List, [], ◌∷◌}

-- it is changed
abbrev pub with_first : {A : Type 0} → (A → Bool) → (A → A) → List A → List A
with_first p change [] = []
with_first p change (x ∷ xs) = if p x then change x ∷ xs else x ∷ with_first p change xs

-- it is left out
abbrev pub without_first : {A : Type 0} → (A → Bool) → List A → List A
without_first p [] = []
without_first p (x ∷ xs) = if p x then xs else x ∷ without_first p xs
