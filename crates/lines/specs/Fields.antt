-- The words of a line that stand in any order: a name, `=` and a text; and words that stand alone.
use Rattle.std.specs.Prelude.{◌≡◌, ℕ, Bool, if◌then◌else◌, List, [], ◌∷◌, length, drop, Option, Some, None, nat_eq}
use Rattle.std.specs.Borrow.{Bor}
use Rattle.std.specs.List.{filter_map, list_all, list_any, starts_with}

-- whether a word begins with this name; the name's last character is `=`
abbrev pub is_named : List ℕ → List ℕ → Bool
is_named name word = starts_with nat_eq word name

-- the text after the name that a word begins with
unfoldable pub text_behind : List ℕ → List ℕ → Option (List ℕ)
text_behind name word = if is_named name word then Some (drop (length name) word) else None

-- the texts after this name
abbrev pub texts_named : List ℕ → List (Bor (List ℕ)) → List (List ℕ)
texts_named name words = filter_map (λ word. text_behind name word.now) words

-- whether each word begins with one of these names
abbrev pub are_named : List (List ℕ) → List (Bor (List ℕ)) → Bool
are_named names words = list_all (λ word. list_any (λ name. is_named name word.now) names) words

-- what is said by a field that may stand once, and need not stand
abbrev pub IsOptional : {A : Type 0} → (List ℕ → A → Type 0) → List (List ℕ) → Option A → Type 0
IsOptional Says [] None = Unit {0}
IsOptional Says (text ∷ []) (Some value) = Says text value
IsOptional Says found value = ⊥

-- what is said by a field that may stand once; if it doesn't stand, it is the default
abbrev pub IsSet : {A : Type 0} → (List ℕ → A → Type 0) → A → List (List ℕ) → A → Type 0
IsSet Says default [] value = value ≡ default
IsSet Says default (text ∷ []) value = Says text value
IsSet Says default (text ∷ other ∷ more) value = ⊥

-- what is said by a field that has to stand once
abbrev pub IsRequired : {A : Type 0} → (List ℕ → A → Type 0) → List (List ℕ) → A → Type 0
IsRequired Says (text ∷ []) value = Says text value
IsRequired Says found value = ⊥
