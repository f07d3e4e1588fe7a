-- A text that is read line by line.
use Rattle.std.proofs.Common.{◌≡◌, ◌≢◌, ◌+◌, ℕ, List, [], ◌∷◌, length, refl, arith}
use Rattle.lines.specs.Text.{IsFirstLine}
use Rattle.engine_lines.specs.declared.script.Numbered.{Numbered}
use Rattle.engine_lines.specs.Scripts.{AddsScriptLine, IsTextAdded, ScriptParts}

-- What the rest adds to what was said so far, the whole text adds.
abbrev pub ReadsOn : ℕ → List ℕ → List ℕ → ScriptParts → ScriptParts → Type 0
ReadsOn number text rest before now = (after : ScriptParts) → IsTextAdded number rest now after → IsTextAdded 0 text before after

-- nothing is read
pub read_none : (text : List ℕ) (before : ScriptParts) → ReadsOn 0 text text before before
read_none text before after added = added

-- a line is read more
pub read_more : (number : ℕ) (text rest line behind : List ℕ) (before now next : ScriptParts) → ReadsOn number text rest before now → rest ≢ [] → IsFirstLine rest line behind → AddsScriptLine (number + 1) line now next → ReadsOn (number + 1) text behind before next
read_more number text rest line behind before now next so_far some first adds after added =
    so_far after (record { lines = line ∷ added.lines; are_lines = (some, (behind, first, added.are_lines)); are_added = (next, adds, added.are_added) })

-- all is read
pub read_all : (number : ℕ) (text rest : List ℕ) (before now : ScriptParts) → ReadsOn number text rest before now → length rest ≡ 0 → IsTextAdded 0 text before now
read_all number text [] before now so_far none = so_far now (record { lines = []; are_lines = refl; are_added = refl })
read_all number text (b ∷ rest) before now so_far none = absurd (omega arith)

-- nothing happens yet
pub none_stands : (events : List Numbered) → length events ≡ 0 → events ≡ []
none_stands [] none = refl
none_stands (e ∷ events) none = absurd (omega arith)
