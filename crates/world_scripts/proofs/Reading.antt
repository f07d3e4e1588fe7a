-- A text that is read line by line.
use Rattle.std.proofs.Common.{◌≡◌, ◌≢◌, ℕ, List, [], ◌∷◌, length, refl, arith}
use Rattle.lines.specs.Text.{IsFirstLine}
use Rattle.world_scripts.specs.Scripts.{AddsLine, AreLinesAdded, Parts}

-- What the rest adds to what was said so far, the whole text adds.
abbrev pub ReadsOn : List ℕ → List ℕ → Parts → Parts → Type 0
ReadsOn text rest before now = (after : Parts) → AreLinesAdded rest now after → AreLinesAdded text before after

-- nothing is read
pub read_none : (text : List ℕ) (before : Parts) → ReadsOn text text before before
read_none text before after added = added

-- a line is read more
pub read_more : (text rest line behind : List ℕ) (before now next : Parts) → ReadsOn text rest before now → rest ≢ [] → IsFirstLine rest line behind → AddsLine line now next → ReadsOn text behind before next
read_more text rest line behind before now next so_far some first adds after added =
    so_far after (record { lines = line ∷ added.lines; are_lines = (some, (behind, first, added.are_lines)); are_added = (next, adds, added.are_added) })

-- all is read
pub read_all : (text rest : List ℕ) (before now : Parts) → ReadsOn text rest before now → length rest ≡ 0 → AreLinesAdded text before now
read_all text [] before now so_far none = so_far now (record { lines = []; are_lines = refl; are_added = refl })
read_all text (b ∷ rest) before now so_far none = absurd (omega arith)
