-- The state that a round hands out: the base, changed by the journal's commands, whole or for some
-- keys.
use Rattle.std.specs.Prelude.{◌≡◌, ℕ, nat_eq, Bool, true, false, cond, List, [], ◌∷◌, Option, Some, None}
use Rattle.std.specs.Cmp.Lexicographic.{pointwise}
use Rattle.std.specs.List.{list_all, list_any}
use Rattle.std.specs.Str.{is_utf8}
use Rattle.vm_state.specs.declared.state_map.StateCoverage.TheVariants.{Complete}
use Rattle.vm_state.specs.declared.state_map.StateMap.{StateMap}
use Rattle.vm_state.specs.Entries.{entries_of as state_entries}
use Rattle.vm_model.specs.Moves.{changed_by}
use Rattle.world_rounds.specs.declared.types.Round.{Round}
use Rattle.world_rounds.specs.declared.types.Setting.{Setting}
use Rattle.journal_entries.specs.Entries.{said_in}

-- the state before any command
abbrev pub base_of : Setting → StateMap
base_of w = record { entries = state_entries w.base; coverage = Complete }

-- the state after a journal's commands
abbrev pub state_after : Setting → List (List ℕ) → StateMap
state_after w journal = changed_by (said_in journal) (base_of w)

-- whether a key is one of these
abbrev pub is_key_listed : List (List ℕ) → List ℕ → Bool
is_key_listed keys key = list_any (λ k. pointwise nat_eq k key) keys

-- whether a round asks for a key: for any, unless it is partial
abbrev pub is_asked : Bool → List (List ℕ) → List ℕ → Bool
is_asked false keys key = true
is_asked true keys key = is_key_listed keys key

-- the keys that have a value and are asked for, with their values, in order
abbrev pub pairs_in : (List ℕ → Bool) → List (List ℕ × Option (List ℕ)) → List (List ℕ × List ℕ)
pairs_in asked [] = []
pairs_in asked ((key, None) ∷ es) = pairs_in asked es
pairs_in asked ((key, Some value) ∷ es) = cond (asked key) ((key, value)
    ∷ pairs_in asked es) (pairs_in asked es)

-- the keys that have a value, with their values, in order
abbrev pub values_in : StateMap → List (List ℕ × List ℕ)
values_in state = pairs_in (λ key. true) state.entries

-- each key is a text
abbrev pub HaveTextKeys : List (List ℕ × List ℕ) → Type 0
HaveTextKeys pairs = list_all (λ p. is_utf8 p.0) pairs ≡ true

-- what a round hands out
abbrev pub pairs_for : Setting → Round → List (List ℕ) → List (List ℕ × List ℕ)
pairs_for w round journal =
    pairs_in (is_asked round.partial round.keys) (state_after w journal).entries
