-- The state's entries: a list with one entry a key, a value or none, in the order of the keys'
-- bytes.
use Rattle.std.specs.Prelude.{ℕ, Bool, List, [], Option, Some}
use Rattle.std.specs.Option.{is_some}
use Rattle.std.specs.declared.cmp.Ordering.{Ordering}
use Rattle.std.specs.Ordering.{nat_cmp}
use Rattle.std.specs.Cmp.Lexicographic.{slice_cmp}
use Rattle.std.specs.List.{fold, filter, list_any}
use Rattle.std.specs.List.Sorted.{IsStrictlySortedBy}
use Rattle.std.specs.Map.{lookup, keys_of}
use Rattle.std.specs.BTreeMap.{insert_entry, is_at}

-- the order of keys, by their bytes
abbrev pub by_bytes : List ℕ → List ℕ → Ordering
by_bytes = slice_cmp nat_cmp

-- one entry a key, in the order of the keys
abbrev pub IsInOrder : List (List ℕ × Option (List ℕ)) → Type 0
IsInOrder entries = IsStrictlySortedBy by_bytes (keys_of entries)

-- a key's entry, if it has one
abbrev pub entry_of : List ℕ → List (List ℕ × Option (List ℕ)) → Option (Option (List ℕ))
entry_of key entries = lookup (is_at (by_bytes key)) entries

-- a key gets this entry, instead of the one that it had
abbrev pub with_entry : List ℕ → Option (List ℕ) → List (List ℕ × Option (List ℕ))
    → List (List ℕ × Option (List ℕ))
with_entry key value entries = insert_entry by_bytes entries key value

-- the keys whose entry has a value, in order
abbrev pub keys_with_value : List (List ℕ × Option (List ℕ)) → List (List ℕ)
keys_with_value entries = keys_of (filter (λ e. is_some e.1) entries)

-- whether a key is among these
abbrev pub is_key_among : List ℕ → List (List ℕ) → Bool
is_key_among key keys = list_any (is_at (by_bytes key)) keys

-- the entries of pairs that come one after another: of several of one key the last counts
abbrev pub entries_of : List (List ℕ × List ℕ) → List (List ℕ × Option (List ℕ))
entries_of pairs = fold (λ entries p. with_entry p.0 (Some p.1) entries) [] pairs
