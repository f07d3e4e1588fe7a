-- The state as it was handed out and as the handler has changed it since.
use Rattle.std.specs.Prelude.{ℕ, Bool, true, false, List, [], Option, Some, None}
use Rattle.vm_state.specs.declared.state_map.Known.{Known}
use Rattle.vm_state.specs.declared.state_map.Known.TheVariants.{Unknown, Empty, Value}
use Rattle.vm_state.specs.declared.state_map.StateCoverage.{StateCoverage}
use Rattle.vm_state.specs.declared.state_map.StateCoverage.TheVariants.{Partial, Complete}
use Rattle.vm_state.specs.declared.state_map.StateMap.{StateMap}
use Rattle.vm_state.specs.Entries.{entry_of, with_entry, keys_with_value}

-- a key gets a value
abbrev pub state_set : List ℕ → List ℕ → StateMap → StateMap
state_set key value s = record s { entries = with_entry key (Some value) s.entries }

-- a key loses its value
abbrev pub state_cleared : List ℕ → StateMap → StateMap
state_cleared key s = record s { entries = with_entry key None s.entries }

-- each key loses its value
abbrev pub all_cleared : StateMap → StateMap
all_cleared s = record { entries = []; coverage = Complete }

-- what a key's entry says, or where it has none the coverage
abbrev pub known_by : StateCoverage → Option (Option (List ℕ)) → Known
known_by coverage (Some (Some value)) = Value value
known_by coverage (Some None) = Empty
known_by Partial None = Unknown
known_by Complete None = Empty

-- what is known of a key: nothing, that it has no value, or its value
abbrev pub value_known : List ℕ → StateMap → Known
value_known key s = known_by s.coverage (entry_of key s.entries)

-- whether a value is known
abbrev pub has_value : Known → Bool
has_value (Value value) = true
has_value _ = false

-- keys with a value, where they are known to be all
abbrev pub keys_by : StateCoverage → List (List ℕ) → Option (List (List ℕ))
keys_by Partial keys = None
keys_by Complete keys = Some keys

-- the keys that have a value, in order, where this is known of each key
abbrev pub known_keys : StateMap → Option (List (List ℕ))
known_keys s = keys_by s.coverage (keys_with_value s.entries)
