-- What commands say of the state. For a key that is what the last of them says that touches the
-- key. A clear of all touches each key.
use Rattle.std.specs.Prelude.{◌≡◌, ℕ, Bool, true, false, List, ◌∷◌, ◌++◌}
use Rattle.std.specs.List.{AllByRecursion, list_any}
use Rattle.std.specs.List.Sorted.{IsStrictlySortedBy}
use Rattle.journal_protocol.specs.Message.{Message}
use Rattle.journal_protocol.specs.Message.TheVariants as message
use Rattle.vm_state.specs.declared.state_map.Known.{Known}
use Rattle.vm_state.specs.declared.state_map.Known.TheVariants.{Empty, Value}
use Rattle.vm_state.specs.declared.state_map.StateMap.{StateMap}
use Rattle.vm_state.specs.Entries.{by_bytes, is_key_among}
use Rattle.vm_state.specs.States.{has_value, value_known}

-- a command touches a key: it sets or clears this key, or it clears all keys
abbrev pub Touches : List ℕ → Message → Type 0
Touches key (message.SetState c) = c.key ≡ key
Touches key (message.ClearState c) = c.key ≡ key
Touches key (message.ClearAllState c) = Unit {0}
Touches key m = ⊥

-- what a command says of each key that it touches: a set says its value, a clear that there is none
abbrev pub says : Message → Known
says (message.SetState c) = Value c.value
says m = Empty

-- none of these commands touches the key
abbrev pub NoneTouches : List ℕ → List Message → Type 0
NoneTouches key ms = AllByRecursion (λ m. ¬ Touches key m) ms

-- of these commands the last that touches the key
pub record IsLast (key : List ℕ) (m : Message) (ms : List Message) : Type 0 where
  pub before : List Message
  pub behind : List Message
  pub splits : ms ≡ before ++ m ∷ behind
  pub touches : Touches key m
  pub others : NoneTouches key behind

-- a command clears all keys
abbrev pub clears_all : Message → Bool
clears_all (message.ClearAllState c) = true
clears_all m = false

-- one of these commands clears all keys
abbrev pub one_clears_all : List Message → Bool
one_clears_all ms = list_any clears_all ms

-- these are the keys that have a value in this state, in the order of their bytes
pub record AreKeysOf (state : StateMap) (keys : List (List ℕ)) : Type 0 where
  pub sorted : IsStrictlySortedBy by_bytes keys
  pub listed : (key : List ℕ) → is_key_among key keys ≡ has_value (value_known key state)
