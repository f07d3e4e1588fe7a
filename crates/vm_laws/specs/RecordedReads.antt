-- Which recorded command stands for a read of the state: one of its own key, or of the keys, and of
-- its own name.
use Rattle.std.specs.Prelude.{◌≡◌, ℕ, List, Option, Some, None}
use Rattle.journal_protocol.specs.Message.{Message}
use Rattle.journal_protocol.specs.Message.TheVariants as message
use Rattle.journal_protocol.specs.VoidOrValue.{VoidOrValue}
use Rattle.journal_protocol.specs.VoidOrValue.TheVariants as stored
use Rattle.journal_protocol.specs.NotificationResult.{NotificationResult}
use Rattle.journal_protocol.specs.NotificationResult.TheVariants as gives
use Rattle.vm_asks.specs.declared.state_read.StateRead.{StateRead}
use Rattle.vm_asks.specs.declared.state_read.StateRead.TheVariants as reads

-- a result is what was found under a key: nothing, or the same value
abbrev pub IsFound : VoidOrValue → NotificationResult → Type 0
IsFound stored.Void gives.Void = Unit {0}
IsFound (stored.Value value) (gives.Value result) = result ≡ value
IsFound found result = ⊥

-- an eager read records what was found, which is this result
abbrev pub Records : Option VoidOrValue → NotificationResult → Type 0
Records None result = ⊥
Records (Some found) result = IsFound found result

-- A command is a read of this key with this name. A lazy one, which brings no result, has this
-- completion id; an eager one brings what it records.
abbrev pub IsValueRead : List ℕ → List ℕ → ℕ → Option NotificationResult → Message → Type 0
IsValueRead key name id None (message.GetLazyState c) = (c.key ≡ key) × (c.name ≡ name)
    × (c.result_completion_id ≡ id)
IsValueRead key name id (Some result) (message.GetEagerState c) = (c.key ≡ key) × (c.name ≡ name)
    × Records c.result result
IsValueRead key name id result m = ⊥

-- it is a read of the keys with this name, lazy or eager
abbrev pub IsKeysRead : List ℕ → ℕ → Option NotificationResult → Message → Type 0
IsKeysRead name id None (message.GetLazyStateKeys c) = (c.name ≡ name)
    × (c.result_completion_id ≡ id)
IsKeysRead name id (Some result) (message.GetEagerStateKeys c) = (c.name ≡ name)
    × ((keys : List (List ℕ)) × (c.value ≡ Some keys) × (result ≡ gives.StateKeys keys))
IsKeysRead name id result m = ⊥

-- it is such a read
abbrev pub IsRead : StateRead → ℕ → Option NotificationResult → Message → Type 0
IsRead (reads.Value key name) id result m = IsValueRead key name id result m
IsRead (reads.Keys name) id result m = IsKeysRead name id result m
