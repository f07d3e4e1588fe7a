-- The bytes of each message about state.
use Rattle.std.specs.Prelude.{ℕ, List, [], ◌∷◌}
use Rattle.wire.specs.Format.{u32s, bytes, option, list, fields}
use Rattle.journal_state.specs.declared.state.VoidOrValue.{VoidOrValue}
use Rattle.journal_state.specs.declared.state.VoidOrValue.TheVariants as state
use Rattle.journal_state.specs.declared.state.GetStateEphemeralCommand.{GetStateEphemeralCommand}
use Rattle.journal_state.specs.declared.state.GetStateEphemeralNotification.{GetStateEphemeralNotification}
use Rattle.journal_state.specs.declared.state.GetEagerStateCommand.{GetEagerStateCommand}
use Rattle.journal_state.specs.declared.state.GetLazyStateCommand.{GetLazyStateCommand}
use Rattle.journal_state.specs.declared.state.GetEagerStateKeysCommand.{GetEagerStateKeysCommand}
use Rattle.journal_state.specs.declared.state.GetLazyStateKeysCommand.{GetLazyStateKeysCommand}
use Rattle.journal_state.specs.declared.state.SetStateCommand.{SetStateCommand}
use Rattle.journal_state.specs.declared.state.ClearStateCommand.{ClearStateCommand}
use Rattle.journal_state.specs.declared.state.ClearAllStateCommand.{ClearAllStateCommand}

-- ---- state

-- 0 for void, or 1 and a value's bytes
abbrev pub void_or_value : VoidOrValue → List ℕ
void_or_value state.Void = 0 ∷ []
void_or_value (state.Value bs) = 1 ∷ bytes bs

-- an ephemeral read of a state: id (u32), key (text)
unfoldable pub get_state_ephemeral_command : GetStateEphemeralCommand → List ℕ
get_state_ephemeral_command m = fields (u32s m.id ∷ bytes m.key ∷ [])

-- what an ephemeral read found: id (u32), result: 0, or 1 and void or a value
unfoldable pub get_state_ephemeral_notification : GetStateEphemeralNotification → List ℕ
get_state_ephemeral_notification m = fields (u32s m.id ∷ option void_or_value m.result ∷ [])

-- a read of the state at hand: name and key (texts), result: 0, or 1 and void or a value
unfoldable pub get_eager_state : GetEagerStateCommand → List ℕ
get_eager_state m = fields (bytes m.name ∷ bytes m.key ∷ option void_or_value m.result ∷ [])

-- a read of state that comes later: name and key (texts), the completion id of its result (u32)
unfoldable pub get_lazy_state : GetLazyStateCommand → List ℕ
get_lazy_state m = fields (bytes m.name ∷ bytes m.key ∷ u32s m.result_completion_id ∷ [])

-- a read of the keys at hand: 0, or 1, a count (u64) and the keys (bytes); name (text)
unfoldable pub get_eager_state_keys : GetEagerStateKeysCommand → List ℕ
get_eager_state_keys m = fields (option (list bytes) m.value ∷ bytes m.name ∷ [])

-- a read of keys that come later: the completion id of its result (u32), name (text)
unfoldable pub get_lazy_state_keys : GetLazyStateKeysCommand → List ℕ
get_lazy_state_keys m = fields (u32s m.result_completion_id ∷ bytes m.name ∷ [])

-- a state is set: name and key (texts), value (bytes)
unfoldable pub set_state : SetStateCommand → List ℕ
set_state m = fields (bytes m.name ∷ bytes m.key ∷ bytes m.value ∷ [])

-- a state is cleared: name and key (texts)
unfoldable pub clear_state : ClearStateCommand → List ℕ
clear_state m = fields (bytes m.name ∷ bytes m.key ∷ [])

-- all state is cleared: name (text)
unfoldable pub clear_all_state : ClearAllStateCommand → List ℕ
clear_all_state m = fields (bytes m.name ∷ [])
