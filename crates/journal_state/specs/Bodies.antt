-- The formats of the bodies of messages about state.
use Rattle.std.specs.Prelude.{◌≡◌, refl}
use Rattle.wire.specs.Format.{Format}
use Rattle.wire.specs.Forms.{u32_format, bytes_format, text_format, pair_format, option_format, list_format, via, spelled}
use Rattle.journal_state.specs.Encoding.{get_state_ephemeral_command, get_state_ephemeral_notification, get_eager_state, get_lazy_state, get_eager_state_keys, get_lazy_state_keys, set_state, clear_state, clear_all_state}
use Rattle.journal_state.specs.Choices.{void_or_value_format}
use Rattle.journal_state.specs.declared.state.GetStateEphemeralCommand.{GetStateEphemeralCommand}
use Rattle.journal_state.specs.declared.state.GetStateEphemeralNotification.{GetStateEphemeralNotification}
use Rattle.journal_state.specs.declared.state.GetEagerStateCommand.{GetEagerStateCommand}
use Rattle.journal_state.specs.declared.state.GetLazyStateCommand.{GetLazyStateCommand}
use Rattle.journal_state.specs.declared.state.GetEagerStateKeysCommand.{GetEagerStateKeysCommand}
use Rattle.journal_state.specs.declared.state.GetLazyStateKeysCommand.{GetLazyStateKeysCommand}
use Rattle.journal_state.specs.declared.state.SetStateCommand.{SetStateCommand}
use Rattle.journal_state.specs.declared.state.ClearStateCommand.{ClearStateCommand}
use Rattle.journal_state.specs.declared.state.ClearAllStateCommand.{ClearAllStateCommand}

-- ---- get state ephemeral command

-- an ephemeral read as (id, key)
abbrev pub get_state_ephemeral_command_by_parts : Format GetStateEphemeralCommand
get_state_ephemeral_command_by_parts =
    via (λ m. (m.id, m.key)) (λ p. record { id = p.0; key = p.1 }) (λ _. refl) (λ _. refl)
    (pair_format u32_format text_format)

pub get_state_ephemeral_command_same : (m : GetStateEphemeralCommand)
    → get_state_ephemeral_command m ≡ (get_state_ephemeral_command_by_parts).spelling m
unfolding get_state_ephemeral_command
get_state_ephemeral_command_same m = refl

-- the format of an ephemeral read's body: id (u32), key (text)
abbrev pub get_state_ephemeral_command_format : Format GetStateEphemeralCommand
get_state_ephemeral_command_format = spelled get_state_ephemeral_command
    get_state_ephemeral_command_by_parts get_state_ephemeral_command_same

-- ---- get state ephemeral notification

-- an ephemeral read's result as (id, result)
abbrev pub get_state_ephemeral_notification_by_parts : Format GetStateEphemeralNotification
get_state_ephemeral_notification_by_parts =
    via (λ m. (m.id, m.result)) (λ p. record { id = p.0; result = p.1 }) (λ _. refl) (λ _. refl)
    (pair_format u32_format (option_format void_or_value_format))

pub get_state_ephemeral_notification_same : (m : GetStateEphemeralNotification)
    → get_state_ephemeral_notification m ≡ (get_state_ephemeral_notification_by_parts).spelling m
unfolding get_state_ephemeral_notification
get_state_ephemeral_notification_same m = refl

-- the format of the body that answers an ephemeral read: id (u32), and void or a value, which may
-- be absent
abbrev pub get_state_ephemeral_notification_format : Format GetStateEphemeralNotification
get_state_ephemeral_notification_format = spelled get_state_ephemeral_notification
    get_state_ephemeral_notification_by_parts get_state_ephemeral_notification_same

-- ---- get eager state

-- a read of the state at hand as (name, (key, result))
abbrev pub get_eager_state_by_parts : Format GetEagerStateCommand
get_eager_state_by_parts = via (λ m. (m.name, (m.key, m.result)))
    (λ p. record { name = p.0; key = p.1.0; result = p.1.1 }) (λ _. refl) (λ _. refl)
    (pair_format text_format (pair_format text_format (option_format void_or_value_format)))

pub get_eager_state_same : (m : GetEagerStateCommand) → get_eager_state m
    ≡ (get_eager_state_by_parts).spelling m
unfolding get_eager_state
get_eager_state_same m = refl

-- the format of an eager read's body: name and key (texts), and void or a value, which may be
-- absent
abbrev pub get_eager_state_format : Format GetEagerStateCommand
get_eager_state_format = spelled get_eager_state get_eager_state_by_parts get_eager_state_same

-- ---- get lazy state

-- a read of state that comes later as (name, (key, completion id))
abbrev pub get_lazy_state_by_parts : Format GetLazyStateCommand
get_lazy_state_by_parts = via (λ m. (m.name, (m.key, m.result_completion_id)))
    (λ p. record { name = p.0; key = p.1.0; result_completion_id = p.1.1 }) (λ _. refl) (λ _. refl)
    (pair_format text_format (pair_format text_format u32_format))

pub get_lazy_state_same : (m : GetLazyStateCommand) → get_lazy_state m
    ≡ (get_lazy_state_by_parts).spelling m
unfolding get_lazy_state
get_lazy_state_same m = refl

-- the format of a lazy read's body: name and key (texts), completion id (u32)
abbrev pub get_lazy_state_format : Format GetLazyStateCommand
get_lazy_state_format = spelled get_lazy_state get_lazy_state_by_parts get_lazy_state_same

-- ---- get eager state keys

-- a read of the keys at hand as (keys, name)
abbrev pub get_eager_state_keys_by_parts : Format GetEagerStateKeysCommand
get_eager_state_keys_by_parts =
    via (λ m. (m.value, m.name)) (λ p. record { value = p.0; name = p.1 }) (λ _. refl) (λ _. refl)
    (pair_format (option_format (list_format bytes_format)) text_format)

pub get_eager_state_keys_same : (m : GetEagerStateKeysCommand) → get_eager_state_keys m
    ≡ (get_eager_state_keys_by_parts).spelling m
unfolding get_eager_state_keys
get_eager_state_keys_same m = refl

-- the format of the body of an eager read of the keys: a list of keys (bytes), which may be absent,
-- and name (text)
abbrev pub get_eager_state_keys_format : Format GetEagerStateKeysCommand
get_eager_state_keys_format =
    spelled get_eager_state_keys get_eager_state_keys_by_parts get_eager_state_keys_same

-- ---- get lazy state keys

-- a read of keys that come later as (completion id, name)
abbrev pub get_lazy_state_keys_by_parts : Format GetLazyStateKeysCommand
get_lazy_state_keys_by_parts = via (λ m. (m.result_completion_id, m.name))
    (λ p. record { result_completion_id = p.0; name = p.1 }) (λ _. refl) (λ _. refl)
    (pair_format u32_format text_format)

pub get_lazy_state_keys_same : (m : GetLazyStateKeysCommand) → get_lazy_state_keys m
    ≡ (get_lazy_state_keys_by_parts).spelling m
unfolding get_lazy_state_keys
get_lazy_state_keys_same m = refl

-- the format of the body of a lazy read of the keys: completion id (u32), name (text)
abbrev pub get_lazy_state_keys_format : Format GetLazyStateKeysCommand
get_lazy_state_keys_format =
    spelled get_lazy_state_keys get_lazy_state_keys_by_parts get_lazy_state_keys_same

-- ---- set state

-- a state that is set as (name, (key, value))
abbrev pub set_state_by_parts : Format SetStateCommand
set_state_by_parts = via (λ m. (m.name, (m.key, m.value)))
    (λ p. record { name = p.0; key = p.1.0; value = p.1.1 }) (λ _. refl) (λ _. refl)
    (pair_format text_format (pair_format text_format bytes_format))

pub set_state_same : (m : SetStateCommand) → set_state m ≡ (set_state_by_parts).spelling m
unfolding set_state
set_state_same m = refl

-- the format of the body that sets a state: name and key (texts), value (bytes)
abbrev pub set_state_format : Format SetStateCommand
set_state_format = spelled set_state set_state_by_parts set_state_same

-- ---- clear state

-- a state that is cleared as (name, key)
abbrev pub clear_state_by_parts : Format ClearStateCommand
clear_state_by_parts =
    via (λ m. (m.name, m.key)) (λ p. record { name = p.0; key = p.1 }) (λ _. refl) (λ _. refl)
    (pair_format text_format text_format)

pub clear_state_same : (m : ClearStateCommand) → clear_state m ≡ (clear_state_by_parts).spelling m
unfolding clear_state
clear_state_same m = refl

-- the format of the body that clears a state: name and key (texts)
abbrev pub clear_state_format : Format ClearStateCommand
clear_state_format = spelled clear_state clear_state_by_parts clear_state_same

-- ---- clear all state

-- a clear of all state as its name alone
abbrev pub clear_all_state_by_parts : Format ClearAllStateCommand
clear_all_state_by_parts = via (λ m. m.name) (λ p. record { name = p }) (λ _. refl) (λ _. refl)
    (text_format)

pub clear_all_state_same : (m : ClearAllStateCommand) → clear_all_state m
    ≡ (clear_all_state_by_parts).spelling m
unfolding clear_all_state
clear_all_state_same m = refl

-- the format of the body that clears all state: name (text)
abbrev pub clear_all_state_format : Format ClearAllStateCommand
clear_all_state_format = spelled clear_all_state clear_all_state_by_parts clear_all_state_same
