-- A state read's command: eager where the state is known, lazy where it isn't; in replay the
-- recorded form decides.
use Rattle.std.specs.Prelude.{ℕ, true, ◌==◌, if◌then◌else◌, List, Option, Some, None, Result, Ok, Err}
use Rattle.journal_protocol.specs.NamedFault.{NamedFault}
use Rattle.journal_protocol.specs.NamedFault.TheVariants as fault
use Rattle.journal_protocol.specs.Message.{Message}
use Rattle.journal_protocol.specs.Message.TheVariants as message
use Rattle.journal_protocol.specs.RawMessage.{RawMessage}
use Rattle.journal_protocol.specs.NotificationResult.{NotificationResult}
use Rattle.journal_protocol.specs.NotificationResult.TheVariants as gives
use Rattle.journal_protocol.specs.VoidOrValue.{VoidOrValue}
use Rattle.journal_protocol.specs.VoidOrValue.TheVariants as stored
use Rattle.journal_protocol.specs.MessageType.{MessageType}
use Rattle.journal_protocol.specs.MessageType.TheVariants as type
use Rattle.journal_protocol.specs.Equality.{header_equal}
use Rattle.journal_protocol.specs.Bodies.{message_in}
use Rattle.journal_protocol.specs.Types.{type_number}
use Rattle.vm_state.specs.declared.state_map.Known.{Known}
use Rattle.vm_state.specs.declared.state_map.Known.TheVariants.{Unknown, Empty, Value}
use Rattle.vm_state.specs.declared.state_map.StateMap.{StateMap}
use Rattle.vm_state.specs.States.{value_known, known_keys}
use Rattle.vm_asks.specs.declared.state_read.StateRead.{StateRead}
use Rattle.vm_asks.specs.declared.state_read.StateRead.TheVariants as reads

-- ---- the two forms of a read

-- the name of its command
abbrev pub name_read : StateRead → List ℕ
name_read (reads.Value key name) = name
name_read (reads.Keys name) = name

-- the type of its lazy form
abbrev pub lazy_type : StateRead → MessageType
lazy_type (reads.Value key name) = type.GetLazyStateCommand
lazy_type (reads.Keys name) = type.GetLazyStateKeysCommand

-- the type of its eager form
abbrev pub eager_type : StateRead → MessageType
eager_type (reads.Value key name) = type.GetEagerStateCommand
eager_type (reads.Keys name) = type.GetEagerStateKeysCommand

-- the lazy form: the result comes with this completion id
abbrev pub lazy_form : StateRead → ℕ → Message
lazy_form (reads.Value key name) id = message.GetLazyState
    (record { name = name; key = key; result_completion_id = id })
lazy_form (reads.Keys name) id = message.GetLazyStateKeys
    (record { result_completion_id = id; name = name })

-- the eager form, without its result
abbrev pub eager_form : StateRead → Message
eager_form (reads.Value key name) = message.GetEagerState
    (record { name = name; key = key; result = None })
eager_form (reads.Keys name) = message.GetEagerStateKeys (record { value = None; name = name })

-- a value that is asked for, by what is known of its key
abbrev pub value_form : List ℕ → List ℕ → ℕ → Known → Message
value_form key name id Unknown =
    message.GetLazyState (record { name = name; key = key; result_completion_id = id })
value_form key name id Empty =
    message.GetEagerState (record { name = name; key = key; result = Some stored.Void })
value_form key name id (Value value) = message.GetEagerState
    (record { name = name; key = key; result = Some (stored.Value value) })

-- the keys, where they are known
abbrev pub keys_form : List ℕ → ℕ → Option (List (List ℕ)) → Message
keys_form name id None =
    message.GetLazyStateKeys (record { result_completion_id = id; name = name })
keys_form name id (Some keys) = message.GetEagerStateKeys
    (record { value = Some keys; name = name })

-- The command of a read, by what is known of the state.
abbrev pub own_form : StateRead → ℕ → StateMap → Message
own_form (reads.Value key name) id state = value_form key name id (value_known key state)
own_form (reads.Keys name) id state = keys_form name id (known_keys state)

-- what stands under a key, as a result
abbrev pub value_result : VoidOrValue → NotificationResult
value_result stored.Void = gives.Void
value_result (stored.Value value) = gives.Value value

-- a result that has to be there
abbrev pub result_or : {A : Type 0} → NamedFault → (A → NotificationResult) → Option A
    → Result (Option NotificationResult) NamedFault
result_or name f None = Err name
result_or name f (Some x) = Ok (Some (f x))

-- the result that a read's command brings: an eager one has to have one
abbrev pub result_in : Message → Result (Option NotificationResult) NamedFault
result_in (message.GetEagerState c) = result_or fault.EmptyGetEagerState value_result c.result
result_in (message.GetEagerStateKeys c) = result_or fault.EmptyGetEagerStateKeys gives.StateKeys
    c.value
result_in m = Ok None

-- what a read's own command brings
abbrev pub own_result : Result (Option NotificationResult) NamedFault → Option NotificationResult
own_result (Ok result) = result
own_result (Err name) = None

-- ---- a recorded read

-- a recorded command that has to be header-equal to this form except in its result: what it brings,
-- or why it doesn't fit
abbrev pub read_by : Message → Option Message → Result (Option NotificationResult) NamedFault
read_by form None = Err fault.BadMessage
read_by form (Some recorded) = if header_equal recorded form true then result_in recorded
    else Err fault.CommandMismatch

-- the form that a recorded command has to have, by its type
abbrev pub form_of : StateRead → ℕ → RawMessage → Option Message
form_of r id raw =
    if type_number raw.ty == type_number (lazy_type r) then Some (lazy_form r id)
    else if type_number raw.ty == type_number (eager_type r) then Some (eager_form r)
    else None

-- a recorded command that has to have a form
abbrev pub read_in_form : Option Message → Option Message
    → Result (Option NotificationResult) NamedFault
read_in_form None recorded = Err fault.CommandTypeMismatch
read_in_form (Some form) recorded = read_by form recorded

-- A recorded command where the handler makes a read with this completion id: what the command
-- brings, or why it doesn't fit. Its form decides.
abbrev pub recorded_as : StateRead → ℕ → RawMessage → Result (Option NotificationResult) NamedFault
recorded_as r id raw = read_in_form (form_of r id raw) (message_in raw.ty raw.body)

-- the type that an error shows of a read in replay: that of the recorded form, or the eager one's
abbrev pub recorded_type : StateRead → RawMessage → MessageType
recorded_type r raw =
    if type_number raw.ty == type_number (lazy_type r) then lazy_type r else eager_type r
