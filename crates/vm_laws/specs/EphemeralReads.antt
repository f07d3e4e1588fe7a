-- What an ephemeral read of the state is answered with, and why it is refused.
use Rattle.std.specs.Prelude.{◌≡◌, ℕ, Bool, true, false, not, ◌&&◌, ◌==◌, List, [], ◌∷◌, ◌++◌, Option, Some, None}
use Rattle.journal_protocol.specs.NamedFault.{NamedFault}
use Rattle.journal_protocol.specs.NamedFault.TheVariants as fault
use Rattle.journal_protocol.specs.Frames.{encoding}
use Rattle.journal_protocol.specs.Message.TheVariants as message
use Rattle.journal_protocol.specs.RawMessage.{RawMessage}
use Rattle.journal_protocol.specs.VoidOrValue.{VoidOrValue}
use Rattle.journal_protocol.specs.VoidOrValue.TheVariants as stored
use Rattle.vm_types.specs.declared.values.Value.{Value}
use Rattle.vm_types.specs.declared.values.Value.TheVariants as value
use Rattle.vm_state.specs.Counting.{most}
use Rattle.vm_state.specs.States.{value_known}
use Rattle.vm_state.specs.declared.state_map.Known.{Known}
use Rattle.vm_state.specs.declared.state_map.Known.TheVariants.{Unknown, Empty, Value as Holds}
use Rattle.vm_machine.specs.declared.machine.Machine.{Machine}
use Rattle.journal_protocol.specs.Bodies.{ephemeral_notification_in}
use Rattle.vm_machine.specs.Ephemerals.{ephemeral_notification_step, take_ephemeral_step}
use Rattle.vm_machine.specs.Outcomes.{Done}
use Rattle.vm_machine.specs.Phases.{is_closed, is_from_v8, is_replaying, is_waiting}

-- ---- why it is refused

-- nothing is known of a key
abbrev pub is_unknown : Known → Bool
is_unknown Unknown = true
is_unknown other = false

-- Why a read of a key may be refused, in the order in which it is looked for: before version 8; in
-- replay; before the journal is there; after the end; for a key of which nothing is known, once the
-- input is closed; and if no id is left.
abbrev pub reasons : List ℕ → Machine → List (Bool × NamedFault)
reasons key v =
    (not (is_from_v8 v.version), fault.UnsupportedFeatureForNegotiatedVersion)
    ∷ (is_replaying v.phase, fault.EphemeralCommandDuringReplay)
    ∷ (is_waiting v.phase, fault.UnexpectedState)
    ∷ (is_closed v.phase, fault.Closed)
    ∷ (
      v.input_closed && is_unknown (value_known key v.state),
      fault.EphemeralStateGetWithClosedInput,
    )
    ∷ (v.counters.ephemeral == most, fault.ExhaustedEphemeralIds)
    ∷ []

-- the reason if the test says so, else the one that comes after it
abbrev pub reason_or : Bool → NamedFault → Option NamedFault → Option NamedFault
reason_or true name other = Some name
reason_or false name other = other

-- the first reason that there is
abbrev pub first_reason : List (Bool × NamedFault) → Option NamedFault
first_reason [] = None
first_reason (r ∷ rs) = reason_or r.0 r.1 (first_reason rs)

-- ---- what it is answered with

-- a take of the read with this id is answered with the value
abbrev pub TakeGives : ℕ → Value → Machine → Type 0
TakeGives id v w = (u : Machine) × (take_ephemeral_step id w ≡ Done (Some v) u)

-- the value that a result is
abbrev pub value_of_result : VoidOrValue → Value
value_of_result stored.Void = value.Void
value_of_result (stored.Value bytes) = value.Success bytes

-- a notification brings this result for the read with this id
abbrev pub Brings : ℕ → VoidOrValue → RawMessage → Type 0
Brings id found raw =
    ephemeral_notification_in raw.body ≡ Some (record { id = id; result = Some found })

-- A read of a key with this id, from one machine to the next, by what is known of the key. If its
-- value is known, or that it has none, a take gives that at once, and nothing is written. Else the
-- command of the read is written, and once a notification brings its result, a take gives that.
abbrev pub IsAnswered : List ℕ → Known → ℕ → Machine → Machine → Type 0
IsAnswered key (Holds bytes) id v w = TakeGives id (value.Success bytes) w × (w.output ≡ v.output)
IsAnswered key Empty id v w = TakeGives id value.Void w × (w.output ≡ v.output)
IsAnswered key Unknown id v w =
    (w.output ≡ v.output ++ encoding
    (message.GetStateEphemeralCommand (record { id = id; key = key })) ∷ [])
    × ((raw : RawMessage) (found : VoidOrValue) → Brings id found raw
    → (u : Machine) × (ephemeral_notification_step raw w.phase w ≡ Done tt u)
    × TakeGives id (value_of_result found) u)
