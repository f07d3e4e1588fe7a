-- Which commands are tracked, so that a cancelled handler cancels their invocations too.
use Rattle.std.specs.Prelude.{◌≡◌, ℕ, Bool, if◌then◌else◌, List}
use Rattle.journal_protocol.specs.CallCommand.{CallCommand}
use Rattle.journal_protocol.specs.OneWayCallCommand.{OneWayCallCommand}
use Rattle.journal_protocol.specs.MessageType.TheVariants as type
use Rattle.journal_protocol.specs.Message.{Message}
use Rattle.journal_protocol.specs.Message.TheVariants as message
use Rattle.journal_protocol.specs.Frames.{type_of}
use Rattle.vm_types.specs.declared.options.ImplicitCancellationOption.{ImplicitCancellationOption}
use Rattle.vm_types.specs.declared.options.ImplicitCancellationOption.TheVariants.{Disabled, Enabled}
use Rattle.vm_state.specs.declared.tracked_call.TrackedCall.{TrackedCall}
use Rattle.vm_state.specs.TrackedCalls.{with_call}
use Rattle.vm_asks.specs.Requests.{tracked_after}

-- the tracked calls after a command with this first handle, if it is tracked
abbrev pub tracked_if : Bool → ℕ → List TrackedCall → List TrackedCall
tracked_if is_tracked handle ts = if is_tracked then with_call handle ts else ts

-- a call is tracked if the first option says so
abbrev pub TracksCalls : Bool → Bool → Type 0
TracksCalls calls sends = (c : CallCommand) (handle : ℕ) (ts : List TrackedCall)
    → tracked_after (Enabled calls sends) (message.Call c) handle ts ≡ tracked_if calls handle ts

-- a send is tracked if the second option says so
abbrev pub TracksSends : Bool → Bool → Type 0
TracksSends calls sends = (c : OneWayCallCommand) (handle : ℕ) (ts : List TrackedCall)
    → tracked_after (Enabled calls sends) (message.OneWayCall c) handle ts
    ≡ tracked_if sends handle ts

-- a message of another type isn't tracked
abbrev pub TracksNothingElse : ImplicitCancellationOption → Message → Type 0
TracksNothingElse option m =
    ¬ (type_of m ≡ type.CallCommand) → ¬ (type_of m ≡ type.OneWayCallCommand)
    → (handle : ℕ) (ts : List TrackedCall) → tracked_after option m handle ts ≡ ts

-- nothing is tracked
abbrev pub TracksNothing : ImplicitCancellationOption → Type 0
TracksNothing option =
    (m : Message) (handle : ℕ) (ts : List TrackedCall) → tracked_after option m handle ts ≡ ts
