-- What a call with a command does in replay, as its caller sees it.
use Rattle.std.specs.Prelude.{◌≡◌, Bool, true, ◌==◌, ◌∷◌, Some, None}
use Rattle.journal_protocol.specs.NamedFault.{NamedFault}
use Rattle.journal_protocol.specs.Message.{Message}
use Rattle.journal_protocol.specs.RawMessage.{RawMessage}
use Rattle.journal_protocol.specs.Equality.{header_equal}
use Rattle.journal_protocol.specs.Frames.{type_of}
use Rattle.journal_protocol.specs.Bodies.{message_in}
use Rattle.journal_protocol.specs.Types.{type_number}
use Rattle.vm_state.specs.Counting.{missing_number}
use Rattle.vm_machine.specs.declared.machine.Machine.{Machine}
use Rattle.vm_machine.specs.declared.phase.Phase.TheVariants.{Replaying}
use Rattle.vm_machine.specs.Commands.{about_next, issued}
use Rattle.vm_types.specs.Options.{ignores_payloads}
use Rattle.vm_machine.specs.Outcomes.{Failed}
use Rattle.vm_asks.specs.Requests.{ids_of, name_of, shown_type, with_ids}

-- the machine replays, and has the numbers that the call needs
pub record MayReplay (m : Message) (v : Machine) : Type 0 where
  pub phase : v.phase ≡ Replaying
  pub numbers : missing_number (ids_of m) 0 (ids_of m) v.counters ≡ None

-- the command of the call
abbrev pub command_at : Message → Machine → Message
command_at m v = with_ids v.counters.completion m

-- whether payloads aren't compared
abbrev pub ignores : Machine → Bool → Bool
ignores v unstable = ignores_payloads v.options.non_determinism_checks unstable

-- whether a recorded command has the type of the call's
abbrev pub is_of_its_type : RawMessage → Message → Machine → Bool
is_of_its_type raw m v = type_number raw.ty == type_number (type_of (command_at m v))

-- whether the two are header-equal, as far as payloads are compared
abbrev pub is_header_equal : Message → Message → Bool → Machine → Bool
is_header_equal recorded m unstable v = header_equal recorded (command_at m v) (ignores v unstable)

-- The next recorded command is header-equal to the call's. It was popped, and it alone, and nothing
-- was written.
pub record Pops (m : Message) (unstable : Bool) (old new : Machine) : Type 0 where
  pub raw : RawMessage
  pub recorded : Message
  pub read : message_in raw.ty raw.body ≡ Some recorded
  pub equal : is_header_equal recorded m unstable old ≡ true
  pub popped : old.commands ≡ raw ∷ new.commands
  pub output : new.output ≡ old.output

-- The call fails with this error, which relates to its command, and nothing was written before the
-- error rule.
pub record Refuses (name : NamedFault) (m : Message) (unstable : Bool) (v : Machine) : Type 0 where
  pub left : Machine
  pub outcome : issued m unstable v ≡ Failed (about_next name (shown_type m) (name_of m) v) left
  pub output : left.output ≡ v.output
