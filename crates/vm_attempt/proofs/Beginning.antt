-- A machine that has the whole journal reads its input and agrees with the first point.
use Rattle.std.proofs.Common.{◌≡◌, Bool, true, false, List, [], ◌∷◌, Option, Some, None, refl, sym, ap, subst}
use Rattle.std.specs.Prelude.{◌==◌, if◌then◌else◌}
use Rattle.journal_protocol.specs.InputCommand.{InputCommand}
use Rattle.journal_protocol.specs.NamedFault.TheVariants as fault
use Rattle.journal_protocol.specs.RawMessage.{RawMessage}
use Rattle.journal_protocol.specs.Notification.{Notification}
use Rattle.journal_protocol.specs.MessageType.TheVariants as type
use Rattle.journal_protocol.specs.Bodies.{input_in}
use Rattle.journal_protocol.specs.Types.{type_number}
use Rattle.vm_state.specs.declared.state_map.StateMap.{StateMap}
use Rattle.vm_types.specs.declared.options.JournalReplay.TheVariants.{Enabled}
use Rattle.vm_machine.specs.declared.machine.Machine.{Machine}
use Rattle.vm_machine.specs.declared.phase.Phase.TheVariants.{Replaying}
use Rattle.vm_machine.specs.Commands.{entered, phase_after, popped}
use Rattle.vm_machine.specs.Inputs.{input_by, input_read, input_step}
use Rattle.vm_types.specs.Options.{skips_replay}
use Rattle.vm_machine.specs.Outcomes.{Done, Failed, ◌>>>◌, about_last}
use Rattle.vm_model.specs.Calls.{Setup, identity_of}
use Rattle.journal_entries.specs.Journal.{input_read_from}
use Rattle.vm_model.specs.Moves.{told_input}
use Rattle.vm_attempt.specs.Agreement.{Aside}
use Rattle.vm_attempt.specs.Journals.{BeginsOrFails, machine_fed}

-- the machine once the first command is popped
abbrev popped_first : Setup → StateMap → Aside → List RawMessage → List Notification → Machine
popped_first s given aside rest ns = record (entered type.InputCommand [] (machine_fed s given aside rest ns Replaying)) { phase = phase_after rest }

reads_input : (s : Setup) (given : StateMap) (aside : Aside) (rest : List RawMessage) (ns : List Notification) → s.identity ≡ identity_of aside.start → (o : Option InputCommand) → BeginsOrFails s given aside rest ns o (input_read o (popped_first s given aside rest ns))
reads_input s given aside rest ns identity (Some c) = (ap (λ i. told_input i c) (sym identity), (record { aside = record aside { beside = record { last = record { ty = type.InputCommand; name = [] }; runs = [] }; proposals = [] }; machine = refl; identity = identity }, (refl, refl)))
reads_input s given aside rest ns identity None = tt

-- the input of a machine that has the whole journal, where recorded commands are replayed
pub input_begins : (s : Setup) (given : StateMap) (aside : Aside) (first : RawMessage) (rest : List RawMessage) (ns : List Notification) → s.options.journal_replay ≡ Enabled → s.identity ≡ identity_of aside.start → BeginsOrFails s given aside rest ns (input_read_from first) (input_step (machine_fed s given aside (first ∷ rest) ns Replaying))
unfolding input_step popped
input_begins s given aside first rest ns replays identity =
    subst (λ b. BeginsOrFails s given aside rest ns (input_read_from first) (input_by b (machine_fed s given aside (first ∷ rest) ns Replaying))) (sym (ap skips_replay replays)) (by_test (type_number first.ty == type_number type.InputCommand))
  where
    w : Machine
    w = popped_first s given aside rest ns

    by_test : (b : Bool) → BeginsOrFails s given aside rest ns (if b then input_in first.body else None) ((if b then Done first w else Failed (about_last fault.CommandTypeMismatch w) w) >>> λ raw u. input_read (input_in raw.body) u)
    by_test true = reads_input s given aside rest ns identity (input_in first.body)
    by_test false = tt
