-- The journal that an attempt was fed, and the machine that it makes of it.
use Rattle.std.specs.Prelude.{◌≡◌, ◌⊎◌, ℕ, zero, suc, ◌+◌, false, length, List, [], ◌++◌, Option, Some, None, IsSome}
use Rattle.std.specs.List.{AllByRecursion}
use Rattle.std.proofs.Common.{Global}
use Rattle.journal_protocol.specs.InputCommand.{InputCommand}
use Rattle.journal_protocol.specs.RawMessage.{RawMessage}
use Rattle.journal_protocol.specs.Notification.{Notification}
use Rattle.journal_protocol.specs.Start.{Start}
use Rattle.journal_protocol.specs.MessageType.TheVariants as type
use Rattle.journal_protocol.specs.Version.{Version}
use Rattle.journal_protocol.specs.Bodies.{start_in}
use Rattle.vm_state.specs.declared.state_map.StateMap.{StateMap}
use Rattle.vm_types.specs.declared.options.VMOptions.{VMOptions}
use Rattle.vm_types.specs.declared.values.Input.{Input}
use Rattle.vm_state.specs.Counting.{fresh_counters}
use Rattle.vm_parts.specs.Deliveries.{no_results, none_ready}
use Rattle.vm_parts.specs.Ephemerals.{no_ephemerals}
use Rattle.vm_machine.specs.declared.machine.Machine.{Machine}
use Rattle.vm_machine.specs.declared.phase.Phase.{Phase}
use Rattle.vm_machine.specs.declared.phase.Phase.TheVariants.{WaitingReplayEntries, Replaying}
use Rattle.vm_machine.specs.Inputs.{coverage_of, entries_in}
use Rattle.vm_parts.specs.Starts.{start_info_of}
use Rattle.vm_machine.specs.Outcomes.{Outcome, Done, Failed}
use Rattle.vm_model.specs.Calls.{Setup}
use Rattle.journal_entries.specs.JournalFrames.{AcknowledgesNothing, commands_among, notifications_among}
use Rattle.vm_model.specs.Setups.{setup_with}
use Rattle.vm_model.specs.Moves.{start, told_input}
use Rattle.vm_attempt.specs.Agreement.{Agrees, Aside}
use Rattle.vm_model.specs.Fixed.{Fixed}

-- Before the handler has read its input: the commands and notifications that came after Start, and
-- nothing else.
abbrev pub machine_fed : Setup → StateMap → Aside → List RawMessage → List Notification → Phase
    → Machine
machine_fed s given aside cs ns phase = record {
  alloc = aside.alloc;
  version = s.version;
  options = s.options;
  phase = phase;
  failure = None;
  input_closed = aside.input_closed;
  start = aside.start;
  entries_missing = aside.entries_missing;
  commands = cs;
  counters = fresh_counters;
  last_command = record { ty = type.Start; name = [] };
  wrote_command = false;
  results = record { queued = ns; ready = none_ready; handles = no_results.handles };
  state = given;
  runs = [];
  proposals = [];
  tracked = [];
  ephemeral = no_ephemerals;
  output = aside.output;
  output_ended = false;
}

-- If the first command is an input, the handler gets it, the machine agrees with the first point,
-- nothing is written, and nothing was proposed; else the call is refused.
abbrev pub BeginsOrFails : Setup → StateMap → Aside → List RawMessage → List Notification
    → Option InputCommand → Outcome Input → Type 0
BeginsOrFails s given aside rest ns (Some c) (Done i w) = (i ≡ told_input s.identity c)
    × (Agrees s given [] w (start s c ns rest) × ((w.output ≡ aside.output) × (w.proposals ≡ [])))
BeginsOrFails s given aside rest ns None (Failed e w) = Unit {0}
BeginsOrFails s given aside rest ns (Some c) (Failed e w) = ⊥
BeginsOrFails s given aside rest ns None (Done i w) = ⊥

-- ---- the machine as its journal comes

-- what stands aside while this number of entries is missing
abbrev pub with_missing : ℕ → Aside → Aside
with_missing k aside = record aside { entries_missing = k }

-- the phase while this number of entries is missing
abbrev pub phase_missing : ℕ → Phase
phase_missing zero = Replaying
phase_missing (suc k) = WaitingReplayEntries

-- a machine that waits for this number of entries
abbrev pub waiting_machine : Setup → StateMap → Aside → ℕ → List RawMessage → List Notification
    → Machine
waiting_machine s given aside k cs ns =
    machine_fed s given (with_missing k aside) cs ns (phase_missing k)

-- What frames make of a machine that waits: it has failed; or it waits for those that are missing;
-- or the journal is the first of them, as many as were missing, and all their notifications are
-- arrivals. No frame among them is an acknowledgement.
pub record StillWaits (s : Setup) (given : StateMap) (aside : Aside) (k : ℕ) (cs : List RawMessage)
    (ns : List Notification) (raws : List RawMessage) (m : Machine) : Type 0 where
  pub left : ℕ
  pub count : k ≡ length raws + suc left
  pub none_acknowledge : AllByRecursion AcknowledgesNothing raws
  pub machine : m ≡ waiting_machine s given aside (suc left) (cs ++ commands_among raws) (ns
      ++ notifications_among raws)

-- the known entries have all come
pub record HasAll (s : Setup) (given : StateMap) (aside : Aside) (k : ℕ) (cs : List RawMessage)
    (ns : List Notification) (raws : List RawMessage) (m : Machine) : Type 0 where
  pub entries : List RawMessage
  pub others : List RawMessage
  pub split : raws ≡ entries ++ others
  pub none_acknowledge : AllByRecursion AcknowledgesNothing raws
  pub count : length entries ≡ k
  pub machine : m ≡ waiting_machine s given aside 0 (cs ++ commands_among entries) (ns
      ++ notifications_among raws)

-- what frames make of a machine that waits
abbrev pub TakenIn : Setup → StateMap → Aside → ℕ → List RawMessage → List Notification
    → List RawMessage → Machine → Type 0
TakenIn s given aside k cs ns raws m = IsSome m.failure
    ⊎ (StillWaits s given aside k cs ns raws m ⊎ HasAll s given aside k cs ns raws m)

-- ---- from Start on

-- the setup of an attempt with this Start
abbrev pub setup_for : Fixed → Start → Setup
setup_for fixed st = setup_with fixed.version fixed.options st

-- what stands aside in an attempt with this Start
abbrev pub aside_for : Global → Version → VMOptions → Start → Aside
aside_for alloc version options st = record {
  alloc = alloc;
  start = start_info_of version options.fallback_random_seed st;
  input_closed = false;
  entries_missing = 0;
  beside = record { last = record { ty = type.Start; name = [] }; runs = [] };
  proposals = [];
  output = [];
}

-- the first frame was a Start: its state is kept, and the machine waits for as many entries as it
-- says
pub record HasStarted (alloc : Global) (version : Version) (options : VMOptions) (raw : RawMessage)
    (m : Machine) : Type 0 where
  pub start : Start
  pub entries : List (List ℕ × Option (List ℕ))
  pub reads : start_in raw.body ≡ Some start
  pub keys : entries_in start.state ≡ Some entries
  pub machine : m ≡ waiting_machine (setup_with version options start)
      (record { entries = entries; coverage = coverage_of start.partial })
      (aside_for alloc version options start) start.known_entries [] []

-- the first frame came
abbrev pub StartCame : Global → Version → VMOptions → RawMessage → Machine → Type 0
StartCame alloc version options raw m = IsSome m.failure ⊎ HasStarted alloc version options raw m

-- the first frame was a Start, and the others were fed
pub record StartedWith (alloc : Global) (version : Version) (options : VMOptions)
    (first : RawMessage) (raws : List RawMessage) (m : Machine) : Type 0 where
  pub start : Start
  pub entries : List (List ℕ × Option (List ℕ))
  pub reads : start_in first.body ≡ Some start
  pub keys : entries_in start.state ≡ Some entries
  pub fed : TakenIn (setup_with version options start)
      (record { entries = entries; coverage = coverage_of start.partial })
      (aside_for alloc version options start) start.known_entries [] [] raws m

-- what frames make of a new machine
abbrev pub Started : Global → Version → VMOptions → RawMessage → List RawMessage → Machine → Type 0
Started alloc version options first raws m =
    IsSome m.failure ⊎ StartedWith alloc version options first raws m
