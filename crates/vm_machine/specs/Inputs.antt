-- What comes to a machine: messages, the closing of the input, and a handler that reads its input.
use Rattle.std.specs.Prelude.{◌≡◌, ◌⊎◌, ℕ, ◌-◌, Bool, true, false, ◌&&◌, ◌==◌, if◌then◌else◌, nat_lt, nat_le, List, [], ◌∷◌, ◌++◌, length, drop, find, Option, Some, None, Result, Ok, Err, IsErr}
use Rattle.std.specs.List.{list_all}
use Rattle.std.specs.Str.{is_utf8}
use Rattle.std.specs.declared.alloc.AllocError.{AllocError}
use Rattle.journal_protocol.specs.InputCommand.{InputCommand}
use Rattle.journal_protocol.specs.ProposeRunCompletionAck.{ProposeRunCompletionAck}
use Rattle.journal_protocol.specs.NamedFault.{NamedFault}
use Rattle.journal_protocol.specs.NamedFault.TheVariants as fault
use Rattle.journal_protocol.specs.Message.TheVariants as message
use Rattle.journal_protocol.specs.RawMessage.{RawMessage}
use Rattle.journal_protocol.specs.Notification.{Notification}
use Rattle.journal_protocol.specs.Start.{Start}
use Rattle.journal_protocol.specs.MessageType.TheVariants as type
use Rattle.journal_protocol.specs.Frames.{encoding}
use Rattle.journal_protocol.specs.Bodies.{acknowledgement_in, start_in, input_in, notification_in}
use Rattle.vm_runs.specs.Firsts.{without_first}
use Rattle.vm_runs.specs.Kept.{is_for}
use Rattle.journal_entries.specs.Proposals.{acknowledged_completion}
use Rattle.journal_protocol.specs.ProposeRunCompletion.{ProposeRunCompletion}
use Rattle.journal_protocol.specs.Types.{type_number}
use Rattle.vm_state.specs.declared.counters.Counters.{Counters}
use Rattle.vm_parts.specs.declared.context.StartInfo.{StartInfo}
use Rattle.vm_state.specs.declared.state_map.StateCoverage.{StateCoverage}
use Rattle.vm_state.specs.declared.state_map.StateCoverage.TheVariants.{Partial, Complete}
use Rattle.vm_types.specs.declared.values.Input.{Input}
use Rattle.vm_state.specs.Counting.{missing_number}
use Rattle.vm_state.specs.Entries.{entries_of}
use Rattle.vm_parts.specs.Starts.{start_info_of}
use Rattle.vm_machine.specs.declared.fault.Fault.{Fault}
use Rattle.vm_machine.specs.declared.fault.Fault.TheVariants as stopped
use Rattle.vm_machine.specs.declared.machine.Machine.{Machine}
use Rattle.vm_machine.specs.declared.phase.Phase.{Phase}
use Rattle.vm_machine.specs.declared.phase.Phase.TheVariants.{WaitingStart, WaitingReplayEntries, Replaying, Processing, Closed}
use Rattle.vm_machine.specs.Outcomes.{Outcome, Done, Failed, ◌>>>◌, refused, about_last, ruled, failed, starved}
use Rattle.vm_machine.specs.Commands.{entered, about_next, popped}
use Rattle.vm_machine.specs.Ephemerals.{ephemeral_notification_step}
use Rattle.vm_machine.specs.Phases.{state_fault}
use Rattle.vm_machine.specs.Skips.{counters_past, skipped}
use Rattle.vm_types.specs.Options.{skips_replay}
use Rattle.vm_asks.specs.Carried.{past_all}

-- ---- Start

-- what is known of the keys that were not handed out
abbrev pub coverage_of : Bool → StateCoverage
coverage_of true = Partial
coverage_of false = Complete

-- the entries of the handed-out state; its keys have to be texts
abbrev pub entries_in : List (List ℕ × List ℕ) → Option (List (List ℕ × Option (List ℕ)))
entries_in pairs = if list_all (λ p. is_utf8 p.0) pairs then Some (entries_of pairs) else None

-- Start is kept, if its state keys are texts and it says that there is an entry
abbrev pub started_with : Start → Option (List (List ℕ × Option (List ℕ))) → Machine → Outcome Unit
started_with s None v = refused fault.BadEagerStateKey v
started_with s (Some entries) v =
    if s.known_entries == 0 then refused fault.KnownEntriesIsZero v
    else Done tt (record v {
      start = start_info_of v.version v.options.fallback_random_seed s;
      state = record { entries = entries; coverage = coverage_of s.partial };
      entries_missing = s.known_entries;
      phase = WaitingReplayEntries;
    })

-- a Start that was read
abbrev pub start_received : Option Start → Machine → Outcome Unit
start_received None v = refused fault.BadMessage v
start_received (Some s) v = started_with s (entries_in s.state) v

-- Start comes, once and first
abbrev pub start_step : RawMessage → Phase → Machine → Outcome Unit
start_step raw WaitingStart v = start_received (start_in raw.body) v
start_step raw _ v = refused fault.UnexpectedInputMessage v

-- ---- the known entries

-- a known entry has come; after the last of them the machine replays
abbrev pub counted_entry : Machine → Machine
counted_entry v =
    record v {
      entries_missing = v.entries_missing - 1;
      phase = if nat_le v.entries_missing 1 then Replaying else WaitingReplayEntries;
    }

-- a command comes, as long as known entries are missing
abbrev pub entry_step : RawMessage → Phase → Machine → Outcome Unit
entry_step raw WaitingReplayEntries v =
    Done tt (counted_entry (record v { commands = v.commands ++ raw ∷ [] }))
entry_step raw _ v = refused fault.UnexpectedEntryMessage v

-- ---- notifications

-- a notification waits after the others
abbrev pub enqueued : Notification → Machine → Machine
enqueued n v = record v { results = record v.results { queued = v.results.queued ++ n ∷ [] } }

-- a notification that was read waits, and then comes what else it does
abbrev pub queued : Option Notification → (Machine → Machine) → Machine → Outcome Unit
queued None after v = refused fault.BadMessage v
queued (Some n) after v = Done tt (after (enqueued n v))

-- a notification comes
abbrev pub notification_step : RawMessage → Phase → Machine → Outcome Unit
notification_step raw WaitingStart v = refused fault.UnexpectedState v
notification_step raw WaitingReplayEntries v = queued (notification_in raw.body) counted_entry v
notification_step raw Replaying v = queued (notification_in raw.body) (λ w. w) v
notification_step raw Processing v = queued (notification_in raw.body) (λ w. w) v
notification_step raw Closed v = Done tt v

-- ---- acknowledgements

-- The first kept proposal of this id, if there is one, comes as the run's completion, and isn't
-- kept any more.
abbrev pub acknowledged : ℕ → Option ProposeRunCompletion → Machine → Outcome Unit
acknowledged id None v = refused fault.BadProposeRunCompletionAck v
acknowledged id (Some kept) v = Done tt
    (enqueued (acknowledged_completion id kept)
    (record v { proposals = without_first (is_for id) v.proposals }))

-- an acknowledgement that was read
abbrev pub acknowledged_by : Option ProposeRunCompletionAck → Machine → Outcome Unit
acknowledged_by None v = refused fault.BadMessage v
acknowledged_by (Some ack) v = acknowledged ack.id (find (is_for ack.id) v.proposals) v

-- a proposal is acknowledged
abbrev pub acknowledgement_step : RawMessage → Phase → Machine → Outcome Unit
acknowledgement_step raw Processing v = acknowledged_by (acknowledgement_in raw.body) v
acknowledgement_step raw Closed v = Done tt v
acknowledgement_step raw phase v = refused fault.UnexpectedState v

-- ---- any message

-- What is refused for its type in the machine's phase, or ignored, isn't decoded.
unfoldable pub message_step : RawMessage → Machine → Outcome Unit
message_step raw v =
    if type_number raw.ty == 1 then start_step raw v.phase v
    else if nat_le 10 (type_number raw.ty) && nat_lt (type_number raw.ty) 30
    then entry_step raw v.phase v
    else if type_number raw.ty == 30 then notification_step raw v.phase v
    else if type_number raw.ty == 6 then acknowledgement_step raw v.phase v
    else if type_number raw.ty == 9 then ephemeral_notification_step raw v.phase v
    else refused fault.UnexpectedInputMessage v

-- bytes that are no frame
abbrev pub malformed_step : Machine → Outcome Unit
malformed_step v = refused fault.BadMessage v

-- ---- the end of the input

-- closing, in this phase
abbrev pub closed_at : Phase → Machine → Outcome Unit
closed_at WaitingStart v = refused fault.InputClosedWhileWaitingEntries v
closed_at WaitingReplayEntries v = refused fault.InputClosedWhileWaitingEntries v
closed_at _ v = Done tt v

-- no more input comes
abbrev pub close_step : Machine → Outcome Unit
close_step v = let w = record v { input_closed = true } in closed_at v.phase w

-- ---- the handler reads its input

-- what the handler is given with its input
abbrev pub input_of : StartInfo → InputCommand → Input
input_of s c = record {
  invocation_id = s.debug_id;
  random_seed = s.random_seed;
  key = s.key;
  headers = c.headers;
  input = c.value;
  scope = s.scope;
  limit_key = s.limit_key;
  idempotency_key = s.idempotency_key;
}

-- the first command was read as an input
abbrev pub input_read : Option InputCommand → Machine → Outcome Input
input_read None v = Failed (about_last fault.BadMessage v) v
input_read (Some c) v = Done (input_of v.start c) v

-- the input is popped, where its command index is left
abbrev pub input_counted : Option NamedFault → Machine → Outcome Input
input_counted (Some name) v = Failed (about_next name type.InputCommand [] v) v
input_counted None v =
    popped type.InputCommand (entered type.InputCommand [] v)
    >>> λ raw w. input_read (input_in raw.body) w

-- the input is read and the commands after it are dropped; these counters are left
abbrev pub input_numbered : Result Counters NamedFault → Machine → Outcome Input
input_numbered (Err name) v = Failed (about_next name type.InputCommand [] v) v
input_numbered (Ok counters) v = input_counted None v >>> λ input w. Done input (skipped counters w)

-- the same, by the completion id that is next past those that the dropped commands carry; each of
-- them has to be readable
abbrev pub input_past : Option ℕ → Machine → Outcome Input
input_past None v =
    let w = entered type.InputCommand [] v in Failed (about_last fault.BadMessage w) w
input_past (Some id) v = input_numbered (counters_past (length (drop 1 v.commands)) id v.counters) v

-- the input is read, by whether the commands after it are dropped
abbrev pub input_by : Bool → Machine → Outcome Input
input_by false v = input_counted (missing_number 0 0 0 v.counters) v
input_by true v = input_past (past_all v.counters.completion (drop 1 v.commands)) v

-- the handler reads its input in this phase
abbrev pub input_at : Phase → Machine → Outcome Input
input_at Replaying v = input_by (skips_replay v.options.journal_replay) v
input_at phase v =
    let w = entered type.InputCommand [] v in Failed (about_last (state_fault phase) w) w

-- The handler reads its input: it pops the first recorded command, and drops the others where they
-- aren't replayed.
unfoldable pub input_step : Machine → Outcome Input
input_step v = input_at v.phase v

-- ---- the handler ends

-- one End is written, and the machine is closed
abbrev pub with_end_written : Machine → Machine
with_end_written v =
    record v { output = v.output ++ encoding message.End ∷ []; output_ended = true; phase = Closed }

-- the end, in this phase
abbrev pub end_at : Phase → Machine → Outcome Unit
end_at Processing v = Done tt (with_end_written v)
end_at Closed v = Done tt v
end_at phase v = refused (state_fault phase) v

-- the handler ends
abbrev pub end_step : Machine → Outcome Unit
end_step v = end_at v.phase v

-- ---- calls whose only error is out of memory

-- what the error rule leaves of an inner function's answer, in a call that began with these
-- counters
abbrev pub Quiets : Counters → Result Unit Fault → Result Unit AllocError → Machine → Machine
    → Type 0
Quiets before (Ok a) r old new = (r ≡ Ok tt) × (new ≡ old)
Quiets before (Err stopped.Memory) r old new = IsErr r × (new ≡ starved before old)
Quiets before (Err (stopped.Refused e)) r old new =
    ((r ≡ Ok tt) × (new ≡ failed (ruled old e) old)) ⊎ (IsErr r × (new ≡ starved before old))
