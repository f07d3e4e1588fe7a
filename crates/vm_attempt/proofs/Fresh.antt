-- Where recorded commands are skipped the completion ids of new commands are past theirs: what each call keeps of that.
use Rattle.std.proofs.Common.{◌≡◌, ℕ, ◌<◌, ◌≤◌, Bool, true, false, List, [], ◌∷◌, ◌++◌, Option, Some, None, refl, sym, ap, ◌∙◌, subst, arith}
use Rattle.std.specs.Prelude.{◌==◌, if◌then◌else◌}
use Rattle.std.specs.List.{find}
use Rattle.journal_protocol.specs.ProposeRunCompletionAck.{ProposeRunCompletionAck}
use Rattle.journal_protocol.specs.Start.{Start}
use Rattle.journal_protocol.specs.Error.{Error}
use Rattle.journal_protocol.specs.NamedFault.TheVariants as fault
use Rattle.journal_protocol.specs.Types.{type_number}
use Rattle.journal_protocol.specs.RawMessage.{RawMessage}
use Rattle.journal_protocol.specs.GetStateEphemeralNotification.{GetStateEphemeralNotification}
use Rattle.journal_protocol.specs.VoidOrValue.{VoidOrValue}
use Rattle.journal_protocol.specs.Bodies.{ephemeral_notification_in, acknowledgement_in, notification_in, start_in}
use Rattle.vm_machine.specs.Ephemerals.{completed_by, result_comes}
use Rattle.journal_protocol.specs.Notification.{Notification}
use Rattle.vm_runs.specs.Kept.{is_for}
use Rattle.vm_asks.specs.Carried.{AreBelow, AreFrom, AreGreater, all_carried}
use Rattle.vm_state.specs.declared.counters.Counters.{Counters}
use Rattle.journal_protocol.specs.ProposeRunCompletion.{ProposeRunCompletion}
use Rattle.vm_machine.specs.declared.machine.Machine.{Machine}
use Rattle.vm_machine.specs.declared.phase.Phase.{Phase}
use Rattle.vm_machine.specs.declared.phase.Phase.TheVariants.{WaitingStart, WaitingReplayEntries, Replaying, Processing, Closed}
use Rattle.vm_machine.specs.Inputs.{acknowledged, acknowledged_by, coverage_of, counted_entry, entries_in, queued, start_received, started_with}
use Rattle.vm_parts.specs.Starts.{start_info_of}
use Rattle.vm_machine.specs.Outcomes.{Done, Failed, Outcome, refused, settled}
use Rattle.invocation_vm.specs.Views.{all_received, left_by, received}
use Rattle.journal_entries.specs.JournalFrames.{is_acknowledgement, is_command_frame, is_ephemeral, is_notification}
use Rattle.vm_attempt.specs.Told.{IsLive, NumbersOn, commands_of}
use Rattle.vm_attempt.proofs.Arriving.{failed_receives, unknown_step}
use Rattle.vm_attempt.proofs.Entries.{message_by, receives_by}
use Rattle.vm_attempt.proofs.Numbers.{Numbers, carried_append, from_append, from_more}

-- ---- frames that come leave the counters as they are

-- an event leaves them
abbrev SameCounters : Machine → Outcome Unit → Type 0
SameCounters v (Done t w) = w.counters ≡ v.counters
SameCounters v (Failed e w) = w.counters ≡ v.counters

settled_same : (v : Machine) (o : Outcome Unit) → SameCounters v o → (left_by (settled o)).counters ≡ v.counters
settled_same v (Done t w) same = same
settled_same v (Failed e w) same = same

started_same : (o : Option Start) (v : Machine) → SameCounters v (start_received o v)
started_same None v = refl
started_same (Some st) v = by_entries (entries_in st.state)
  where
    by_test : (entries : List (List ℕ × Option (List ℕ))) (b : Bool)
        → SameCounters v (if b then refused fault.KnownEntriesIsZero v else Done (tt {0}) (record v { start = start_info_of v.version v.options.fallback_random_seed st; state = record { entries = entries; coverage = coverage_of st.partial }; entries_missing = st.known_entries; phase = WaitingReplayEntries }))
    by_test entries true = refl
    by_test entries false = refl

    by_entries : (o : Option (List (List ℕ × Option (List ℕ)))) → SameCounters v (started_with st o v)
    by_entries None = refl
    by_entries (Some entries) = by_test entries (st.known_entries == 0)

queued_same : (o : Option Notification) (v : Machine) → SameCounters v (queued o counted_entry v) × SameCounters v (queued o (λ w. w) v)
queued_same None v = (refl, refl)
queued_same (Some n) v = (refl, refl)

kept_same : (id : ℕ) (o : Option ProposeRunCompletion) (v : Machine) → SameCounters v (acknowledged id o v)
kept_same id None v = refl
kept_same id (Some kept) v = refl

acknowledged_same : (ack : Option ProposeRunCompletionAck) (v : Machine) → SameCounters v (acknowledged_by ack v)
acknowledged_same None v = refl
acknowledged_same (Some ack) v = kept_same ack.id (find (is_for ack.id) v.proposals) v

found_same : (id : ℕ) (found : Option VoidOrValue) (v : Machine) → SameCounters v (result_comes id found v)
found_same id None v = refl
found_same id (Some found) v = refl

completed_same : (n : Option GetStateEphemeralNotification) (v : Machine) → SameCounters v (completed_by n v)
completed_same None v = refl
completed_same (Some n) v = found_same n.id n.result v

unknown_same : (b : Bool) (raw : RawMessage) (ph : Phase) (v : Machine) → SameCounters v (unknown_step b raw ph v)
unknown_same true raw WaitingStart v = refl
unknown_same true raw WaitingReplayEntries v = refl
unknown_same true raw Replaying v = refl
unknown_same true raw Processing v = completed_same (ephemeral_notification_in raw.body) v
unknown_same true raw Closed v = refl
unknown_same false raw ph v = refl

message_same : (raw : RawMessage) (ph : Phase) (v : Machine) → (a b c d : Bool) → SameCounters v (message_by raw ph v a b c d)
message_same raw WaitingStart v true b c d = started_same (start_in raw.body) v
message_same raw WaitingReplayEntries v true b c d = refl
message_same raw Replaying v true b c d = refl
message_same raw Processing v true b c d = refl
message_same raw Closed v true b c d = refl
message_same raw WaitingStart v false true c d = refl
message_same raw WaitingReplayEntries v false true c d = refl
message_same raw Replaying v false true c d = refl
message_same raw Processing v false true c d = refl
message_same raw Closed v false true c d = refl
message_same raw WaitingStart v false false true d = refl
message_same raw WaitingReplayEntries v false false true d = (queued_same (notification_in raw.body) v).0
message_same raw Replaying v false false true d = (queued_same (notification_in raw.body) v).1
message_same raw Processing v false false true d = (queued_same (notification_in raw.body) v).1
message_same raw Closed v false false true d = refl
message_same raw WaitingStart v false false false true = refl
message_same raw WaitingReplayEntries v false false false true = refl
message_same raw Replaying v false false false true = refl
message_same raw Processing v false false false true = acknowledged_same (acknowledgement_in raw.body) v
message_same raw Closed v false false false true = refl
message_same raw ph v false false false false = unknown_same (is_ephemeral raw) raw ph v

received_same : (raw : RawMessage) (v : Machine) → (received raw v).counters ≡ v.counters
received_same raw v = by_failure v.failure refl
  where
    by_failure : (f : Option Error) → v.failure ≡ f → (received raw v).counters ≡ v.counters
    by_failure (Some e) dead = ap (λ (w : Machine). w.counters) (failed_receives e v raw dead)
    by_failure None live =
        ap (λ (w : Machine). w.counters) (receives_by v raw live)
        ∙ settled_same v (message_by raw v.phase v (type_number raw.ty == 1) (is_command_frame raw) (is_notification raw) (is_acknowledgement raw)) (message_same raw v.phase v (type_number raw.ty == 1) (is_command_frame raw) (is_notification raw) (is_acknowledgement raw))

pub all_same : (raws : List RawMessage) (v : Machine) → (all_received raws v).counters ≡ v.counters
all_same [] v = refl
all_same (raw ∷ raws) v = all_same raws (received raw v) ∙ received_same raw v

-- ---- what is kept

-- a machine that makes no call any more
pub on_still : (recorded written : List RawMessage) (v w : Machine) → NumbersOn recorded written v → (IsLive w → w.counters ≡ v.counters) → (IsLive w → IsLive v) → NumbersOn recorded written w
on_still recorded written v w n same lives = record { next = n.next; past = n.past; from = n.from; further = λ live. subst (λ c. n.next ≤ c) (sym (ap (λ (c : Counters). c.completion) (same live))) (n.further (lives live)) }

-- a machine that has failed or is closed writes nothing more
pub on_over : (recorded written : List RawMessage) (v w : Machine) → NumbersOn recorded written v → (IsLive w → ⊥) → NumbersOn recorded written w
on_over recorded written v w n over = record { next = n.next; past = n.past; from = n.from; further = λ live. absurd (over live) }

more_than : (a b c : ℕ) → a ≤ b → b ≤ c → a ≤ c
more_than a b c h k = omega (arith, h, k)

-- a call was made
pub on_written : (recorded written : List RawMessage) (v w : Machine) → NumbersOn recorded written v → IsLive v → (n : Numbers v w) → NumbersOn recorded (written ++ commands_of n.messages) w
on_written recorded written v w k live n =
    let next = k.further live in
    record {
      next = k.next;
      past = k.past;
      from = subst (AreFrom k.next) (sym (carried_append written (commands_of n.messages))) (from_append k.next (all_carried written) (all_carried (commands_of n.messages)) k.from (from_more k.next v.counters.completion (all_carried (commands_of n.messages)) next n.from));
      further = λ _. more_than k.next v.counters.completion w.counters.completion next n.counter;
    }

-- ---- greater ids

less_than : (a b c : ℕ) → a < b → b ≤ c → a < c
less_than a b c h k = omega (arith, h, k)

below_one : (next id : ℕ) (ids : List ℕ) → AreBelow next ids → next ≤ id → AreBelow id ids
below_one next id [] below from = tt
below_one next id (x ∷ ids) below from = (less_than x next id below.0 from, below_one next id ids below.1 from)

pub are_greater : (next : ℕ) (old new : List ℕ) → AreBelow next old → AreFrom next new → AreGreater old new
are_greater next old [] below from = tt
are_greater next old (id ∷ new) below from = (below_one next id old below from.0, are_greater next old new below from.1)

pub on_greater : (recorded written : List RawMessage) (v : Machine) → NumbersOn recorded written v → AreGreater (all_carried recorded) (all_carried written)
on_greater recorded written v n = are_greater n.next (all_carried recorded) (all_carried written) n.past n.from
