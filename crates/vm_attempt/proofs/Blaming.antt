-- A frame that comes is taken in, or refused for the reason that the table of frames says.
use Rattle.std.specs.List.{find}
use Rattle.vm_runs.specs.Kept.{is_for}
use Rattle.journal_protocol.specs.ProposeRunCompletion.{ProposeRunCompletion}
use Rattle.journal_protocol.specs.ProposeRunCompletionAck.{ProposeRunCompletionAck}
use Rattle.std.proofs.Common.{◌≡◌, ◌⊎◌, ℕ, Bool, true, false, List, [], ◌∷◌, Option, Some, None, refl, sym, ap, ◌∙◌, inl, inr, ⊎_elim}
use Rattle.std.specs.Prelude.{◌==◌, if◌then◌else◌, is_some, IsSome}
use Rattle.journal_protocol.specs.NamedFault.{NamedFault}
use Rattle.journal_protocol.specs.NamedFault.TheVariants as fault
use Rattle.journal_protocol.specs.RawMessage.{RawMessage}
use Rattle.journal_protocol.specs.GetStateEphemeralNotification.{GetStateEphemeralNotification}
use Rattle.journal_protocol.specs.VoidOrValue.{VoidOrValue}
use Rattle.journal_protocol.specs.Bodies.{ephemeral_notification_in, notification_in, start_in, acknowledgement_in}
use Rattle.vm_machine.specs.Ephemerals.{completed_by, ephemeral_notification_step, result_comes}
use Rattle.journal_protocol.specs.Notification.{Notification}
use Rattle.journal_protocol.specs.Start.{Start}
use Rattle.journal_protocol.specs.Version.{Version}
use Rattle.journal_protocol.specs.Errors.{named_error}
use Rattle.journal_protocol.specs.Types.{type_number}
use Rattle.vm_types.specs.declared.options.VMOptions.{VMOptions}
use Rattle.vm_machine.specs.declared.machine.Machine.{Machine}
use Rattle.vm_machine.specs.declared.phase.Phase.{Phase}
use Rattle.vm_machine.specs.declared.phase.Phase.TheVariants.{WaitingStart, WaitingReplayEntries, Replaying, Processing, Closed}
use Rattle.vm_machine.specs.Inputs.{counted_entry, coverage_of, entries_in, queued, start_received, started_with, acknowledged, acknowledged_by, acknowledgement_step}
use Rattle.vm_parts.specs.Starts.{start_info_of}
use Rattle.vm_machine.specs.Outcomes.{Outcome, Done, refused, ruled, ruled_by, settled}
use Rattle.invocation_vm.specs.Views.{all_received, left_by, received}
use Rattle.journal_entries.specs.JournalFrames.{is_command_frame, is_ephemeral, is_notification, is_acknowledgement}
use Rattle.vm_attempt.specs.Blames.{FailsAt, acknowledgement_fault, ephemeral_body_fault, ephemeral_fault, found_fault, unknown_fault, fault_among, fault_by, kept_fault, notification_fault, other_fault, acknowledgement_body_fault, refused_start, start_fault, phase_fault}
use Rattle.vm_state.specs.declared.state_map.StateMap.{StateMap}
use Rattle.vm_model.specs.Calls.{Setup}
use Rattle.vm_model.specs.Moves.{Point, later}
use Rattle.vm_attempt.specs.Agreement.{Agrees}
use Rattle.vm_attempt.specs.Arrivals.{arriving, kept_after}
use Rattle.vm_attempt.proofs.Arriving.{failed_stays, frames_come, unknown_step}
use Rattle.vm_attempt.proofs.Entries.{message_by, receives_by}

-- a machine that is alive, of this version and options
record Alive (version : Version) (options : VMOptions) (w : Machine) : Type 0 where
  live : w.failure ≡ None
  version_is : w.version ≡ version
  options_is : w.options ≡ options

-- What an event is by the table: refused for that reason, or done. It gives no numbers, and concerns no run.
abbrev pub Fits : Option NamedFault → Machine → Outcome Unit → Type 0
Fits (Some name) v o = o ≡ refused name v
Fits None v o =
    (w : Machine) × (o ≡ Done tt w) × ((w.failure ≡ v.failure) × ((w.version ≡ v.version) × (w.options ≡ v.options))) × ((w.runs ≡ v.runs) × (w.counters ≡ v.counters))

start_fits : (st : Start) (o : Option (List (List ℕ × Option (List ℕ)))) (v : Machine) → Fits (refused_start st o) v (started_with st o v)
start_fits st None v = refl
start_fits st (Some entries) v = by_test (st.known_entries == 0)
  where
    by_test : (b : Bool) → Fits (if b then Some fault.KnownEntriesIsZero else None) v (if b then refused fault.KnownEntriesIsZero v else Done (tt {0}) (record v { start = start_info_of v.version v.options.fallback_random_seed st; state = record { entries = entries; coverage = coverage_of st.partial }; entries_missing = st.known_entries; phase = WaitingReplayEntries }))
    by_test true = refl
    by_test false = (_, refl, (refl, (refl, refl)), (refl, refl))

starts_fit : (o : Option Start) (v : Machine) → Fits (start_fault o) v (start_received o v)
starts_fit None v = refl
starts_fit (Some st) v = start_fits st (entries_in st.state) v

queued_fits : (o : Option Notification) (v : Machine) → Fits (notification_fault o) v (queued o counted_entry v) × Fits (notification_fault o) v (queued o (λ w. w) v)
queued_fits None v = (refl, refl)
queued_fits (Some n) v = ((_, refl, (refl, (refl, refl)), (refl, refl)), (_, refl, (refl, (refl, refl)), (refl, refl)))

kept_fits : (id : ℕ) (kept : Option ProposeRunCompletion) (v : Machine) → Fits (kept_fault kept) v (acknowledged id kept v)
kept_fits id None v = refl
kept_fits id (Some kept) v = (_, refl, (refl, (refl, refl)), (refl, refl))

read_fits : (ack : Option ProposeRunCompletionAck) (v : Machine) → Fits (acknowledgement_body_fault v.proposals ack) v (acknowledged_by ack v)
read_fits None v = refl
read_fits (Some ack) v = kept_fits ack.id (find (is_for ack.id) v.proposals) v

acknowledgement_fits : (raw : RawMessage) (phase : Phase) (v : Machine) → Fits (acknowledgement_fault v.proposals phase raw) v (acknowledgement_step raw phase v)
acknowledgement_fits raw WaitingStart v = refl
acknowledgement_fits raw WaitingReplayEntries v = refl
acknowledgement_fits raw Replaying v = refl
acknowledgement_fits raw Processing v = read_fits (acknowledgement_in raw.body) v
acknowledgement_fits raw Closed v = (_, refl, (refl, (refl, refl)), (refl, refl))

found_fits : (id : ℕ) (found : Option VoidOrValue) (v : Machine) → Fits (found_fault found) v (result_comes id found v)
found_fits id None v = refl
found_fits id (Some found) v = (_, refl, (refl, (refl, refl)), (refl, refl))

completion_fits : (n : Option GetStateEphemeralNotification) (v : Machine) → Fits (ephemeral_body_fault n) v (completed_by n v)
completion_fits None v = refl
completion_fits (Some n) v = found_fits n.id n.result v

ephemeral_fits : (raw : RawMessage) (phase : Phase) (v : Machine) → Fits (ephemeral_fault phase raw) v (ephemeral_notification_step raw phase v)
ephemeral_fits raw WaitingStart v = refl
ephemeral_fits raw WaitingReplayEntries v = refl
ephemeral_fits raw Replaying v = refl
ephemeral_fits raw Processing v = completion_fits (ephemeral_notification_in raw.body) v
ephemeral_fits raw Closed v = (_, refl, (refl, (refl, refl)), (refl, refl))

unknown_fits : (b : Bool) (raw : RawMessage) (phase : Phase) (v : Machine) → Fits (unknown_fault b phase raw) v (unknown_step b raw phase v)
unknown_fits true raw phase v = ephemeral_fits raw phase v
unknown_fits false raw phase v = refl

other_fits : (raw : RawMessage) (phase : Phase) (v : Machine) (d : Bool) → Fits (other_fault v.proposals phase raw d) v (if d then acknowledgement_step raw phase v else unknown_step (is_ephemeral raw) raw phase v)
other_fits raw phase v true = acknowledgement_fits raw phase v
other_fits raw phase v false = unknown_fits (is_ephemeral raw) raw phase v

pub message_fits : (raw : RawMessage) (phase : Phase) (v : Machine) (a b c d : Bool) → Fits (fault_by v.proposals phase raw a b c d) v (message_by raw phase v a b c d)
message_fits raw WaitingStart v true b c d = starts_fit (start_in raw.body) v
message_fits raw WaitingReplayEntries v true b c d = refl
message_fits raw Replaying v true b c d = refl
message_fits raw Processing v true b c d = refl
message_fits raw Closed v true b c d = refl
message_fits raw WaitingStart v false true c d = refl
message_fits raw WaitingReplayEntries v false true c d = (_, refl, (refl, (refl, refl)), (refl, refl))
message_fits raw Replaying v false true c d = refl
message_fits raw Processing v false true c d = refl
message_fits raw Closed v false true c d = refl
message_fits raw WaitingStart v false false true d = refl
message_fits raw WaitingReplayEntries v false false true d = (queued_fits (notification_in raw.body) v).0
message_fits raw Replaying v false false true d = (queued_fits (notification_in raw.body) v).1
message_fits raw Processing v false false true d = (queued_fits (notification_in raw.body) v).1
message_fits raw Closed v false false true d = (_, refl, (refl, (refl, refl)), (refl, refl))
message_fits raw WaitingStart v false false false d = other_fits raw WaitingStart v d
message_fits raw WaitingReplayEntries v false false false d = other_fits raw WaitingReplayEntries v d
message_fits raw Replaying v false false false d = other_fits raw Replaying v d
message_fits raw Processing v false false false d = other_fits raw Processing v d
message_fits raw Closed v false false false d = other_fits raw Closed v d

-- a frame that is refused while proposals are kept is refused for the same reason if none is kept
kept_by : (kept : List ProposeRunCompletion) (ack : Option ProposeRunCompletionAck) (why : NamedFault) → acknowledgement_body_fault kept ack ≡ Some why → acknowledgement_body_fault [] ack ≡ Some why
kept_by kept None why is = is
kept_by kept (Some ack) why is = by_kept (find (is_for ack.id) kept) is
  where
    by_kept : (found : Option ProposeRunCompletion) → kept_fault found ≡ Some why → Some fault.BadProposeRunCompletionAck ≡ Some why
    by_kept None e = e
    by_kept (Some k) e = absurd (cc)

none_kept_by : (kept : List ProposeRunCompletion) (phase : Phase) (raw : RawMessage) (a b c d : Bool) (why : NamedFault) → fault_by kept phase raw a b c d ≡ Some why → fault_by [] phase raw a b c d ≡ Some why
none_kept_by kept WaitingStart raw true b c d why is = is
none_kept_by kept WaitingStart raw false true c d why is = is
none_kept_by kept WaitingStart raw false false true d why is = is
none_kept_by kept WaitingStart raw false false false true why is = is
none_kept_by kept WaitingStart raw false false false false why is = is
none_kept_by kept WaitingReplayEntries raw true b c d why is = is
none_kept_by kept WaitingReplayEntries raw false true c d why is = is
none_kept_by kept WaitingReplayEntries raw false false true d why is = is
none_kept_by kept WaitingReplayEntries raw false false false true why is = is
none_kept_by kept WaitingReplayEntries raw false false false false why is = is
none_kept_by kept Replaying raw true b c d why is = is
none_kept_by kept Replaying raw false true c d why is = is
none_kept_by kept Replaying raw false false true d why is = is
none_kept_by kept Replaying raw false false false true why is = is
none_kept_by kept Replaying raw false false false false why is = is
none_kept_by kept Processing raw true b c d why is = is
none_kept_by kept Processing raw false true c d why is = is
none_kept_by kept Processing raw false false true d why is = is
none_kept_by kept Processing raw false false false true why is = kept_by kept (acknowledgement_in raw.body) why is
none_kept_by kept Processing raw false false false false why is = is
none_kept_by kept Closed raw true b c d why is = is
none_kept_by kept Closed raw false true c d why is = is
none_kept_by kept Closed raw false false true d why is = is
none_kept_by kept Closed raw false false false true why is = is
none_kept_by kept Closed raw false false false false why is = is

pub none_kept : (kept : List ProposeRunCompletion) (phase : Phase) (raw : RawMessage) (why : NamedFault) → fault_among kept phase raw ≡ Some why → phase_fault phase raw ≡ Some why
none_kept kept phase raw why is = none_kept_by kept phase raw (type_number raw.ty == 1) (is_command_frame raw) (is_notification raw) (is_acknowledgement raw) why is

-- one frame: it is taken in, or refused
abbrev One : RawMessage → Machine → Machine → Type 0
One raw v w = ((w.failure ≡ None) × ((w.version ≡ v.version) × (w.options ≡ v.options))) ⊎ ((why : NamedFault) × (fault_among v.proposals v.phase raw ≡ Some why) × (w.failure ≡ Some (ruled v (named_error why None))))

pub one_comes : (raw : RawMessage) (v : Machine) → v.failure ≡ None → One raw v (received raw v)
one_comes raw v live = by_fault (fault_among v.proposals v.phase raw) refl (message_fits raw v.phase v (type_number raw.ty == 1) (is_command_frame raw) (is_notification raw) (is_acknowledgement raw))
  where
    o : Outcome Unit
    o = message_by raw v.phase v (type_number raw.ty == 1) (is_command_frame raw) (is_notification raw) (is_acknowledgement raw)

    is : received raw v ≡ left_by (settled o)
    is = receives_by v raw live

    by_fault : (f : Option NamedFault) → fault_among v.proposals v.phase raw ≡ f → Fits f v o → One raw v (received raw v)
    by_fault None e (w, done, (failure, (version, options)), runs) =
        let at : received raw v ≡ w = is ∙ ap (λ x. left_by (settled x)) done in
        inl (ap (λ (x : Machine). x.failure) at ∙ failure ∙ live, (ap (λ (x : Machine). x.version) at ∙ version, ap (λ (x : Machine). x.options) at ∙ options))
    by_fault (Some why) e refuses =
        let at : received raw v ≡ left_by (settled (refused {A = Unit} why v)) = is ∙ ap (λ x. left_by (settled x)) refuses in
        inr (why, e, ap (λ (x : Machine). x.failure) at)

-- frames, one after another
abbrev All : List RawMessage → Machine → Machine → Type 0
All raws v m = ((m.failure ≡ None) × ((m.version ≡ v.version) × (m.options ≡ v.options))) ⊎ FailsAt raws v m

pub frames_fit : (raws : List RawMessage) (v : Machine) → v.failure ≡ None → All raws v (all_received raws v)
frames_fit [] v live = inl (live, (refl, refl))
frames_fit (raw ∷ raws) v live =
    let w = received raw v in
    ⊎_elim
    (λ (x : (w.failure ≡ None) × ((w.version ≡ v.version) × (w.options ≡ v.options))).
    ⊎_elim
    (λ (y : ((all_received raws w).failure ≡ None) × (((all_received raws w).version ≡ w.version) × ((all_received raws w).options ≡ w.options))). inl (y.0, (y.1.0 ∙ x.1.0, y.1.1 ∙ x.1.1)))
    (λ (f : FailsAt raws w (all_received raws w)).
    inr (record {
      before = raw ∷ f.before;
      raw = f.raw;
      behind = f.behind;
      split = ap (λ l. raw ∷ l) f.split;
      live = f.live;
      why = f.why;
      reason = f.reason;
      failure = f.failure ∙ λ i. Some (ruled_by (x.1.0 i) (x.1.1 i) (named_error f.why None));
    }))
    (frames_fit raws w x.0))
    (λ (x : (why : NamedFault) × (fault_among v.proposals v.phase raw ≡ Some why) × (w.failure ≡ Some (ruled v (named_error why None)))).
    inr (record {
      before = [];
      raw = raw;
      behind = raws;
      split = refl;
      live = live;
      why = x.0;
      reason = x.1;
      failure = ap (λ (u : Machine). u.failure) (failed_stays (ruled v (named_error x.0 None)) w raws x.2) ∙ x.2;
    }))
    (one_comes raw v live)

-- what fails, fails for a reason
pub frames_fail : (raws : List RawMessage) (v : Machine) → v.failure ≡ None → IsSome (all_received raws v).failure → FailsAt raws v (all_received raws v)
frames_fail raws v live some =
    ⊎_elim
    (λ (x : ((all_received raws v).failure ≡ None) × (((all_received raws v).version ≡ v.version) × ((all_received raws v).options ≡ v.options))). absurd (let z : false ≡ true = ap is_some (sym x.0) ∙ some in cc))
    (λ (f : FailsAt raws v (all_received raws v)). f)
    (frames_fit raws v live)

-- frames that come to a machine that agrees with a point are arrivals, or one of them is refused
pub frames_arrive : (s : Setup) (given : StateMap) (written : List RawMessage) (v : Machine) (p : Point) (raws : List RawMessage) → Agrees s given written v p → (Agrees s given written (all_received raws v) (later (arriving v.proposals raws) p) × ((all_received raws v).proposals ≡ kept_after v.proposals raws)) ⊎ FailsAt raws v (all_received raws v)
frames_arrive s given written v p raws a =
    ⊎_elim
    (λ (x : Agrees s given written (all_received raws v) (later (arriving v.proposals raws) p) × ((all_received raws v).proposals ≡ kept_after v.proposals raws)). inl x)
    (λ (f : IsSome (all_received raws v).failure). inr (frames_fail raws v (ap (λ (w : Machine). w.failure) a.machine) f))
    (frames_come s given written v p raws a)
