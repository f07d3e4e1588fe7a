-- Input writes no command: what it writes is one Error at most.
use Rattle.std.specs.List.{find}
use Rattle.vm_runs.specs.Kept.{is_for}
use Rattle.journal_protocol.specs.ProposeRunCompletionAck.{ProposeRunCompletionAck}
use Rattle.std.proofs.Common.{◌≡◌, ℕ, Bool, true, false, cond, List, [], ◌∷◌, ◌++◌, map, Option, Some, None, refl, sym, ap, ◌∙◌, subst, append_assoc, append-nil}
use Rattle.std.specs.Prelude.{◌==◌, ◌&&◌, if◌then◌else◌, nat_le, nat_lt}
use Rattle.journal_protocol.specs.Error.{Error}
use Rattle.journal_protocol.specs.NamedFault.TheVariants as fault
use Rattle.journal_protocol.specs.Message.{Message}
use Rattle.journal_protocol.specs.Message.TheVariants as message
use Rattle.journal_protocol.specs.RawMessage.{RawMessage}
use Rattle.journal_protocol.specs.GetStateEphemeralNotification.{GetStateEphemeralNotification}
use Rattle.journal_protocol.specs.VoidOrValue.{VoidOrValue}
use Rattle.journal_protocol.specs.Bodies.{ephemeral_notification_in, notification_in, start_in, acknowledgement_in, proposal_in}
use Rattle.vm_machine.specs.Ephemerals.{completed_by, ephemeral_notification_step, result_comes}
use Rattle.journal_protocol.specs.Notification.{Notification}
use Rattle.journal_protocol.specs.Start.{Start}
use Rattle.journal_protocol.specs.Errors.{error_message}
use Rattle.journal_protocol.specs.Frames.{body, encoding, type_of}
use Rattle.journal_protocol.specs.Types.{type_number}
use Rattle.vm_machine.specs.declared.machine.Machine.{Machine}
use Rattle.vm_machine.specs.declared.phase.Phase.{Phase}
use Rattle.vm_machine.specs.declared.phase.Phase.TheVariants.{WaitingStart, WaitingReplayEntries, Replaying, Processing, Closed}
use Rattle.vm_machine.specs.Inputs.{close_step, closed_at, counted_entry, coverage_of, entries_in, entry_step, malformed_step, message_step, notification_step, queued, start_step, start_received, started_with, acknowledged, acknowledged_by, acknowledgement_step}
use Rattle.vm_parts.specs.Starts.{start_info_of}
use Rattle.vm_machine.specs.Outcomes.{Outcome, Done, Failed, called, called_at, failed, refused, ruled, settled}
use Rattle.vm_machine.specs.Phases.{is_closed}
use Rattle.journal_entries.specs.Frames.{Tail, Rest, Garbage, frames_of}
use Rattle.invocation_vm.specs.Views.{View, after_closing, after_input, all_received, consumed, has_failed, left_by, left_over, received, spoiled}
use Rattle.std.proofs.lemmas.Bool.{eqb-true}
use Rattle.journal_protocol.specs.ProposeRunCompletion.{ProposeRunCompletion}
use Rattle.journal_entries.specs.Journal.{stored_form}
use Rattle.vm_attempt.specs.Heard.{proposals_among, proposed_by}
use Rattle.journal_entries.specs.JournalFrames.{is_command_frame, is_proposal}
use Rattle.vm_attempt.specs.Told.{Quiet, Wrote, commands_of}

pub quiet_same : (old new : Machine) → new.output ≡ old.output → Quiet old new
quiet_same old new is = record { messages = []; output = is ∙ sym (append-nil old.output); commands = refl; proposals = refl }

pub proposals_append : (raws more : List RawMessage) → proposals_among (raws ++ more) ≡ proposals_among raws ++ proposals_among more
proposals_append [] more = refl
proposals_append (raw ∷ raws) more = by_test (proposals_append raws more) (is_proposal raw) (proposal_in raw.body)
  where
    by_test : proposals_among (raws ++ more) ≡ proposals_among raws ++ proposals_among more → (b : Bool) (o : Option ProposeRunCompletion) → cond b (proposed_by o (proposals_among (raws ++ more))) (proposals_among (raws ++ more)) ≡ cond b (proposed_by o (proposals_among raws)) (proposals_among raws) ++ proposals_among more
    by_test on false o = on
    by_test on true None = on
    by_test on true (Some p) = ap (λ l. p ∷ l) on

-- a command proposes nothing
pub proposes_nothing : (raw : RawMessage) → is_command_frame raw ≡ true → proposals_among (raw ∷ []) ≡ []
proposes_nothing raw is = ap (λ b. cond b (proposed_by (proposal_in raw.body) []) []) (by_test (is_proposal raw) refl)
  where
    by_test : (b : Bool) → is_proposal raw ≡ b → b ≡ false
    by_test false e = refl
    by_test true e = absurd (let z : nat_le 10 5 && nat_lt 5 30 ≡ true = subst (λ n. nat_le 10 n && nat_lt n 30 ≡ true) (eqb-true (type_number raw.ty) 5 e) is in cc)

pub forms_append : (ms ns : List Message) → map stored_form (ms ++ ns) ≡ map stored_form ms ++ map stored_form ns
forms_append [] ns = refl
forms_append (m ∷ ms) ns = ap (λ l. stored_form m ∷ l) (forms_append ms ns)

pub commands_append : (ms ns : List Message) → commands_of (ms ++ ns) ≡ commands_of ms ++ commands_of ns
commands_append [] ns = refl
commands_append (m ∷ ms) ns = by_test (is_command_frame (record { ty = type_of m; body = body m })) (commands_append ms ns)
  where
    c : RawMessage
    c = record { ty = type_of m; body = body m }

    by_test : (b : Bool) → commands_of (ms ++ ns) ≡ commands_of ms ++ commands_of ns → cond b (c ∷ commands_of (ms ++ ns)) (commands_of (ms ++ ns)) ≡ cond b (c ∷ commands_of ms) (commands_of ms) ++ commands_of ns
    by_test true e = ap (λ l. c ∷ l) e
    by_test false e = e

pub map_append : (ms ns : List Message) → map encoding (ms ++ ns) ≡ map encoding ms ++ map encoding ns
map_append [] ns = refl
map_append (m ∷ ms) ns = ap (λ t. encoding m ∷ t) (map_append ms ns)

pub quiet_then : (u v w : Machine) → Quiet u v → Quiet v w → Quiet u w
quiet_then u v w a b = record {
  messages = a.messages ++ b.messages;
  output = b.output ∙ ap (λ t. t ++ map encoding b.messages) a.output ∙ append_assoc u.output (map encoding a.messages) (map encoding b.messages) ∙ ap (λ t. u.output ++ t) (sym (map_append a.messages b.messages));
  commands = commands_append a.messages b.messages ∙ ap (λ l. l ++ commands_of b.messages) a.commands ∙ b.commands;
  proposals = ap proposals_among (forms_append a.messages b.messages) ∙ proposals_append (map stored_form a.messages) (map stored_form b.messages) ∙ (λ i. a.proposals i ++ b.proposals i);
}

-- ---- the error rule writes one Error

pub error_quiet : (e : Error) (v w : Machine) → w.output ≡ v.output → (b : Bool) → is_closed w.phase ≡ b → Quiet v (failed e w)
error_quiet e v w is true c = record { messages = []; output = rw c (is ∙ sym (append-nil v.output)); commands = refl; proposals = refl }
error_quiet e v w is false c = record { messages = message.Error (error_message e) ∷ []; output = rw c (ap (λ l. l ++ encoding (message.Error (error_message e)) ∷ []) is); commands = refl; proposals = refl }

-- an event that leaves the output as it is
abbrev pub Silent : {A : Type 0} → Machine → Outcome A → Type 0
Silent v (Done a w) = w.output ≡ v.output
Silent v (Failed e w) = w.output ≡ v.output

settled_quiet : {A : Type 0} (v : Machine) (o : Outcome A) → Silent v o → Quiet v (left_by (settled o))
settled_quiet v (Done a w) h = quiet_same v w h
settled_quiet v (Failed e w) h = error_quiet (ruled w e) v w h (is_closed w.phase) refl

pub called_quiet : {A : Type 0} (v : Machine) (o : Outcome A) → Silent v o → Quiet v (left_by (called o v))
unfolding called
called_quiet v o h = by_option v.failure
  where
    by_option : (f : Option Error) → Quiet v (left_by (called_at f o v))
    by_option None = settled_quiet v o h
    by_option (Some e) = quiet_same v v refl

-- ---- messages

started_silent : (st : Start) (o : Option (List (List ℕ × Option (List ℕ)))) (v : Machine) → Silent v (started_with st o v)
started_silent st None v = refl
started_silent st (Some entries) v = by_test (st.known_entries == 0)
  where
    by_test : (b : Bool) → Silent v (if b then refused fault.KnownEntriesIsZero v else Done (tt {0}) (record v { start = start_info_of v.version v.options.fallback_random_seed st; state = record { entries = entries; coverage = coverage_of st.partial }; entries_missing = st.known_entries; phase = WaitingReplayEntries }))
    by_test true = refl
    by_test false = refl

start_silent : (o : Option Start) (v : Machine) → Silent v (start_received o v)
start_silent None v = refl
start_silent (Some st) v = started_silent st (entries_in st.state) v

queued_silent : (o : Option Notification) (v : Machine) → Silent v (queued o counted_entry v) × Silent v (queued o (λ w. w) v)
queued_silent None v = (refl, refl)
queued_silent (Some n) v = (refl, refl)

start_step_silent : (raw : RawMessage) (phase : Phase) (v : Machine) → Silent v (start_step raw phase v)
start_step_silent raw WaitingStart v = start_silent (start_in raw.body) v
start_step_silent raw WaitingReplayEntries v = refl
start_step_silent raw Replaying v = refl
start_step_silent raw Processing v = refl
start_step_silent raw Closed v = refl

entry_step_silent : (raw : RawMessage) (phase : Phase) (v : Machine) → Silent v (entry_step raw phase v)
entry_step_silent raw WaitingStart v = refl
entry_step_silent raw WaitingReplayEntries v = refl
entry_step_silent raw Replaying v = refl
entry_step_silent raw Processing v = refl
entry_step_silent raw Closed v = refl

notification_step_silent : (raw : RawMessage) (phase : Phase) (v : Machine) → Silent v (notification_step raw phase v)
notification_step_silent raw WaitingStart v = refl
notification_step_silent raw WaitingReplayEntries v = (queued_silent (notification_in raw.body) v).0
notification_step_silent raw Replaying v = (queued_silent (notification_in raw.body) v).1
notification_step_silent raw Processing v = (queued_silent (notification_in raw.body) v).1
notification_step_silent raw Closed v = refl

kept_silent : (id : ℕ) (kept : Option ProposeRunCompletion) (v : Machine) → Silent v (acknowledged id kept v)
kept_silent id None v = refl
kept_silent id (Some kept) v = refl

acknowledged_silent : (ack : Option ProposeRunCompletionAck) (v : Machine) → Silent v (acknowledged_by ack v)
acknowledged_silent None v = refl
acknowledged_silent (Some ack) v = kept_silent ack.id (find (is_for ack.id) v.proposals) v

acknowledgement_step_silent : (raw : RawMessage) (phase : Phase) (v : Machine) → Silent v (acknowledgement_step raw phase v)
acknowledgement_step_silent raw WaitingStart v = refl
acknowledgement_step_silent raw WaitingReplayEntries v = refl
acknowledgement_step_silent raw Replaying v = refl
acknowledgement_step_silent raw Processing v = acknowledged_silent (acknowledgement_in raw.body) v
acknowledgement_step_silent raw Closed v = refl

found_silent : (id : ℕ) (found : Option VoidOrValue) (v : Machine) → Silent v (result_comes id found v)
found_silent id None v = refl
found_silent id (Some found) v = refl

completed_silent : (n : Option GetStateEphemeralNotification) (v : Machine) → Silent v (completed_by n v)
completed_silent None v = refl
completed_silent (Some n) v = found_silent n.id n.result v

ephemeral_step_silent : (raw : RawMessage) (phase : Phase) (v : Machine) → Silent v (ephemeral_notification_step raw phase v)
ephemeral_step_silent raw WaitingStart v = refl
ephemeral_step_silent raw WaitingReplayEntries v = refl
ephemeral_step_silent raw Replaying v = refl
ephemeral_step_silent raw Processing v = completed_silent (ephemeral_notification_in raw.body) v
ephemeral_step_silent raw Closed v = refl

message_silent : (raw : RawMessage) (v : Machine) → Silent v (message_step raw v)
unfolding message_step
message_silent raw v = by_tests (type_number raw.ty == 1) (nat_le 10 (type_number raw.ty) && nat_lt (type_number raw.ty) 30) (type_number raw.ty == 30) (type_number raw.ty == 6) (type_number raw.ty == 9)
  where
    by_tests : (a b c d e : Bool) → Silent v (if a then start_step raw v.phase v else if b then entry_step raw v.phase v else if c then notification_step raw v.phase v else if d then acknowledgement_step raw v.phase v else if e then ephemeral_notification_step raw v.phase v else refused fault.UnexpectedInputMessage v)
    by_tests true b c d e = start_step_silent raw v.phase v
    by_tests false true c d e = entry_step_silent raw v.phase v
    by_tests false false true d e = notification_step_silent raw v.phase v
    by_tests false false false true e = acknowledgement_step_silent raw v.phase v
    by_tests false false false false true = ephemeral_step_silent raw v.phase v
    by_tests false false false false false = refl

received_quiet : (raw : RawMessage) (v : Machine) → Quiet v (received raw v)
unfolding received
received_quiet raw v = called_quiet v (message_step raw v) (message_silent raw v)

spoiled_quiet : (v : Machine) → Quiet v (spoiled v)
unfolding spoiled
spoiled_quiet v = called_quiet v (malformed_step v) refl

all_quiet : (raws : List RawMessage) (v : Machine) → Quiet v (all_received raws v)
all_quiet [] v = quiet_same v v refl
all_quiet (raw ∷ raws) v = quiet_then v (received raw v) (all_received raws (received raw v)) (received_quiet raw v) (all_quiet raws (received raw v))

left_over_quiet : (tail : Tail) (u v : Machine) → Quiet u v → Quiet u (left_over tail v).machine
left_over_quiet (Rest bytes) u v q = q
left_over_quiet Garbage u v q = quiet_then u v (spoiled v) q (spoiled_quiet v)

-- bytes that come
pub input_quiet : (v : View) (bytes : List ℕ) → Quiet v.machine (after_input v bytes).machine
input_quiet v bytes = by_test (has_failed v.machine)
  where
    by_test : (b : Bool) → Quiet v.machine (if b then v else consumed (frames_of (v.undecoded ++ bytes)) v.machine).machine
    by_test true = quiet_same v.machine v.machine refl
    by_test false = let f = frames_of (v.undecoded ++ bytes) in left_over_quiet f.1 v.machine (all_received f.0 v.machine) (all_quiet f.0 v.machine)

close_silent : (phase : Phase) (v : Machine) → Silent v (closed_at phase (record v { input_closed = true }))
close_silent WaitingStart v = refl
close_silent WaitingReplayEntries v = refl
close_silent Replaying v = refl
close_silent Processing v = refl
close_silent Closed v = refl

-- the end of the input
pub closing_quiet : (v : View) → Quiet v.machine (after_closing v).machine
closing_quiet v = called_quiet v.machine (close_step v.machine) (close_silent v.machine.phase v.machine)

-- ---- all output

-- more messages are written after the output
pub wrote_more : (taken output new : List (List ℕ)) (ms : List Message) (written : List RawMessage) → new ≡ output ++ map encoding ms → Wrote taken output written → Wrote taken new (written ++ commands_of ms)
wrote_more taken output new ms written is w = record {
  sent = w.sent;
  bytes = w.bytes;
  whole = w.whole;
  waiting = w.waiting ++ ms;
  frames = is ∙ ap (λ l. l ++ map encoding ms) w.frames ∙ sym (map_append w.waiting ms);
  commands = ap commands_of (sym (append_assoc w.sent w.waiting ms)) ∙ commands_append (w.sent ++ w.waiting) ms ∙ ap (λ l. l ++ commands_of ms) w.commands;
}

pub wrote_quiet : (taken : List (List ℕ)) (old new : Machine) (written : List RawMessage) → Quiet old new → Wrote taken old.output written → Wrote taken new.output written
wrote_quiet taken old new written q w = subst (Wrote taken new.output) (ap (λ l. written ++ l) q.commands ∙ append-nil written) (wrote_more taken old.output new.output q.messages written q.output w)
