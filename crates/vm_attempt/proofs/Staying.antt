-- Frames that come to a VM whose handler runs leave it in its phase.
use Rattle.std.proofs.Common.{◌≡◌, ℕ, Bool, true, false, List, [], ◌∷◌, Option, Some, None, refl, sym, ap, ◌∙◌, subst, ⊎_elim}
use Rattle.std.specs.Prelude.{◌==◌}
use Rattle.std.specs.List.{find}
use Rattle.journal_protocol.specs.ProposeRunCompletionAck.{ProposeRunCompletionAck}
use Rattle.journal_protocol.specs.Error.{Error}
use Rattle.journal_protocol.specs.NamedFault.{NamedFault}
use Rattle.journal_protocol.specs.Errors.{named_error}
use Rattle.journal_protocol.specs.Types.{type_number}
use Rattle.journal_protocol.specs.RawMessage.{RawMessage}
use Rattle.journal_protocol.specs.GetStateEphemeralNotification.{GetStateEphemeralNotification}
use Rattle.journal_protocol.specs.VoidOrValue.{VoidOrValue}
use Rattle.journal_protocol.specs.Bodies.{ephemeral_notification_in, notification_in, acknowledgement_in}
use Rattle.vm_machine.specs.Ephemerals.{completed_by, result_comes}
use Rattle.journal_protocol.specs.Notification.{Notification}
use Rattle.vm_runs.specs.Kept.{is_for}
use Rattle.journal_protocol.specs.ProposeRunCompletion.{ProposeRunCompletion}
use Rattle.vm_machine.specs.declared.machine.Machine.{Machine}
use Rattle.vm_machine.specs.declared.phase.Phase.{Phase}
use Rattle.vm_machine.specs.declared.phase.Phase.TheVariants.{WaitingStart, WaitingReplayEntries, Replaying, Processing, Closed}
use Rattle.vm_machine.specs.Inputs.{queued, acknowledged, acknowledged_by}
use Rattle.vm_machine.specs.Outcomes.{settled, ruled}
use Rattle.vm_machine.specs.Phases.{is_running}
use Rattle.invocation_vm.specs.Views.{all_received, left_by, received}
use Rattle.vm_attempt.specs.Blames.{fault_among}
use Rattle.journal_entries.specs.JournalFrames.{is_command_frame, is_ephemeral, is_notification, is_acknowledgement}
use Rattle.vm_attempt.proofs.Arriving.{failed_stays, unknown_dead, unknown_step}
use Rattle.vm_attempt.proofs.Blaming.{one_comes}
use Rattle.vm_attempt.proofs.Entries.{message_by, receives_by}

-- a machine that is alive is in the phase in which it was
abbrev pub StaysAt : Machine → Machine → Type 0
StaysAt v w = w.failure ≡ None → w.phase ≡ v.phase

pub no_failure : {A : Type 0} (e : Error) → Some e ≡ None → A
no_failure e h = absurd (cc)

queued_stays : (v : Machine) (o : Option Notification) → StaysAt v (left_by (settled (queued o (λ w. w) v)))
queued_stays v None = λ h. no_failure _ h
queued_stays v (Some n) = λ h. refl

kept_stays : (v : Machine) (id : ℕ) (kept : Option ProposeRunCompletion) → StaysAt v (left_by (settled (acknowledged id kept v)))
kept_stays v id None = λ h. no_failure _ h
kept_stays v id (Some kept) = λ h. refl

acknowledged_stays : (v : Machine) (ack : Option ProposeRunCompletionAck) → StaysAt v (left_by (settled (acknowledged_by ack v)))
acknowledged_stays v None = λ h. no_failure _ h
acknowledged_stays v (Some ack) = kept_stays v ack.id (find (is_for ack.id) v.proposals)

found_stays : (v : Machine) (id : ℕ) (found : Option VoidOrValue) → StaysAt v (left_by (settled (result_comes id found v)))
found_stays v id None = λ h. no_failure _ h
found_stays v id (Some found) = λ h. refl

completed_stays : (v : Machine) (n : Option GetStateEphemeralNotification) → StaysAt v (left_by (settled (completed_by n v)))
completed_stays v None = λ h. no_failure _ h
completed_stays v (Some n) = found_stays v n.id n.result

unknown_stays : (b : Bool) (raw : RawMessage) (v : Machine) → StaysAt v (left_by (settled (unknown_step b raw Processing v)))
unknown_stays true raw v = completed_stays v (ephemeral_notification_in raw.body)
unknown_stays false raw v = λ h. no_failure _ h

message_stays : (raw : RawMessage) (ph : Phase) → is_running ph ≡ true → (v : Machine) (a b c d : Bool) → StaysAt v (left_by (settled (message_by raw ph v a b c d)))
message_stays raw WaitingStart runs v a b c d = absurd (cc)
message_stays raw WaitingReplayEntries runs v a b c d = absurd (cc)
message_stays raw Closed runs v a b c d = absurd (cc)
message_stays raw Replaying runs v true b c d = λ h. no_failure _ h
message_stays raw Processing runs v true b c d = λ h. no_failure _ h
message_stays raw Replaying runs v false true c d = λ h. no_failure _ h
message_stays raw Processing runs v false true c d = λ h. no_failure _ h
message_stays raw Replaying runs v false false true d = queued_stays v (notification_in raw.body)
message_stays raw Processing runs v false false true d = queued_stays v (notification_in raw.body)
message_stays raw Replaying runs v false false false true = λ h. no_failure _ h
message_stays raw Processing runs v false false false true = acknowledged_stays v (acknowledgement_in raw.body)
message_stays raw Replaying runs v false false false false = λ h. unknown_dead (is_ephemeral raw) raw Replaying v refl refl h
message_stays raw Processing runs v false false false false = unknown_stays (is_ephemeral raw) raw v

pub one_stays : (raw : RawMessage) (v : Machine) → v.failure ≡ None → is_running v.phase ≡ true → StaysAt v (received raw v)
one_stays raw v live runs = subst (StaysAt v) (sym (receives_by v raw live)) (message_stays raw v.phase runs v (type_number raw.ty == 1) (is_command_frame raw) (is_notification raw) (is_acknowledgement raw))

pub all_stay : (raws : List RawMessage) (v : Machine) → v.failure ≡ None → is_running v.phase ≡ true → StaysAt v (all_received raws v)
all_stay [] v live runs h = refl
all_stay (raw ∷ raws) v live runs h =
    let w = received raw v in
    ⊎_elim
    (λ (x : (w.failure ≡ None) × ((w.version ≡ v.version) × (w.options ≡ v.options))).
    let at = one_stays raw v live runs x.0 in
    all_stay raws w x.0 (ap is_running at ∙ runs) h ∙ at)
    (λ (x : (why : NamedFault) × (fault_among v.proposals v.phase raw ≡ Some why) × (w.failure ≡ Some (ruled v (named_error why None)))).
    no_failure (ruled v (named_error x.0 None)) (sym x.2 ∙ ap (λ (u : Machine). u.failure) (sym (failed_stays (ruled v (named_error x.0 None)) w raws x.2)) ∙ h))
    (one_comes raw v live)
