-- The outcome of an acknowledgement, by what is kept under its id.
use Rattle.std.proofs.Common.{◌≡◌, ℕ, false, [], ◌∷◌, ◌++◌, Some, None, ap, ◌∙◌}
use Rattle.std.specs.Prelude.{◌==◌, ◌&&◌, nat_le, nat_lt, if◌then◌else◌}
use Rattle.std.specs.List.{find}
use Rattle.journal_protocol.specs.NamedFault.TheVariants as name
use Rattle.journal_protocol.specs.ValueOrFailure.{ValueOrFailure}
use Rattle.vm_runs.specs.Firsts.{without_first}
use Rattle.vm_runs.specs.Kept.{is_for}
use Rattle.journal_protocol.specs.ProposeRunCompletion.{ProposeRunCompletion}
use Rattle.vm_machine.specs.declared.machine.Machine.{Machine}
use Rattle.journal_protocol.specs.Versions.{is_from_v7}
use Rattle.vm_machine.specs.Ephemerals.{ephemeral_notification_step}
use Rattle.vm_machine.specs.Inputs.{acknowledged, acknowledged_by, acknowledgement_step, enqueued, entry_step, message_step, notification_step, start_step}
use Rattle.journal_entries.specs.Proposals.{acknowledged_completion}
use Rattle.vm_machine.specs.Outcomes.{Done, Outcome, refused}
use Rattle.vm_machine.specs.Proposals.{Acknowledges, proposed}
use Rattle.journal_protocol.specs.RawMessage.{RawMessage}

abbrev by_number : RawMessage → ℕ → Machine → Outcome Unit
by_number raw n v =
    if n == 1 then start_step raw v.phase v
    else if nat_le 10 n && nat_lt n 30 then entry_step raw v.phase v
    else if n == 30 then notification_step raw v.phase v
    else if n == 6 then acknowledgement_step raw v.phase v
    else if n == 9 then ephemeral_notification_step raw v.phase v
    else refused name.UnexpectedInputMessage v

acknowledged_as : (raw : RawMessage) (id : ℕ) (v : Machine) → Acknowledges raw id v → message_step raw v ≡ acknowledged id (find (is_for id) v.proposals) v
unfolding message_step
acknowledged_as raw id v a =
    ap (λ n. by_number raw n v) a.ty ∙ ap (λ p. acknowledgement_step raw p v) a.phase ∙ ap (λ ack. acknowledged_by ack v) a.reads ∙ ap (λ n. acknowledged n (find (is_for n) v.proposals) v) a.is

pub kept_comes : (raw : RawMessage) (id : ℕ) (kept : ProposeRunCompletion) (v : Machine) → Acknowledges raw id v → find (is_for id) v.proposals ≡ Some kept → message_step raw v ≡ Done tt (enqueued (acknowledged_completion id kept) (record v { proposals = without_first (is_for id) v.proposals }))
kept_comes raw id kept v a found = acknowledged_as raw id v a ∙ ap (λ o. acknowledged id o v) found

pub none_comes : (raw : RawMessage) (id : ℕ) (v : Machine) → Acknowledges raw id v → find (is_for id) v.proposals ≡ None → message_step raw v ≡ refused name.BadProposeRunCompletionAck v
none_comes raw id v a found = acknowledged_as raw id v a ∙ ap (λ o. acknowledged id o v) found

pub none_kept_early : (id : ℕ) (result : ValueOrFailure) (v : Machine) → is_from_v7 v.version ≡ false → (proposed id result v).proposals ≡ v.proposals
none_kept_early id result v early = ap (λ b. (if b then record v { proposals = v.proposals ++ record { id = id; result = result } ∷ [] } else v).proposals) early
