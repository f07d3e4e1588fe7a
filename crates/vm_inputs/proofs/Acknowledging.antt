-- What an acknowledgement finds among the kept proposals.
use Rattle.std.proofs.Common.{◌≡◌, ℕ, List, [], ◌∷◌, ◌++◌, Some, None, Err, refl, sym, ap, ◌∙◌}
use Rattle.std.specs.List.{find}
use Rattle.std.specs.Option.{option_map}
use Rattle.journal_protocol.specs.NamedFault.TheVariants as name
use Rattle.journal_protocol.specs.Errors.{named_error}
use Rattle.journal_protocol.specs.NotificationId.TheVariants.{CompletionId}
use Rattle.journal_protocol.specs.NotificationResult.{NotificationResult}
use Rattle.journal_protocol.specs.ValueOrFailure.{ValueOrFailure}
use Rattle.vm_runs.specs.Firsts.{without_first}
use Rattle.vm_runs.specs.Kept.{is_for, result_of}
use Rattle.journal_entries.specs.Proposals.{completion_result, acknowledged_completion}
use Rattle.vm_parts.specs.Arrived.{Arrived}
use Rattle.journal_protocol.specs.ProposeRunCompletion.{ProposeRunCompletion}
use Rattle.vm_machine.specs.declared.fault.Fault.TheVariants.{Refused}
use Rattle.vm_machine.specs.declared.machine.Machine.{Machine}
use Rattle.vm_machine.specs.Inputs.{acknowledged}
use Rattle.vm_machine.specs.Outcomes.{Done, Failed, Gives}
use Rattle.vm_machine.specs.Proposals.{proposed}
use Rattle.vm_runs.proofs.Finding.{mapped_none, mapped_some, not_found}

pub none_acknowledged : (id : ℕ) (v : Machine) (kept : List ProposeRunCompletion) → None ≡ option_map result_of (find (is_for id) v.proposals) → kept ≡ without_first (is_for id) v.proposals
    → Gives (acknowledged id (find (is_for id) v.proposals) v) (Err (Refused (named_error name.BadProposeRunCompletionAck None))) v (record v { proposals = kept })
none_acknowledged id v kept none left =
    let found = mapped_none result_of (find (is_for id) v.proposals) none in
    let same : v.proposals ≡ kept = sym (left ∙ not_found (is_for id) v.proposals found) in
    (ap (λ o. acknowledged id o v) found ∙ ap (λ ps. Failed (named_error name.BadProposeRunCompletionAck None) (record v { proposals = ps })) same, refl)

pub some_acknowledged : (id : ℕ) (v : Machine) (proposed : ValueOrFailure) (comes : NotificationResult) (kept : List ProposeRunCompletion) (results : Arrived) → Some proposed ≡ option_map result_of (find (is_for id) v.proposals) → kept ≡ without_first (is_for id) v.proposals
    → comes ≡ completion_result proposed → results ≡ record v.results { queued = v.results.queued ++ record { id = CompletionId id; result = comes } ∷ [] }
    → acknowledged id (find (is_for id) v.proposals) v ≡ Done tt (record v { results = results; proposals = kept })
some_acknowledged id v proposed comes kept results some left is queued =
    let found = mapped_some result_of (find (is_for id) v.proposals) proposed some in
    let same : completion_result found.0.result ≡ comes = sym (is ∙ ap completion_result found.2) in
    let there : record v.results { queued = v.results.queued ++ acknowledged_completion id found.0 ∷ [] } ≡ results = ap (λ r. record v.results { queued = v.results.queued ++ record { id = CompletionId id; result = r } ∷ [] }) same ∙ sym queued in
    ap (λ o. acknowledged id o v) found.1 ∙ λ i. Done tt (record v { results = there i; proposals = sym left i })
