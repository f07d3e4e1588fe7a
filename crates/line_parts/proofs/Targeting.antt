-- Words that name no invocation.
use Rattle.std.proofs.Common.{◌≡◌, ℕ, List, codes, drop}
use Rattle.std.specs.Borrow.{Bor}
use Rattle.plain.specs.declared.fault.Fault.{Fault}
use Rattle.plain.specs.declared.fault.Fault.TheVariants.{Malformed}
use Rattle.journal_protocol.specs.InvocationTarget.{InvocationTarget}
use Rattle.journal_protocol.specs.InvocationTarget.TheVariants as target
use Rattle.lines.specs.Readings.{Blames}
use Rattle.line_parts.specs.Targets.{HasKeyAndScope, IsCallOf, IsWorkflow, NamesBehind}
use Rattle.lines.specs.Words.{AreThreeTexts, AreTwoTexts, IsOneText}

pub workflow_texts_blamed : (words : List (Bor (List ℕ))) (fault : Fault) → Blames (AreTwoTexts words) fault → Blames (IsWorkflow words) fault
workflow_texts_blamed words fault blames = record { nothing = λ bad workflow is. blames.nothing bad (workflow.name, workflow.key) is.texts }

pub call_texts_blamed : (words : List (Bor (List ℕ))) (fault : Fault) → Blames (AreThreeTexts words) fault → Blames (IsCallOf words) fault
call_texts_blamed words fault blames = record { nothing = λ bad call is. blames.nothing bad (call.service_name, call.handler_name, call.idempotency_key) is.texts }

pub call_options_blamed : (words : List (Bor (List ℕ))) (fault : Fault) → Blames (HasKeyAndScope (drop 3 words)) fault → Blames (IsCallOf words) fault
call_options_blamed words fault blames = record { nothing = λ bad call is. blames.nothing bad (call.service_key, call.scope) is.options }

pub id_blamed : (others : List (Bor (List ℕ))) (fault : Fault) → Blames (IsOneText others) fault → Blames (NamesBehind (codes "id") others) fault
id_blamed others fault blames = record { nothing = λ bad t is. go bad t is }
  where
    go : fault ≡ Malformed → (t : InvocationTarget) → NamesBehind (codes "id") others t → ⊥
    go bad (target.InvocationId id) is = blames.nothing bad id is.1
    go bad (target.WorkflowId workflow) is = absurd (cc is.0)
    go bad (target.IdempotencyId call) is = absurd (cc is.0)

pub workflow_blamed : (others : List (Bor (List ℕ))) (fault : Fault) → Blames (IsWorkflow others) fault → Blames (NamesBehind (codes "workflow") others) fault
workflow_blamed others fault blames = record { nothing = λ bad t is. go bad t is }
  where
    go : fault ≡ Malformed → (t : InvocationTarget) → NamesBehind (codes "workflow") others t → ⊥
    go bad (target.InvocationId id) is = absurd (cc is.0)
    go bad (target.WorkflowId workflow) is = blames.nothing bad workflow is.1
    go bad (target.IdempotencyId call) is = absurd (cc is.0)

pub call_blamed : (others : List (Bor (List ℕ))) (fault : Fault) → Blames (IsCallOf others) fault → Blames (NamesBehind (codes "idem") others) fault
call_blamed others fault blames = record { nothing = λ bad t is. go bad t is }
  where
    go : fault ≡ Malformed → (t : InvocationTarget) → NamesBehind (codes "idem") others t → ⊥
    go bad (target.InvocationId id) is = absurd (cc is.0)
    go bad (target.WorkflowId workflow) is = absurd (cc is.0)
    go bad (target.IdempotencyId call) is = blames.nothing bad call is.1
