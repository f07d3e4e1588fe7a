-- Which invocation C means.
use Rattle.std.specs.Prelude.{ℕ, ◌==◌, if◌then◌else◌, List, [], ◌∷◌, ◌++◌, Option, Some, None}
use Rattle.journal_protocol.specs.WorkflowId.{WorkflowId}
use Rattle.journal_protocol.specs.IdempotencyId.{IdempotencyId}
use Rattle.journal_protocol.specs.InvocationTarget.{InvocationTarget}
use Rattle.journal_protocol.specs.InvocationTarget.TheVariants as target
use Rattle.c_calls.specs.declared.invocations.GivenInvocation.{GivenInvocation}
use Rattle.c_calls.specs.Given.{optional_of, lent_texts}

-- a workflow
abbrev pub workflow_of : GivenInvocation → WorkflowId
workflow_of given = record {
  name = given.name.bytes.now;
  key = given.key.bytes.now;
  scope = optional_of given.scope;
}

-- an idempotency key, with what it is of
abbrev pub idempotency_of : GivenInvocation → IdempotencyId
idempotency_of given = record {
  service_name = given.name.bytes.now;
  service_key = optional_of given.service_key;
  handler_name = given.handler.bytes.now;
  idempotency_key = given.key.bytes.now;
  scope = optional_of given.scope;
}

-- the invocation of an id, a workflow, or that of an idempotency key, if the kind is one
abbrev pub invocation_of : GivenInvocation → Option InvocationTarget
invocation_of given =
    if given.kind == 0 then Some (target.InvocationId given.name.bytes.now)
    else if given.kind == 1 then Some (target.WorkflowId (workflow_of given))
    else if given.kind == 2 then Some (target.IdempotencyId (idempotency_of given))
    else None

-- the texts that name a workflow
abbrev pub texts_of_workflow : GivenInvocation → List (List ℕ)
texts_of_workflow given = given.name.bytes.now ∷ given.key.bytes.now ∷ lent_texts given.scope

-- the texts that say what an idempotency key is of
abbrev pub texts_of_idempotency : GivenInvocation → List (List ℕ)
texts_of_idempotency given =
    given.name.bytes.now ∷ given.handler.bytes.now ∷ given.key.bytes.now
    ∷ (lent_texts given.service_key ++ lent_texts given.scope)

-- the texts that name an invocation
abbrev pub texts_of_invocation : GivenInvocation → List (List ℕ)
texts_of_invocation given =
    if given.kind == 0 then given.name.bytes.now ∷ []
    else if given.kind == 1 then texts_of_workflow given
    else texts_of_idempotency given
