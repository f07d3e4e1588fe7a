-- What a line calls, and the invocation that it names.
use Rattle.std.specs.Prelude.{◌≡◌, ℕ, true, List, [], ◌∷◌, drop, Option, codes}
use Rattle.std.specs.Borrow.{Bor}
use Rattle.std.specs.List.{AllZip}
use Rattle.std.specs.declared.time.Duration.{Duration}
use Rattle.journal_protocol.specs.IdempotencyId.{IdempotencyId}
use Rattle.journal_protocol.specs.WorkflowId.{WorkflowId}
use Rattle.journal_protocol.specs.InvocationTarget.{InvocationTarget}
use Rattle.journal_protocol.specs.InvocationTarget.TheVariants as target
use Rattle.journal_protocol.specs.Header.{Header}
use Rattle.lines.specs.Atoms.{IsText}
use Rattle.vm_types.specs.declared.options.PayloadOptions.{PayloadOptions}
use Rattle.vm_types.specs.declared.values.Target.{Target}
use Rattle.lines.specs.Fields.{IsOptional, are_named, texts_named}
use Rattle.line_parts.specs.Values.{HasFlag, IsPair, words_without}
use Rattle.lines.specs.Durations.{IsTime}
use Rattle.lines.specs.Words.{AreThreeTexts, AreTwoTexts, IsOneText, words_after_first, text_at}

-- texts that are these headers
abbrev pub AreHeaders : List (List ℕ) → List Header → Type 0
AreHeaders found headers =
    AllZip (λ text header. IsPair text (header.key, header.value)) found headers

-- what the options of a call say of its target, and the call's name
pub record HasCallOptions (words : List (Bor (List ℕ)))
    (called : Target × Option (List ℕ)) : Type 0 where
  pub key : IsOptional IsText (texts_named (codes "key=") words) called.0.key
  pub idempotency_key : IsOptional IsText (texts_named (codes "idem=") words)
      called.0.idempotency_key
  pub scope : IsOptional IsText (texts_named (codes "scope=") words) called.0.scope
  pub limit_key : IsOptional IsText (texts_named (codes "limit=") words) called.0.limit_key
  pub headers : AreHeaders (texts_named (codes "header=") words) called.0.headers
  pub named : IsOptional IsText (texts_named (codes "name=") words) called.1

-- the names of a call's options
abbrev pub call_names : List (List ℕ)
call_names = codes "key=" ∷ codes "idem=" ∷ codes "scope=" ∷ codes "limit=" ∷ codes "header="
    ∷ codes "name=" ∷ []

-- the options of a call, and `unstable` or not
pub record AreCallOptions (words : List (Bor (List ℕ))) (target : Target) (name : Option (List ℕ))
    (options : PayloadOptions) : Type 0 where
  pub named : HasCallOptions (words_without (codes "unstable") words) (target, name)
  pub unstable : HasFlag (codes "unstable") words options.unstable_serialization
  pub only : are_named call_names (words_without (codes "unstable") words) ≡ true

-- those of a call whose result nobody waits for, which may have a time too
pub record AreSendOptions (words : List (Bor (List ℕ))) (target : Target) (time : Option Duration)
    (name : Option (List ℕ)) (options : PayloadOptions) : Type 0 where
  pub named : HasCallOptions (words_without (codes "unstable") words) (target, name)
  pub timed : IsOptional IsTime (texts_named (codes "at=") (words_without (codes "unstable") words))
      time
  pub unstable : HasFlag (codes "unstable") words options.unstable_serialization
  pub only : are_named (codes "at=" ∷ call_names) (words_without (codes "unstable") words) ≡ true

-- `[scope=T]` alone
pub record HasScope (words : List (Bor (List ℕ))) (scope : Option (List ℕ)) : Type 0 where
  pub named : IsOptional IsText (texts_named (codes "scope=") words) scope
  pub only : are_named (codes "scope=" ∷ []) words ≡ true

-- `[skey=T] [scope=T]` alone
pub record HasKeyAndScope (words : List (Bor (List ℕ)))
    (found : Option (List ℕ) × Option (List ℕ)) : Type 0 where
  pub keyed : IsOptional IsText (texts_named (codes "skey=") words) found.0
  pub scoped : IsOptional IsText (texts_named (codes "scope=") words) found.1
  pub only : are_named (codes "skey=" ∷ codes "scope=" ∷ []) words ≡ true

-- a workflow's name and key, and its scope
pub record IsWorkflow (words : List (Bor (List ℕ))) (workflow : WorkflowId) : Type 0 where
  pub texts : AreTwoTexts words (workflow.name, workflow.key)
  pub scope : HasScope (drop 2 words) workflow.scope

-- a call's service, its handler and its idempotency key, and the service's key and its scope
pub record IsCallOf (words : List (Bor (List ℕ))) (call : IdempotencyId) : Type 0 where
  pub texts : AreThreeTexts words (call.service_name, call.handler_name, call.idempotency_key)
  pub options : HasKeyAndScope (drop 3 words) (call.service_key, call.scope)

-- this word and those after it name this invocation: by its id, by its workflow, or by an
-- idempotency key
abbrev pub NamesBehind : List ℕ → List (Bor (List ℕ)) → InvocationTarget → Type 0
NamesBehind word others (target.InvocationId id) = (word ≡ codes "id") × IsOneText others id
NamesBehind word others (target.WorkflowId workflow) = (word ≡ codes "workflow")
    × IsWorkflow others workflow
NamesBehind word others (target.IdempotencyId call) = (word ≡ codes "idem") × IsCallOf others call

-- the words name this invocation
abbrev pub NamesInvocation : List (Bor (List ℕ)) → InvocationTarget → Type 0
NamesInvocation words target = NamesBehind (text_at 0 words) (words_after_first words) target
