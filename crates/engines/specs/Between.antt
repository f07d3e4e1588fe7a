-- What holds between invocations: each stored call has one callee, whose id and result it gets, and
-- no sleep ends before its time.
use Rattle.std.specs.Prelude.{◌≡◌, ◌⊎◌, ℕ, ◌<◌, ◌≤◌, true, false, List, [], ◌∷◌, length, Option, Some, None, is_some, flat_map, slice_get}
use Rattle.std.specs.List.{AllByRecursion, AllZip}
use Rattle.journal_protocol.specs.Notification.{Notification}
use Rattle.journal_protocol.specs.NotificationId.TheVariants.{CompletionId}
use Rattle.journal_protocol.specs.NotificationResult.{NotificationResult}
use Rattle.journal_protocol.specs.NotificationResult.TheVariants as result
use Rattle.journal_protocol.specs.ValueOrFailure.{ValueOrFailure}
use Rattle.journal_entries.specs.Entries.{notes_in}
use Rattle.journal_store.specs.Effects.{completing_result}
use Rattle.journal_store.specs.declared.effect.Beginning.{Beginning}
use Rattle.journal_store.specs.declared.effect.Effect.{Effect}
use Rattle.journal_store.specs.declared.effect.Effect.TheVariants as effect
use Rattle.engine_inboxes.specs.declared.types.Waiting.{Waiting}
use Rattle.engine_inboxes.specs.declared.types.Waiting.TheVariants as waiting
use Rattle.engine_inboxes.specs.Deliverable.{WaitOnce, effect_at, waited_by, waits_for_id}
use Rattle.engines.specs.declared.engine.Engine.{Engine}
use Rattle.engines.specs.declared.engine.Invocation.{Invocation}
use Rattle.engine_inboxes.specs.declared.order.Begun.{Begun}
use Rattle.engine_inboxes.specs.declared.order.Callee.{Callee}
use Rattle.engine_inboxes.specs.Targets.{handler_named}
use Rattle.engines.specs.Lookups.{callee_of, callee_id, is_before, is_same, callee_result}
use Rattle.engines.specs.Members.{MemberView}
use Rattle.engines.specs.Beginnings.{entry_of_input}

-- it is one of them
abbrev pub IsOneOf : {A : Type 0} → A → List A → Type 0
IsOneOf x [] = ⊥
IsOneOf x (y ∷ ys) = (x ≡ y) ⊎ IsOneOf x ys

-- ---- what stored commands ask for

-- what the stored commands of a journal wait for, in order
abbrev pub waited_in : List (List ℕ) → List Waiting
waited_in journal = flat_map (λ entry. waited_by (effect_at entry)) journal

abbrev pub called_by : Option Effect → List Beginning
called_by (Some (effect.Begin b)) = b ∷ []
called_by (Some (effect.Wait timer)) = []
called_by (Some (effect.Send s)) = []
called_by (Some (effect.Result r)) = []
called_by None = []

-- the invocations that its stored calls and one-way calls ask for, in order
abbrev pub called_in : List (List ℕ) → List Beginning
called_in journal = flat_map (λ entry. called_by (effect_at entry)) journal

abbrev pub results_by : Option Effect → List ValueOrFailure
results_by (Some (effect.Result r)) = r ∷ []
results_by (Some (effect.Begin b)) = []
results_by (Some (effect.Wait timer)) = []
results_by (Some (effect.Send s)) = []
results_by None = []

-- the result of its first stored output
abbrev pub stored_result : List (List ℕ) → Option ValueOrFailure
stored_result journal = slice_get (flat_map (λ entry. results_by (effect_at entry)) journal) 0

-- ---- what completes what waits

-- It is the id of the invocation that the call has begun, or was attached to.
pub record GetsId {H : Type 0} (e : Engine H) (by call : ℕ) (r : NotificationResult) : Type 0 where
  pub row : Callee
  pub called : callee_of e.invocations.items by call ≡ Some row
  pub text : List ℕ
  pub named : callee_id e.invocations.items row.place ≡ Some text
  pub gets : r ≡ result.InvocationId text

-- That invocation has ended, and it is its result.
pub record GetsResult {H : Type 0} (e : Engine H) (by call : ℕ) (r : NotificationResult) : Type 0
  where
    pub row : Callee
    pub called : callee_of e.invocations.items by call ≡ Some row
    pub ends : ValueOrFailure
    pub ended : callee_result e.invocations.items row.place ≡ Some ends
    pub gets : r ≡ completing_result ends

-- a call's ids are completed by its callee's id and result; a sleep only once its time has come
abbrev pub IsRight : {H : Type 0} → Engine H → ℕ → Waiting → NotificationResult → Type 0
IsRight e by (waiting.Id call) r = GetsId e by call r
IsRight e by (waiting.Outcome id call) r = GetsResult e by call r
IsRight e by (waiting.Clock timer) r = (r ≡ result.Void) × (timer.due ≤ e.clock)
IsRight e by (waiting.Signal s brings) r = Unit {0}

-- if a notification completes what a stored command waits for, it is right
abbrev pub IsRightNote : {H : Type 0} → Engine H → ℕ → List Waiting → Notification → Type 0
IsRightNote e by waited n = (w : Waiting) (id : ℕ) → IsOneOf w waited → n.id ≡ CompletionId id
    → waits_for_id id w ≡ true → IsRight e by w n.result

-- ---- whom a call has called

-- it was begun by this call: it is what the call asks for, and its journal begins with the
-- parameter
pub record WasBegun {H : Type 0} (by target : ℕ) (b : Beginning) (it : Invocation H) : Type 0 where
  pub begun : it.begun ≡ Some (record { by = by; call = b.id_completes })
  pub target_is : it.target ≡ target
  pub begins : it.begins ≡ b.begins
  pub key : it.key ≡ b.key
  pub asked : it.idempotency_key ≡ b.idempotency_key
  pub rounds : MemberView H
  pub there : it.member ≡ Some rounds
  pub input : slice_get rounds.course.journal 0 ≡ Some (entry_of_input b.parameter)

-- it was there, of the same handler, key and idempotency key
pub record WasFound {H : Type 0} (target : ℕ) (b : Beginning) (it : Invocation H) : Type 0 where
  pub asked : List ℕ
  pub keyed : b.idempotency_key ≡ Some asked
  pub same : is_same target b.key asked it ≡ true

-- The invocation at a place is the one that a call asks for.
pub record IsCalleeAt {H : Type 0} (e : Engine H) (by : ℕ) (b : Beginning) (place : ℕ) : Type 0
  where
    pub target : ℕ
    pub called : handler_named e.targets.now b.service b.handler ≡ Some target
    pub it : Invocation H
    pub there : slice_get e.invocations.items place ≡ Some it
    pub meant : WasBegun by target b it ⊎ WasFound target b it

-- it is at no place only if no handler has its names
abbrev pub IsCalleeOf : {H : Type 0} → Engine H → ℕ → Beginning → Option ℕ → Type 0
IsCalleeOf e by b None = handler_named e.targets.now b.service b.handler ≡ None
IsCalleeOf e by b (Some place) = IsCalleeAt e by b place

-- the row of a stored call
abbrev pub IsRowOf : {H : Type 0} → Engine H → ℕ → Beginning → Callee → Type 0
IsRowOf e by b row = (row.call ≡ b.id_completes) × IsCalleeOf e by b row.place

-- an invocation that a call has begun is the one at the place of that call's row
abbrev pub IsBegunOnce : {H : Type 0} → Engine H → ℕ → Option Begun → Type 0
IsBegunOnce e place None = Unit {0}
IsBegunOnce e place (Some b) = callee_of e.invocations.items b.by b.call
    ≡ Some (record { call = b.call; place = Some place })

-- ---- turns

-- an attempt of it lives, or more than its input is stored
abbrev pub HasBegun : {H : Type 0} → MemberView H → Type 0
HasBegun m = (is_some m.course.live ≡ true) ⊎ (1 < length m.course.journal)

-- at each place before it stands an invocation that has ended, or is of another key, or of a
-- handler that doesn't exclude its own
abbrev pub HasTurn : {H : Type 0} → Engine H → ℕ → Invocation H → Type 0
HasTurn {H} e place own = (j : ℕ) → j < place → (it : Invocation H)
    × (slice_get e.invocations.items j ≡ Some it) × (is_before e.targets.now own it ≡ false)

-- ---- an engine

-- Between an invocation and the others: each stored call has one row, no two wait for one id, what
-- completes what waits is right, and its result is that of its first stored output.
pub record KeepsCalls {H : Type 0} (e : Engine H) (by : ℕ) (rows : List Callee)
    (ended : Option ValueOrFailure) (begun : Option Begun) (journal : List (List ℕ))
    : Type 0 where
  pub calls : AllZip (IsRowOf e by) (called_in journal) rows
  pub once : WaitOnce (waited_in journal)
  pub notes : AllByRecursion (IsRightNote e by (waited_in journal)) (notes_in journal)
  pub result : ended ≡ stored_result journal
  pub beginning : IsBegunOnce e by begun

-- its rounds are there, it keeps calls, and if it has begun, it had its turn
pub record InvocationKeeps {H : Type 0} (e : Engine H) (by : ℕ) (it : Invocation H) : Type 0 where
  pub rounds : MemberView H
  pub there : it.member ≡ Some rounds
  pub keeps : KeepsCalls e by it.callees.items it.ended it.begun rounds.course.journal
  pub turn : HasBegun rounds → HasTurn e by it

-- each invocation does
abbrev pub AllKept : {H : Type 0} → Engine H → Type 0
AllKept {H} e = (by : ℕ) (it : Invocation H) → slice_get e.invocations.items by ≡ Some it
    → InvocationKeeps e by it
