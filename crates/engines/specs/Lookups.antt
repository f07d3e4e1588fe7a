-- Which handler, which invocation and which callee is meant, and what is there for what waits.
use Rattle.std.specs.Prelude.{ℕ, ◌&&◌, ◌++◌, ◌==◌, nat_le, not, Bool, false, List, [], codes, take, Option, Some, None, is_none, slice_get, position, find}
use Rattle.std.specs.List.{list_any}
use Rattle.std.specs.Option.{option_and_then, option_map}
use Rattle.std.specs.Fmt.{decimal}
use Rattle.journal_protocol.specs.ValueOrFailure.{ValueOrFailure}
use Rattle.journal_protocol.specs.ValueOrFailure.TheVariants as ends
use Rattle.engine_inboxes.specs.Targets.{is_text, share}
use Rattle.engine_inboxes.specs.declared.types.Brought.{Brought}
use Rattle.engine_inboxes.specs.declared.types.Brought.TheVariants as brought
use Rattle.engine_inboxes.specs.declared.types.Waiting.{Waiting}
use Rattle.engine_inboxes.specs.declared.types.Waiting.TheVariants as waiting
use Rattle.engines.specs.declared.engine.Engine.{Engine}
use Rattle.engines.specs.declared.engine.Invocation.{Invocation}
use Rattle.engine_inboxes.specs.declared.order.Callee.{Callee}
use Rattle.engine_inboxes.specs.declared.order.Order.{Order}
use Rattle.engine_inboxes.specs.declared.target.Target.{Target}

-- ---- invocations

-- the id of the invocation that was made as the one at this place
abbrev pub id_of_place : ℕ → List ℕ
id_of_place place = codes "inv_" ++ decimal place

-- the place of the first invocation of this id
abbrev pub place_of : {H : Type 0} → List (Invocation H) → List ℕ → Option ℕ
place_of its id = position (λ it. is_text it.id id) its

-- it has this idempotency key
abbrev pub is_kept : Option (List ℕ) → List ℕ → Bool
is_kept None asked = false
is_kept (Some own) asked = is_text own asked

-- it is of this handler, this key and this idempotency key
abbrev pub is_same : {H : Type 0} → ℕ → List ℕ → List ℕ → Invocation H → Bool
is_same target key asked it =
    (it.target == target) && is_text it.key key && is_kept it.idempotency_key asked

abbrev pub same_by : {H : Type 0} → Option (List ℕ) → List (Invocation H) → ℕ → List ℕ → Option ℕ
same_by None its target key = None
same_by (Some asked) its target key = position (is_same target key asked) its

-- the place of the invocation that was asked for with the same idempotency key, if one was
abbrev pub same_as : {H : Type 0} → List (Invocation H) → ℕ → Order → Option ℕ
same_as its target order = same_by order.idempotency_key its target order.key

-- ---- turns

-- it goes on, and is of an exclusive handler of the same key
abbrev pub is_before : {H : Type 0} → List (Target H) → Invocation H → Invocation H → Bool
is_before targets own it =
    is_none it.ended && is_text it.key own.key && share targets it.target own.target

-- each invocation of an exclusive handler of its key that was made before it has ended
abbrev pub has_turn : {H : Type 0} → Engine H → ℕ → Invocation H → Bool
has_turn e place own = not (list_any (is_before e.targets.now own) (take place e.invocations.items))

-- it hasn't ended, its time has come, and so has its turn
abbrev pub can_begin : {H : Type 0} → Engine H → ℕ → Option (Invocation H) → Bool
can_begin e place None = false
can_begin e place (Some it) = is_none it.ended && nat_le it.begins e.clock && has_turn e place it

abbrev pub may_begin : {H : Type 0} → Engine H → ℕ → Bool
may_begin e place = can_begin e place (slice_get e.invocations.items place)

-- ---- callees

-- what its call of this completion id has begun
abbrev pub callee_in : ℕ → List Callee → Option Callee
callee_in call rows = find (λ row. row.call == call) rows

abbrev pub callee_of : {H : Type 0} → List (Invocation H) → ℕ → ℕ → Option Callee
callee_of its by call =
    option_and_then (λ it. callee_in call it.callees.items) (slice_get its by)

-- the result of a call of a handler that isn't there
abbrev pub no_handler : ValueOrFailure
no_handler = ends.Failure (record {
  code = 404;
  message = codes "there is no such handler";
  metadata = [];
})

-- the id of the invocation at a place; no text, if no handler was found
abbrev pub callee_id : {H : Type 0} → List (Invocation H) → Option ℕ → Option (List ℕ)
callee_id its None = Some []
callee_id its (Some place) = option_map (λ it. it.id) (slice_get its place)

-- its result, once it has ended
abbrev pub callee_result : {H : Type 0} → List (Invocation H) → Option ℕ → Option ValueOrFailure
callee_result its None = Some no_handler
callee_result its (Some place) = option_and_then (λ it. it.ended) (slice_get its place)

-- ---- what is there for what waits

-- for a sleep and for a signal it is the clock; for a call's ids the id and the result of what it
-- has begun
abbrev pub brought_for : {H : Type 0} → Engine H → ℕ → Waiting → Option Brought
brought_for e by (waiting.Clock timer) = Some (brought.Time e.clock)
brought_for e by (waiting.Signal s brings) = Some (brought.Time e.clock)
brought_for e by (waiting.Id call) = option_and_then
    (λ row. option_map brought.Id (callee_id e.invocations.items row.place))
    (callee_of e.invocations.items by call)
brought_for e by (waiting.Outcome id call) = option_and_then
    (λ row. option_map brought.Outcome (callee_result e.invocations.items row.place))
    (callee_of e.invocations.items by call)
