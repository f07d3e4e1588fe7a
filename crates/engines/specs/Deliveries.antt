-- Deliveries to an invocation, one after another, of all that waits for it.
use Rattle.std.specs.Prelude.{◌≡◌, ℕ, zero, suc, nat_lt, if◌then◌else◌, List, [], length, Option, Some, None, slice_get}
use Rattle.vm_model.specs.Calls.{Meaning}
use Rattle.engine_inboxes.specs.declared.types.Waiting.{Waiting}
use Rattle.engines.specs.declared.engine.Engine.{Engine}
use Rattle.engines.specs.declared.engine.Invocation.{Invocation}
use Rattle.engines.specs.declared.types.Happening.TheVariants as happening
use Rattle.engines.specs.Engines.{HappeningDoes}
use Rattle.engines.specs.Members.{MemberView}

-- what waits for the invocation at a place
abbrev pub waiting_in : {H : Type 0} → Option (MemberView H) → List Waiting
waiting_in None = []
waiting_in (Some m) = m.waiting

abbrev pub waiting_of : {H : Type 0} → Option (Invocation H) → List Waiting
waiting_of None = []
waiting_of (Some it) = waiting_in it.member

abbrev pub inbox_at : {H : Type 0} → Engine H → ℕ → List Waiting
inbox_at e place = waiting_of (slice_get e.invocations.items place)

-- the next place of the inbox: if something has come, what stood after it stands at its place
abbrev pub next_at : {H : Type 0} → ℕ → ℕ → Engine H → Engine H → ℕ
next_at place at old new =
    if nat_lt (length (inbox_at new place)) (length (inbox_at old place)) then at else suc at

-- this number of deliveries to an invocation, from a place of its inbox on
abbrev pub AreDelivered : {H : Type 0} → (H → Meaning) → ℕ → ℕ → ℕ → Engine H → Engine H → Type 0
AreDelivered meaning place zero at old new = new ≡ old
AreDelivered {H} meaning place (suc count) at old new = (mid : Engine H)
    × HappeningDoes meaning (happening.Deliver place at) old mid
    × AreDelivered meaning place count (next_at place at old mid) mid new

-- as many deliveries as things wait for it, from the first on
abbrev pub AllDelivered : {H : Type 0} → (H → Meaning) → ℕ → Engine H → Engine H → Type 0
AllDelivered meaning place old new =
    AreDelivered meaning place (length (inbox_at old place)) 0 old new
