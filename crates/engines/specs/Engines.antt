-- What each event does to the invocations of an engine.
use Rattle.std.specs.Prelude.{◌≡◌, ◌⊎◌, ℕ, ◌<◌, ◌≤◌, max, Bool, true, false, List, [], ◌∷◌, ◌++◌, length, map, slice_get, slice_index_or, slice_set, Option, Some, None, is_some}
use Rattle.std.specs.Option.{option_and_then, option_map}
use Rattle.engines.specs.declared.engine.Engine.{Engine}
use Rattle.engines.specs.declared.engine.Invocation.{Invocation}
use Rattle.engine_inboxes.specs.declared.order.Begun.{Begun}
use Rattle.engine_inboxes.specs.declared.order.Callee.{Callee}
use Rattle.engine_inboxes.specs.declared.order.Order.{Order}
use Rattle.engine_inboxes.specs.declared.target.Target.{Target}
use Rattle.vm_model.specs.Calls.{Meaning}
use Rattle.world_rounds.specs.declared.types.Identity.{Identity}
use Rattle.world_rounds.specs.declared.types.Round.{Round}
use Rattle.world_rounds.specs.declared.types.Setting.{Setting}
use Rattle.journal_store.specs.declared.effect.Beginning.{Beginning}
use Rattle.journal_store.specs.declared.effect.Effect.{Effect}
use Rattle.journal_store.specs.declared.effect.Effect.TheVariants as effect
use Rattle.journal_store.specs.declared.effect.Sent.{Sent}
use Rattle.journal_protocol.specs.ValueOrFailure.{ValueOrFailure}
use Rattle.engine_inboxes.specs.declared.types.Brought.{Brought}
use Rattle.engines.specs.declared.types.Happening.{Happening}
use Rattle.engines.specs.declared.types.Happening.TheVariants as happening
use Rattle.engines.specs.Beginnings.{IsWholeInput, entry_of_input}
use Rattle.engine_inboxes.specs.Targets.{handler_named}
use Rattle.engines.specs.HandedOn.{BeginsHanded, base_at}
use Rattle.engines.specs.Lookups.{brought_for, id_of_place, may_begin, place_of, same_as}
use Rattle.engines.specs.Members.{Acts, Delivers, GoesBy, MemberView, StoresNextEntry, with_signal, stopped}

-- the rounds of an invocation go on so, if they are there, and nothing else of it changes
abbrev pub GoesIn : {H : Type 0} → (MemberView H → MemberView H → Type 0) → Option (MemberView H)
    → Invocation H → Invocation H → Type 0
GoesIn R None old new = new ≡ old
GoesIn {H} R (Some m) old new = (m' : MemberView H) × (new ≡ record old { member = Some m' })
    × R m m'

abbrev pub MemberGoes : {H : Type 0} → (MemberView H → MemberView H → Type 0) → Invocation H
    → Invocation H → Type 0
MemberGoes R old new = GoesIn R old.member old new

-- The invocation at a place changes so, and no other.
pub record ChangesOne {H : Type 0} (place : ℕ) (R : Invocation H → Invocation H → Type 0)
    (old new : List (Invocation H)) : Type 0 where
  pub before : Invocation H
  pub after : Invocation H
  pub there : place < length old
  pub is : before ≡ slice_index_or old place before
  pub becomes : new ≡ slice_set old place after
  pub does : R before after

-- there is none at this place, and nothing changes
abbrev pub NoneAt : {H : Type 0} → ℕ → List (Invocation H) → List (Invocation H) → Type 0
NoneAt place old new = (length old ≤ place) × (new ≡ old)

-- nothing of an engine changes but its invocations, and of these at most the one at a place
abbrev pub ChangesAt : {H : Type 0} → ℕ → (Invocation H → Invocation H → Type 0) → Engine H
    → Engine H → Type 0
ChangesAt place R old new = (new ≡ record old { invocations = new.invocations })
    × (NoneAt place old.invocations.items new.invocations.items
    ⊎ ChangesOne place R old.invocations.items new.invocations.items)

-- ---- an invocation is asked for

-- whose invocation a new one is
abbrev pub new_identity : List ℕ → Order → Identity
new_identity id order = record {
  id = id;
  debug_id = id;
  key = order.key;
  random_seed = 0;
  scope = None;
  limit_key = None;
  idempotency_key = order.idempotency_key;
}

abbrev pub new_setting : {H : Type 0} → Engine H → List ℕ → Order → Setting
new_setting e id order = record {
  identity = new_identity id order;
  options = e.options;
  version = e.version;
  base = [];
}

-- a new invocation by itself: its journal is its input, no round has begun, and nothing waits
abbrev pub new_member : {H : Type 0} → Engine H → H → List ℕ → Order → MemberView H
new_member e code id order = record {
  course = record {
    handler = code;
    setting = new_setting e id order;
    given = 1;
    journal = entry_of_input order.parameter ∷ [];
    live = None;
  };
  waiting = [];
  next = 0;
}

-- One is made, as the last: it is what was asked for, it has called nobody, and its input can be
-- read back.
pub record MakesInvocation {H : Type 0} (target : ℕ) (order : Order) (begun : Option Begun)
    (old new : Engine H)
    : Type 0 where
  pub of : Target H
  pub called : slice_get old.targets.now target ≡ Some of
  pub made : Invocation H
  pub as_asked : made
      ≡ record {
        id = id_of_place (length old.invocations.items);
        target = target;
        key = order.key;
        idempotency_key = order.idempotency_key;
        begins = order.begins;
        begun = begun;
        callees = made.callees;
        ended = None;
        member = Some (new_member old of.code (id_of_place (length old.invocations.items)) order);
      }
  pub calls_none : made.callees.items ≡ []
  pub whole : IsWholeInput order.parameter
  pub engine : new ≡ record old { invocations = new.invocations }
  pub last : new.invocations.items ≡ old.invocations.items ++ made ∷ []

-- the place is that of the one with the same idempotency key; if there is none, one is made
abbrev pub FindsOrMakes : {H : Type 0} → Option ℕ → ℕ → Order → Option Begun → Option ℕ → Engine H
    → Engine H → Type 0
FindsOrMakes (Some same) target order begun place old new = (place ≡ Some same) × (new ≡ old)
FindsOrMakes None target order begun place old new =
    (place ≡ Some (length old.invocations.items)) × MakesInvocation target order begun old new

-- the place is none, if no handler has these names
abbrev pub OrdersOf : {H : Type 0} → Option ℕ → Order → Option Begun → Option ℕ → Engine H
    → Engine H → Type 0
OrdersOf None order begun place old new = (place ≡ None) × (new ≡ old)
OrdersOf (Some target) order begun place old new =
    FindsOrMakes (same_as old.invocations.items target order) target order begun place old new

-- An invocation is asked for; the place is that of the one that is meant.
abbrev pub Orders : {H : Type 0} → Order → Option Begun → Option ℕ → Engine H → Engine H → Type 0
Orders order begun place old new =
    OrdersOf (handler_named old.targets.now order.service order.handler) order begun place old new

-- ---- a round begins

-- a round to which all of the state is handed out, before its events
abbrev pub whole_round : Round
whole_round = record { partial = false; keys = []; retry_count = 0; duration = 0; events = [] }

-- it begins by the state that is handed on to its invocation, if it may
abbrev pub BeginsIf : {H : Type 0} → Bool → ℕ → Engine H → Engine H → Type 0
BeginsIf false place old new = new ≡ old
BeginsIf true place old new = ChangesAt place
    (MemberGoes (GoesBy (BeginsHanded whole_round (base_at old place)))) old new

-- ---- an entry is stored

-- the next one is, if its rounds are there
abbrev pub StoresInMember : {H : Type 0} → (H → Meaning) → Option Effect → Option (MemberView H)
    → Invocation H → Invocation H → Type 0
StoresInMember meaning asks None old new = (new ≡ old) × (asks ≡ None)
StoresInMember {H} meaning asks (Some m) old new = (m' : MemberView H)
    × (new ≡ record old { member = Some m' }) × StoresNextEntry (meaning m.course.handler) m m' asks

-- none is stored once it has ended
abbrev pub StoresUnless : {H : Type 0} → Bool → (H → Meaning) → Option Effect → Invocation H
    → Invocation H → Type 0
StoresUnless true meaning asks old new = (new ≡ old) × (asks ≡ None)
StoresUnless false meaning asks old new = StoresInMember meaning asks old.member old new

abbrev pub StoresIn : {H : Type 0} → (H → Meaning) → Option Effect → Invocation H → Invocation H
    → Type 0
StoresIn meaning asks old new = StoresUnless (is_some old.ended) meaning asks old new

-- ---- what a stored command does

-- its result is there then
abbrev pub EndsWith : {H : Type 0} → ValueOrFailure → Invocation H → Invocation H → Type 0
EndsWith ends old new = new ≡ record old { ended = Some ends }

-- what is sent waits for the invocation of this id, if there is one
abbrev pub SendsToPlace : {H : Type 0} → Option ℕ → Sent → Engine H → Engine H → Type 0
SendsToPlace None sent old new = new ≡ old
SendsToPlace (Some place) sent old new = ChangesAt place
    (MemberGoes (λ a b. b ≡ with_signal sent.signal sent.brings a)) old new

abbrev pub Sends : {H : Type 0} → Sent → Engine H → Engine H → Type 0
Sends sent old new = SendsToPlace (place_of old.invocations.items sent.to) sent old new

-- the invocation that a call asks for
abbrev pub order_of : Beginning → Order
order_of b = record {
  service = b.service;
  handler = b.handler;
  key = b.key;
  idempotency_key = b.idempotency_key;
  parameter = b.parameter;
  begins = b.begins;
}

-- one row more of what its calls have begun
abbrev pub AddsCallee : {H : Type 0} → Callee → Invocation H → Invocation H → Type 0
AddsCallee row old new = (new ≡ record old { callees = new.callees })
    × (new.callees.items ≡ old.callees.items ++ row ∷ [])

-- The invocation that a call asks for begins, or is found; the caller has a row of it.
pub record BeginsFor {H : Type 0} (by : ℕ) (b : Beginning) (old new : Engine H) : Type 0 where
  pub mid : Engine H
  pub place : Option ℕ
  pub orders : Orders (order_of b) (Some (record { by = by; call = b.id_completes })) place old mid
  pub row : ChangesAt by (AddsCallee (record { call = b.id_completes; place = place })) mid new

-- what it asks for is done
abbrev pub DoesEffect : {H : Type 0} → ℕ → Effect → Engine H → Engine H → Type 0
DoesEffect by (effect.Wait timer) old new = new ≡ old
DoesEffect by (effect.Result ends) old new = ChangesAt by (EndsWith ends) old new
DoesEffect by (effect.Send sent) old new = Sends sent old new
DoesEffect by (effect.Begin begun) old new = BeginsFor by begun old new

abbrev pub PerformsIf : {H : Type 0} → ℕ → Option Effect → Engine H → Engine H → Type 0
PerformsIf by None old new = new ≡ old
PerformsIf by (Some asks) old new = DoesEffect by asks old new

-- the next entry is stored, and what it asks for is done
pub record StoresAndPerforms {H : Type 0} (meaning : H → Meaning) (place : ℕ) (old new : Engine H)
    : Type 0 where
  pub mid : Engine H
  pub asks : Option Effect
  pub nobody : length old.invocations.items ≤ place → asks ≡ None
  pub stores : ChangesAt place (StoresIn meaning asks) old mid
  pub performs : PerformsIf place asks mid new

-- ---- a delivery

-- what is there for what waits at a place of the inbox of an invocation
abbrev pub brought_in : {H : Type 0} → Engine H → ℕ → ℕ → Option (MemberView H) → Option Brought
brought_in e place at None = None
brought_in e place at (Some m) = option_and_then (brought_for e place) (slice_get m.waiting at)

abbrev pub brought_of : {H : Type 0} → Engine H → ℕ → ℕ → Option (Invocation H) → Option Brought
brought_of e place at None = None
brought_of e place at (Some it) = brought_in e place at it.member

abbrev pub brought_at : {H : Type 0} → Engine H → ℕ → ℕ → Option Brought
brought_at e place at = brought_of e place at (slice_get e.invocations.items place)

-- it comes, unless the invocation has ended
abbrev pub DeliversUnless : {H : Type 0} → Bool → (H → Meaning) → ℕ → Brought → Invocation H
    → Invocation H → Type 0
DeliversUnless true meaning at b old new = new ≡ old
DeliversUnless false meaning at b old new =
    MemberGoes (λ m. Delivers at b (meaning m.course.handler) m) old new

abbrev pub DeliversTo : {H : Type 0} → (H → Meaning) → ℕ → Brought → Invocation H → Invocation H
    → Type 0
DeliversTo meaning at b old new = DeliversUnless (is_some old.ended) meaning at b old new

-- what is there comes; if nothing is, nothing changes
abbrev pub DeliversIf : {H : Type 0} → (H → Meaning) → ℕ → ℕ → Option Brought → Engine H → Engine H
    → Type 0
DeliversIf meaning place at None old new = new ≡ old
DeliversIf meaning place at (Some b) old new =
    ChangesAt place (DeliversTo meaning at b) old new

abbrev pub DeliversAt : {H : Type 0} → (H → Meaning) → ℕ → ℕ → Engine H → Engine H → Type 0
DeliversAt meaning place at old new =
    DeliversIf meaning place at (brought_at old place at) old new

-- ---- an event

-- no attempt of it lives then
abbrev pub stopped_in : {H : Type 0} → Invocation H → Invocation H
stopped_in it = record it { member = option_map stopped it.member }

-- What an event does.
abbrev pub HappeningDoes : {H : Type 0} → (H → Meaning) → Happening → Engine H → Engine H → Type 0
HappeningDoes meaning (happening.Submit order) old new =
    (place : Option ℕ) × Orders order None place old new
HappeningDoes meaning (happening.Begin place) old new =
    BeginsIf (may_begin old place) place old new
HappeningDoes meaning (happening.Act place e) old new = ChangesAt place
    (MemberGoes (λ m. Acts (meaning m.course.handler) e m)) old new
HappeningDoes meaning (happening.Deliver place at) old new = DeliversAt meaning place at old new
HappeningDoes meaning (happening.Store place) old new = StoresAndPerforms meaning place old new
HappeningDoes meaning (happening.Stop place) old new = ChangesAt place
    (MemberGoes (λ a b. b ≡ stopped a))
    old new
HappeningDoes meaning happening.StopAll old new =
    (new ≡ record old { invocations = new.invocations })
    × (new.invocations.items ≡ map stopped_in old.invocations.items)
HappeningDoes meaning (happening.Clock t) old new = new ≡ record old { clock = max old.clock t }

-- what events do, one after another
abbrev pub AllHappen : {H : Type 0} → (H → Meaning) → List Happening → Engine H → Engine H → Type 0
AllHappen meaning [] old new = new ≡ old
AllHappen {H} meaning (e ∷ es) old new = (mid : Engine H) × HappeningDoes meaning e old mid
    × AllHappen meaning es mid new
