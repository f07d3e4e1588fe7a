-- The fence: what an attempt asks for is refused once a later one of its invocation has begun.
use Rattle.std.specs.Prelude.{◌≡◌, ℕ, ◌&&◌, ◌==◌, if◌then◌else◌, nat_lt, Bool, true, false, List, [], ◌∷◌, unwrap_or}
use Rattle.std.specs.Ordering.{nat_cmp}
use Rattle.std.specs.BTreeMap.{get}
use Rattle.vm_model.specs.Calls.{Meaning}
use Rattle.engines.specs.declared.types.Happening.{Happening}
use Rattle.engines.specs.declared.types.Happening.TheVariants as happening
use Rattle.engines.specs.Engines.{HappeningDoes}
use Rattle.engines.specs.Lookups.{may_begin}
use Rattle.engine_fences.specs.declared.epochs.Epochs.{Epochs}
use Rattle.engine_fences.specs.declared.fences.Asked.{Asked}
use Rattle.engine_fences.specs.declared.fences.FencedEngine.{FencedEngine}

-- the epoch of the newest attempt of the invocation at a place; 0 before the first
abbrev pub epoch_of : Epochs → ℕ → ℕ
epoch_of epochs place = unwrap_or (get nat_cmp epochs.newest place) 0

-- an attempt of this epoch is the newest of the invocation at a place
abbrev pub TakesEpoch : ℕ → ℕ → Epochs → Epochs → Type 0
TakesEpoch place epoch old new = (other : ℕ)
    → epoch_of new other ≡ (if place == other then epoch else epoch_of old other)

-- What an attempt asks for is granted, if it is the newest of its invocation; a begin, if an
-- attempt may begin, and under a greater epoch than that of the newest.
abbrev pub grants : {H : Type 0} → FencedEngine H → ℕ → Happening → Bool
grants f epoch (happening.Begin place) =
    nat_lt (epoch_of f.epochs place) epoch && may_begin f.engine place
grants f epoch (happening.Act place e) = epoch_of f.epochs place == epoch
grants f epoch (happening.Deliver place at) = epoch_of f.epochs place == epoch
grants f epoch (happening.Store place) = epoch_of f.epochs place == epoch
grants f epoch (happening.Stop place) = epoch_of f.epochs place == epoch
grants f epoch (happening.Submit order) = true
grants f epoch happening.StopAll = true
grants f epoch (happening.Clock t) = true

-- an attempt that begins is the newest from then on; by no other event another one is
abbrev pub NamesEpoch : ℕ → Happening → Epochs → Epochs → Type 0
NamesEpoch epoch (happening.Begin place) old new = TakesEpoch place epoch old new
NamesEpoch epoch e old new = new ≡ old

-- if it is granted, it does what it does in the engine; if it is refused, nothing changes
abbrev pub FencedIf : {H : Type 0} → Bool → (H → Meaning) → ℕ → Happening → FencedEngine H
    → FencedEngine H → Type 0
FencedIf false meaning epoch e old new = new ≡ old
FencedIf true meaning epoch e old new =
    HappeningDoes meaning e old.engine new.engine × NamesEpoch epoch e old.epochs new.epochs

-- What an event does that an attempt of an epoch asks for.
abbrev pub FencedDoes : {H : Type 0} → (H → Meaning) → Asked → FencedEngine H → FencedEngine H
    → Type 0
FencedDoes meaning a old new =
    FencedIf (grants old a.epoch a.happening) meaning a.epoch a.happening old new

-- what events do, one after another
abbrev pub AllFenced : {H : Type 0} → (H → Meaning) → List Asked → FencedEngine H → FencedEngine H
    → Type 0
AllFenced meaning [] old new = new ≡ old
AllFenced {H} meaning (a ∷ es) old new = (mid : FencedEngine H) × FencedDoes meaning a old mid
    × AllFenced meaning es mid new
