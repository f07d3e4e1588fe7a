-- The state of a key is settled once its next invocation has begun, and is handed to its attempts.
use Rattle.std.specs.Prelude.{◌≡◌, ℕ, Some, slice_get}
use Rattle.world_rounds.specs.States.{values_in}
use Rattle.engines.specs.declared.engine.Engine.{Engine}
use Rattle.engines.specs.declared.engine.Invocation.{Invocation}
use Rattle.engines.specs.Between.{HasBegun}
use Rattle.engines.specs.HandedOn.{handed_on}
use Rattle.engines.specs.Members.{MemberView}

-- An invocation is still there, and the same state is handed on to it.
pub record IsHandedAlike {H : Type 0} (place : ℕ) (it : Invocation H) (old new : Engine H) : Type 0
  where
    pub later : Invocation H
    pub there : slice_get new.invocations.items place ≡ Some later
    pub handed : handed_on new place later ≡ handed_on old place it

-- so it is with each that has begun
abbrev pub AreSettled : {H : Type 0} → Engine H → Engine H → Type 0
AreSettled {H} old new = (place : ℕ) (it : Invocation H) (m : MemberView H)
    → slice_get old.invocations.items place ≡ Some it → it.member ≡ Some m → HasBegun m
    → IsHandedAlike place it old new

-- The attempts of each invocation that has begun are made with the state that those of its key that
-- were made before it leave.
abbrev pub StatesAreHandedOn : {H : Type 0} → Engine H → Type 0
StatesAreHandedOn {H} e = (place : ℕ) (it : Invocation H) (m : MemberView H)
    → slice_get e.invocations.items place ≡ Some it → it.member ≡ Some m → HasBegun m
    → m.course.setting.base ≡ values_in (handed_on e place it)
