-- Turns go on: of the invocations of a key that haven't ended one may begin, once its time comes.
use Rattle.std.specs.Prelude.{◌≡◌, ◌⊎◌, ℕ, ◌≤◌, true, nat_le, Some, None, slice_get}
use Rattle.engines.specs.declared.engine.Engine.{Engine}
use Rattle.engines.specs.declared.engine.Invocation.{Invocation}
use Rattle.engines.specs.Lookups.{may_begin}
use Rattle.engines.specs.HandedOn.{shares_key}

-- It, or one that was made before it for the same key, hasn't ended, and may begin once its time
-- comes.
pub record HasNext {H : Type 0} (e : Engine H) (place : ℕ) (own : Invocation H) : Type 0 where
  pub first : ℕ
  pub earlier : first ≤ place
  pub it : Invocation H
  pub there : slice_get e.invocations.items first ≡ Some it
  pub goes_on : it.ended ≡ None
  pub alike : (first ≡ place) ⊎ (shares_key e.targets.now own it ≡ true)
  pub begins : may_begin e first ≡ nat_le it.begins e.clock

-- so it is with each that hasn't ended
abbrev pub TurnsGoOn : {H : Type 0} → Engine H → Type 0
TurnsGoOn {H} e = (place : ℕ) (it : Invocation H) → slice_get e.invocations.items place ≡ Some it
    → it.ended ≡ None → HasNext e place it
