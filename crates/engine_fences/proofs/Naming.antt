-- In an engine that began without an invocation each is named by its place.
use Rattle.std.proofs.Common.{◌≡◌, ◌≤◌, ℕ, List, [], ◌∷◌, length, Some, refl, ap, ◌∙◌}
use Rattle.std.specs.Prelude.{◌^◌, slice_get}
use Rattle.vm_model.specs.Calls.{Meaning}
use Rattle.engines.specs.declared.engine.Engine.{Engine}
use Rattle.engines.specs.declared.engine.Invocation.{Invocation}
use Rattle.engines.specs.declared.types.Happening.{Happening}
use Rattle.engines.specs.Engines.{AllHappen}
use Rattle.engines.specs.Lookups.{id_of_place}
use Rattle.engine_fences.specs.Signals.{AllAreNamed}
use Rattle.engine_fences.proofs.Events.{AllHold, Always, Any, Holds, any_may, event_holds, hold_then, none_holds}
use Rattle.engine_fences.proofs.Places.{place_named}

abbrev IsAlike : {H : Type 0} → Invocation H → Invocation H → Type 0
IsAlike a b = b.id ≡ a.id

ids_stay : {H : Type 0} → Holds (IsAlike {H = H}) Any Always
ids_stay {H} = record {
  same = λ it. refl;
  next = λ a b c f g. g ∙ f;
  goes = λ it m m' was journal waits ids options on. refl;
  gets = λ it m s was. refl;
  comes = λ it m m' at w b f was going waits may d. refl;
  stores = λ it m m' asks f was going d. refl;
  ends = λ it r. refl;
  calls = λ a b is. ap (λ (z : Invocation H). z.id) is;
}

all_alike : {H : Type 0} (meaning : H → Meaning) (es : List Happening) (old new : Engine H) → AllHappen meaning es old new → AllHold IsAlike old new
all_alike meaning [] old new d = none_holds IsAlike Any Always ids_stay old new d
all_alike meaning (e ∷ es) old new (mid, first, more) = hold_then IsAlike Any Always ids_stay old mid new (event_holds IsAlike Any Always ids_stay meaning e old mid (any_may ids_stay old e) first) (all_alike meaning es mid new more)

pub all_named : {H : Type 0} (meaning : H → Meaning) (es : List Happening) (old new : Engine H) → old.invocations.items ≡ [] → AllHappen meaning es old new → length new.invocations.items ≤ 2 ^ 64 → AllAreNamed new
all_named {H} meaning es old new none d few by it is = place_named new.invocations.items named few by it is
  where
    named : (k : ℕ) (x : Invocation H) → slice_get new.invocations.items k ≡ Some x → x.id ≡ id_of_place k
    named k x there =
        let w = (all_alike meaning es old new d).fresh k x (ap (λ l. slice_get l k) none) there in
        w.since ∙ w.named
