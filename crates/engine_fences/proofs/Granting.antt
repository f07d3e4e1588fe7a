-- What the fence does with one event, and with events one after another.
use Rattle.std.proofs.Common.{◌≡◌, ◌<◌, ◌≤◌, ℕ, ◌+◌, Bool, true, false, List, [], ◌∷◌, ◌++◌, length, take, slice_index_or, refl, sym, ◌∙◌, subst}
use Rattle.std.proofs.lemmas.List.{take_all}
use Rattle.world_rounds.proofs.Lists.{split_at}
use Rattle.vm_model.specs.Calls.{Meaning}
use Rattle.engines.specs.Engines.{HappeningDoes}
use Rattle.engine_fences.specs.declared.fences.Asked.{Asked}
use Rattle.engine_fences.specs.declared.fences.FencedEngine.{FencedEngine}
use Rattle.engine_fences.specs.Fences.{AllFenced, FencedDoes, FencedIf, NamesEpoch, grants}

-- ---- one event

pub refused : {H : Type 0} (meaning : H → Meaning) (b : Bool) (a : Asked) (old : FencedEngine H) → b ≡ grants old a.epoch a.happening → b ≡ false → FencedDoes meaning a old old
refused meaning b a old is e = subst (λ z. FencedIf z meaning a.epoch a.happening old old) (sym e ∙ is) refl

pub granted : {H : Type 0} (meaning : H → Meaning) (b : Bool) (a : Asked) (old new : FencedEngine H) → b ≡ grants old a.epoch a.happening → b ≡ true → NamesEpoch a.epoch a.happening old.epochs new.epochs → HappeningDoes meaning a.happening old.engine new.engine → FencedDoes meaning a old new
granted meaning b a old new is e names does = subst (λ z. FencedIf z meaning a.epoch a.happening old new) (sym e ∙ is) (does, names)

-- ---- one after another

fenced_then : {H : Type 0} (meaning : H → Meaning) (es : List Asked) (a : Asked) (x y z : FencedEngine H) → AllFenced meaning es x y → FencedDoes meaning a y z → AllFenced meaning (es ++ a ∷ []) x z
fenced_then meaning [] a x y z h d = (z, subst (λ w. FencedDoes meaning a w z) h d, refl)
fenced_then meaning (b ∷ es) a x y z (mid, first, more) d = (mid, first, fenced_then meaning es a mid y z more d)

pub fenced_more : {H : Type 0} (meaning : H → Meaning) (events : List Asked) (x y z : FencedEngine H) (i : ℕ) (a : Asked) → i < length events → a ≡ slice_index_or events i a → AllFenced meaning (take i events) x y → FencedDoes meaning a y z → AllFenced meaning (take (i + 1) events) x z
fenced_more meaning events x y z i a lt is h d = subst (λ es. AllFenced meaning es x z) (sym (split_at events i a lt is)) (fenced_then meaning (take i events) a x y z h d)

pub fenced_all : {H : Type 0} (meaning : H → Meaning) (events : List Asked) (x y : FencedEngine H) (i : ℕ) → length events ≤ i → AllFenced meaning (take i events) x y → AllFenced meaning events x y
fenced_all meaning events x y i le h = subst (λ es. AllFenced meaning es x y) (take_all i events le) h
