-- The places of an id, however they are kept.
use Rattle.std.specs.Prelude.{ℕ, List, [], ◌∷◌}
use Rattle.await_arrivals.specs.declared.places.Kept.{Kept}
use Rattle.await_arrivals.specs.declared.places.Kept.TheVariants.{Nowhere, One, Many}

abbrev pub places_kept : Kept → List ℕ
places_kept Nowhere = []
places_kept (One place) = place ∷ []
places_kept (Many queue) = queue.value
