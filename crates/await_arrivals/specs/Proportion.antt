-- Room in proportion to what came.
use Rattle.std.specs.Prelude.{ℕ, ◌*◌, ◌≤◌}
use Rattle.await_arrivals.specs.declared.index.Index.{Index}
use Rattle.await_arrivals.specs.Ids.{held_for_ids}
use Rattle.await_arrivals.specs.Numbers.{most_for_one}

-- there are no more slots than arrivals, and for each arrival a fixed number of places and keys at
-- most, for any ids that they claim
pub record InProportion (arrivals : ℕ) (index : Index) (slots : ℕ) : Type 0 where
  pub few_slots : slots ≤ arrivals
  pub few_held : held_for_ids index ≤ most_for_one * arrivals
