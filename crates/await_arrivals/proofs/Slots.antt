-- The slots of numbers in a table and a map.
use Rattle.std.proofs.Common.{◌≡◌, ◌≢◌, ℕ, zero, suc, ◌<◌, ◌≤◌, ◌+◌, ◌-◌, ◌==◌, Bool, true, false, cond, List, [], ◌∷◌, ◌++◌, length, get_or, replicate, Option, Some, None, refl, sym, ap, ◌∙◌, arith}
use Rattle.std.specs.Prelude.{nat_le}
use Rattle.std.proofs.lemmas.Bool.Decides.{nat_tests}
use Rattle.std.proofs.Math.ListN.{set}
use Rattle.std.proofs.lemmas.List.{get_or-set_same, get_or-set_other, get_or_past}
use Rattle.std.proofs.lemmas.Bool.{eqb-true, eqb-false}
use Rattle.await_arrivals.specs.Numbers.{or_else, slot_in_table}
use Rattle.await_arrivals.proofs.Ids.{Test, yes, no, test}

-- places without a slot
empty_places : (k n : ℕ) → get_or {A = Option ℕ} (replicate k None) n None ≡ None
empty_places zero n = refl
empty_places (suc k) zero = refl
empty_places (suc k) (suc n) = empty_places k n

-- places without a slot more
pub places_more : (table : List (Option ℕ)) (k n : ℕ) → get_or (table ++ replicate k None) n None ≡ get_or table n None
places_more [] k n = empty_places k n
places_more (x ∷ xs) k zero = refl
places_more (x ∷ xs) k (suc n) = places_more xs k n

-- a slot more, at another place and at its own
pub slot_elsewhere : (table : List (Option ℕ)) (i n : ℕ) (slot : Option ℕ) → i ≢ n → get_or (set table i slot) n None ≡ get_or table n None
slot_elsewhere table i n slot h = get_or-set_other table i n slot None (λ e. h (sym e))

-- ---- a table whose first place is a number's

pub in_table_more : (base : ℕ) (table : List (Option ℕ)) (k n : ℕ) → slot_in_table base (table ++ replicate k None) n ≡ slot_in_table base table n
in_table_more base table k n = ap (λ (o : Option ℕ). cond (nat_le base n) o None) (places_more table k (n - base))

-- an empty table has no slot
pub in_no_table : (base n : ℕ) → slot_in_table base [] n ≡ None
in_no_table base n = go (nat_le base n)
  where
    go : (b : Bool) → cond {A = Option ℕ} b (get_or [] (n - base) None) None ≡ None
    go true = refl
    go false = refl

-- where a number is found
pub none_before : (base number : ℕ) (table : List (Option ℕ)) → number < base → slot_in_table base table number ≡ None
none_before base number table l = let no : nat_le base number ≡ false = grind (arith, nat_tests) in rw no refl

pub at_place : (base place number : ℕ) (table : List (Option ℕ)) → place + base ≡ number → slot_in_table base table number ≡ get_or table place None
at_place base place number table e =
    let yes' : nat_le base number ≡ true = grind (arith, nat_tests) in
    let p : number - base ≡ place = omega arith in
    rw (yes', p) refl

-- another slot, or none, at a number's place
pub in_table_set : (base place number n : ℕ) (table : List (Option ℕ)) (o : Option ℕ) → place + base ≡ number → place < length table
    → slot_in_table base (set table place o) n ≡ cond (number == n) o (slot_in_table base table n)
in_table_set base place number n table o e l = go (test (nat_le base n)) (test (number == n))
  where
    go : Test (nat_le base n) → Test (number == n) → slot_in_table base (set table place o) n ≡ cond (number == n) o (slot_in_table base table n)
    go (yes b) (yes q) =
        let m : number ≡ n = eqb-true number n q in
        let p : n - base ≡ place = omega arith in
        rw (b, q, p) (get_or-set_same table place o None l)
    go (yes b) (no q) =
        let m : number ≢ n = eqb-false number n q in
        let le : base ≤ n = grind (arith, nat_tests) in
        let p : place ≢ n - base = λ k. m (omega arith) in
        rw (b, q) (slot_elsewhere table place (n - base) o p)
    go (no b) (yes q) =
        let m : number ≡ n = eqb-true number n q in
        let lt : n < base = grind (arith, nat_tests) in
        absurd (omega arith)
    go (no b) (no q) = rw (b, q) refl

-- what has no place can't have a slot there
pub none_left_before : (base number n : ℕ) (table : List (Option ℕ)) → number < base → slot_in_table base table n ≡ cond (number == n) None (slot_in_table base table n)
none_left_before base number n table l = go (test (number == n))
  where
    go : Test (number == n) → slot_in_table base table n ≡ cond (number == n) None (slot_in_table base table n)
    go (yes q) = let m : number ≡ n = eqb-true number n q in let below : n < base = omega arith in rw q (none_before base n table below)
    go (no q) = rw q refl

pub none_left_past : (base place number n : ℕ) (table : List (Option ℕ)) → place + base ≡ number → length table ≤ place → slot_in_table base table n ≡ cond (number == n) None (slot_in_table base table n)
none_left_past base place number n table e l = go (test (number == n))
  where
    go : Test (number == n) → slot_in_table base table n ≡ cond (number == n) None (slot_in_table base table n)
    go (yes q) = let m : number ≡ n = eqb-true number n q in let at : place + base ≡ n = omega arith in rw q (at_place base place n table at ∙ get_or_past table place None l)
    go (no q) = rw q refl

-- a slot more in the table, and elsewhere
or_else_more : (b : Bool) (slot : ℕ) (x y : Option ℕ) → or_else (cond b (Some slot) x) y ≡ cond b (Some slot) (or_else x y)
or_else_more true slot x y = refl
or_else_more false slot x y = refl

pub slot_more : (base place number n slot : ℕ) (table : List (Option ℕ)) (elsewhere : Option ℕ) → place + base ≡ number → place < length table
    → or_else (slot_in_table base (set table place (Some slot)) n) elsewhere ≡ cond (number == n) (Some slot) (or_else (slot_in_table base table n) elsewhere)
slot_more base place number n slot table elsewhere e l =
    ap (λ (o : Option ℕ). or_else o elsewhere) (in_table_set base place number n table (Some slot) e l) ∙ or_else_more (number == n) slot (slot_in_table base table n) elsewhere

pub slot_elsewhere_more : (b : Bool) (slot : ℕ) (x y : Option ℕ) → or_else (cond b None x) (cond b (Some slot) y) ≡ cond b (Some slot) (or_else x y)
slot_elsewhere_more true slot x y = refl
slot_elsewhere_more false slot x y = refl
