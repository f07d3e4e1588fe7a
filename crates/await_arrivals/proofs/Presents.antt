-- The oldest and the newest result of an id, by its places.
use Rattle.std.proofs.Common.{◌≡◌, ℕ, zero, suc, ◌<◌, ◌≤◌, Bool, true, false, cond, List, [], ◌∷◌, map, length, take, drop, get_or, Option, Some, None, refl, sym, ap, ◌∙◌, arith}
use Rattle.std.specs.Prelude.{nat_lt}
use Rattle.std.specs.Option.{is_some, option_map}
use Rattle.std.specs.List.Sorted.{IsNonDecreasing, IsPartitionedBy}
use Rattle.std.proofs.lemmas.List.{get_or-map, length-map, get_or_past, get_or-take, length-take}
use Rattle.std.proofs.lemmas.Bool.Decides.{nat_tests}
use Rattle.journal_values.specs.declared.notification.NotificationId.{NotificationId}
use Rattle.journal_values.specs.declared.notification.NotificationResult.{NotificationResult}
use Rattle.await_arrivals.specs.declared.log.Entry.{Entry}
use Rattle.await_arrivals.specs.Ids.{same_id}
use Rattle.await_arrivals.specs.Results.{first, newest, newest_after, results_of}
use Rattle.await_arrivals.proofs.Entries.{front_used, front_at, none_used, late_used}
use Rattle.await_arrivals.proofs.Tracking as Tracking
use Rattle.await_arrivals.specs.Entries.{not_taken, given_by, places, has_waiting_result, under}
use Rattle.await_arrivals.proofs.Ids.{Test, yes, no, test}

-- ---- places rise

rises_map : (ps : List ℕ) → IsNonDecreasing ps → IsNonDecreasing (map suc ps)
rises_map ps h i j d l b =
    let n = length-map ps suc in
    let jb : j < length ps = omega arith in
    let ib : i < length ps = omega arith in
    let le = h i j d l jb in
    rw (get_or-map suc ps i d d ib, get_or-map suc ps j d d jb) (omega arith)

rises_zero : (ps : List ℕ) → IsNonDecreasing ps → IsNonDecreasing (0 ∷ ps)
rises_zero ps h zero j d l b = omega arith
rises_zero ps h (suc i) zero d l b = absurd (omega arith)
rises_zero ps h (suc i) (suc j) d l b = h i j d (omega arith) (omega arith)

rises_at : (w : Bool) (ps : List ℕ) → IsNonDecreasing ps → IsNonDecreasing (cond w (0 ∷ map suc ps) (map suc ps))
rises_at true ps h = rises_zero (map suc ps) (rises_map ps h)
rises_at false ps h = rises_map ps h

pub places_rise : (id : NotificationId) (xs : List Entry) → IsNonDecreasing (places id xs)
places_rise id [] = λ i j d l b. absurd (omega arith)
places_rise id (x ∷ xs) = rises_at (has_waiting_result id x) (places id xs) (places_rise id xs)

-- ---- those among the first entries

suc_step : (s p : ℕ) (us vs : List ℕ) → us ≡ map suc vs → cond (nat_lt (suc p) (suc s)) (suc p ∷ us) us ≡ map suc (cond (nat_lt p s) (p ∷ vs) vs)
suc_step s p us vs e = go (test (nat_lt p s))
  where
    go : Test (nat_lt p s) → cond (nat_lt (suc p) (suc s)) (suc p ∷ us) us ≡ map suc (cond (nat_lt p s) (p ∷ vs) vs)
    go (yes b) = let c : nat_lt (suc p) (suc s) ≡ true = grind (arith, nat_tests) in rw (b, c) (ap (λ z. suc p ∷ z) e)
    go (no b) = let c : nat_lt (suc p) (suc s) ≡ false = grind (arith, nat_tests) in rw (b, c) e

under_suc : (s : ℕ) (ps : List ℕ) → under (suc s) (map suc ps) ≡ map suc (under s ps)
under_suc s [] = refl
under_suc s (p ∷ ps) = suc_step s p (under (suc s) (map suc ps)) (under s ps) (under_suc s ps)

under_zero : (ps : List ℕ) → under 0 ps ≡ []
under_zero [] = refl
under_zero (p ∷ ps) = let c : nat_lt p 0 ≡ false = grind (arith, nat_tests) in rw c (under_zero ps)

used_at : (w : Bool) (s : ℕ) (us ps : List ℕ) → us ≡ under s ps → cond w (0 ∷ map suc us) (map suc us) ≡ under (suc s) (cond w (0 ∷ map suc ps) (map suc ps))
used_at true s us ps e = let c : nat_lt 0 (suc s) ≡ true = grind (arith, nat_tests) in rw (c, e, under_suc s ps) refl
used_at false s us ps e = rw (e, under_suc s ps) refl

pub places_used : (id : NotificationId) (xs : List Entry) (s : ℕ) → places id (take s xs) ≡ under s (places id xs)
places_used id xs zero = sym (under_zero (places id xs))
places_used id [] (suc s) = refl
places_used id (x ∷ xs) (suc s) = used_at (has_waiting_result id x) s (places id (take s xs)) (places id xs) (places_used id xs s)

-- ---- the results at them

abbrev at_place : List Entry → Entry → ℕ → Option NotificationResult
at_place xs d p = (get_or xs p d).result

map_suc : (e : Entry) (xs : List Entry) (d : Entry) (ps : List ℕ) → map (at_place (e ∷ xs) d) (map suc ps) ≡ map (at_place xs d) ps
map_suc e xs d [] = refl
map_suc e xs d (p ∷ ps) = ap (λ z. at_place xs d p ∷ z) (map_suc e xs d ps)

abbrev entry : NotificationId → Option NotificationResult → Entry
entry i o = record { id = i; result = o }

placed : (id i : NotificationId) (o : Option NotificationResult) (xs : List Entry) (d : Entry) → map Some (results_of id (not_taken xs)) ≡ map (at_place xs d) (places id xs)
    → map Some (results_of id (given_by i o (not_taken xs))) ≡ map (at_place (entry i o ∷ xs) d) (cond (has_waiting_result id (entry i o)) (0 ∷ map suc (places id xs)) (map suc (places id xs)))
placed id i None xs d h = h ∙ sym (map_suc (entry i None) xs d (places id xs))
placed id i (Some r) xs d h = go (test (same_id i id))
  where
    go : Test (same_id i id) → map Some (cond (same_id i id) (r ∷ results_of id (not_taken xs)) (results_of id (not_taken xs))) ≡ map (at_place (entry i (Some r) ∷ xs) d) (cond (same_id i id) (0 ∷ map suc (places id xs)) (map suc (places id xs)))
    go (yes b) = rw b (ap (λ z. Some r ∷ z) (h ∙ sym (map_suc (entry i (Some r)) xs d (places id xs))))
    go (no b) = rw b (h ∙ sym (map_suc (entry i (Some r)) xs d (places id xs)))

results_placed : (id : NotificationId) (xs : List Entry) (d : Entry) → map Some (results_of id (not_taken xs)) ≡ map (at_place xs d) (places id xs)
results_placed id [] d = refl
results_placed id (x ∷ xs) d = placed id x.id x.result xs d (results_placed id xs d)

newest_map : {X Y : Type 0} (f : X → Y) (o : Option X) (xs : List X) → newest_after (option_map f o) (map f xs) ≡ option_map f (newest_after o xs)
newest_map f o [] = refl
newest_map f o (x ∷ xs) = newest_map f (Some x) xs

some_is : {X : Type 0} (o q : Option X) → option_map Some o ≡ Some q → (o ≡ q) × (is_some q ≡ true)
some_is None q e = cc
some_is (Some x) q e = let f : Some x ≡ q = cc in (f, rw (← f) refl)

none_is : {X : Type 0} (o : Option X) → option_map {U = Option X} Some o ≡ None → o ≡ None
none_is None e = refl
none_is (Some x) e = cc

module _ (id : NotificationId) (log : List Entry) (s : ℕ) where
  by_place : (d : Entry) (o : Option ℕ) → o ≡ newest (under s (places id log)) → option_map Some (newest (results_of id (not_taken (take s log)))) ≡ option_map (at_place (take s log) d) o
  by_place d o e =
      sym (newest_map Some None (results_of id (not_taken (take s log))))
      ∙ ap newest (results_placed id (take s log) d)
      ∙ newest_map (at_place (take s log) d) None (places id (take s log))
      ∙ ap (λ z. option_map (at_place (take s log) d) (newest z)) (places_used id log s)
      ∙ ap (option_map (at_place (take s log) d)) (sym e)

  pub newest_none : None ≡ newest (under s (places id log)) → newest (results_of id (not_taken (take s log))) ≡ None
  newest_none e = none_is (newest (results_of id (not_taken (take s log)))) (by_place (entry id None) None e)

  module _ (p : ℕ) (e : Some p ≡ newest (under s (places id log))) where
    at_p : (d : Entry) → (newest (results_of id (not_taken (take s log))) ≡ at_place (take s log) d p) × (is_some (at_place (take s log) d p) ≡ true)
    at_p d = some_is (newest (results_of id (not_taken (take s log)))) (at_place (take s log) d p) (by_place d (Some p) e)

    among : p < length (take s log)
    among = go (test (nat_lt p (length (take s log))))
      where
        go : Test (nat_lt p (length (take s log))) → p < length (take s log)
        go (yes b) = grind (arith, nat_tests)
        go (no b) =
            let past : length (take s log) ≤ p = grind (arith, nat_tests) in
            let is : is_some (at_place (take s log) (entry id None) p) ≡ true = (at_p (entry id None)).1 in
            let default = get_or_past (take s log) p (entry id None) past in
            let no_result : is_some {T = NotificationResult} None ≡ true = sym (ap (λ (z : Entry). is_some z.result) default) ∙ is in
            cc

    pub newest_within : p < length log
    newest_within = omega (arith, length-take s log, among)

    pub newest_at : (d : Entry) → (get_or log p d).result ≡ newest (results_of id (not_taken (take s log)))
    newest_at d =
        let below : p < s = omega (arith, length-take s log, among) in
        ap (λ (z : Entry). z.result) (sym (get_or-take s log p d below)) ∙ sym (at_p d).0

-- ---- the greatest below a number, found by halving

pub under_split : (n : ℕ) (ps : List ℕ) (j : ℕ) → j ≤ length ps → ((k : ℕ) → k < j → nat_lt (get_or ps k 0) n ≡ true) → ((k : ℕ) → j ≤ k → k < length ps → nat_lt (get_or ps k 0) n ≡ false) → under n ps ≡ take j ps
under_split n [] zero l a b = refl
under_split n [] (suc j) l a b = absurd (omega arith)
under_split n (p ∷ ps) zero l a b = rw (b 0 (omega arith) (omega arith)) (under_split n ps zero (omega arith) (λ k h. absurd (omega arith)) (λ k h i. b (suc k) (omega arith) (omega arith)))
under_split n (p ∷ ps) (suc j) l a b = rw (a 0 (omega arith)) (ap (λ z. p ∷ z) (under_split n ps j (omega arith) (λ k h. a (suc k) (omega arith)) (λ k h i. b (suc k) (omega arith) (omega arith))))

pub newest_take : (o : Option ℕ) (ps : List ℕ) (j : ℕ) → j < length ps → newest_after o (take (suc j) ps) ≡ Some (get_or ps j 0)
newest_take o [] j b = absurd (omega arith)
newest_take o (p ∷ ps) zero b = refl
newest_take o (p ∷ ps) (suc j) b = newest_take (Some p) ps j (omega arith)

pub partitioned : (s : ℕ) (ps : List ℕ) → IsNonDecreasing ps → IsPartitionedBy (λ y. nat_lt y s) ps
partitioned s ps h i j d l b p =
    let le = h i j d l b in
    let q : get_or ps j d < s = grind (arith, nat_tests) in
    grind (arith, nat_tests)

-- ---- the oldest

first_is : (qs : List ℕ) (p : ℕ) → Some p ≡ first qs → qs ≡ p ∷ drop 1 qs
first_is [] p e = cc
first_is (q ∷ qs) p e = let f : q ≡ p = cc in ap (λ z. z ∷ qs) f

module _ (id : NotificationId) (log : List Entry) where
  pub oldest_none : (s : ℕ) → None ≡ first (places id log) → first (results_of id (not_taken (take s log))) ≡ None
  oldest_none s e = ap first (none_used id log s (Tracking.none_is (places id log) (sym e)))

  module _ (s p : ℕ) (e : Some p ≡ first (places id log)) where
    pub oldest_late : s ≤ p → first (results_of id (not_taken (take s log))) ≡ None
    oldest_late l = ap first (late_used id log s p (drop 1 (places id log)) (first_is (places id log) p e) l)

    pub oldest_at : p < s → (d : Entry) → (get_or log p d).result ≡ first (results_of id (not_taken (take s log)))
    oldest_at b d =
        let u = front_used id log s p (drop 1 (places id log)) (first_is (places id log) p e) b in
        let g = front_at id (take s log) p u.0 u.1 in
        ap (λ (z : Entry). z.result) (sym (get_or-take s log p d b)) ∙ g.1.result d ∙ sym (ap first g.1.results)

  pub oldest_within : (p : ℕ) → Some p ≡ first (places id log) → p < length log
  oldest_within p e = let f = front_at id log p (drop 1 (places id log)) (first_is (places id log) p e) in f.1.within
