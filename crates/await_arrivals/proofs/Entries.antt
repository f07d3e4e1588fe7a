-- Places in the log.
use Rattle.std.proofs.Common.{◌≡◌, ℕ, zero, suc, ◌<◌, ◌≤◌, Bool, true, false, cond, List, [], ◌∷◌, ◌++◌, map, length, take, drop, get_or, Option, Some, None, refl, sym, ap, ◌∙◌, arith}
use Rattle.std.proofs.Math.ListN.{set}
use Rattle.journal_values.specs.declared.notification.Notification.{Notification}
use Rattle.journal_values.specs.declared.notification.NotificationId.{NotificationId}
use Rattle.journal_values.specs.declared.notification.NotificationResult.{NotificationResult}
use Rattle.await_arrivals.specs.declared.log.Entry.{Entry}
use Rattle.await_arrivals.specs.Ids.{same_id}
use Rattle.await_arrivals.specs.Results.{results_of, without_oldest}
use Rattle.await_arrivals.specs.Entries.{not_taken, given_by, places, has_waiting_result}
use Rattle.await_arrivals.proofs.Ids.{Test, yes, no, test, same_is}

map_append : (f : ℕ → ℕ) (xs ys : List ℕ) → map f (xs ++ ys) ≡ map f xs ++ map f ys
map_append f [] ys = refl
map_append f (x ∷ xs) ys = ap (λ zs. f x ∷ zs) (map_append f xs ys)

places_push_at : (w v : Bool) (ps qs : List ℕ) (n : ℕ) → qs ≡ ps ++ cond v (n ∷ []) []
    → cond w (0 ∷ map suc qs) (map suc qs) ≡ cond w (0 ∷ map suc ps) (map suc ps) ++ cond v (suc n ∷ []) []
places_push_at w v ps qs n e = rw (e, map_append suc ps (cond v (n ∷ []) [])) (go w v)
  where
    go : (w v : Bool) → cond w (0 ∷ (map suc ps ++ map suc (cond v (n ∷ []) []))) (map suc ps ++ map suc (cond v (n ∷ []) [])) ≡ cond w (0 ∷ map suc ps) (map suc ps) ++ cond v (suc n ∷ []) []
    go true true = refl
    go true false = refl
    go false true = refl
    go false false = refl

-- one more entry
pub places_push : (id : NotificationId) (xs : List Entry) (e : Entry) → places id (xs ++ e ∷ []) ≡ places id xs ++ cond (has_waiting_result id e) (length xs ∷ []) []
places_push id [] e = go (has_waiting_result id e)
  where
    go : (v : Bool) → cond {A = List ℕ} v (0 ∷ []) [] ≡ [] ++ cond v (0 ∷ []) []
    go true = refl
    go false = refl
places_push id (x ∷ xs) e = places_push_at (has_waiting_result id x) (has_waiting_result id e) (places id xs) (places id (xs ++ e ∷ [])) (length xs) (places_push id xs e)

-- the entry at a place, without its result
abbrev pub cleared : ℕ → List Entry → List Entry
cleared i [] = []
cleared zero (e ∷ es) = record e { result = None } ∷ es
cleared (suc i) (e ∷ es) = e ∷ cleared i es

pub cleared_length : (i : ℕ) (xs : List Entry) → length (cleared i xs) ≡ length xs
cleared_length i [] = refl
cleared_length zero (x ∷ xs) = refl
cleared_length (suc i) (x ∷ xs) = ap suc (cleared_length i xs)

pub cleared_is : (i : ℕ) (xs : List Entry) (d : Entry) → cleared i xs ≡ set xs i (let e : Entry = record (get_or xs i d) { result = None } in e)
cleared_is i [] d = refl
cleared_is zero (x ∷ xs) d = refl
cleared_is (suc i) (x ∷ xs) d = ap (λ ys. x ∷ ys) (cleared_is i xs d)

-- an entry written back without its result
pub cleared_by : (p : ℕ) (xs : List Entry) (e f : Entry) → e ≡ get_or xs p e → f ≡ (let g : Entry = record e { result = None } in g) → set xs p f ≡ cleared p xs
cleared_by p xs e f is left =
    let same : get_or xs p e ≡ e = sym is in
    ap (set xs p) (left ∙ ap (λ (z : Entry). let g : Entry = record z { result = None } in g) (sym same)) ∙ sym (cleared_is p xs e)

pub take_cleared : (s p : ℕ) (xs : List Entry) → p < s → take s (cleared p xs) ≡ cleared p (take s xs)
take_cleared zero p xs h = absurd (omega arith)
take_cleared (suc s) p [] h = refl
take_cleared (suc s) zero (x ∷ xs) h = refl
take_cleared (suc s) (suc p) (x ∷ xs) h = ap (λ ys. x ∷ ys) (take_cleared s p xs (omega arith))

pub drop_cleared : (s p : ℕ) (xs : List Entry) → p < s → drop s (cleared p xs) ≡ drop s xs
drop_cleared zero p xs h = absurd (omega arith)
drop_cleared (suc s) p [] h = refl
drop_cleared (suc s) zero (x ∷ xs) h = refl
drop_cleared (suc s) (suc p) (x ∷ xs) h = drop_cleared s p xs (omega arith)

-- the oldest of a list of places, one further on
record Shifted (qs : List ℕ) (p : ℕ) (ps : List ℕ) : Type 0 where
  place : ℕ
  others : List ℕ
  is : qs ≡ place ∷ others
  place_is : p ≡ suc place
  others_are : ps ≡ map suc others

head_is : {x y : ℕ} {xs ys : List ℕ} → x ∷ xs ≡ y ∷ ys → y ≡ x
head_is e = cc

tail_is : {x y : ℕ} {xs ys : List ℕ} → x ∷ xs ≡ y ∷ ys → ys ≡ xs
tail_is e = cc

shifted : (qs : List ℕ) (p : ℕ) (ps : List ℕ) → map suc qs ≡ p ∷ ps → Shifted qs p ps
shifted [] p ps e = cc
shifted (q ∷ qs) p ps e = record { place = q; others = qs; is = refl; place_is = head_is e; others_are = tail_is e }

-- what the oldest place of an id holds, and what is left without it
pub record Front (id : NotificationId) (xs : List Entry) (p : ℕ) (ps : List ℕ) (r : NotificationResult) : Type 0 where
  pub within : p < length xs
  pub result : (d : Entry) → (get_or xs p d).result ≡ Some r
  pub results : results_of id (not_taken xs) ≡ r ∷ results_of id (not_taken (cleared p xs))
  pub removed : not_taken (cleared p xs) ≡ without_oldest id (not_taken xs)
  pub left : places id (cleared p xs) ≡ ps
  pub others : (other : NotificationId) → same_id id other ≡ false → places other (cleared p xs) ≡ places other xs

module _ (id i : NotificationId) (xs : List Entry) where
  abbrev entry : Option NotificationResult → Entry
  entry o = record { id = i; result = o }

  front_here : (r : NotificationResult) → same_id i id ≡ true → Front id (entry (Some r) ∷ xs) 0 (map suc (places id xs)) r
  front_here r b = record {
    within = omega arith;
    result = λ d. refl;
    results = rw b refl;
    removed = rw b refl;
    left = refl;
    others = λ other h. let e : i ≡ id = same_is i id b in let g : same_id i other ≡ false = rw e h in rw g refl;
  }

  front_none : (q : ℕ) (qs : List ℕ) (r : NotificationResult) → Front id xs q qs r → Front id (entry None ∷ xs) (suc q) (map suc qs) r
  front_none q qs r f = record {
    within = let h = f.within in omega arith;
    result = f.result;
    results = f.results;
    removed = f.removed;
    left = ap (map suc) f.left;
    others = λ other h. ap (map suc) (f.others other h);
  }

  front_other : (s : NotificationResult) (q : ℕ) (qs : List ℕ) (r : NotificationResult) → same_id i id ≡ false → Front id xs q qs r → Front id (entry (Some s) ∷ xs) (suc q) (map suc qs) r
  front_other s q qs r b f = record {
    within = let h = f.within in omega arith;
    result = f.result;
    results = rw b f.results;
    removed = rw b (ap (λ ns. let n : Notification = record { id = i; result = s } in n ∷ ns) f.removed);
    left = rw b (ap (map suc) f.left);
    others = λ other h. rw (f.others other h) refl;
  }

front_is : (id : NotificationId) (xs : List Entry) (p q : ℕ) (ps qs : List ℕ) (r : NotificationResult) → p ≡ suc q → ps ≡ map suc qs → Front id xs (suc q) (map suc qs) r → Front id xs p ps r
front_is id xs p q ps qs r e f h = rw (e, f) h

front_later : (id i : NotificationId) (xs : List Entry) (o : Option NotificationResult) (p : ℕ) (ps : List ℕ)
    → ((q : ℕ) (qs : List ℕ) → places id xs ≡ q ∷ qs → (r : NotificationResult) × Front id xs q qs r)
    → ((q : ℕ) (qs : List ℕ) (r : NotificationResult) → Front id xs q qs r → Front id (entry id i xs o ∷ xs) (suc q) (map suc qs) r)
    → map suc (places id xs) ≡ p ∷ ps → (r : NotificationResult) × Front id (entry id i xs o ∷ xs) p ps r
front_later id i xs o p ps before go h =
    let s = shifted (places id xs) p ps h in
    let f = before s.place s.others s.is in
    (f.0, front_is id (entry id i xs o ∷ xs) p s.place ps s.others f.0 s.place_is s.others_are (go s.place s.others f.0 f.1))

front_by : (id i : NotificationId) (xs : List Entry) (o : Option NotificationResult) (p : ℕ) (ps : List ℕ)
    → ((q : ℕ) (qs : List ℕ) → places id xs ≡ q ∷ qs → (r : NotificationResult) × Front id xs q qs r)
    → places id (entry id i xs o ∷ xs) ≡ p ∷ ps → (r : NotificationResult) × Front id (entry id i xs o ∷ xs) p ps r
front_by id i xs None p ps before h = front_later id i xs None p ps before (front_none id i xs) h
front_by id i xs (Some r) p ps before h = go (test (same_id i id))
  where
    go : Test (same_id i id) → (r' : NotificationResult) × Front id (entry id i xs (Some r) ∷ xs) p ps r'
    go (yes b) = let g = rw b at h in (r, rw (head_is g, tail_is g) (front_here id i xs r b))
    go (no b) = front_later id i xs (Some r) p ps before (λ q qs r' f. front_other id i xs r q qs r' b f) (rw b at h)

pub front_at : (id : NotificationId) (xs : List Entry) (p : ℕ) (ps : List ℕ) → places id xs ≡ p ∷ ps → (r : NotificationResult) × Front id xs p ps r
front_at id [] p ps e = cc
front_at id (x ∷ xs) p ps e = front_by id x.id xs x.result p ps (front_at id xs) e

-- the oldest of the used ones
used_step : (w : Bool) (us vs : List ℕ) (s p : ℕ) (ps : List ℕ) → ((q : ℕ) (qs : List ℕ) → us ≡ q ∷ qs → q < s → (rs : List ℕ) × (vs ≡ q ∷ rs))
    → cond w (0 ∷ map suc us) (map suc us) ≡ p ∷ ps → p < suc s → (qs : List ℕ) × (cond w (0 ∷ map suc vs) (map suc vs) ≡ p ∷ qs)
used_step true us vs s p ps before e h = (map suc vs, rw (head_is e) refl)
used_step false us vs s p ps before e h =
    let t = shifted us p ps e in
    let l : suc t.place < suc s = rw (← t.place_is) h in
    let u = before t.place t.others t.is (omega arith) in
    (map suc u.0, ap (map suc) u.1 ∙ ap (λ z. z ∷ map suc u.0) (sym t.place_is))

pub front_used : (id : NotificationId) (xs : List Entry) (s p : ℕ) (ps : List ℕ) → places id xs ≡ p ∷ ps → p < s → (qs : List ℕ) × (places id (take s xs) ≡ p ∷ qs)
front_used id [] s p ps e h = cc
front_used id (x ∷ xs) zero p ps e h = absurd (omega arith)
front_used id (x ∷ xs) (suc s) p ps e h = used_step (has_waiting_result id x) (places id xs) (places id (take s xs)) s p ps (front_used id xs s) e h

none_of : (id i : NotificationId) (o : Option NotificationResult) (xs : List Entry) (ns : List Notification) → places id (entry id i xs o ∷ xs) ≡ [] → (places id xs ≡ [] → results_of id ns ≡ []) → results_of id (given_by i o ns) ≡ []
none_of id i None xs ns e f = f (empty (places id xs) e)
  where
    empty : (qs : List ℕ) → map suc qs ≡ [] → qs ≡ []
    empty [] e = refl
    empty (q ∷ qs) e = cc
none_of id i (Some r) xs ns e f = go (test (same_id i id))
  where
    empty : (qs : List ℕ) → map suc qs ≡ [] → qs ≡ []
    empty [] e = refl
    empty (q ∷ qs) e = cc

    go : Test (same_id i id) → cond (same_id i id) (r ∷ results_of id ns) (results_of id ns) ≡ []
    go (yes b) = let g = rw b at e in cc
    go (no b) = rw b (f (empty (places id xs) (rw b at e)))

pub none_used : (id : NotificationId) (xs : List Entry) (s : ℕ) → places id xs ≡ [] → results_of id (not_taken (take s xs)) ≡ []
none_used id [] zero e = refl
none_used id [] (suc s) e = refl
none_used id (x ∷ xs) zero e = refl
none_used id (x ∷ xs) (suc s) e = none_of id x.id x.result xs (not_taken (take s xs)) e (none_used id xs s)

late_by : (id i : NotificationId) (o : Option NotificationResult) (xs : List Entry) (ns : List Notification) (s p : ℕ) (ps : List ℕ)
    → ((q : ℕ) (qs : List ℕ) → places id xs ≡ q ∷ qs → s ≤ q → results_of id ns ≡ [])
    → places id (entry id i xs o ∷ xs) ≡ p ∷ ps → suc s ≤ p → results_of id (given_by i o ns) ≡ []
late_by id i None xs ns s p ps before e h =
    let t = shifted (places id xs) p ps e in
    let l : suc s ≤ suc t.place = rw (← t.place_is) h in
    before t.place t.others t.is (omega arith)
late_by id i (Some r) xs ns s p ps before e h = go (test (same_id i id))
  where
    go : Test (same_id i id) → cond (same_id i id) (r ∷ results_of id ns) (results_of id ns) ≡ []
    go (yes b) = let k = rw b at e in let z : p ≡ 0 = head_is k in absurd (omega arith)
    go (no b) =
        let t = shifted (places id xs) p ps (rw b at e) in
        let l : suc s ≤ suc t.place = rw (← t.place_is) h in
        rw b (before t.place t.others t.is (omega arith))

pub late_used : (id : NotificationId) (xs : List Entry) (s p : ℕ) (ps : List ℕ) → places id xs ≡ p ∷ ps → s ≤ p → results_of id (not_taken (take s xs)) ≡ []
late_used id [] s p ps e h = cc
late_used id (x ∷ xs) zero p ps e h = refl
late_used id (x ∷ xs) (suc s) p ps e h = late_by id x.id x.result xs (not_taken (take s xs)) s p ps (late_used id xs s) e h
