-- Handles in ascending order, some of them taken.
use Rattle.std.proofs.Common.{◌≡◌, ◌≢◌, ℕ, zero, suc, ◌+◌, ◌<◌, ◌≤◌, Bool, true, false, cond, List, [], ◌∷◌, ◌++◌, length, take, drop, get_or, Option, Some, None, refl, sym, ap, ◌∙◌, arith}
use Rattle.std.specs.Prelude.{◌==◌}
use Rattle.std.specs.Option.{is_some, option_or}
use Rattle.std.proofs.Math.ListN.{set}
use Rattle.std.specs.List.{AllWithin, filter}
use Rattle.std.specs.List.Sorted.{IsPartitionPoint, IsNonDecreasingBy}
use Rattle.std.specs.Ordering.{nat_cmp, is_lt, ordering_index}
use Rattle.std.specs.declared.cmp.Ordering.TheVariants.{Less, Equal, Greater}
use Rattle.std.specs.Cmp.{nat_cmp_total}
use Rattle.std.proofs.lemmas.List.Sorted.{searchable_from_sorted}
use Rattle.std.proofs.lemmas.Bool.Decides.{nat_tests}
use Rattle.vm_parts.specs.declared.handles.Held.{Held}
use Rattle.vm_parts.specs.declared.async_results.Mapping.{Mapping}
use Rattle.journal_values.specs.declared.notification.NotificationId.{NotificationId}
use Rattle.std.proofs.lemmas.Map.Lookups
use Rattle.vm_parts.specs.Deliveries.{id_at, unmapped}
use Rattle.vm_parts.specs.Mappings.{live_mappings, mapping_if, MappingsAscend, MappingsAbove, AllUnder, IsMappingAt, HasNoMapping}
use Rattle.plain.proofs.Places.{from_place}

above_at : (x : ℕ) (xs : List Held) → MappingsAbove x xs → (i : ℕ) (d : Held) → i < length xs → x < (get_or xs i d).handle
above_at x [] a i d l = absurd (omega arith)
above_at x (y ∷ ys) a zero d l = a.0
above_at x (y ∷ ys) a (suc i) d l = above_at x ys a.1 i d (omega arith)

-- ---- found by halving

rises : (xs : List Held) → MappingsAscend xs → (k : ℕ) (d : Held) → suc k < length xs → (get_or xs k d).handle < (get_or xs (suc k) d).handle
rises [] a k d l = absurd (omega arith)
rises (x ∷ xs) a zero d l = above_at x.handle xs a.0 0 d (omega arith)
rises (x ∷ xs) a (suc k) d l = rises xs a.1 k d (omega arith)

not_less : (a b : ℕ) → b < a → is_lt (nat_cmp a b) ≡ false
not_less a b h =
    let no : Rattle.std.specs.Prelude.nat_lt a b ≡ false = grind (arith, nat_tests) in
    rw no (go (a == b))
  where
    go : (t : Bool) → is_lt (cond t Equal Greater) ≡ false
    go true = refl
    go false = refl

pub searchable : (xs : List Held) (h : ℕ) → MappingsAscend xs → IsNonDecreasingBy (λ y. ordering_index (nat_cmp y.handle h)) xs
searchable xs h a = searchable_from_sorted nat_cmp_total (λ (y : Held). y.handle) xs h (λ k d z l.
    let e : k + 1 ≡ suc k = omega arith in
    rw e (not_less (get_or xs (suc k) d).handle (get_or xs k d).handle (rises xs a k d (omega arith))))

itself : (a h : ℕ) → a ≡ h → nat_cmp a h ≡ Equal
itself a h e =
    let no : Rattle.std.specs.Prelude.nat_lt a h ≡ false = grind (arith, nat_tests) in
    let yes : (a == h) ≡ true = grind (arith, nat_tests) in
    rw (no, yes) refl

pub absent : (xs : List Held) (h i : ℕ) → IsPartitionPoint (λ (y : Held). nat_cmp y.handle h ≡ Less) (λ y. nat_cmp y.handle h ≡ Greater) xs i → HasNoMapping h xs
absent xs h i p k d l e =
    Rattle.std.proofs.Common.⊎_elim (λ (b : k < i). let f = p.0 k d (omega arith) b in let g = itself (get_or xs k d).handle h e in cc)
    (λ (b : i ≤ k). let f = p.1 k d b l in let g = itself (get_or xs k d).handle h e in cc) (Rattle.std.proofs.lemmas.Bool.cases_lt k i)

-- ---- the ids that handles stand for

is_not : (a h : ℕ) → a ≢ h → (a == h) ≡ false
is_not a h n = grind (arith, nat_tests)

is_it : (a h : ℕ) → a ≡ h → (a == h) ≡ true
is_it a h e = grind (arith, nat_tests)

skip_id : (a h : ℕ) (o : Option NotificationId) (ms : List Mapping) → a ≢ h → id_at h (mapping_if a o ms) ≡ id_at h ms
skip_id a h None ms n = refl
skip_id a h (Some id) ms n = rw (is_not a h n) refl

skip_unmapped : (a h : ℕ) (o : Option NotificationId) (ms : List Mapping) → a ≢ h → unmapped h (mapping_if a o ms) ≡ mapping_if a o (unmapped h ms)
skip_unmapped a h None ms n = refl
skip_unmapped a h (Some id) ms n = rw (is_not a h n) refl

tail_absent : (h : ℕ) (x : Held) (xs : List Held) → HasNoMapping h (x ∷ xs) → HasNoMapping h xs
tail_absent h x xs a k d l e = a (suc k) d (omega arith) e

pub no_id : (h : ℕ) (xs : List Held) → HasNoMapping h xs → id_at h (live_mappings xs) ≡ None
no_id h [] a = refl
no_id h (x ∷ xs) a = skip_id x.handle h x.id (live_mappings xs) (a 0 x (omega arith)) ∙ no_id h xs (tail_absent h x xs a)

pub none_unmapped : (h : ℕ) (xs : List Held) → HasNoMapping h xs → unmapped h (live_mappings xs) ≡ live_mappings xs
none_unmapped h [] a = refl
none_unmapped h (x ∷ xs) a = skip_unmapped x.handle h x.id (live_mappings xs) (a 0 x (omega arith)) ∙ ap (mapping_if x.handle x.id) (none_unmapped h xs (tail_absent h x xs a))

above_absent : (h : ℕ) (xs : List Held) → MappingsAbove h xs → HasNoMapping h xs
above_absent h xs a k d l e = let g = above_at h xs a k d l in absurd (omega arith)

id_here : (a h : ℕ) (o : Option NotificationId) (ms : List Mapping) → a ≡ h → id_at h ms ≡ None → id_at h (mapping_if a o ms) ≡ o
id_here a h None ms e n = n
id_here a h (Some id) ms e n = rw (is_it a h e) refl

unmapped_here : (a h : ℕ) (o : Option NotificationId) (ms : List Mapping) → a ≡ h → unmapped h ms ≡ ms → unmapped h (mapping_if a o ms) ≡ ms
unmapped_here a h None ms e n = n
unmapped_here a h (Some id) ms e n = rw (is_it a h e) refl

at_tail : (h : ℕ) (x : Held) (xs : List Held) (i : ℕ) → IsMappingAt h (x ∷ xs) (suc i) → IsMappingAt h xs i
at_tail h x xs i p = (let l = p.0 in omega arith, p.1)

above_here : (x h : ℕ) (xs : List Held) → x ≡ h → MappingsAbove x xs → HasNoMapping h xs
above_here x h xs e a = above_absent h xs (rw (← e) a)

head_differs : (h : ℕ) (x : Held) (xs : List Held) (i : ℕ) → MappingsAscend (x ∷ xs) → IsMappingAt h (x ∷ xs) (suc i) → x.handle ≢ h
head_differs h x xs i a p e = let l = p.0 in let g = above_at x.handle xs a.0 i x (omega arith) in let k = p.1 x in absurd (omega arith)

pub id_found : (h : ℕ) (xs : List Held) (i : ℕ) → MappingsAscend xs → IsMappingAt h xs i → (d : Held) → id_at h (live_mappings xs) ≡ (get_or xs i d).id
id_found h [] i a p d = let l = p.0 in absurd (omega arith)
id_found h (x ∷ xs) zero a p d = id_here x.handle h x.id (live_mappings xs) (p.1 d) (no_id h xs (above_here x.handle h xs (p.1 d) a.0))
id_found h (x ∷ xs) (suc i) a p d = skip_id x.handle h x.id (live_mappings xs) (head_differs h x xs i a p) ∙ id_found h xs i a.1 (at_tail h x xs i p) d

abbrev pub forgotten : Held → Held
forgotten x = record x { id = None }

pub left_live : (h : ℕ) (xs : List Held) (i : ℕ) → MappingsAscend xs → IsMappingAt h xs i → (d : Held) → live_mappings (set xs i (forgotten (get_or xs i d))) ≡ unmapped h (live_mappings xs)
left_live h [] i a p d = let l = p.0 in absurd (omega arith)
left_live h (x ∷ xs) zero a p d = sym (unmapped_here x.handle h x.id (live_mappings xs) (p.1 d) (none_unmapped h xs (above_here x.handle h xs (p.1 d) a.0)))
left_live h (x ∷ xs) (suc i) a p d =
    ap (mapping_if x.handle x.id) (left_live h xs i a.1 (at_tail h x xs i p) d) ∙ sym (skip_unmapped x.handle h x.id (live_mappings xs) (head_differs h x xs i a p))

above_set : (y : ℕ) (xs : List Held) (i : ℕ) (d : Held) → MappingsAbove y xs → MappingsAbove y (set xs i (forgotten (get_or xs i d)))
above_set y [] i d a = a
above_set y (x ∷ xs) zero d a = a
above_set y (x ∷ xs) (suc i) d a = (a.0, above_set y xs i d a.1)

pub ascend_set : (xs : List Held) (i : ℕ) (d : Held) → MappingsAscend xs → MappingsAscend (set xs i (forgotten (get_or xs i d)))
ascend_set [] i d a = a
ascend_set (x ∷ xs) zero d a = a
ascend_set (x ∷ xs) (suc i) d a = (above_set x.handle xs i d a.0, ascend_set xs i d a.1)

-- ---- at the end

above_push : (y : ℕ) (xs : List Held) (x : Held) → MappingsAbove y xs → y < x.handle → MappingsAbove y (xs ++ x ∷ [])
above_push y [] x a l = (l, tt)
above_push y (z ∷ zs) x a l = (a.0, above_push y zs x a.1 l)

pub ascend_push : (xs : List Held) (x : Held) → MappingsAscend xs → AllUnder xs x.handle → MappingsAscend (xs ++ x ∷ [])
ascend_push [] x a u = (tt, tt)
ascend_push (y ∷ ys) x a u = (above_push y.handle ys x a.0 u.0, ascend_push ys x a.1 u.1)

mapping_append : (h : ℕ) (o : Option NotificationId) (ms ns : List Mapping) → mapping_if h o (ms ++ ns) ≡ mapping_if h o ms ++ ns
mapping_append h None ms ns = refl
mapping_append h (Some id) ms ns = refl

pub live_push : (xs : List Held) (x : Held) → live_mappings (xs ++ x ∷ []) ≡ live_mappings xs ++ mapping_if x.handle x.id []
live_push [] x = refl
live_push (y ∷ ys) x = ap (mapping_if y.handle y.id) (live_push ys x) ∙ mapping_append y.handle y.id (live_mappings ys) (mapping_if x.handle x.id [])

pub under_at : (h : ℕ) (xs : List Held) → AllUnder xs h → (i : ℕ) (d : Held) → i < length xs → (get_or xs i d).handle < h
under_at h [] a i d l = absurd (omega arith)
under_at h (x ∷ xs) a zero d l = a.0
under_at h (x ∷ xs) a (suc i) d l = under_at h xs a.1 i d (omega arith)

pub last_under : (h : ℕ) (xs : List Held) (n : ℕ) (d : Held) → suc n ≡ length xs → MappingsAscend xs → (get_or xs n d).handle < h → AllUnder xs h
last_under h [] n d e a l = tt
last_under h (x ∷ []) zero d e a l = (l, tt)
last_under h (x ∷ []) (suc n) d e a l = absurd (omega arith)
last_under h (x ∷ y ∷ ys) zero d e a l = absurd (omega arith)
last_under h (x ∷ y ∷ ys) (suc n) d e a l =
    let g = above_at x.handle (y ∷ ys) a.0 n d (omega arith) in
    (omega arith, last_under h (y ∷ ys) n d (omega arith) a.1 l)

pub equal_is : (a b : ℕ) → nat_cmp a b ≡ Equal → a ≡ b
equal_is a b e = Lookups.exact_unsigned a b e

-- ---- handles that don't ascend, one by one

unmapped_first : (h : ℕ) (m : Mapping) (ms : List Mapping) → m.handle ≡ h → unmapped h (m ∷ ms) ≡ ms
unmapped_first h m ms e = grind (arith, nat_tests)

pub unmapped_at : (h : ℕ) (ms : List Mapping) (i : ℕ) (m : Mapping) → i < length ms → m ≡ get_or ms i m → m.handle ≡ h
    → unmapped h ms ≡ take i ms ++ unmapped h (drop i ms) → take i ms ++ drop (i + 1) ms ≡ unmapped h ms
unmapped_at h ms i m l e k s =
    sym (s ∙ ap (λ t. take i ms ++ t) (ap (unmapped h) (from_place ms i m l e) ∙ unmapped_first h m (drop (i + 1) ms) k))

-- ---- those that ascend and the others

by_test : (h : ℕ) (m : Mapping) (b : Bool) (one both other : Option NotificationId) → both ≡ option_or one other → cond b (Some m.id) both ≡ option_or (cond b (Some m.id) one) other
by_test h m true one both other e = refl
by_test h m false one both other e = e

pub id_append : (h : ℕ) (ms ns : List Mapping) → id_at h (ms ++ ns) ≡ option_or (id_at h ms) (id_at h ns)
id_append h [] ns = refl
id_append h (m ∷ ms) ns = by_test h m (m.handle == h) (id_at h ms) (id_at h (ms ++ ns)) (id_at h ns) (id_append h ms ns)

-- a handle among the first
pub first_found : (h : ℕ) (ms ns : List Mapping) (id : NotificationId) → Some id ≡ id_at h ms → Some id ≡ id_at h (ms ++ ns)
first_found h ms ns id e = sym (id_append h ms ns ∙ ap (λ o. option_or o (id_at h ns)) (sym e))

-- a handle that isn't
pub other_found : (h : ℕ) (ms ns : List Mapping) (o : Option NotificationId) → None ≡ id_at h ms → o ≡ id_at h ns → o ≡ id_at h (ms ++ ns)
other_found h ms ns o n e = e ∙ sym (id_append h ms ns ∙ ap (λ z. option_or z (id_at h ns)) (sym n))

first_by : (m : Mapping) (b : Bool) (o : Option NotificationId) (ms ns us vs : List Mapping) → (is_some o ≡ true → us ≡ vs ++ ns) → is_some (cond b (Some m.id) o) ≡ true → cond b (ms ++ ns) (m ∷ us) ≡ cond b ms (m ∷ vs) ++ ns
first_by m true o ms ns us vs before e = refl
first_by m false o ms ns us vs before e = ap (λ z. m ∷ z) (before e)

-- one of the first is forgotten
pub first_unmapped : (h : ℕ) (ms ns : List Mapping) → is_some (id_at h ms) ≡ true → unmapped h (ms ++ ns) ≡ unmapped h ms ++ ns
first_unmapped h [] ns e = cc
first_unmapped h (m ∷ ms) ns e = first_by m (m.handle == h) (id_at h ms) ms ns (unmapped h (ms ++ ns)) (unmapped h ms) (first_unmapped h ms ns) e

other_by : (m : Mapping) (b : Bool) (o : Option NotificationId) (ms ns us vs ws : List Mapping) → (is_some o ≡ false → us ≡ ws ++ vs) → is_some (cond b (Some m.id) o) ≡ false
    → cond b (ms ++ ns) (m ∷ us) ≡ cond b ms (m ∷ ws) ++ vs
other_by m true o ms ns us vs ws before e = cc
other_by m false o ms ns us vs ws before e = ap (λ z. m ∷ z) (before e)

-- one of the others is forgotten
pub other_unmapped : (h : ℕ) (ms ns : List Mapping) → is_some (id_at h ms) ≡ false → unmapped h (ms ++ ns) ≡ unmapped h ms ++ unmapped h ns
other_unmapped h [] ns e = refl
other_unmapped h (m ∷ ms) ns e = other_by m (m.handle == h) (id_at h ms) ms ns (unmapped h (ms ++ ns)) (unmapped h ns) (unmapped h ms) (other_unmapped h ms ns) e

-- ---- the places of forgotten handles are dropped

-- whether a handle still stands for an id
abbrev pub is_held : Held → Bool
is_held x = is_some x.id

above_kept_at : (y : ℕ) (x : Held) (xs ys : List Held) (b : Bool) → y < x.handle → MappingsAbove y ys → MappingsAbove y (cond b (x ∷ ys) ys)
above_kept_at y x xs ys true l a = (l, a)
above_kept_at y x xs ys false l a = a

above_kept : (y : ℕ) (xs : List Held) → MappingsAbove y xs → MappingsAbove y (filter is_held xs)
above_kept y [] a = a
above_kept y (x ∷ xs) a = above_kept_at y x xs (filter is_held xs) (is_held x) a.0 (above_kept y xs a.1)

ascend_kept_at : (x : Held) (ys : List Held) (b : Bool) → MappingsAbove x.handle ys → MappingsAscend ys → MappingsAscend (cond b (x ∷ ys) ys)
ascend_kept_at x ys true above a = (above, a)
ascend_kept_at x ys false above a = a

pub ascend_kept : (xs : List Held) → MappingsAscend xs → MappingsAscend (filter is_held xs)
ascend_kept [] a = a
ascend_kept (x ∷ xs) a = ascend_kept_at x (filter is_held xs) (is_held x) (above_kept x.handle xs a.0) (ascend_kept xs a.1)

live_kept_at : (h : ℕ) (o : Option NotificationId) (ys : List Held) (ms : List Mapping) → live_mappings ys ≡ ms
    → live_mappings (cond (is_some o) ((let x : Held = record { handle = h; id = o } in x) ∷ ys) ys) ≡ mapping_if h o ms
live_kept_at h None ys ms e = e
live_kept_at h (Some id) ys ms e = ap (λ (ns : List Mapping). record { handle = h; id = id } ∷ ns) e

pub live_kept : (xs : List Held) → live_mappings (filter is_held xs) ≡ live_mappings xs
live_kept [] = refl
live_kept (x ∷ xs) = live_kept_at x.handle x.id (filter is_held xs) (live_mappings xs) (live_kept xs)
