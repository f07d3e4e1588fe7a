-- An invocation that changes at its place; and the place of an id, which stays as invocations do.
use Rattle.std.proofs.Common.{◌≡◌, ℕ, ◌<◌, Bool, true, false, cond, ◌≤◌, List, [], ◌∷◌, length, Some, None, refl, sym, ap, ◌∙◌, arith}
use Rattle.std.specs.Prelude.{◌^◌, codes, nat_lt, slice_get, slice_index_or}
use Rattle.std.specs.Fmt.{decimal}
use Rattle.std.specs.Cmp.Lexicographic.{other_text, same_text}
use Rattle.std.proofs.lemmas.Fmt.{decimal_injective}
use Rattle.std.proofs.lemmas.List.{append_cancel_left}
use Rattle.std.specs.List.{position_or_len}
use Rattle.std.proofs.lemmas.List.Quantifiers.{position-Some}
use Rattle.std.proofs.lemmas.Bool.Decides.{nat_tests}
use Rattle.std.proofs.lemmas.List.Sums.{position_or_len_is}
use Rattle.std.proofs.lemmas.Option.{get_or_from_slice_get, slice_get-get_or, slice_get_within}
use Rattle.engines.specs.declared.engine.Invocation.{Invocation}
use Rattle.engines.specs.Engines.{ChangesOne}
use Rattle.engine_inboxes.specs.Targets.{is_text}
use Rattle.engines.specs.Lookups.{id_of_place, place_of}
use Rattle.engines.proofs.Among.{get_other, get_read, get_set}

-- ---- one that changes

pub before_at : {H : Type 0} (place : ℕ) (R : Invocation H → Invocation H → Type 0) (old new : List (Invocation H)) (c : ChangesOne place R old new) → slice_get old place ≡ Some c.before
before_at place R old new c = get_read old place c.before c.there c.is

pub after_at : {H : Type 0} (place : ℕ) (R : Invocation H → Invocation H → Type 0) (old new : List (Invocation H)) (c : ChangesOne place R old new) → slice_get new place ≡ Some c.after
after_at place R old new c = ap (λ l. slice_get l place) c.becomes ∙ get_set old place c.after c.there

pub others_at : {H : Type 0} (place : ℕ) (R : Invocation H → Invocation H → Type 0) (old new : List (Invocation H)) (c : ChangesOne place R old new) (k : ℕ) → (k ≡ place → ⊥) → slice_get new k ≡ slice_get old k
others_at place R old new c k ne = ap (λ l. slice_get l k) c.becomes ∙ get_other old place k c.after ne

-- ---- places

-- each invocation that was there is there, of the same id
abbrev pub SameIds : {H : Type 0} → List (Invocation H) → List (Invocation H) → Type 0
SameIds {H} old new = (i : ℕ) (it : Invocation H) → slice_get old i ≡ Some it → (it' : Invocation H) × (slice_get new i ≡ Some it') × (it'.id ≡ it.id)

less : (a b : ℕ) → a < b → nat_lt a b ≡ true
less a b lt = grind (arith, nat_tests)

-- so the first of an id stays the first
pub place_stays : {H : Type 0} (old new : List (Invocation H)) (id : List ℕ) (i : ℕ) → SameIds old new → place_of old id ≡ Some i → place_of new id ≡ Some i
place_stays [] new id i same is = absurd (cc)
place_stays {H} (y ∷ ys) new id i same is =
    let q : Invocation H → Bool = λ it. is_text it.id id in
    let s = position-Some q (y ∷ ys) i y is in
    let (first, there, alike) = same i (slice_index_or (y ∷ ys) i y) (slice_get-get_or (y ∷ ys) i y s.0) in
    let lt : i < length new = slice_get_within new i first there in
    let passes : q (slice_index_or new i first) ≡ true = ap q (get_or_from_slice_get new i first first there) ∙ ap (λ t. is_text t id) alike ∙ s.1 in
    let at : position_or_len q new ≡ i = position_or_len_is q new i first (omega (arith, lt)) (λ k below. fails s.0 s.2 first k below) (λ _. passes) in
    ap (λ n. cond (nat_lt n (length new)) (Some n) None) at ∙ ap (λ b. cond b (Some i) None) (less i (length new) lt)
  where
    fails : i < length (y ∷ ys) → ((k : ℕ) → k < i → is_text (slice_index_or (y ∷ ys) k y).id id ≡ false) → (d : Invocation H) (k : ℕ) → k < i → is_text (slice_index_or new k d).id id ≡ false
    fails inside none d k below =
        let (it, there, alike) = same k (slice_index_or (y ∷ ys) k y) (slice_get-get_or (y ∷ ys) k y (omega (arith, below, inside))) in
        ap (λ (z : Invocation H). is_text z.id id) (get_or_from_slice_get new k it d there) ∙ ap (λ t. is_text t id) alike ∙ none k below

-- ---- ids

text_itself : (a : List ℕ) → is_text a a ≡ true
text_itself a = by (is_text a a) refl
  where
    by : (b : Bool) → is_text a a ≡ b → is_text a a ≡ true
    by true e = e
    by false e = absurd (other_text a a (sym e) refl)

ids_apart : (a b : ℕ) → a < b → b < 2 ^ 64 → is_text (id_of_place a) (id_of_place b) ≡ false
ids_apart a b lt fits = by (is_text (id_of_place a) (id_of_place b)) refl
  where
    by : (z : Bool) → is_text (id_of_place a) (id_of_place b) ≡ z → is_text (id_of_place a) (id_of_place b) ≡ false
    by false e = e
    by true e =
        let digits : decimal a ≡ decimal b = append_cancel_left (codes "inv_") (decimal a) (decimal b) (same_text (id_of_place a) (id_of_place b) (sym e)) in
        let same : a ≡ b = decimal_injective a b (omega (arith, lt, fits)) fits digits in
        absurd (omega (arith, lt, same))

-- if each is named by its place, it is the first of its id
pub place_named : {H : Type 0} (its : List (Invocation H)) → ((k : ℕ) (x : Invocation H) → slice_get its k ≡ Some x → x.id ≡ id_of_place k) → length its ≤ 2 ^ 64 → (i : ℕ) (it : Invocation H) → slice_get its i ≡ Some it → place_of its it.id ≡ Some i
place_named {H} its named few i it there =
    let lt : i < length its = slice_get_within its i it there in
    let at : position_or_len (λ (x : Invocation H). is_text x.id it.id) its ≡ i = position_or_len_is (λ (x : Invocation H). is_text x.id it.id) its i it (omega (arith, lt)) fails (λ _. passes) in
    ap (λ n. cond (nat_lt n (length its)) (Some n) None) at ∙ ap (λ b. cond b (Some i) None) (less i (length its) lt)
  where
    passes : is_text (slice_index_or its i it).id it.id ≡ true
    passes = ap (λ (x : Invocation H). is_text x.id it.id) (get_or_from_slice_get its i it it there) ∙ text_itself it.id

    fails : (k : ℕ) → k < i → is_text (slice_index_or its k it).id it.id ≡ false
    fails k below =
        let inside : i < length its = slice_get_within its i it there in
        let id : (slice_index_or its k it).id ≡ id_of_place k = named k (slice_index_or its k it) (slice_get-get_or its k it (omega (arith, below, inside))) in
        ap (λ t. is_text t it.id) id ∙ ap (is_text (id_of_place k)) (named i it there) ∙ ids_apart k i below (omega (arith, inside, few))
