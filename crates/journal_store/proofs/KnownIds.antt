-- What is known of ids, as commands carry them and notifications complete them.
use Rattle.std.proofs.Common.{◌≡◌, ℕ, Bool, true, false, List, [], Option, Some, None, refl, sym, ap, ◌∙◌, subst, arith}
use Rattle.std.specs.Prelude.{◌==◌, ◌||◌, if◌then◌else◌, cond}
use Rattle.std.specs.Option.{option_or, unwrap_or}
use Rattle.std.specs.Ordering.{nat_cmp, eq_by_cmp}
use Rattle.std.specs.Cmp.{nat_cmp_total, eq_by_cmp_equiv}
use Rattle.std.specs.Map.{lookup, keys_of}
use Rattle.std.specs.BTreeMap.{BTreeMap, InsertsAll, IsOrdered, get, is_at}
use Rattle.std.proofs.lemmas.Bool.Decides.{nat_tests}
use Rattle.std.proofs.lemmas.Map.Made.{update_all_distinct}
use Rattle.std.proofs.lemmas.Map.Keys.{IsDistinct-from_sorted}
use Rattle.journal_entries.specs.declared.completions.Completes.{Completes}
use Rattle.journal_entries.specs.Arrivals.{if_same}
use Rattle.journal_store.specs.declared.known.Known.{Known}
use Rattle.journal_store.specs.Ids.{Changes, Seen, known_kept, known_now}
use Rattle.journal_store.specs.Known.{IsKnownAs, carried_as, as_completed, nothing_known}

-- ---- one id

-- a number is found where it stands
pub found_at : (k q : ℕ) → is_at (nat_cmp k) q ≡ (k == q)
found_at k q = grind (arith, nat_tests)

same_number : (k q : ℕ) → (k == q) ≡ true → k ≡ q
same_number k q e = grind (arith, nat_tests)

changed_by : (k q : ℕ) (b : Bool) (change : Known → Known) (old : ℕ → Known) (o : Option Known) (kept : Known) → (k == q) ≡ b → unwrap_or o kept ≡ old q
    → unwrap_or (cond b (Some (change (old k))) o) kept ≡ (if b then change (old q) else old q)
changed_by k q true change old o kept e is = ap (λ i. change (old i)) (same_number k q e)
changed_by k q false change old o kept e is = is

-- an entry of the map takes the place of the one before
pub changes : (k : ℕ) (change : Known → Known) (v : Known) (kept : List (ℕ × Known)) (m n : BTreeMap ℕ Known) → v ≡ change (known_now (record { kept = kept; since = m.entries }) k)
    → ((q : ℕ) → get nat_cmp n q ≡ cond (is_at (nat_cmp k) q) (Some v) (get nat_cmp m q)) → Changes k change (record { kept = kept; since = m.entries }) (record { kept = kept; since = n.entries })
changes k change v kept m n is h q =
    let old : ℕ → Known = known_now (record { kept = kept; since = m.entries }) in
    let before : Known = unwrap_or (lookup (is_at (nat_cmp q)) kept) nothing_known in
    ap (λ o. unwrap_or o before) (h q ∙ ap (λ b. cond b (Some v) (get nat_cmp m q)) (found_at k q) ∙ ap (λ w. cond (k == q) (Some w) (get nat_cmp m q)) is)
    ∙ changed_by k q (k == q) change old (get nat_cmp m q) before refl refl

-- ---- what is said of it

carried_here : (b : Bool) (kind : Completes) (before : Option Completes) (done : Bool) (known new : Known) → new ≡ (if b then carried_as kind known else known) → IsKnownAs before done known
    → IsKnownAs (if_same b kind before) done new
carried_here true kind before done known new e s = record { kind = ap (λ (k : Known). k.kind) e; done = ap (λ (k : Known). k.done) e ∙ s.done }
carried_here false kind before done known new e s = record { kind = ap (λ (k : Known). k.kind) e ∙ s.kind; done = ap (λ (k : Known). k.done) e ∙ s.done }

pub carried_says : (k : ℕ) (kind : Completes) (old new : Seen) → Changes k (carried_as kind) old new → (id : ℕ) (before : Option Completes) (done : Bool) → IsKnownAs before done (known_now old id)
    → IsKnownAs (if_same (k == id) kind before) done (known_now new id)
carried_says k kind old new h id before done s = carried_here (k == id) kind before done (known_now old id) (known_now new id) (h id) s

or_true : (b : Bool) → (b || true) ≡ true
or_true true = refl
or_true false = refl

or_false : (b : Bool) → (b || false) ≡ b
or_false true = refl
or_false false = refl

completed_here : (b : Bool) (before : Option Completes) (done : Bool) (known new : Known) → new ≡ (if b then as_completed known else known) → IsKnownAs before done known → IsKnownAs before (done || b) new
completed_here true before done known new e s = record { kind = ap (λ (k : Known). k.kind) e ∙ s.kind; done = ap (λ (k : Known). k.done) e ∙ sym (or_true done) }
completed_here false before done known new e s = record { kind = ap (λ (k : Known). k.kind) e ∙ s.kind; done = ap (λ (k : Known). k.done) e ∙ s.done ∙ sym (or_false done) }

pub completed_says : (k : ℕ) (old new : Seen) → Changes k as_completed old new → (id : ℕ) (before : Option Completes) (done : Bool) → IsKnownAs before done (known_now old id)
    → IsKnownAs before (done || (k == id)) (known_now new id)
completed_says k old new h id before done s = completed_here (k == id) before done (known_now old id) (known_now new id) (h id) s

pub same_says : (old new : Seen) → new ≡ old → (id : ℕ) (before : Option Completes) (done : Bool) → IsKnownAs before done (known_now old id) → IsKnownAs before (done || false) (known_now new id)
same_says old new e id before done s = subst (λ (w : Seen). IsKnownAs before (done || false) (known_now w id)) (sym e) (record { kind = s.kind; done = s.done ∙ sym (or_false done) })

-- ---- all of them

or_known : (a b : Option Known) (none : Known) → unwrap_or (option_or a b) none ≡ unwrap_or a (unwrap_or b none)
or_known None b none = refl
or_known (Some v) b none = refl

-- what was known since is kept
pub kept_all : (old since new : BTreeMap ℕ Known) → InsertsAll nat_cmp old since.entries new → IsOrdered nat_cmp since → (id : ℕ)
    → unwrap_or (lookup (is_at (nat_cmp id)) new.entries) nothing_known ≡ known_now (record { kept = old.entries; since = since.entries }) id
kept_all old since new all ordered id =
    ap (λ o. unwrap_or o nothing_known) (all.0 id ∙ update_all_distinct (eq_by_cmp_equiv nat_cmp_total) (eq_by_cmp nat_cmp) (λ x y. refl) (get nat_cmp old) since.entries id (IsDistinct-from_sorted nat_cmp (keys_of since.entries) ordered))
    ∙ or_known (lookup (is_at (nat_cmp id)) since.entries) (get nat_cmp old id) nothing_known

module _ (old since new rest : BTreeMap ℕ Known) (was : Seen) (is : record { kept = old.entries; since = since.entries } ≡ was) (all : InsertsAll nat_cmp old since.entries new) (ordered : IsOrdered nat_cmp since) where
  pub then_kept : (id : ℕ) → known_kept (record { kept = new.entries; since = rest.entries }) id ≡ known_now was id
  then_kept id = kept_all old since new all ordered id ∙ ap (λ (s : Seen). known_now s id) is

  pub then_now : rest.entries ≡ [] → (id : ℕ) → known_now (record { kept = new.entries; since = rest.entries }) id ≡ known_now was id
  then_now empty id = ap (λ (l : List (ℕ × Known)). known_now (record { kept = new.entries; since = l }) id) empty ∙ then_kept id
