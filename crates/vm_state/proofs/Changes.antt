-- What the changes of the state leave, key by key.
use Rattle.std.proofs.Common.{◌≡◌, ℕ, Bool, true, false, cond, List, [], ◌∷◌, ◌++◌, Option, Some, None, refl, sym, ap, ◌∙◌}
use Rattle.std.specs.declared.cmp.Ordering.{Ordering}
use Rattle.std.specs.declared.cmp.Ordering.TheVariants.{Less, Equal, Greater}
use Rattle.std.specs.Ordering.{is_eq, match_ordering, ordering_reverse}
use Rattle.std.specs.Cmp.Lexicographic.{bytes_decides, texts_ties, nat_list_cmp_total}
use Rattle.std.specs.List.{AllByRecursion, fold}
use Rattle.std.specs.List.Sorted.{IsStrictlySortedBy}
use Rattle.std.specs.Map.{keys_of}
use Rattle.std.proofs.lemmas.Bool.{cond-false, cond-true}
use Rattle.std.proofs.lemmas.List.Sums.{fold_push}
use Rattle.vm_state.specs.declared.state_map.StateCoverage.{StateCoverage}
use Rattle.vm_state.specs.declared.state_map.Known.TheVariants.{Empty, Value}
use Rattle.vm_state.specs.declared.state_map.StateMap.{StateMap}
use Rattle.vm_state.specs.Entries.{IsInOrder, by_bytes, entries_of, entry_of, with_entry}
use Rattle.vm_state.specs.States.{value_known, known_by, state_set, state_cleared}

-- a key is where it is
at_itself : (key : List ℕ) → is_eq (by_bytes key key) ≡ true
at_itself key = sym (texts_ties key key) ∙ (bytes_decides key key).1 refl

is_false : (b : Bool) → (b ≡ true → ⊥) → b ≡ false
is_false true h = absurd (h refl)
is_false false h = refl

-- another key is not there
not_at : (key other : List ℕ) → (other ≡ key → ⊥) → is_eq (by_bytes other key) ≡ false
not_at key other differs = is_false _ (λ e. differs ((bytes_decides other key).0 (texts_ties other key ∙ e)))

-- a key that is there is that one
pub key_at : (key other : List ℕ) → is_eq (by_bytes key other) ≡ true → key ≡ other
key_at key other e = (bytes_decides key other).0 (texts_ties key other ∙ e)

-- the entry that a key got
its_own : (key : List ℕ) (value : Option (List ℕ)) (es : List (List ℕ × Option (List ℕ))) → entry_of key (with_entry key value es) ≡ Some value
its_own key value [] = cond-true _ _ _ (at_itself key)
its_own key value (e ∷ es) = by_place (by_bytes key e.0) refl (its_own key value es)
  where
    by_place : (r : Ordering) → by_bytes key e.0 ≡ r → entry_of key (with_entry key value es) ≡ Some value
        → entry_of key (match_ordering r ((key, value) ∷ e ∷ es) ((e.0, value) ∷ es) (e ∷ with_entry key value es)) ≡ Some value
    by_place Less is behind = cond-true _ _ _ (at_itself key)
    by_place Equal is behind = cond-true _ _ _ (ap is_eq is)
    by_place Greater is behind = cond-false _ _ _ (ap is_eq is) ∙ behind

-- the entries of the other keys
of_another : (key other : List ℕ) (value : Option (List ℕ)) (es : List (List ℕ × Option (List ℕ))) → (other ≡ key → ⊥) → entry_of other (with_entry key value es) ≡ entry_of other es
of_another key other value [] differs = cond-false _ _ _ (not_at key other differs)
of_another key other value (e ∷ es) differs = by_place (by_bytes key e.0) refl (of_another key other value es differs)
  where
    by_place : (r : Ordering) → by_bytes key e.0 ≡ r → entry_of other (with_entry key value es) ≡ entry_of other es
        → entry_of other (match_ordering r ((key, value) ∷ e ∷ es) ((e.0, value) ∷ es) (e ∷ with_entry key value es)) ≡ entry_of other (e ∷ es)
    by_place Less is behind = cond-false _ _ _ (not_at key other differs)
    by_place Equal is behind =
        let apart = not_at e.0 other (λ same. differs (same ∙ sym (key_at key e.0 (ap is_eq is)))) in
        cond-false _ _ _ apart ∙ sym (cond-false _ _ _ apart)
    by_place Greater is behind = ap (λ rest. cond (is_eq (by_bytes other e.0)) (Some e.1) rest) behind

pub known_set : (key value : List ℕ) (s : StateMap) → value_known key (state_set key value s) ≡ Value value
known_set key value s = ap (known_by s.coverage) (its_own key (Some value) s.entries)

pub known_besides_set : (key other value : List ℕ) (s : StateMap) → (other ≡ key → ⊥) → value_known other (state_set key value s) ≡ value_known other s
known_besides_set key other value s differs = ap (known_by s.coverage) (of_another key other (Some value) s.entries differs)

pub known_cleared : (key : List ℕ) (s : StateMap) → value_known key (state_cleared key s) ≡ Empty
known_cleared key s = ap (known_by s.coverage) (its_own key None s.entries)

pub known_besides_cleared : (key other : List ℕ) (s : StateMap) → (other ≡ key → ⊥) → value_known other (state_cleared key s) ≡ value_known other s
known_besides_cleared key other s differs = ap (known_by s.coverage) (of_another key other None s.entries differs)

-- keys after a key stay after it, with one more that is after it
stays_behind : (k key : List ℕ) (value : Option (List ℕ)) (es : List (List ℕ × Option (List ℕ))) → by_bytes k key ≡ Less
    → AllByRecursion (λ y. by_bytes k y ≡ Less) (keys_of es) → AllByRecursion (λ y. by_bytes k y ≡ Less) (keys_of (with_entry key value es))
stays_behind k key value [] less behind = (less, tt)
stays_behind k key value (e ∷ es) less behind = by_place (by_bytes key e.0) (stays_behind k key value es less behind.1)
  where
    by_place : (r : Ordering) → AllByRecursion (λ y. by_bytes k y ≡ Less) (keys_of (with_entry key value es))
        → AllByRecursion (λ y. by_bytes k y ≡ Less) (keys_of (match_ordering r ((key, value) ∷ e ∷ es) ((e.0, value) ∷ es) (e ∷ with_entry key value es)))
    by_place Less more = (less, behind)
    by_place Equal more = behind
    by_place Greater more = (behind.0, more)

-- what is after a key is after an earlier one
further : (key k : List ℕ) (ks : List (List ℕ)) → by_bytes key k ≡ Less → AllByRecursion (λ y. by_bytes k y ≡ Less) ks → AllByRecursion (λ y. by_bytes key y ≡ Less) ks
further key k [] less behind = tt
further key k (y ∷ ys) less behind = (nat_list_cmp_total.trans key k y less behind.0, further key k ys less behind.1)

pub stays_in_order : (key : List ℕ) (value : Option (List ℕ)) (es : List (List ℕ × Option (List ℕ))) → IsInOrder es → IsInOrder (with_entry key value es)
unfolding IsStrictlySortedBy
stays_in_order key value [] ordered = (tt, tt)
stays_in_order key value (e ∷ es) ordered = by_place (by_bytes key e.0) refl (stays_in_order key value es ordered.1)
  where
    by_place : (r : Ordering) → by_bytes key e.0 ≡ r → IsInOrder (with_entry key value es)
        → IsInOrder (match_ordering r ((key, value) ∷ e ∷ es) ((e.0, value) ∷ es) (e ∷ with_entry key value es))
    by_place Less is more = ((is, further key e.0 (keys_of es) is ordered.0), ordered)
    by_place Equal is more = ordered
    by_place Greater is more = (stays_behind e.0 key value es (nat_list_cmp_total.antisymm e.0 key ∙ ap ordering_reverse is) ordered.0, more)

-- one more pair
pair_more : (key value : List ℕ) (pairs : List (List ℕ × List ℕ)) → entries_of (pairs ++ (key, value) ∷ []) ≡ with_entry key (Some value) (entries_of pairs)
pair_more key value pairs = fold_push (λ es p. with_entry p.0 (Some p.1) es) [] pairs (key, value)

pub known_last : (key value : List ℕ) (pairs : List (List ℕ × List ℕ)) (c : StateCoverage) → value_known key (record { entries = entries_of (pairs ++ (key, value) ∷ []); coverage = c }) ≡ Value value
known_last key value pairs c =
    ap (λ es. known_by c (entry_of key es)) (pair_more key value pairs) ∙ ap (known_by c) (its_own key (Some value) (entries_of pairs))

pub known_besides_last : (key other value : List ℕ) (pairs : List (List ℕ × List ℕ)) (c : StateCoverage) → (other ≡ key → ⊥)
    → value_known other (record { entries = entries_of (pairs ++ (key, value) ∷ []); coverage = c }) ≡ value_known other (record { entries = entries_of pairs; coverage = c })
known_besides_last key other value pairs c differs =
    ap (λ es. known_by c (entry_of other es)) (pair_more key value pairs) ∙ ap (known_by c) (of_another key other (Some value) (entries_of pairs) differs)

pub pairs_in_order : (pairs : List (List ℕ × List ℕ)) → IsInOrder (entries_of pairs)
unfolding IsStrictlySortedBy
pairs_in_order pairs = from [] pairs tt
  where
    from : (es : List (List ℕ × Option (List ℕ))) (ps : List (List ℕ × List ℕ)) → IsInOrder es → IsInOrder (fold (λ es p. with_entry p.0 (Some p.1) es) es ps)
    from es [] ordered = ordered
    from es (p ∷ ps) ordered = from (with_entry p.0 (Some p.1) es) ps (stays_in_order p.0 (Some p.1) es ordered)
