-- The keys that have a value.
use Rattle.std.proofs.Common.{◌≡◌, ℕ, Bool, true, false, cond, ◌||◌, List, [], ◌∷◌, Option, Some, None, refl, ap, ◌∙◌}
use Rattle.std.specs.declared.cmp.Ordering.TheVariants.{Less}
use Rattle.std.specs.Ordering.{is_eq}
use Rattle.std.specs.List.{AllByRecursion}
use Rattle.std.specs.List.Sorted.{IsStrictlySortedBy}
use Rattle.std.specs.Map.{keys_of}
use Rattle.vm_state.specs.declared.state_map.StateCoverage.TheVariants.{Complete}
use Rattle.vm_state.specs.Entries.{IsInOrder, by_bytes, entry_of, is_key_among, keys_with_value}
use Rattle.vm_state.specs.States.{has_value, known_by}
use Rattle.vm_state.proofs.Changes.{key_at}

-- of the keys after a key, those that have a value
some_behind : (k : List ℕ) (es : List (List ℕ × Option (List ℕ))) → AllByRecursion (λ y. by_bytes k y ≡ Less) (keys_of es) → AllByRecursion (λ y. by_bytes k y ≡ Less) (keys_with_value es)
some_behind k [] behind = tt
some_behind k ((y, None) ∷ es) behind = some_behind k es behind.1
some_behind k ((y, Some value) ∷ es) behind = (behind.0, some_behind k es behind.1)

pub keys_in_order : (es : List (List ℕ × Option (List ℕ))) → IsInOrder es → IsStrictlySortedBy by_bytes (keys_with_value es)
unfolding IsStrictlySortedBy
keys_in_order [] ordered = tt
keys_in_order ((k, None) ∷ es) ordered = keys_in_order es ordered.1
keys_in_order ((k, Some value) ∷ es) ordered = (some_behind k es ordered.0, keys_in_order es ordered.1)

-- a key is not among later ones
not_behind : (k : List ℕ) (ks : List (List ℕ)) → AllByRecursion (λ y. by_bytes k y ≡ Less) ks → is_key_among k ks ≡ false
not_behind k [] behind = refl
not_behind k (y ∷ ys) behind = ap (λ r. is_eq r || is_key_among k ys) behind.0 ∙ not_behind k ys behind.1

-- a key is listed just where it has a value
pub key_listed : (es : List (List ℕ × Option (List ℕ))) → IsInOrder es → (key : List ℕ) → is_key_among key (keys_with_value es) ≡ has_value (known_by Complete (entry_of key es))
unfolding IsStrictlySortedBy
key_listed [] ordered key = refl
key_listed ((k, None) ∷ es) ordered key = by_test (is_eq (by_bytes key k)) refl (key_listed es ordered.1 key)
  where
    by_test : (b : Bool) → is_eq (by_bytes key k) ≡ b → is_key_among key (keys_with_value es) ≡ has_value (known_by Complete (entry_of key es))
        → is_key_among key (keys_with_value es) ≡ has_value (known_by Complete (cond b (Some None) (entry_of key es)))
    by_test true is behind = ap (λ x. is_key_among x (keys_with_value es)) (key_at key k is) ∙ not_behind k (keys_with_value es) (some_behind k es ordered.0)
    by_test false is behind = behind
key_listed ((k, Some value) ∷ es) ordered key = by_test (is_eq (by_bytes key k)) (key_listed es ordered.1 key)
  where
    by_test : (b : Bool) → is_key_among key (keys_with_value es) ≡ has_value (known_by Complete (entry_of key es))
        → (b || is_key_among key (keys_with_value es)) ≡ has_value (known_by Complete (cond b (Some (Some value)) (entry_of key es)))
    by_test true behind = refl
    by_test false behind = behind
