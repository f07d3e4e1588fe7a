-- The state after some commands, by the last of them that touches a key.
use Rattle.std.proofs.Common.{◌≡◌, ℕ, Bool, true, false, ◌||◌, List, [], ◌∷◌, Some, is_some, refl, sym, ap, ◌∙◌, subst}
use Rattle.std.specs.List.Sorted.{IsStrictlySortedBy}
use Rattle.std.proofs.lemmas.Option.{same_Some}
use Rattle.journal_protocol.specs.Message.{Message}
use Rattle.journal_protocol.specs.Message.TheVariants as message
use Rattle.vm_state.specs.declared.state_map.StateCoverage.{StateCoverage}
use Rattle.vm_state.specs.declared.state_map.StateCoverage.TheVariants.{Partial, Complete}
use Rattle.vm_state.specs.declared.state_map.StateMap.{StateMap}
use Rattle.vm_state.specs.Entries.{IsInOrder, by_bytes, entry_of, is_key_among, keys_with_value}
use Rattle.vm_state.specs.States.{has_value, keys_by, value_known, known_by, known_keys}
use Rattle.vm_state.proofs.Changes.{known_besides_cleared, known_besides_set, known_cleared, known_set}
use Rattle.vm_state.proofs.Keys.{key_listed, keys_in_order}
use Rattle.vm_asks.specs.Requests.{changed}
use Rattle.vm_model.specs.Moves.{changed_by}
use Rattle.vm_model.specs.SaidState.{AreKeysOf, IsLast, NoneTouches, Touches, clears_all, one_clears_all, says}
use Rattle.vm_model.proofs.Runs.{none_some}
use Rattle.vm_model.proofs.States.{changed_by-append, many_in_order}

-- what a command says of a key that it touches
one_says : (key : List ℕ) (m : Message) (g : StateMap) → Touches key m → value_known key (changed m g) ≡ says m
one_says key (message.SetState c) g same = ap (λ k. value_known k (changed (message.SetState c) g)) (sym same) ∙ known_set c.key c.value g
one_says key (message.ClearState c) g same = ap (λ k. value_known k (changed (message.ClearState c) g)) (sym same) ∙ known_cleared c.key g
one_says key (message.ClearAllState c) g h = refl
one_says key m g h = absurd h

-- what a command leaves of a key that it doesn't touch
one_leaves : (key : List ℕ) (m : Message) (g : StateMap) → (Touches key m → ⊥) → value_known key (changed m g) ≡ value_known key g
one_leaves key (message.SetState c) g other = known_besides_set c.key key c.value g (λ same. other (sym same))
one_leaves key (message.ClearState c) g other = known_besides_cleared c.key key g (λ same. other (sym same))
one_leaves key (message.ClearAllState c) g other = absurd (other tt)
one_leaves key m g other = refl

pub none_says : (key : List ℕ) (ms : List Message) (state : StateMap) → NoneTouches key ms → value_known key (changed_by ms state) ≡ value_known key state
none_says key [] state h = refl
none_says key (m ∷ ms) state h = none_says key ms (changed m state) h.1 ∙ one_leaves key m state h.0

pub last_says : (key : List ℕ) (m : Message) (ms : List Message) (state : StateMap) → IsLast key m ms → value_known key (changed_by ms state) ≡ says m
last_says key m ms state h =
    ap (λ l. value_known key (changed_by l state)) h.splits
    ∙ ap (value_known key) (changed_by-append h.before (m ∷ h.behind) state)
    ∙ none_says key h.behind (changed m (changed_by h.before state)) h.others
    ∙ one_says key m (changed_by h.before state) h.touches

-- ---- the keys

-- all keys are known just where the coverage is complete
keys_are_known : (g : StateMap) → is_some (known_keys g) ≡ is_some (keys_by g.coverage [])
keys_are_known g = by_coverage g.coverage
  where
    by_coverage : (c : StateCoverage) → is_some (keys_by c (keys_with_value g.entries)) ≡ is_some (keys_by c [])
    by_coverage Partial = refl
    by_coverage Complete = refl

or_true : (b : Bool) → (b || true) ≡ true
or_true true = refl
or_true false = refl

or_assoc : (a b c : Bool) → ((a || b) || c) ≡ (a || (b || c))
or_assoc true b c = refl
or_assoc false b c = refl

or_false : (b : Bool) → (b || false) ≡ b
or_false true = refl
or_false false = refl

one_known : (m : Message) (g : StateMap) → is_some (known_keys (changed m g)) ≡ (is_some (known_keys g) || clears_all m)
one_known (message.ClearAllState c) g = sym (or_true (is_some (known_keys g)))
one_known (message.SetState c) g = keys_are_known (changed (message.SetState c) g) ∙ sym (keys_are_known g) ∙ sym (or_false (is_some (known_keys g)))
one_known (message.ClearState c) g = keys_are_known (changed (message.ClearState c) g) ∙ sym (keys_are_known g) ∙ sym (or_false (is_some (known_keys g)))
one_known m g = sym (or_false (is_some (known_keys g)))

pub all_known : (ms : List Message) (state : StateMap) → is_some (known_keys (changed_by ms state)) ≡ (is_some (known_keys state) || one_clears_all ms)
all_known [] state = sym (or_false (is_some (known_keys state)))
all_known (m ∷ ms) state = all_known ms (changed m state) ∙ ap (λ b. b || one_clears_all ms) (one_known m state) ∙ or_assoc (is_some (known_keys state)) (clears_all m) (one_clears_all ms)

keys_are : (g : StateMap) (keys : List (List ℕ)) → IsInOrder g.entries → known_keys g ≡ Some keys → AreKeysOf g keys
keys_are g keys ordered e = by_coverage g.coverage refl e
  where
    by_coverage : (c : StateCoverage) → g.coverage ≡ c → keys_by c (keys_with_value g.entries) ≡ Some keys → AreKeysOf g keys
    by_coverage Partial is e = none_some e
    by_coverage Complete is e =
        let same = same_Some (keys_with_value g.entries) keys e in
        record {
          sorted = subst (IsStrictlySortedBy by_bytes) same (keys_in_order g.entries ordered);
          listed = λ key. ap (is_key_among key) (sym same) ∙ key_listed g.entries ordered key ∙ ap (λ c. has_value (known_by c (entry_of key g.entries))) (sym is);
        }

pub keys_said : (ms : List Message) (state : StateMap) (keys : List (List ℕ)) → IsInOrder state.entries → known_keys (changed_by ms state) ≡ Some keys → AreKeysOf (changed_by ms state) keys
keys_said ms state keys ordered e = keys_are (changed_by ms state) keys (many_in_order ms state ordered) e
