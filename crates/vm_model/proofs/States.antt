-- The state that commands leave, and commands applied again over what they left.
use Rattle.std.proofs.Common.{◌≡◌, ◌⊎◌, ℕ, Bool, true, false, ◌||◌, List, [], ◌∷◌, ◌++◌, Option, Some, None, refl, sym, ap, ◌∙◌, inl, inr, ⊎_elim}
use Rattle.std.specs.Prelude.{nat_eq}
use Rattle.std.specs.declared.cmp.Ordering.{Ordering}
use Rattle.std.specs.declared.cmp.Ordering.TheVariants.{Less, Equal, Greater}
use Rattle.std.specs.Cmp.Lexicographic.{bytes_decides, nat_list_cmp_total, pointwise, texts_ties}
use Rattle.std.specs.List.{AllByRecursion}
use Rattle.std.specs.List.Sorted.{IsStrictlySortedBy}
use Rattle.std.specs.Ordering.{is_eq, ordering_reverse}
use Rattle.journal_protocol.specs.Message.{Message}
use Rattle.journal_protocol.specs.Message.TheVariants as message
use Rattle.vm_state.specs.declared.state_map.Known.TheVariants.{Unknown, Empty, Value}
use Rattle.vm_state.specs.declared.state_map.StateCoverage.{StateCoverage}
use Rattle.vm_state.specs.declared.state_map.StateCoverage.TheVariants.{Partial, Complete}
use Rattle.vm_state.specs.declared.state_map.StateMap.{StateMap}
use Rattle.vm_state.specs.Entries.{IsInOrder, by_bytes, entry_of, is_key_among, keys_with_value}
use Rattle.vm_state.specs.States.{has_value, keys_by, value_known, known_by, known_keys}
use Rattle.vm_state.proofs.Changes.{key_at, known_besides_cleared, known_besides_set, known_cleared, known_set, stays_in_order}
use Rattle.vm_state.proofs.Keys.{key_listed, keys_in_order}
use Rattle.vm_asks.specs.Requests.{changed}
use Rattle.vm_model.specs.Histories.{IsAllOf, IsTrueOf}
use Rattle.vm_model.specs.Moves.{changed_by}

pub changed_by-append : (cs ds : List Message) (g : StateMap) → changed_by (cs ++ ds) g ≡ changed_by ds (changed_by cs g)
changed_by-append [] ds g = refl
changed_by-append (c ∷ cs) ds g = changed_by-append cs ds (changed c g)

-- ---- what commands settle

-- a change settles what is seen of a state, or leaves it
abbrev Settles : {A : Type 0} → (StateMap → A) → (StateMap → StateMap) → Type 0
Settles {A} look f = ((x : A) × ((g : StateMap) → look (f g) ≡ x)) ⊎ ((g : StateMap) → look (f g) ≡ look g)

many_settle : {A : Type 0} (look : StateMap → A) → ((c : Message) → Settles look (changed c)) → (cs : List Message) → Settles look (changed_by cs)
many_settle look one [] = inr (λ g. refl)
many_settle {A} look one (c ∷ cs) =
    ⊎_elim
    (λ (h : (x : A) × ((g : StateMap) → look (changed_by cs g) ≡ x)). inl (h.0, λ g. h.1 (changed c g)))
    (λ (h : (g : StateMap) → look (changed_by cs g) ≡ look g).
    ⊎_elim
    (λ (k : (x : A) × ((g : StateMap) → look (changed c g) ≡ x)). inl (k.0, λ g. h (changed c g) ∙ k.1 g))
    (λ (k : (g : StateMap) → look (changed c g) ≡ look g). inr (λ g. h (changed c g) ∙ k g))
    (one c))
    (many_settle look one cs)

-- Commands applied again over what they left, and further ones: what is seen is as they left it, or as it was handed out.
abbrev Again : {A : Type 0} → (StateMap → A) → List Message → List Message → StateMap → StateMap → Type 0
Again look cs more base given =
    (look (changed_by (cs ++ more) given) ≡ look (changed_by (cs ++ more) base))
    ⊎ ((look (changed_by (cs ++ more) given) ≡ look given) × (look (changed_by (cs ++ more) base) ≡ look (changed_by cs base)))

again : {A : Type 0} (look : StateMap → A) → ((c : Message) → Settles look (changed c)) → (cs more : List Message) (base given : StateMap) → Again look cs more base given
again {A} look one cs more base given = rw (changed_by-append cs more given, changed_by-append cs more base) (
    ⊎_elim
    (λ (h : (x : A) × ((g : StateMap) → look (changed_by more g) ≡ x)). inl (h.1 (changed_by cs given) ∙ sym (h.1 (changed_by cs base))))
    (λ (h : (g : StateMap) → look (changed_by more g) ≡ look g).
    ⊎_elim
    (λ (k : (x : A) × ((g : StateMap) → look (changed_by cs g) ≡ x)). inl (h (changed_by cs given) ∙ k.1 given ∙ sym (h (changed_by cs base) ∙ k.1 base)))
    (λ (k : (g : StateMap) → look (changed_by cs g) ≡ look g). inr (h (changed_by cs given) ∙ k given, h (changed_by cs base)))
    (many_settle look one cs))
    (many_settle look one more))

-- two keys are one or not
one_key : {A : Type 0} (key other : List ℕ) → (key ≡ other → A) → ((key ≡ other → ⊥) → A) → A
one_key {A} key other f g = by_test (pointwise nat_eq key other) refl
  where
    by_test : (b : Bool) → pointwise nat_eq key other ≡ b → A
    by_test true e = f ((bytes_decides key other).0 e)
    by_test false e = g (λ same. absurd (let t = (bytes_decides key other).1 same in cc))

-- a command settles what is known of a key, or leaves it
key_settles : (key : List ℕ) (c : Message) → Settles (value_known key) (changed c)
key_settles key (message.SetState c) =
    one_key key c.key (λ same. inl (Value c.value, λ g. ap (λ k. value_known k (changed (message.SetState c) g)) same ∙ known_set c.key c.value g)) (λ differs. inr (λ g. known_besides_set c.key key c.value g differs))
key_settles key (message.ClearState c) =
    one_key key c.key (λ same. inl (Empty, λ g. ap (λ k. value_known k (changed (message.ClearState c) g)) same ∙ known_cleared c.key g)) (λ differs. inr (λ g. known_besides_cleared c.key key g differs))
key_settles key (message.ClearAllState c) = inl (Empty, λ g. refl)
key_settles key c = inr (λ g. refl)

-- and whether all keys are known
coverage_settles : (c : Message) → Settles (λ g. g.coverage) (changed c)
coverage_settles (message.ClearAllState c) = inl (Complete, λ g. refl)
coverage_settles c = inr (λ g. refl)

-- ---- the order of the entries

one_in_order : (c : Message) (g : StateMap) → IsInOrder g.entries → IsInOrder (changed c g).entries
unfolding IsStrictlySortedBy
one_in_order (message.SetState c) g h = stays_in_order c.key (Some c.value) g.entries h
one_in_order (message.ClearState c) g h = stays_in_order c.key None g.entries h
one_in_order (message.ClearAllState c) g h = tt
one_in_order c g h = h

pub many_in_order : (cs : List Message) (g : StateMap) → IsInOrder g.entries → IsInOrder (changed_by cs g).entries
many_in_order [] g h = h
many_in_order (c ∷ cs) g h = many_in_order cs (changed c g) (one_in_order c g h)

-- ---- lists of keys in order that have the same keys are one

at_itself : (key : List ℕ) → is_eq (by_bytes key key) ≡ true
at_itself key = sym (texts_ties key key) ∙ (bytes_decides key key).1 refl

not_behind : (k : List ℕ) (ks : List (List ℕ)) → AllByRecursion (λ y. by_bytes k y ≡ Less) ks → is_key_among k ks ≡ false
not_behind k [] behind = refl
not_behind k (y ∷ ys) behind = ap (λ r. is_eq r || is_key_among k ys) behind.0 ∙ not_behind k ys behind.1

further : (key k : List ℕ) (ks : List (List ℕ)) → by_bytes key k ≡ Less → AllByRecursion (λ y. by_bytes k y ≡ Less) ks → AllByRecursion (λ y. by_bytes key y ≡ Less) ks
further key k [] less behind = tt
further key k (y ∷ ys) less behind = (nat_list_cmp_total.trans key k y less behind.0, further key k ys less behind.1)

-- the first of the one is not before the other's
not_before : (x y : List ℕ) (xs ys : List (List ℕ)) → AllByRecursion (λ z. by_bytes y z ≡ Less) ys → ((k : List ℕ) → is_key_among k (x ∷ xs) ≡ is_key_among k (y ∷ ys)) → by_bytes x y ≡ Less → ⊥
not_before x y xs ys behind same less =
    let there : is_key_among x (x ∷ xs) ≡ true = ap (λ b. b || is_key_among x xs) (at_itself x) in
    let away : is_key_among x (y ∷ ys) ≡ false = not_behind x (y ∷ ys) (less, further x y ys less behind) in
    let e = same x in
    absurd (cc)

same_keys : (xs ys : List (List ℕ)) → IsStrictlySortedBy by_bytes xs → IsStrictlySortedBy by_bytes ys → ((k : List ℕ) → is_key_among k xs ≡ is_key_among k ys) → xs ≡ ys
unfolding IsStrictlySortedBy
same_keys [] [] a b same = refl
same_keys [] (y ∷ ys) a b same = absurd (let e = same y in let t : is_key_among y (y ∷ ys) ≡ true = ap (λ c. c || is_key_among y ys) (at_itself y) in cc)
same_keys (x ∷ xs) [] a b same = absurd (let e = same x in let t : is_key_among x (x ∷ xs) ≡ true = ap (λ c. c || is_key_among x xs) (at_itself x) in cc)
same_keys (x ∷ xs) (y ∷ ys) a b same = by_place (by_bytes x y) refl (same_keys xs ys a.1 b.1)
  where
    by_place : (r : Ordering) → by_bytes x y ≡ r → (((k : List ℕ) → is_key_among k xs ≡ is_key_among k ys) → xs ≡ ys) → x ∷ xs ≡ y ∷ ys
    by_place Less is rest = absurd (not_before x y xs ys b.0 same is)
    by_place Greater is rest = absurd (not_before y x ys xs a.0 (λ k. sym (same k)) (nat_list_cmp_total.antisymm y x ∙ ap ordering_reverse is))
    by_place Equal is rest =
        let one : x ≡ y = key_at x y (ap is_eq is) in
        let more : xs ≡ ys = rest (λ k. behind k (is_eq (by_bytes k x)) refl) in
        (λ i. one i ∷ more i)
      where
        behind : (k : List ℕ) (c : Bool) → is_eq (by_bytes k x) ≡ c → is_key_among k xs ≡ is_key_among k ys
        behind k true e =
            let here : k ≡ x = key_at k x e in
            let there : k ≡ y = here ∙ key_at x y (ap is_eq is) in
            (ap (λ z. is_key_among z xs) here ∙ not_behind x xs a.0) ∙ sym (ap (λ z. is_key_among z ys) there ∙ not_behind y ys b.0)
        behind k false e =
            let one : x ≡ y = key_at x y (ap is_eq is) in
            let e' : is_eq (by_bytes k y) ≡ false = ap (λ z. is_eq (by_bytes k z)) (sym one) ∙ e in
            sym (ap (λ c. c || is_key_among k xs) e) ∙ same k ∙ ap (λ c. c || is_key_among k ys) e'

-- ---- the keys that are known

-- whether all keys are known, by what is known of them
coverage_of : Option (List (List ℕ)) → StateCoverage
coverage_of None = Partial
coverage_of (Some keys) = Complete

covered : (c : StateCoverage) (keys : List (List ℕ)) → coverage_of (keys_by c keys) ≡ c
unfolding coverage_of
covered Partial keys = refl
covered Complete keys = refl

none_complete : coverage_of None ≡ Complete → ⊥
unfolding coverage_of
none_complete z = absurd (cc)

-- where all keys are known, no key is unknown
none_unknown : (g : StateMap) (key : List ℕ) → g.coverage ≡ Complete → value_known key g ≡ Unknown → ⊥
none_unknown g key all e = by_entry (entry_of key g.entries) (sym (ap (λ c. known_by c (entry_of key g.entries)) all) ∙ e)
  where
    by_entry : (o : Option (Option (List ℕ))) → known_by Complete o ≡ Unknown → ⊥
    by_entry None e = absurd (cc)
    by_entry (Some None) e = absurd (cc)
    by_entry (Some (Some value)) e = absurd (cc)

-- two states with each key known as in the other
pub one_key_list : (a b : StateMap) → IsInOrder a.entries → IsInOrder b.entries → a.coverage ≡ b.coverage → ((key : List ℕ) → value_known key a ≡ value_known key b) → known_keys a ≡ known_keys b
one_key_list a b in_a in_b same at = by_coverage a.coverage refl
  where
    by_coverage : (c : StateCoverage) → a.coverage ≡ c → known_keys a ≡ known_keys b
    by_coverage Partial is = ap (λ c. keys_by c (keys_with_value a.entries)) is ∙ sym (ap (λ c. keys_by c (keys_with_value b.entries)) (sym same ∙ is))
    by_coverage Complete is =
        let is' : b.coverage ≡ Complete = sym same ∙ is in
        let listed : (key : List ℕ) → is_key_among key (keys_with_value a.entries) ≡ is_key_among key (keys_with_value b.entries) = λ key.
        key_listed a.entries in_a key
        ∙ ap has_value (sym (ap (λ c. known_by c (entry_of key a.entries)) is) ∙ at key ∙ ap (λ c. known_by c (entry_of key b.entries)) is')
        ∙ sym (key_listed b.entries in_b key)
        in
        let one = same_keys (keys_with_value a.entries) (keys_with_value b.entries) (keys_in_order a.entries in_a) (keys_in_order b.entries in_b) listed in
        (λ i. keys_by (same i) (one i))

-- ---- what was handed out, with the commands applied again

pub all_again : (base given : StateMap) (cs more : List Message) → IsInOrder base.entries → IsAllOf (changed_by cs base) given → IsAllOf (changed_by (cs ++ more) base) (changed_by (cs ++ more) given)
all_again base given cs more ordered h =
    let then_given = changed_by (cs ++ more) given in
    let then_base = changed_by (cs ++ more) base in
    let in_order = many_in_order (cs ++ more) given h.in_order in
    let at : (key : List ℕ) → value_known key then_given ≡ value_known key then_base = λ key.
    ⊎_elim
    (λ (e : value_known key then_given ≡ value_known key then_base). e)
    (λ (e : (value_known key then_given ≡ value_known key given) × (value_known key then_base ≡ value_known key (changed_by cs base))). e.0 ∙ h.at key ∙ sym e.1)
    (again (value_known key) (key_settles key) cs more base given)
    in
    let one_coverage : given.coverage ≡ (changed_by cs base).coverage = sym (covered given.coverage (keys_with_value given.entries)) ∙ ap coverage_of h.keys ∙ covered (changed_by cs base).coverage (keys_with_value (changed_by cs base).entries) in
    let coverage : then_given.coverage ≡ then_base.coverage =
    ⊎_elim
    (λ (e : then_given.coverage ≡ then_base.coverage). e)
    (λ (e : (then_given.coverage ≡ given.coverage) × (then_base.coverage ≡ (changed_by cs base).coverage)). e.0 ∙ one_coverage ∙ sym e.1)
    (again (λ g. g.coverage) coverage_settles cs more base given)
    in
    record {
      in_order = in_order;
      at = at;
      keys = one_key_list then_given then_base in_order (many_in_order (cs ++ more) base ordered) coverage at;
    }

pub true_again : (base given : StateMap) (cs more : List Message) → IsInOrder base.entries → IsTrueOf (changed_by cs base) given → IsTrueOf (changed_by (cs ++ more) base) (changed_by (cs ++ more) given)
true_again base given cs more ordered h = record { in_order = in_order; at = at; keys = by_coverage (changed_by (cs ++ more) given).coverage refl }
  where
    in_order : IsInOrder (changed_by (cs ++ more) given).entries
    in_order = many_in_order (cs ++ more) given h.in_order

    at : (key : List ℕ) → (value_known key (changed_by (cs ++ more) given) ≡ Unknown) ⊎ (value_known key (changed_by (cs ++ more) given) ≡ value_known key (changed_by (cs ++ more) base))
    at key =
        ⊎_elim
        (λ (e : value_known key (changed_by (cs ++ more) given) ≡ value_known key (changed_by (cs ++ more) base)). inr e)
        (λ (e : (value_known key (changed_by (cs ++ more) given) ≡ value_known key given) × (value_known key (changed_by (cs ++ more) base) ≡ value_known key (changed_by cs base))).
        ⊎_elim (λ (u : value_known key given ≡ Unknown). inl (e.0 ∙ u)) (λ (u : value_known key given ≡ value_known key (changed_by cs base)). inr (e.0 ∙ u ∙ sym e.1)) (h.at key))
        (again (value_known key) (key_settles key) cs more base given)

    -- where all keys are known now, the base's are too
    all_there : (changed_by (cs ++ more) given).coverage ≡ Complete → (changed_by (cs ++ more) base).coverage ≡ Complete
    all_there is =
        ⊎_elim
        (λ (e : (changed_by (cs ++ more) given).coverage ≡ (changed_by (cs ++ more) base).coverage). sym e ∙ is)
        (λ (e : ((changed_by (cs ++ more) given).coverage ≡ given.coverage) × ((changed_by (cs ++ more) base).coverage ≡ (changed_by cs base).coverage)).
        let all : given.coverage ≡ Complete = sym e.0 ∙ is in
        let seen : coverage_of (known_keys given) ≡ Complete = covered given.coverage (keys_with_value given.entries) ∙ all in
        ⊎_elim
        (λ (u : known_keys given ≡ None). absurd (let z : coverage_of None ≡ Complete = ap coverage_of (sym u) ∙ seen in none_complete z))
        (λ (u : known_keys given ≡ known_keys (changed_by cs base)). e.1 ∙ sym (covered (changed_by cs base).coverage (keys_with_value (changed_by cs base).entries)) ∙ ap coverage_of (sym u) ∙ seen)
        h.keys)
        (again (λ g. g.coverage) coverage_settles cs more base given)

    by_coverage : (c : StateCoverage) → (changed_by (cs ++ more) given).coverage ≡ c → (known_keys (changed_by (cs ++ more) given) ≡ None) ⊎ (known_keys (changed_by (cs ++ more) given) ≡ known_keys (changed_by (cs ++ more) base))
    by_coverage Partial is = inl (ap (λ c. keys_by c (keys_with_value (changed_by (cs ++ more) given).entries)) is)
    by_coverage Complete is =
        inr (one_key_list (changed_by (cs ++ more) given) (changed_by (cs ++ more) base) in_order (many_in_order (cs ++ more) base ordered) (is ∙ sym (all_there is))
        (λ key. ⊎_elim (λ (u : value_known key (changed_by (cs ++ more) given) ≡ Unknown). absurd (none_unknown (changed_by (cs ++ more) given) key is u)) (λ (e : value_known key (changed_by (cs ++ more) given) ≡ value_known key (changed_by (cs ++ more) base)). e) (at key)))
