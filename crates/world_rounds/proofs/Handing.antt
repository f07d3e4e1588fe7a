-- What a round hands out is so, and where it isn't partial it is all.
use Rattle.std.proofs.Common.{◌≡◌, ◌⊎◌, ℕ, Bool, true, false, cond, List, [], ◌∷◌, Option, Some, None, refl, sym, ap, ◌∙◌, subst, inl, inr}
use Rattle.std.specs.Prelude.{if◌then◌else◌}
use Rattle.std.specs.Cmp.Lexicographic.{bytes_decides, texts_ties}
use Rattle.std.specs.declared.cmp.Ordering.TheVariants.{Less}
use Rattle.std.specs.List.{AllByRecursion, fold, list_all}
use Rattle.std.specs.List.Sorted.{IsStrictlySortedBy}
use Rattle.std.specs.Map.{keys_of}
use Rattle.std.specs.Ordering.{is_eq}
use Rattle.std.specs.Str.{is_utf8}
use Rattle.journal_protocol.specs.Message.{Message}
use Rattle.journal_protocol.specs.Message.TheVariants as message
use Rattle.vm_state.specs.declared.state_map.Known.{Known}
use Rattle.vm_state.specs.declared.state_map.Known.TheVariants.{Unknown, Empty, Value}
use Rattle.vm_state.specs.declared.state_map.StateCoverage.{StateCoverage}
use Rattle.vm_state.specs.declared.state_map.StateCoverage.TheVariants.{Partial, Complete}
use Rattle.vm_state.specs.declared.state_map.StateMap.{StateMap}
use Rattle.vm_state.specs.Entries.{IsInOrder, by_bytes, entries_of as state_entries, entry_of, with_entry}
use Rattle.vm_state.specs.States.{value_known, known_by}
use Rattle.vm_state.proofs.Changes.{key_at, known_besides_set, known_set, pairs_in_order}
use Rattle.vm_machine.specs.Inputs.{coverage_of, entries_in}
use Rattle.vm_asks.specs.Requests.{changed}
use Rattle.vm_model.specs.Histories.{IsAllOf, IsTrueOf}
use Rattle.vm_model.specs.Moves.{changed_by}
use Rattle.vm_model.proofs.States.{many_in_order, one_key_list}
use Rattle.world_rounds.specs.declared.types.Round.{Round}
use Rattle.world_rounds.specs.declared.types.Setting.{Setting}
use Rattle.journal_entries.specs.Entries.{said_in}
use Rattle.world_rounds.specs.States.{base_of, is_asked, pairs_in, state_after}

-- ---- one key

at_itself : (key : List ℕ) → is_eq (by_bytes key key) ≡ true
at_itself key = sym (texts_ties key key) ∙ (bytes_decides key key).1 refl

another : (key k : List ℕ) → is_eq (by_bytes key k) ≡ false → key ≡ k → ⊥
another key k h e = let t : true ≡ false = sym (ap (λ z. is_eq (by_bytes z k)) e ∙ at_itself k) ∙ h in absurd (cc)

-- a key has no entry among those of later keys
none_behind : (k : List ℕ) (es : List (List ℕ × Option (List ℕ))) → AllByRecursion (λ y. by_bytes k y ≡ Less) (keys_of es) → entry_of k es ≡ None
none_behind k [] h = refl
none_behind k (e ∷ es) h = ap (λ r. cond (is_eq r) (Some e.1) (entry_of k es)) h.0 ∙ none_behind k es h.1

none_at : (key k : List ℕ) (es : List (List ℕ × Option (List ℕ))) → is_eq (by_bytes key k) ≡ true → AllByRecursion (λ y. by_bytes k y ≡ Less) (keys_of es) → entry_of key es ≡ None
none_at key k es at h = ap (λ z. entry_of z es) (key_at key k at) ∙ none_behind k es h

-- a value that is asked for, or else what was known before
abbrev chosen : Bool → Known → Known → Known
chosen true (Value value) before = Value value
chosen true Empty before = before
chosen true Unknown before = before
chosen false k before = before

unchosen : (b : Bool) (before : Known) → chosen b Empty before ≡ before
unchosen true before = refl
unchosen false before = refl

-- pairs come over what stands, one after another
abbrev put_over : List (List ℕ × Option (List ℕ)) → List (List ℕ × List ℕ) → List (List ℕ × Option (List ℕ))
put_over es pairs = fold (λ entries p. with_entry p.0 (Some p.1) entries) es pairs

-- what is known of a key once the values that are asked for have come
abbrev KnownOver : (List ℕ → Bool) → StateCoverage → List ℕ → List (List ℕ × Option (List ℕ)) → List (List ℕ × Option (List ℕ)) → Type 0
KnownOver asked c key es before = known_by c (entry_of key (put_over before (pairs_in asked es))) ≡ chosen (asked key) (known_by Complete (entry_of key es)) (known_by c (entry_of key before))

over_none : (asked : List ℕ → Bool) (c : StateCoverage) (key k : List ℕ) (es before : List (List ℕ × Option (List ℕ))) → AllByRecursion (λ y. by_bytes k y ≡ Less) (keys_of es) → KnownOver asked c key es before → KnownOver asked c key ((k, None) ∷ es) before
over_none asked c key k es before later h = by_test (is_eq (by_bytes key k)) refl
  where
    by_test : (b : Bool) → is_eq (by_bytes key k) ≡ b → known_by c (entry_of key (put_over before (pairs_in asked es))) ≡ chosen (asked key) (known_by Complete (cond b (Some None) (entry_of key es))) (known_by c (entry_of key before))
    by_test true at = h ∙ ap (λ o. chosen (asked key) (known_by Complete o) (known_by c (entry_of key before))) (none_at key k es at later) ∙ unchosen (asked key) (known_by c (entry_of key before)) ∙ sym (unchosen (asked key) (known_by c (entry_of key before)))
    by_test false at = h

over_some : (asked : List ℕ → Bool) (c : StateCoverage) (key k value : List ℕ) (es before : List (List ℕ × Option (List ℕ))) → AllByRecursion (λ y. by_bytes k y ≡ Less) (keys_of es) → ((over : List (List ℕ × Option (List ℕ))) → KnownOver asked c key es over) → KnownOver asked c key ((k, Some value) ∷ es) before
over_some asked c key k value es before later h = by_asked (asked k) refl
  where
    found : (b : Bool) → is_eq (by_bytes key k) ≡ b → asked k ≡ true → chosen (asked key) (known_by Complete (entry_of key es)) (known_by c (entry_of key (with_entry k (Some value) before))) ≡ chosen (asked key) (known_by Complete (cond b (Some (Some value)) (entry_of key es))) (known_by c (entry_of key before))
    found true at is =
        let one : key ≡ k = key_at key k at in
        ap (λ o. chosen (asked key) (known_by Complete o) (known_by c (entry_of key (with_entry k (Some value) before)))) (none_at key k es at later)
        ∙ unchosen (asked key) (known_by c (entry_of key (with_entry k (Some value) before)))
        ∙ ap (λ z. known_by c (entry_of z (with_entry k (Some value) before))) one
        ∙ known_set k value (record { entries = before; coverage = c })
        ∙ sym (ap (λ b. chosen b (Value value) (known_by c (entry_of key before))) (ap asked one ∙ is))
    found false at is = ap (chosen (asked key) (known_by Complete (entry_of key es))) (known_besides_set k key value (record { entries = before; coverage = c }) (another key k at))

    passed : (b : Bool) → is_eq (by_bytes key k) ≡ b → asked k ≡ false → chosen (asked key) (known_by Complete (entry_of key es)) (known_by c (entry_of key before)) ≡ chosen (asked key) (known_by Complete (cond b (Some (Some value)) (entry_of key es))) (known_by c (entry_of key before))
    passed true at is =
        let one : asked key ≡ false = ap asked (key_at key k at) ∙ is in
        ap (λ b. chosen b (known_by Complete (entry_of key es)) (known_by c (entry_of key before))) one ∙ sym (ap (λ b. chosen b (Value value) (known_by c (entry_of key before))) one)
    passed false at is = refl

    by_asked : (b : Bool) → asked k ≡ b → known_by c (entry_of key (put_over before (cond b ((k, value) ∷ pairs_in asked es) (pairs_in asked es)))) ≡ chosen (asked key) (known_by Complete (entry_of key ((k, Some value) ∷ es))) (known_by c (entry_of key before))
    by_asked true is = h (with_entry k (Some value) before) ∙ found (is_eq (by_bytes key k)) refl is
    by_asked false is = h before ∙ passed (is_eq (by_bytes key k)) refl is

known_over : (asked : List ℕ → Bool) (c : StateCoverage) (key : List ℕ) (es : List (List ℕ × Option (List ℕ))) → IsInOrder es → (before : List (List ℕ × Option (List ℕ))) → KnownOver asked c key es before
unfolding IsStrictlySortedBy
known_over asked c key [] ordered before = sym (unchosen (asked key) (known_by c (entry_of key before)))
known_over asked c key ((k, None) ∷ es) ordered before = over_none asked c key k es before ordered.0 (known_over asked c key es ordered.1 before)
known_over asked c key ((k, Some value) ∷ es) ordered before = over_some asked c key k value es before ordered.0 (λ over. known_over asked c key es ordered.1 over)

-- ---- the state

-- what a round hands out of a state
abbrev pub handed : Bool → List (List ℕ) → StateMap → StateMap
handed partial keys now = record { entries = state_entries (pairs_in (is_asked partial keys) now.entries); coverage = coverage_of partial }

all_same : (o : Option (Option (List ℕ))) → chosen true (known_by Complete o) Empty ≡ known_by Complete o
all_same None = refl
all_same (Some None) = refl
all_same (Some (Some value)) = refl

some_same : (b : Bool) (o : Option (Option (List ℕ))) → (chosen b (known_by Complete o) Unknown ≡ Unknown) ⊎ (chosen b (known_by Complete o) Unknown ≡ known_by Complete o)
some_same true None = inl refl
some_same true (Some None) = inl refl
some_same true (Some (Some value)) = inr refl
some_same false o = inl refl

complete : (now : StateMap) (key : List ℕ) → now.coverage ≡ Complete → known_by Complete (entry_of key now.entries) ≡ value_known key now
complete now key e = ap (λ c. known_by c (entry_of key now.entries)) (sym e)

pub handed_all : (now : StateMap) (keys : List (List ℕ)) → IsInOrder now.entries → now.coverage ≡ Complete → IsAllOf now (handed false keys now)
handed_all now keys ordered whole =
    let at : (key : List ℕ) → value_known key (handed false keys now) ≡ value_known key now = λ key. known_over (is_asked false keys) Complete key now.entries ordered [] ∙ all_same (entry_of key now.entries) ∙ complete now key whole in
    let in_order = pairs_in_order (pairs_in (is_asked false keys) now.entries) in
    record { in_order = in_order; at = at; keys = one_key_list (handed false keys now) now in_order ordered (sym whole) at }

pub handed_true : (now : StateMap) (partial : Bool) (keys : List (List ℕ)) → IsInOrder now.entries → now.coverage ≡ Complete → IsTrueOf now (handed partial keys now)
handed_true now false keys ordered whole = let h = handed_all now keys ordered whole in record { in_order = h.in_order; at = λ key. inr (h.at key); keys = inr h.keys }
handed_true now true keys ordered whole = record { in_order = pairs_in_order (pairs_in (is_asked true keys) now.entries); at = at; keys = inl refl }
  where
    at : (key : List ℕ) → (value_known key (handed true keys now) ≡ Unknown) ⊎ (value_known key (handed true keys now) ≡ value_known key now)
    at key =
        let e = known_over (is_asked true keys) Partial key now.entries ordered [] in
        let K : Type 0 = (value_known key (handed true keys now) ≡ Unknown) ⊎ (value_known key (handed true keys now) ≡ value_known key now) in
        elim (some_same (is_asked true keys key) (entry_of key now.entries)) [ inl u ↦ inl (e ∙ u) | inr u ↦ inr (e ∙ u ∙ complete now key whole) ]

-- ---- of a journal

changed_covers : (c : Message) (g : StateMap) → g.coverage ≡ Complete → (changed c g).coverage ≡ Complete
changed_covers (message.ClearAllState c) g h = refl
changed_covers c g h = h

many_cover : (cs : List Message) (g : StateMap) → g.coverage ≡ Complete → (changed_by cs g).coverage ≡ Complete
many_cover [] g h = h
many_cover (c ∷ cs) g h = many_cover cs (changed c g) (changed_covers c g h)

pub base_in_order : (w : Setting) → IsInOrder (base_of w).entries
base_in_order w = pairs_in_order w.base

pub round_true : (w : Setting) (round : Round) (journal : List (List ℕ)) → IsTrueOf (state_after w journal) (handed round.partial round.keys (state_after w journal))
round_true w round journal = handed_true (state_after w journal) round.partial round.keys (many_in_order (said_in journal) (base_of w) (base_in_order w)) (many_cover (said_in journal) (base_of w) refl)

pub round_all : (w : Setting) (round : Round) (journal : List (List ℕ)) → round.partial ≡ false → IsAllOf (state_after w journal) (handed round.partial round.keys (state_after w journal))
round_all w round journal e = subst (λ b. IsAllOf (state_after w journal) (handed b round.keys (state_after w journal))) (sym e) (handed_all (state_after w journal) round.keys (many_in_order (said_in journal) (base_of w) (base_in_order w)) (many_cover (said_in journal) (base_of w) refl))

-- the entries that a Start's pairs are read as
pub entries_found : (pairs : List (List ℕ × List ℕ)) (es : List (List ℕ × Option (List ℕ))) → entries_in pairs ≡ Some es → es ≡ state_entries pairs
entries_found pairs es h = by_test (list_all (λ p. is_utf8 p.0) pairs) h
  where
    by_test : (b : Bool) → (if b then Some (state_entries pairs) else None) ≡ Some es → es ≡ state_entries pairs
    by_test true e = cc
    by_test false e = absurd (cc)
