-- A text that encodes a tree goes on as it is read; if it doesn't go on, it encodes none.
use Rattle.std.proofs.Common.{◌≡◌, ◌≢◌, ◌<◌, ◌+◌, ◌++◌, ◌⊎◌, inl, inr, ℕ, zero, suc, true, false, List, [], ◌∷◌, Option, Some, None, Result, IfErr, length, drop, get_or, refl, sym, ap, ◌∙◌, subst, arith, append_assoc, length-append}
use Rattle.std.proofs.lemmas.List.{append-nil}
use Rattle.std.proofs.lemmas.Bool.Decides.{nat_tests}
use Rattle.std.proofs.lemmas.Str.Parse.{digit_from_value}
use Rattle.std.specs.Option.{ok_or}
use Rattle.std.specs.Str.Parse.{AllDigits}
use Rattle.plain.specs.declared.fault.Fault.{Fault}
use Rattle.plain.specs.declared.fault.Fault.TheVariants.{Malformed}
use Rattle.journal_protocol.specs.FutureKind.{FutureKind}
use Rattle.journal_protocol.specs.FutureKind.TheVariants.{FirstCompleted as OfFirst, AllCompleted as OfAll, FirstSucceededOrAllFailed as OfAny, AllSucceededOrFirstFailed as OfEvery, Unknown as OfUnknown}
use Rattle.await_trees.specs.Tree.{Tree, Forest, leaf, node, none, more, tree_of}
use Rattle.await_trees.specs.declared.handle.NotificationHandle.{NotificationHandle}
use Rattle.await_trees.specs.declared.tree.UnresolvedFuture.{UnresolvedFuture}
use Rattle.lines.specs.Readings.{Blames}
use Rattle.line_parts.specs.OpenNodes.{ClosesNodes, GoesOn, behind_word, is_break, word_of}
use Rattle.line_parts.specs.Trees.{IsKind, SpellsClosely, SpellsTree, SpellsForest, kind_name}
use Rattle.lines.specs.Words.{IsNumberOf}

-- ---- words and breaks

-- no bracket and no comma stands in the text
abbrev Unbroken : List ℕ → Type 0
Unbroken [] = Unit {0}
Unbroken (c ∷ cs) = (is_break c ≡ false) × Unbroken cs

-- it begins with one, or is empty
abbrev Breaks : List ℕ → Type 0
Breaks [] = Unit {0}
Breaks (c ∷ cs) = is_break c ≡ true

cut_at : (own behind : List ℕ) → Unbroken own → Breaks behind → (word_of (own ++ behind) ≡ own) × (behind_word (own ++ behind) ≡ behind)
cut_at [] [] u b = (refl, refl)
cut_at [] (c ∷ cs) u b = (rw b refl, rw b refl)
cut_at (c ∷ cs) behind u b = let more = cut_at cs behind u.1 b in (rw u.0 (ap (λ z. c ∷ z) more.0), rw u.0 more.1)

digit_unbroken : (c : ℕ) → 47 < c → c < 58 → is_break c ≡ false
digit_unbroken c low high = grind (arith, nat_tests)

numeral_unbroken : (text : List ℕ) → AllDigits 10 text → Unbroken text
numeral_unbroken [] all = tt
numeral_unbroken (c ∷ cs) all = let within = digit_from_value c all.0 in (digit_unbroken c (omega arith) (omega arith), numeral_unbroken cs all.1)

kind_unbroken : (kind : FutureKind) → Unbroken (kind_name kind)
unfolding kind_name
kind_unbroken OfFirst = (refl, (refl, tt))
kind_unbroken OfAll = (refl, (refl, tt))
kind_unbroken OfAny = (refl, (refl, (refl, (refl, tt))))
kind_unbroken OfEvery = (refl, (refl, (refl, (refl, tt))))
kind_unbroken OfUnknown = (refl, (refl, tt))

kind_some : (kind : FutureKind) → 0 < length (kind_name kind)
unfolding kind_name
kind_some OfFirst = omega arith
kind_some OfAll = omega arith
kind_some OfAny = omega arith
kind_some OfEvery = omega arith
kind_some OfUnknown = omega arith

-- a word doesn't begin with a bracket
no_break : (word behind rest : List ℕ) → Unbroken word → 0 < length word → word ++ behind ≡ 41 ∷ rest → ⊥
no_break [] behind rest u some e = absurd (omega arith)
no_break (c ∷ cs) behind rest u some e = cc (sym u.0 ∙ ap (λ t. is_break (get_or t 0 0)) e)

-- ---- what follows a tree

closes_breaks : (nodes : ℕ) (text : List ℕ) → ClosesNodes nodes text → Breaks text
closes_breaks zero text e = subst Breaks (sym e) tt
closes_breaks (suc nodes) text (others, behind, none, e, o, c) = subst Breaks (sym (e ∙ ap (λ z. z ++ 41 ∷ behind) o)) refl
closes_breaks (suc nodes) text (others, behind, more t ts, e, (inside, o, s), c) = subst Breaks (sym (e ∙ ap (λ z. z ++ 41 ∷ behind) o)) refl

-- no bracket opens after a tree
closes_no_opening : (nodes : ℕ) (text rest : List ℕ) → ClosesNodes nodes text → text ≡ 40 ∷ rest → ⊥
closes_no_opening zero text rest e o = let long = ap length (sym e ∙ o) in absurd (omega arith)
closes_no_opening (suc nodes) text rest (others, behind, none, e, o, c) i =
    let first = ap (λ t. get_or t 0 0) (sym i ∙ e ∙ ap (λ z. z ++ 41 ∷ behind) o) in absurd (omega arith)
closes_no_opening (suc nodes) text rest (others, behind, more t ts, e, (inside, o, s), c) i =
    let first = ap (λ t. get_or t 0 0) (sym i ∙ e ∙ ap (λ z. z ++ 41 ∷ behind) o) in absurd (omega arith)

-- trees and the bracket after them
forest_on : (nodes : ℕ) (inside behind : List ℕ) (t : Tree) (ts : Forest) → SpellsForest inside (more t ts) → ClosesNodes nodes behind → GoesOn (suc nodes) None (inside ++ 41 ∷ behind)
forest_on nodes inside behind t none s c = (inside, 41 ∷ behind, t, refl, s, ([], behind, none, refl, refl, c))
forest_on nodes inside behind t (more u us) (first, others, e, s, f) c =
    (first, 44 ∷ (others ++ 41 ∷ behind), t, ap (λ z. z ++ 41 ∷ behind) e ∙ append_assoc first (44 ∷ others) (41 ∷ behind), s, (44 ∷ others, behind, more u us, refl, (others, refl, f), c))

tree_begins : (own behind rest : List ℕ) (t : Tree) → SpellsTree own t → own ++ behind ≡ 41 ∷ rest → ⊥
tree_begins own behind rest (leaf h) s e = no_break own behind rest (numeral_unbroken own s.0.1) s.0.0 e
tree_begins own behind rest (node kind children) (inside, o, s) e =
    no_break (kind_name kind) (40 ∷ (inside ++ 41 ∷ []) ++ behind) rest (kind_unbroken kind) (kind_some kind)
    (sym (append_assoc (kind_name kind) (40 ∷ (inside ++ 41 ∷ [])) behind) ∙ ap (λ z. z ++ behind) (sym o) ∙ e)

forest_begins : (inside behind rest : List ℕ) (t : Tree) (ts : Forest) → SpellsForest inside (more t ts) → inside ++ behind ≡ 41 ∷ rest → ⊥
forest_begins inside behind rest t none s e = tree_begins inside behind rest t s e
forest_begins inside behind rest t (more u us) (first, others, o, s, f) e =
    tree_begins first ((44 ∷ others) ++ behind) rest t s (sym (append_assoc first (44 ∷ others) behind) ∙ ap (λ z. z ++ behind) (sym o) ∙ e)

-- ---- the beginning of a tree

-- a handle, or a kind and a bracket
abbrev Begun : ℕ → List ℕ → Type 0
Begun nodes text =
    ((handle : ℕ) × IsNumberOf 32 (word_of text) handle × ClosesNodes nodes (behind_word text))
    ⊎ ((kind : FutureKind) × (children : Forest) × (inside behind : List ℕ) × IsKind (word_of text) kind × (behind_word text ≡ 40 ∷ (inside ++ 41 ∷ behind)) × SpellsForest inside children × ClosesNodes nodes behind)

node_text : (name inside behind : List ℕ) → (name ++ 40 ∷ (inside ++ 41 ∷ [])) ++ behind ≡ name ++ 40 ∷ (inside ++ 41 ∷ behind)
node_text name inside behind = simp append_assoc refl

begun : (nodes : ℕ) (text : List ℕ) → GoesOn nodes None text → Begun nodes text
begun nodes text (own, behind, leaf h, e, s, c) =
    let cut = cut_at own behind (numeral_unbroken own s.0.1) (closes_breaks nodes behind c) in
    inl (h, subst (λ w. IsNumberOf 32 w h) (sym (ap word_of e ∙ cut.0)) s, subst (ClosesNodes nodes) (sym (ap behind_word e ∙ cut.1)) c)
begun nodes text (own, behind, node kind children, e, (inside, o, s), c) =
    let whole : text ≡ kind_name kind ++ 40 ∷ (inside ++ 41 ∷ behind) = e ∙ ap (λ z. z ++ behind) o ∙ node_text (kind_name kind) inside behind in
    let cut = cut_at (kind_name kind) (40 ∷ (inside ++ 41 ∷ behind)) (kind_unbroken kind) refl in
    inr (kind, children, inside, behind, ap word_of whole ∙ cut.0, ap behind_word whole ∙ cut.1, s, c)

pub handle_goes_on : (nodes : ℕ) (text rest : List ℕ) → rest ≡ behind_word text → ((r : List ℕ) → rest ≢ 40 ∷ r) → GoesOn nodes None text → ClosesNodes nodes rest
handle_goes_on nodes text rest e other on = go (begun nodes text on)
  where
    go : Begun nodes text → ClosesNodes nodes rest
    go (inl (handle, number, c)) = subst (ClosesNodes nodes) (sym e) c
    go (inr (kind, children, inside, behind, k, o, s, c)) = absurd (other _ (e ∙ o))

pub no_handle : (nodes : ℕ) (text word rest : List ℕ) (fault : Fault) → word ≡ word_of text → rest ≡ behind_word text → ((r : List ℕ) → rest ≢ 40 ∷ r)
    → Blames (λ (handle : NotificationHandle). IsNumberOf 32 word handle.0) fault → fault ≡ Malformed → GoesOn nodes None text → ⊥
no_handle nodes text word rest fault w e other blames bad on = go (begun nodes text on)
  where
    go : Begun nodes text → ⊥
    go (inl (handle, number, c)) = blames.nothing bad (record { 0 = handle }) (subst (λ t. IsNumberOf 32 t handle) (sym w) number)
    go (inr (kind, children, inside, behind, k, o, s, c)) = other _ (e ∙ o)

pub no_kind : (nodes : ℕ) (text word rest inside : List ℕ) (fault : Fault) → word ≡ word_of text → rest ≡ behind_word text → rest ≡ 40 ∷ inside → Blames (IsKind word) fault → fault ≡ Malformed → GoesOn nodes None text → ⊥
no_kind nodes text word rest inside fault w e opens blames bad on = go (begun nodes text on)
  where
    go : Begun nodes text → ⊥
    go (inl (handle, number, c)) = closes_no_opening nodes (behind_word text) inside c (sym e ∙ opens)
    go (inr (kind, children, within, behind, k, o, s, c)) = blames.nothing bad kind (w ∙ k)

-- what stands after a node's bracket
opened : (nodes : ℕ) (text rest inside : List ℕ) → rest ≡ behind_word text → rest ≡ 40 ∷ inside → GoesOn nodes None text
    → (children : Forest) × (within behind : List ℕ) × (inside ≡ within ++ 41 ∷ behind) × SpellsForest within children × ClosesNodes nodes behind
opened nodes text rest inside e opens on = go (begun nodes text on)
  where
    go : Begun nodes text → (children : Forest) × (within behind : List ℕ) × (inside ≡ within ++ 41 ∷ behind) × SpellsForest within children × ClosesNodes nodes behind
    go (inl (handle, number, c)) = absurd (closes_no_opening nodes (behind_word text) inside c (sym e ∙ opens))
    go (inr (kind, children, within, behind, k, o, s, c)) = (children, within, behind, ap (drop 1) (sym opens ∙ e ∙ o), s, c)

pub empty_goes_on : (nodes : ℕ) (text rest inside behind : List ℕ) → rest ≡ behind_word text → rest ≡ 40 ∷ inside → inside ≡ 41 ∷ behind → GoesOn nodes None text → ClosesNodes nodes behind
empty_goes_on nodes text rest inside behind e opens closes on = go (opened nodes text rest inside e opens on)
  where
    go : (children : Forest) × (within after : List ℕ) × (inside ≡ within ++ 41 ∷ after) × SpellsForest within children × ClosesNodes nodes after → ClosesNodes nodes behind
    go (none, within, after, o, s, c) = subst (ClosesNodes nodes) (ap (drop 1) (sym (o ∙ ap (λ z. z ++ 41 ∷ after) s) ∙ closes)) c
    go (more t ts, within, after, o, s, c) = absurd (forest_begins within (41 ∷ after) behind t ts s (sym o ∙ closes))

pub node_goes_on : (nodes more_nodes : ℕ) (text rest inside : List ℕ) → more_nodes ≡ nodes + 1 → rest ≡ behind_word text → rest ≡ 40 ∷ inside → ((r : List ℕ) → inside ≢ 41 ∷ r) → GoesOn nodes None text → GoesOn more_nodes None inside
node_goes_on nodes more_nodes text rest inside m e opens other on = go (opened nodes text rest inside e opens on)
  where
    go : (children : Forest) × (within after : List ℕ) × (inside ≡ within ++ 41 ∷ after) × SpellsForest within children × ClosesNodes nodes after → GoesOn more_nodes None inside
    go (none, within, after, o, s, c) = absurd (other after (o ∙ ap (λ z. z ++ 41 ∷ after) s))
    go (more t ts, within, after, o, s, c) =
        let n : suc nodes ≡ more_nodes = omega arith in
        subst (λ k. GoesOn k None inside) n (subst (GoesOn (suc nodes) None) (sym o) (forest_on nodes within after t ts s c))

-- ---- after a tree

pub over : (nodes : ℕ) (text : List ℕ) → nodes ≡ 0 → 0 < length text → ClosesNodes nodes text → ⊥
over nodes text n some c = let long = ap length (subst (λ k. ClosesNodes k text) n c) in absurd (omega arith)

-- one node fewer
inner : (nodes fewer : ℕ) (text : List ℕ) → nodes ≡ fewer + 1 → ClosesNodes nodes text → ClosesNodes (suc fewer) text
inner nodes fewer text n c = let m : nodes ≡ suc fewer = omega arith in subst (λ k. ClosesNodes k text) m c

pub closing_goes_on : (nodes fewer : ℕ) (text rest : List ℕ) → nodes ≡ fewer + 1 → text ≡ 41 ∷ rest → ClosesNodes nodes text → ClosesNodes fewer rest
closing_goes_on nodes fewer text rest n i c = go (inner nodes fewer text n c)
  where
    go : ClosesNodes (suc fewer) text → ClosesNodes fewer rest
    go (others, behind, none, e, o, c) = subst (ClosesNodes fewer) (ap (drop 1) (sym (e ∙ ap (λ z. z ++ 41 ∷ behind) o) ∙ i)) c
    go (others, behind, more t ts, e, (inside, o, s), c) = let first = ap (λ t. get_or t 0 0) (sym i ∙ e ∙ ap (λ z. z ++ 41 ∷ behind) o) in absurd (omega arith)

pub comma_goes_on : (nodes fewer again : ℕ) (text rest : List ℕ) → nodes ≡ fewer + 1 → again ≡ fewer + 1 → text ≡ 44 ∷ rest → ClosesNodes nodes text → GoesOn again None rest
comma_goes_on nodes fewer again text rest n m i c = go (inner nodes fewer text n c)
  where
    go : ClosesNodes (suc fewer) text → GoesOn again None rest
    go (others, behind, none, e, o, c) = let first = ap (λ t. get_or t 0 0) (sym i ∙ e ∙ ap (λ z. z ++ 41 ∷ behind) o) in absurd (omega arith)
    go (others, behind, more t ts, e, (inside, o, s), c) =
        let k : suc fewer ≡ again = omega arith in
        subst (λ j. GoesOn j None rest) k (subst (GoesOn (suc fewer) None) (ap (drop 1) (sym (e ∙ ap (λ z. z ++ 41 ∷ behind) o) ∙ i)) (forest_on fewer inside behind t ts s c))

pub neither : (nodes fewer : ℕ) (text : List ℕ) → nodes ≡ fewer + 1 → ((r : List ℕ) → text ≢ 41 ∷ r) → ((r : List ℕ) → text ≢ 44 ∷ r) → ClosesNodes nodes text → ⊥
neither nodes fewer text n closes commas c = go (inner nodes fewer text n c)
  where
    go : ClosesNodes (suc fewer) text → ⊥
    go (others, behind, none, e, o, c) = closes behind (e ∙ ap (λ z. z ++ 41 ∷ behind) o)
    go (others, behind, more t ts, e, (inside, o, s), c) = commas (inside ++ 41 ∷ behind) (e ∙ ap (λ z. z ++ 41 ∷ behind) o)

-- ---- the whole text

-- a text that encodes a tree goes on from its beginning
pub goes_on_first : (text : List ℕ) (nodes : ℕ) → nodes ≡ 0 → (t : Tree) → SpellsTree text t → GoesOn nodes None text
goes_on_first text nodes n t s = subst (λ k. GoesOn k None text) (sym n) (text, [], t, sym (append-nil text), s, refl)

tree_some : (text : List ℕ) (t : Tree) → SpellsTree text t → 0 < length text
tree_some text (leaf h) s = s.0.0
tree_some text (node kind children) (inside, o, s) = let long = ap length o in omega (arith, long, kind_some kind, length-append (kind_name kind) (40 ∷ (inside ++ 41 ∷ [])))

closes_some : (nodes : ℕ) (text : List ℕ) → 0 < nodes → ClosesNodes nodes text → 0 < length text
closes_some zero text h c = absurd (omega arith)
closes_some (suc nodes) text h (others, behind, forest, e, o, c) = let long = ap length e in omega (arith, long, length-append others (41 ∷ behind))

-- if the text ends, no node is open and a tree was read
pub ends_open : (nodes : ℕ) (last : Option UnresolvedFuture) (rest : List ℕ) → rest ≡ [] → 0 < nodes → GoesOn nodes last rest → ⊥
ends_open nodes None rest e h (own, behind, t, i, s, c) = let long = ap length (sym e ∙ i) in let some = tree_some own t s in absurd (omega (arith, long, some, length-append own behind))
ends_open nodes (Some future) rest e h c = let some = closes_some nodes rest h c in let long = ap length e in absurd (omega arith)

pub ends_empty : (nodes : ℕ) (rest : List ℕ) → rest ≡ [] → GoesOn nodes None rest → ⊥
ends_empty nodes rest e (own, behind, t, i, s, c) = let long = ap length (sym e ∙ i) in let some = tree_some own t s in absurd (omega (arith, long, some, length-append own behind))

pub ends_whole : (text rest : List ℕ) (nodes : ℕ) (last : Option UnresolvedFuture) (read : Result UnresolvedFuture Fault) → rest ≡ [] → read ≡ ok_or last Malformed → ((t : Tree) → SpellsTree text t → GoesOn nodes last rest)
    → IfErr read (Blames (SpellsClosely text))
ends_whole text rest nodes None read over e on = rw e (record { nothing = λ bad future s. ends_empty nodes rest over (on (tree_of future) s) })
ends_whole text rest nodes (Some future) read over e on = rw e tt
