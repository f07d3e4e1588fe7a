-- The texts after a name, word by word.
use Rattle.std.proofs.lemmas.Bool.{eqb-true}
use Rattle.std.proofs.Common.{◌≡◌, ◌≢◌, ◌<◌, ◌+◌, ◌&&◌, Bool, if◌then◌else◌, refl, ◌++◌, ℕ, List, [], ◌∷◌, Option, Some, None, true, false, length, take, drop, get_or, sym, ap, ◌∙◌, subst, arith}
use Rattle.std.specs.Prelude.{MatchOption}
use Rattle.std.specs.Option.{is_some}
use Rattle.std.specs.Borrow.{Bor}
use Rattle.std.proofs.lemmas.List.{take_more, take-append-drop, append-nil}
use Rattle.std.proofs.lemmas.List.Elements.{filter_map-append}
use Rattle.lines.specs.Fields.{text_behind, texts_named}

texts_append : (name : List ℕ) (words more : List (Bor (List ℕ))) → texts_named name (words ++ more) ≡ texts_named name words ++ texts_named name more
texts_append name words more = filter_map-append (λ (w : Bor (List ℕ)). text_behind name w.now) words more

texts_one_more : (name : List ℕ) (words : List (Bor (List ℕ))) (i : ℕ) (d : Bor (List ℕ)) → i < length words → texts_named name (take (i + 1) words) ≡ texts_named name (take i words) ++ texts_named name (get_or words i d ∷ [])
texts_one_more name words i d h = ap (texts_named name) (take_more words i d h) ∙ texts_append name (take i words) (get_or words i d ∷ [])

-- a word that doesn't begin with the name
pub texts_none : (name : List ℕ) (words : List (Bor (List ℕ))) (i : ℕ) (d : Bor (List ℕ)) → i < length words → text_behind name (get_or words i d).now ≡ None → texts_named name (take (i + 1) words) ≡ texts_named name (take i words)
texts_none name words i d h e = let more = texts_one_more name words i d h in (rw e at more) ∙ append-nil (texts_named name (take i words))

-- a word that begins with it
pub texts_some : (name : List ℕ) (words : List (Bor (List ℕ))) (i : ℕ) (d : Bor (List ℕ)) (text : List ℕ) → i < length words → text_behind name (get_or words i d).now ≡ Some text → texts_named name (take (i + 1) words) ≡ texts_named name (take i words) ++ text ∷ []
texts_some name words i d text h e = let more = texts_one_more name words i d h in rw e at more

-- the only text after the name, if there is one
abbrev pub IsOnly : List ℕ → List (Bor (List ℕ)) → Option (Bor (List ℕ)) → Type 0
IsOnly name words found = MatchOption found (texts_named name words ≡ []) (λ text. texts_named name words ≡ text.now ∷ [])

-- the first word that begins with the name
pub only_more : (name : List ℕ) (words : List (Bor (List ℕ))) (i : ℕ) (d : Bor (List ℕ)) (found after : Option (Bor (List ℕ))) (text : Bor (List ℕ)) → IsOnly name (take i words) found → is_some found ≡ false → i < length words
    → text_behind name (get_or words i d).now ≡ Some text.now → after ≡ Some text → IsOnly name (take (i + 1) words) after
only_more name words i d None after text none new h e is =
    subst (λ a. IsOnly name (take (i + 1) words) a) (sym is) (texts_some name words i d text.now h e ∙ ap (λ xs. xs ++ text.now ∷ []) none)
only_more name words i d (Some first) after text one new h e is = absurd (grind arith)

-- a second word that begins with the name
pub twice : (name : List ℕ) (words : List (Bor (List ℕ))) (i : ℕ) (d : Bor (List ℕ)) (found : Option (Bor (List ℕ))) (text : List ℕ) → IsOnly name (take i words) found → is_some found ≡ true → i < length words
    → text_behind name (get_or words i d).now ≡ Some text → 1 < length (texts_named name words)
twice name words i d None text one some h e = absurd (cc some)
twice name words i d (Some first) text one some h e =
    let whole : texts_named name words ≡ texts_named name (take (i + 1) words) ++ texts_named name (drop (i + 1) words) =
    ap (texts_named name) (sym (take-append-drop (i + 1) words)) ∙ texts_append name (take (i + 1) words) (drop (i + 1) words) in
    let front : texts_named name (take (i + 1) words) ≡ first.now ∷ text ∷ [] = texts_some name words i d text h e ∙ ap (λ ts. ts ++ text ∷ []) one in
    let long = ap length (whole ∙ ap (λ ts. ts ++ texts_named name (drop (i + 1) words)) front) in
    omega (arith, long)

-- ---- names that a text begins with

begun : (b : Bool) (t a : List ℕ) → (if b then Some t else None) ≡ Some a → b ≡ true
begun true t a e = refl
begun false t a e = absurd (cc e)

first_too : (x y : Bool) → (x && y) ≡ true → x ≡ true
first_too true y e = refl
first_too false y e = absurd (cc e)

-- the first byte is that of the name
pub begins_so : (a : ℕ) (name text behind : List ℕ) → text_behind (a ∷ name) text ≡ Some behind → get_or text 0 0 ≡ a
unfolding text_behind
begins_so a name [] behind e = absurd (cc e)
begins_so a name (c ∷ cs) behind e = sym (eqb-true a c (first_too _ _ (begun _ _ behind e)))

-- so it isn't another
pub otherwise : (a b : ℕ) (name text behind : List ℕ) → text_behind (a ∷ name) text ≡ Some behind → get_or text 0 0 ≡ b → a ≢ b → ⊥
otherwise a b name text behind e first differ = differ (sym (begins_so a name text behind e) ∙ first)

-- only one text stands after a name
pub same_text : (a b : List ℕ) → Some a ≡ Some b → a ≡ b
same_text a b e = search e
