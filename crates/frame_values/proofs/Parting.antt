-- A text says a future exactly if it is read from left to right.
use Rattle.std.proofs.Common.{◌≡◌, ◌≢◌, ◌<◌, ◌+◌, ◌++◌, ◌⊎◌, inl, inr, ℕ, Bool, true, false, List, [], ◌∷◌, length, take, drop, get_or, ap, sym, refl, subst, ◌∙◌, arith, append_assoc, length-append}
use Rattle.std.specs.Prelude.{◌==◌, ◌||◌, codes}
use Rattle.std.proofs.lemmas.Bool.{false≢true}
use Rattle.std.proofs.lemmas.Bool.Decides.{nat_tests}
use Rattle.std.proofs.lemmas.List.{append-nil, take-append-drop}
use Rattle.std.proofs.lemmas.Slice.Eq.{bytes_eq-Decides}
use Rattle.lines.specs.Fields.{is_named}
use Rattle.journal_protocol.specs.FutureNode.{FutureNode}
use Rattle.frame_values.specs.declared.nested.Next.{Next}
use Rattle.frame_values.specs.declared.nested.Next.TheVariants.{Part, Nested, More}
use Rattle.frame_values.specs.declared.words.Within.{Within}
use Rattle.frame_values.specs.declared.words.Within.TheVariants.{Nothing, List as InList, Quotes, Escaped}
use Rattle.frame_values.specs.FutureWords.{after_word, ends_part, ends_word, first_word, within_after}
use Rattle.frame_values.specs.Futures.{AreBlanks, EndsPart, IsUnbroken, IsWord, SayFutures, SayParts, SayWords, SaysFuture, SaysList, a_blank, a_list, a_word, future, more_futures, no_futures, no_part, one_future, some_futures}
use Rattle.frame_values.specs.OpenFutures.{RestOf, blank, close, word, list, empty, nested, comma, end}

-- the text is a future, which is these nodes, as a reader goes through it
abbrev pub IsRead : List ℕ → List FutureNode → Type 0
IsRead text nodes = (node : FutureNode) × (inner : List FutureNode) × (inside : List ℕ)
    × (text ≡ 40 ∷ inside) × (nodes ≡ node ∷ inner) × RestOf Part node [] 0 false inside inner []

-- ---- words

stops_outside : (w : Within) (b : ℕ) → ends_word w b ≡ true → w ≡ Nothing
stops_outside Nothing b e = refl
stops_outside InList b e = absurd (false≢true e)
stops_outside Quotes b e = absurd (false≢true e)
stops_outside Escaped b e = absurd (false≢true e)

cut_at : (w : Within) (own text : List ℕ) → IsUnbroken w own → ends_part text ≡ true → (first_word w (own ++ text) ≡ own) × (after_word w (own ++ text) ≡ text)
cut_at w [] [] u e = absurd (false≢true e)
cut_at w [] (b ∷ text) u e = subst (λ v. (first_word v (b ∷ text) ≡ []) × (after_word v (b ∷ text) ≡ b ∷ text)) (sym u) (rw e refl, rw e refl)
cut_at w (c ∷ cs) text u e = let more = cut_at (within_after w c) cs text u.1 e in (rw u.0 (ap (λ z. c ∷ z) more.0), rw u.0 more.1)

unbroken : (w : Within) (text : List ℕ) → ends_part (after_word w text) ≡ true → IsUnbroken w (first_word w text)
unbroken w [] e = absurd (false≢true e)
unbroken w (b ∷ text) e = go (unbroken (within_after w b) text) (ends_word w b) refl
  where
    go : (ends_part (after_word (within_after w b) text) ≡ true → IsUnbroken (within_after w b) (first_word (within_after w b) text)) → (s : Bool) → ends_word w b ≡ s → IsUnbroken w (first_word w (b ∷ text))
    go more true is = rw is (stops_outside w b is)
    go more false is = rw is (is, more (rw is at e))

pub whole_word : (w : Within) (text : List ℕ) → text ≡ first_word w text ++ after_word w text
whole_word w [] = refl
whole_word w (b ∷ text) = go (whole_word (within_after w b) text) (ends_word w b) refl
  where
    go : text ≡ first_word (within_after w b) text ++ after_word (within_after w b) text → (s : Bool) → ends_word w b ≡ s → b ∷ text ≡ first_word w (b ∷ text) ++ after_word w (b ∷ text)
    go more true is = rw is refl
    go more false is = rw is (ap (λ t. b ∷ t) more)

not_named : (own text : List ℕ) → ((t : List ℕ) → own ++ text ≢ codes "nested=[" ++ t) → is_named (codes "nested=[") own ≡ false
not_named own text none = go (is_named (codes "nested=[") own) refl
  where
    go : (s : Bool) → is_named (codes "nested=[") own ≡ s → s ≡ false
    go false is = refl
    go true is =
        let begins : codes "nested=[" ≡ take 8 own = (bytes_eq-Decides (codes "nested=[") (take 8 own)).0 is in
        absurd (none (drop 8 own ++ text) (ap (λ t. t ++ text) (sym (take-append-drop 8 own) ∙ ap (λ t. t ++ drop 8 own) (sym begins))))

no_list_first : (own text t : List ℕ) → IsWord own → ends_part text ≡ true → own ++ text ≡ codes "nested=[" ++ t → ⊥
no_list_first own text t is ends e =
    let same : own ≡ codes "nested=[" ++ first_word InList t = sym (cut_at Nothing own text is.unbroken ends).0 ∙ ap (first_word Nothing) e in
    false≢true (sym is.no_list ∙ ap (is_named (codes "nested=[")) same ∙ refl)

-- ---- parts

unlisted : {text : List ℕ} {words : List (List ℕ)} {listed : Bool} {count : ℕ} {inner : List FutureNode} → SayParts text words listed count inner → listed ≡ false → (count ≡ 0) × (inner ≡ [])
unlisted no_part none = (refl, refl)
unlisted (a_blank p) none = unlisted p none
unlisted (a_word is ends p) none = unlisted p none
unlisted (a_list futures ends p) none = absurd (false≢true (sym none))

no_close_first : {text : List ℕ} {words : List (List ℕ)} {listed : Bool} {count : ℕ} {inner : List FutureNode} (t : List ℕ) → SayParts text words listed count inner → text ≡ 41 ∷ t → ⊥
no_close_first t no_part e = absurd (omega (arith, ap length e))
no_close_first t (a_blank p) e = absurd (omega (arith, ap (λ u. get_or u 0 0) e))
no_close_first t (a_word {word = []} is ends p) e = absurd (omega (arith, is.some))
no_close_first t (a_word {word = c ∷ cs} is ends p) e =
    let first : c ≡ 41 = ap (λ u. get_or u 0 0) e in false≢true (sym is.unbroken.0 ∙ ap (ends_word Nothing) first)
no_close_first t (a_list futures ends p) e = absurd (omega (arith, ap (λ u. get_or u 0 0) e))

-- where a part of the whole text ends, one of the inside does
ends_inside : (inside rest : List ℕ) → ((t : List ℕ) → inside ≢ 41 ∷ t) → ends_part (inside ++ 41 ∷ rest) ≡ true → EndsPart inside
ends_inside [] rest none e = tt
ends_inside (b ∷ bs) rest none e = go (b == 32) refl
  where
    go : (s : Bool) → (b == 32) ≡ s → b ≡ 32
    go true is = grind (arith, nat_tests)
    go false is = let closes : b ≡ 41 = grind (arith, nat_tests) in absurd (none bs (ap (λ c. c ∷ bs) closes))

ends_whole : (inside rest : List ℕ) → EndsPart inside → ends_part (inside ++ 41 ∷ rest) ≡ true
ends_whole [] rest e = refl
ends_whole (b ∷ bs) rest e = rw e refl

-- ---- what was read is said

-- what is left of a future
record PartsLeft (n : FutureNode) (ws : List (List ℕ)) (c : ℕ) (l : Bool) (text : List ℕ) (inner : List FutureNode) (rest : List ℕ) : Type 0 where
  inside : List ℕ
  words : List (List ℕ)
  listed : Bool
  count : ℕ
  text_is : text ≡ inside ++ 41 ∷ rest
  parts : SayParts inside words listed count inner
  said : SayWords (ws ++ words) n
  number : n.nested ≡ c + count
  once : l ≡ true → listed ≡ false

-- what is left from the place of a nested future on
record ListLeft (n : FutureNode) (ws : List (List ℕ)) (c : ℕ) (l : Bool) (text : List ℕ) (inner : List FutureNode) (rest : List ℕ) : Type 0 where
  futures : List ℕ
  behind : List ℕ
  own : List FutureNode
  others : List FutureNode
  count : ℕ
  text_is : text ≡ futures ++ 93 ∷ behind
  list_is : ((c ≡ 0) × AreBlanks futures × (count ≡ 0) × (own ≡ [])) ⊎ SayFutures futures count own
  ends : ends_part behind ≡ true
  inner_is : inner ≡ own ++ others
  left : PartsLeft n ws (c + count) l behind others rest

-- what is left after a nested future
record MoreLeft (n : FutureNode) (ws : List (List ℕ)) (c : ℕ) (l : Bool) (text : List ℕ) (inner : List FutureNode) (rest : List ℕ) : Type 0 where
  blanks : List ℕ
  are_blanks : AreBlanks blanks
  behind : List ℕ
  own : List FutureNode
  others : List FutureNode
  count : ℕ
  list_is : ((text ≡ blanks ++ 93 ∷ behind) × (count ≡ 0) × (own ≡ [])) ⊎ ((futures : List ℕ) × (text ≡ blanks ++ 44 ∷ (futures ++ 93 ∷ behind)) × SayFutures futures count own)
  ends : ends_part behind ≡ true
  inner_is : inner ≡ own ++ others
  left : PartsLeft n ws (c + count) l behind others rest

abbrev Left : Next → FutureNode → List (List ℕ) → ℕ → Bool → List ℕ → List FutureNode → List ℕ → Type 0
Left Part n ws c l text inner rest = PartsLeft n ws c l text inner rest
Left Nested n ws c l text inner rest = ListLeft n ws c l text inner rest
Left More n ws c l text inner rest = 0 < c → MoreLeft n ws c l text inner rest

blank_futures : {text : List ℕ} {count : ℕ} {own : List FutureNode} → SayFutures text count own → SayFutures (32 ∷ text) count own
blank_futures (one_future b a before said behind) = one_future (32 ∷ b) a (refl, before) said behind
blank_futures (more_futures b a before said behind more) = more_futures (32 ∷ b) a (refl, before) said behind more

blank_left : (next : Next) (n : FutureNode) (ws : List (List ℕ)) (c : ℕ) (l : Bool) (text : List ℕ) (inner : List FutureNode) (rest : List ℕ) → Left next n ws c l text inner rest → Left next n ws c l (32 ∷ text) inner rest
blank_left Part n ws c l text inner rest p = record { inside = 32 ∷ p.inside; words = p.words; listed = p.listed; count = p.count; text_is = ap (λ t. 32 ∷ t) p.text_is; parts = a_blank p.parts; said = p.said; number = p.number; once = p.once }
blank_left Nested n ws c l text inner rest p = record { futures = 32 ∷ p.futures; behind = p.behind; own = p.own; others = p.others; count = p.count; text_is = ap (λ t. 32 ∷ t) p.text_is; list_is = go p.list_is; ends = p.ends; inner_is = p.inner_is; left = p.left }
  where
    go : (((c ≡ 0) × AreBlanks p.futures × (p.count ≡ 0) × (p.own ≡ [])) ⊎ SayFutures p.futures p.count p.own) → ((c ≡ 0) × AreBlanks (32 ∷ p.futures) × (p.count ≡ 0) × (p.own ≡ [])) ⊎ SayFutures (32 ∷ p.futures) p.count p.own
    go (inl (none, are, zero_count, nothing)) = inl (none, (refl, are), zero_count, nothing)
    go (inr some) = inr (blank_futures some)
blank_left More n ws c l text inner rest m = λ some. let p = m some in record { blanks = 32 ∷ p.blanks; are_blanks = (refl, p.are_blanks); behind = p.behind; own = p.own; others = p.others; count = p.count; list_is = go p.blanks p.behind p.count p.own p.list_is; ends = p.ends; inner_is = p.inner_is; left = p.left }
  where
    go : (blanks behind : List ℕ) (count : ℕ) (own : List FutureNode) → (((text ≡ blanks ++ 93 ∷ behind) × (count ≡ 0) × (own ≡ [])) ⊎ ((futures : List ℕ) × (text ≡ blanks ++ 44 ∷ (futures ++ 93 ∷ behind)) × SayFutures futures count own))
        → ((32 ∷ text ≡ 32 ∷ (blanks ++ 93 ∷ behind)) × (count ≡ 0) × (own ≡ [])) ⊎ ((futures : List ℕ) × (32 ∷ text ≡ 32 ∷ (blanks ++ 44 ∷ (futures ++ 93 ∷ behind))) × SayFutures futures count own)
    go blanks behind count own (inl (e, none, nothing)) = inl (ap (λ t. 32 ∷ t) e, none, nothing)
    go blanks behind count own (inr (futures, e, some)) = inr (futures, ap (λ t. 32 ∷ t) e, some)

-- a future by what stands in its brackets
abbrev whole : List ℕ → List ℕ
whole inside = 40 ∷ (inside ++ 41 ∷ [])

whole_text : (text inside after rest : List ℕ) → text ≡ inside ++ 41 ∷ after → after ≡ rest → 40 ∷ text ≡ whole inside ++ rest
whole_text text inside after rest e f = ap (λ t. 40 ∷ t) (e ∙ ap (λ t. inside ++ 41 ∷ t) f ∙ sym (append_assoc inside (41 ∷ []) rest))

says_all : (n : FutureNode) (text : List ℕ) (inner : List FutureNode) (after : List ℕ) (p : PartsLeft n [] 0 false text inner after) → SaysFuture (whole p.inside) (n ∷ inner)
says_all n text inner after p =
    let count_is : p.count ≡ n.nested = omega (arith, p.number) in
    future (subst (λ k. SayParts p.inside p.words p.listed k inner) count_is p.parts) p.said

last_left : (n first : FutureNode) (ws : List (List ℕ)) (c : ℕ) (l : Bool) (text after : List ℕ) (inner others further : List FutureNode) (rest inside blanks behind : List ℕ) → text ≡ inside ++ 41 ∷ after → SaysFuture (whole inside) (first ∷ inner) → AreBlanks blanks
    → after ≡ blanks ++ 93 ∷ behind → ends_part behind ≡ true → others ≡ further → PartsLeft n ws (c + 1) l behind further rest → ListLeft n ws c l (40 ∷ text) (first ∷ (inner ++ others)) rest
last_left n first ws c l text after inner others further rest inside blanks behind text_is says are e ends inner_is p = record {
  futures = whole inside ++ blanks;
  behind = behind;
  own = first ∷ inner;
  others = further;
  count = 1;
  text_is = whole_text text inside after (blanks ++ 93 ∷ behind) text_is e ∙ sym (append_assoc (whole inside) blanks (93 ∷ behind));
  list_is = inr (one_future [] blanks tt says are);
  ends = ends;
  inner_is = ap (λ ns. first ∷ (inner ++ ns)) inner_is;
  left = p;
}

further_left : (n first : FutureNode) (ws : List (List ℕ)) (c count : ℕ) (l : Bool) (text after : List ℕ) (inner others own further : List FutureNode) (rest inside blanks futures behind : List ℕ) → text ≡ inside ++ 41 ∷ after → SaysFuture (whole inside) (first ∷ inner) → AreBlanks blanks
    → after ≡ blanks ++ 44 ∷ (futures ++ 93 ∷ behind) → SayFutures futures count own → ends_part behind ≡ true → others ≡ own ++ further → PartsLeft n ws (c + (count + 1)) l behind further rest → ListLeft n ws c l (40 ∷ text) (first ∷ (inner ++ others)) rest
further_left n first ws c count l text after inner others own further rest inside blanks futures behind text_is says are e some ends inner_is p = record {
  futures = whole inside ++ (blanks ++ 44 ∷ futures);
  behind = behind;
  own = (first ∷ inner) ++ own;
  others = further;
  count = count + 1;
  text_is = whole_text text inside after (blanks ++ 44 ∷ (futures ++ 93 ∷ behind)) text_is e ∙ ap (λ t. whole inside ++ t) (sym (append_assoc blanks (44 ∷ futures) (93 ∷ behind)))
      ∙ sym (append_assoc (whole inside) (blanks ++ 44 ∷ futures) (93 ∷ behind));
  list_is = inr (more_futures [] blanks tt says are some);
  ends = ends;
  inner_is = ap (λ ns. first ∷ (inner ++ ns)) inner_is ∙ ap (λ ns. first ∷ ns) (sym (append_assoc inner own further));
  left = p;
}

-- a nested future, and what is left after it
nested_left : (n first : FutureNode) (ws : List (List ℕ)) (c : ℕ) (l : Bool) (text after : List ℕ) (inner others : List FutureNode) (rest : List ℕ)
    → PartsLeft first [] 0 false text inner after → MoreLeft n ws (c + 1) l after others rest → ListLeft n ws c l (40 ∷ text) (first ∷ (inner ++ others)) rest
nested_left n first ws c l text after inner others rest p m = go m.count m.own m.list_is m.inner_is m.left
  where
    go : (count : ℕ) (own : List FutureNode)
        → (((after ≡ m.blanks ++ 93 ∷ m.behind) × (count ≡ 0) × (own ≡ [])) ⊎ ((futures : List ℕ) × (after ≡ m.blanks ++ 44 ∷ (futures ++ 93 ∷ m.behind)) × SayFutures futures count own))
        → others ≡ own ++ m.others → PartsLeft n ws ((c + 1) + count) l m.behind m.others rest → ListLeft n ws c l (40 ∷ text) (first ∷ (inner ++ others)) rest
    go count own (inl (e, none, nothing)) inner_is left =
        let counted : (c + 1) + count ≡ c + 1 = omega (arith, none) in
        last_left n first ws c l text after inner others m.others rest p.inside m.blanks m.behind p.text_is (says_all first text inner after p) m.are_blanks e m.ends
        (inner_is ∙ ap (λ ns. ns ++ m.others) nothing) (subst (λ k. PartsLeft n ws k l m.behind m.others rest) counted left)
    go count own (inr (futures, e, some)) inner_is left =
        let counted : (c + 1) + count ≡ c + (count + 1) = omega arith in
        further_left n first ws c count l text after inner others own m.others rest p.inside m.blanks futures m.behind p.text_is (says_all first text inner after p) m.are_blanks e some m.ends
        inner_is (subst (λ k. PartsLeft n ws k l m.behind m.others rest) counted left)

word_left : (n : FutureNode) (ws : List (List ℕ)) (c : ℕ) (l : Bool) (text : List ℕ) (inner : List FutureNode) (rest : List ℕ) → ((t : List ℕ) → text ≢ codes "nested=[" ++ t) → 0 < length (first_word Nothing text) → ends_part (after_word Nothing text) ≡ true
    → PartsLeft n (ws ++ first_word Nothing text ∷ []) c l (after_word Nothing text) inner rest → PartsLeft n ws c l text inner rest
word_left n ws c l text inner rest without some ends p =
    let own : List ℕ = first_word Nothing text in
    let is : IsWord own = record {
      some = some;
      unbroken = unbroken Nothing text ends;
      no_list = not_named own (after_word Nothing text) (λ t e. without t (whole_word Nothing text ∙ e));
    } in
    let ended : EndsPart p.inside = ends_inside p.inside rest (λ t. no_close_first t p.parts) (subst (λ t. ends_part t ≡ true) p.text_is ends) in
    record {
      inside = own ++ p.inside;
      words = own ∷ p.words;
      listed = p.listed;
      count = p.count;
      text_is = whole_word Nothing text ∙ ap (λ t. own ++ t) p.text_is ∙ sym (append_assoc own p.inside (41 ∷ rest));
      parts = a_word is ended p.parts;
      said = subst (λ t. SayWords t n) (append_assoc ws (own ∷ []) p.words) p.said;
      number = p.number;
      once = p.once;
    }

list_left : (n : FutureNode) (ws : List (List ℕ)) (c : ℕ) (text : List ℕ) (inner : List FutureNode) (rest : List ℕ) → ListLeft n ws c true text inner rest → PartsLeft n ws c false (codes "nested=[" ++ text) inner rest
list_left n ws c text inner rest p =
    let q = p.left in
    let un = q.once refl in
    let none = unlisted q.parts un in
    let nodes : inner ≡ p.own = p.inner_is ∙ ap (λ ns. p.own ++ ns) none.1 ∙ append-nil p.own in
    let ended : EndsPart q.inside = ends_inside q.inside rest (λ t. no_close_first t q.parts) (subst (λ t. ends_part t ≡ true) q.text_is p.ends) in
    let bare : SayParts q.inside q.words false 0 [] =
    subst (λ ns. SayParts q.inside q.words false 0 ns) none.1 (subst (λ k. SayParts q.inside q.words false k p.others) none.0 (subst (λ b. SayParts q.inside q.words b q.count p.others) un q.parts)) in
    let said : SayParts (codes "nested=[" ++ (p.futures ++ 93 ∷ q.inside)) q.words true p.count p.own = a_list (is p.list_is) ended bare in
    record {
      inside = codes "nested=[" ++ (p.futures ++ 93 ∷ q.inside);
      words = q.words;
      listed = true;
      count = p.count;
      text_is = ap (λ t. codes "nested=[" ++ t) (p.text_is ∙ ap (λ t. p.futures ++ 93 ∷ t) q.text_is ∙ sym (append_assoc p.futures (93 ∷ q.inside) (41 ∷ rest)));
      parts = subst (λ ns. SayParts (codes "nested=[" ++ (p.futures ++ 93 ∷ q.inside)) q.words true p.count ns) (sym nodes) said;
      said = q.said;
      number = omega (arith, q.number, none.0);
      once = λ e. absurd (false≢true e);
    }
  where
    is : (((c ≡ 0) × AreBlanks p.futures × (p.count ≡ 0) × (p.own ≡ [])) ⊎ SayFutures p.futures p.count p.own) → SaysList p.futures p.count p.own
    is (inl (zero_now, are, zero_count, nothing)) = subst (λ ns. SaysList p.futures p.count ns) (sym nothing) (subst (λ k. SaysList p.futures k []) (sym zero_count) (no_futures are))
    is (inr some) = some_futures some

left : {next : Next} {n : FutureNode} {ws : List (List ℕ)} {c : ℕ} {l : Bool} {text : List ℕ} {inner : List FutureNode} {rest : List ℕ} → RestOf next n ws c l text inner rest → Left next n ws c l text inner rest
left {next = next} {n = n} {ws = ws} {c = c} {l = l} {inner = inner} {rest = rest} (blank {text = text} r) = blank_left next n ws c l text inner rest (left r)
left {n = n} {ws = ws} {c = c} {l = l} (close {rest = rest} said count) = record {
  inside = [];
  words = [];
  listed = false;
  count = 0;
  text_is = refl;
  parts = no_part;
  said = subst (λ t. SayWords t n) (sym (append-nil ws)) said;
  number = omega (arith, count);
  once = λ _. refl;
}
left {n = n} {ws = ws} {c = c} {l = l} {text = text} {inner = inner} {rest = rest} (word without some ends r) = word_left n ws c l text inner rest without some ends (left r)
left {n = n} {ws = ws} {c = c} {inner = inner} {rest = rest} (list {text = text} r) = list_left n ws c text inner rest (left r)
left {n = n} {ws = ws} {c = c} {l = l} {inner = inner} {rest = rest} (empty {text = text} none ends r) = record {
  futures = [];
  behind = text;
  own = [];
  others = inner;
  count = 0;
  text_is = refl;
  list_is = inl (none, tt, refl, refl);
  ends = ends;
  inner_is = refl;
  left = let same : c ≡ c + 0 = omega arith in subst (λ k. PartsLeft n ws k l text inner rest) same (left r);
}
left {n = n} {ws = ws} {c = c} {l = l} {rest = rest} (nested {text = text} {inner = inner} {others = others} first after r s) = nested_left n first ws c l text after inner others rest (left r) (left s (omega arith))
left {n = n} {ws = ws} {c = c} {l = l} {inner = inner} {rest = rest} (comma {text = text} r) = λ some.
    let p = left r in
    let is : SayFutures p.futures p.count p.own = elim p.list_is [ inl none ↦ absurd (omega (arith, none.0)) | inr said ↦ said ] in
    record { blanks = []; are_blanks = tt; behind = p.behind; own = p.own; others = p.others; count = p.count; list_is = inr (p.futures, ap (λ t. 44 ∷ t) p.text_is, is); ends = p.ends; inner_is = p.inner_is; left = p.left }
left {n = n} {ws = ws} {c = c} {l = l} {inner = inner} {rest = rest} (end {text = text} ends r) = λ some. record {
  blanks = [];
  are_blanks = tt;
  behind = text;
  own = [];
  others = inner;
  count = 0;
  list_is = inl (refl, refl, refl);
  ends = ends;
  inner_is = refl;
  left = let same : c ≡ c + 0 = omega arith in subst (λ k. PartsLeft n ws k l text inner rest) same (left r);
}

pub read_says : (text : List ℕ) (nodes : List FutureNode) → IsRead text nodes → SaysFuture text nodes
read_says text nodes (node, inner, inside, e, is, r) =
    let p : PartsLeft node [] 0 false inside inner [] = left r in
    let count_is : p.count ≡ node.nested = omega (arith, p.number) in
    let says : SaysFuture (40 ∷ (p.inside ++ 41 ∷ [])) (node ∷ inner) = future (subst (λ k. SayParts p.inside p.words p.listed k inner) count_is p.parts) p.said in
    subst (λ t. SaysFuture t nodes) (sym (e ∙ ap (λ t. 40 ∷ t) p.text_is)) (subst (λ ns. SaysFuture (40 ∷ (p.inside ++ 41 ∷ [])) ns) (sym is) says)

-- ---- what is said is read

blanks_read : (blanks : List ℕ) {next : Next} {n : FutureNode} {ws : List (List ℕ)} {c : ℕ} {l : Bool} {text : List ℕ} {inner : List FutureNode} {rest : List ℕ} → AreBlanks blanks → RestOf next n ws c l text inner rest → RestOf next n ws c l (blanks ++ text) inner rest
blanks_read [] are r = r
blanks_read (b ∷ blanks) {next = next} {n = n} {ws = ws} {c = c} {l = l} {text = text} {inner = inner} {rest = rest} are r =
    subst (λ x. RestOf next n ws c l (x ∷ (blanks ++ text)) inner rest) (sym are.0) (blank (blanks_read blanks are.1 r))

word_on : (n : FutureNode) (ws : List (List ℕ)) (c : ℕ) (l : Bool) (own text : List ℕ) (inner : List FutureNode) (rest : List ℕ) → IsWord own → ends_part text ≡ true → RestOf Part n (ws ++ own ∷ []) c l text inner rest → RestOf Part n ws c l (own ++ text) inner rest
word_on n ws c l own text inner rest is ends r =
    let cut = cut_at Nothing own text is.unbroken ends in
    word (λ t e. no_list_first own text t is ends e) (subst (λ w. 0 < length w) (sym cut.0) is.some) (subst (λ t. ends_part t ≡ true) (sym cut.1) ends)
    (subst (λ w. RestOf Part n (ws ++ w ∷ []) c l (after_word Nothing (own ++ text)) inner rest) (sym cut.0)
    (subst (λ t. RestOf Part n (ws ++ own ∷ []) c l t inner rest) (sym cut.1) r))

list_on : (n : FutureNode) (ws : List (List ℕ)) (c : ℕ) (l : Bool) (text : List ℕ) (inner : List FutureNode) (rest : List ℕ) → l ≡ false → RestOf Nested n ws c true text inner rest → RestOf Part n ws c l (codes "nested=[" ++ text) inner rest
list_on n ws c l text inner rest un r = subst (λ b. RestOf Part n ws c b (codes "nested=[" ++ text) inner rest) (sym un) (list r)

not_true : (l : Bool) → (l ≡ true → ⊥) → l ≡ false
not_true false never = refl
not_true true never = absurd (never refl)

mutual
  parts_read : {inside : List ℕ} {words : List (List ℕ)} {listed : Bool} {count : ℕ} {inner : List FutureNode} → SayParts inside words listed count inner → (n : FutureNode) (ws : List (List ℕ)) (c : ℕ) (l : Bool) (rest : List ℕ)
      → (l ≡ true → listed ≡ false) → (l ≡ false → c ≡ 0) → SayWords (ws ++ words) n → n.nested ≡ c + count → RestOf Part n ws c l (inside ++ 41 ∷ rest) inner rest
  parts_read no_part n ws c l rest once fresh said number = close (subst (λ t. SayWords t n) (append-nil ws) said) (omega (arith, number))
  parts_read (a_blank p) n ws c l rest once fresh said number = blank (parts_read p n ws c l rest once fresh said number)
  parts_read (a_word {word = own} {text = text} {words = words} {nested = inner} is ends p) n ws c l rest once fresh said number =
      subst (λ t. RestOf Part n ws c l t inner rest) (sym (append_assoc own text (41 ∷ rest)))
      (word_on n ws c l own (text ++ 41 ∷ rest) inner rest is (ends_whole text rest ends)
      (parts_read p n (ws ++ own ∷ []) c l rest once fresh (subst (λ t. SayWords t n) (sym (append_assoc ws (own ∷ []) words)) said) number))
  parts_read (a_list {futures = futures} {text = text} {count = count} {nested = inner} some ends p) n ws c l rest once fresh said number =
      let un : l ≡ false = not_true l (λ is. false≢true (sym (once is))) in
      let none : c ≡ 0 = fresh un in
      let behind : RestOf Part n ws (c + count) true (text ++ 41 ∷ rest) [] rest = parts_read p n ws (c + count) true rest (λ _. refl) (λ listed. absurd (false≢true (sym listed))) said (omega (arith, number)) in
      let listed : RestOf Nested n ws c true (futures ++ 93 ∷ (text ++ 41 ∷ rest)) (inner ++ []) rest = list_read some n ws c (text ++ 41 ∷ rest) rest [] none (ends_whole text rest ends) behind in
      subst (λ t. RestOf Part n ws c l (codes "nested=[" ++ t) inner rest) (sym (append_assoc futures (93 ∷ text) (41 ∷ rest)))
      (list_on n ws c l (futures ++ 93 ∷ (text ++ 41 ∷ rest)) inner rest un (subst (λ ns. RestOf Nested n ws c true (futures ++ 93 ∷ (text ++ 41 ∷ rest)) ns rest) (append-nil inner) listed))

  list_read : {futures : List ℕ} {count : ℕ} {own : List FutureNode} → SaysList futures count own → (n : FutureNode) (ws : List (List ℕ)) (c : ℕ) (behind rest : List ℕ) (others : List FutureNode)
      → c ≡ 0 → ends_part behind ≡ true → RestOf Part n ws (c + count) true behind others rest → RestOf Nested n ws c true (futures ++ 93 ∷ behind) (own ++ others) rest
  list_read (no_futures {text = text} are) n ws c behind rest others none ends r =
      let same : c + 0 ≡ c = omega arith in
      blanks_read text are (empty none ends (subst (λ k. RestOf Part n ws k true behind others rest) same r))
  list_read (some_futures some) n ws c behind rest others none ends r = futures_read some n ws c behind rest others ends r

  futures_read : {futures : List ℕ} {count : ℕ} {own : List FutureNode} → SayFutures futures count own → (n : FutureNode) (ws : List (List ℕ)) (c : ℕ) (behind rest : List ℕ) (others : List FutureNode)
      → ends_part behind ≡ true → RestOf Part n ws (c + count) true behind others rest → RestOf Nested n ws c true (futures ++ 93 ∷ behind) (own ++ others) rest
  futures_read (one_future before after {text = text} {nodes = own} fronts said blanks) n ws c behind rest others ends r =
      subst (λ t. RestOf Nested n ws c true t (own ++ others) rest)
      (sym (append_assoc before (text ++ after) (93 ∷ behind) ∙ ap (λ t. before ++ t) (append_assoc text after (93 ∷ behind))))
      (blanks_read before fronts (future_read said n ws c (after ++ 93 ∷ behind) rest others (blanks_read after blanks (end ends r))))
  futures_read (more_futures before after {text = text} {others = later} {count = count} {nodes = own} {further = further} fronts said blanks more) n ws c behind rest others ends r =
      let counted : c + (count + 1) ≡ (c + 1) + count = omega arith in
      let on : RestOf Nested n ws (c + 1) true (later ++ 93 ∷ behind) (further ++ others) rest = futures_read more n ws (c + 1) behind rest others ends (subst (λ k. RestOf Part n ws k true behind others rest) counted r) in
      let first : RestOf Nested n ws c true (before ++ (text ++ (after ++ 44 ∷ (later ++ 93 ∷ behind)))) (own ++ (further ++ others)) rest =
      blanks_read before fronts (future_read said n ws c (after ++ 44 ∷ (later ++ 93 ∷ behind)) rest (further ++ others) (blanks_read after blanks (comma on))) in
      subst (λ ns. RestOf Nested n ws c true ((before ++ (text ++ (after ++ 44 ∷ later))) ++ 93 ∷ behind) ns rest) (sym (append_assoc own further others))
      (subst (λ t. RestOf Nested n ws c true t (own ++ (further ++ others)) rest)
      (sym (append_assoc before (text ++ (after ++ 44 ∷ later)) (93 ∷ behind) ∙ ap (λ t. before ++ t) (append_assoc text (after ++ 44 ∷ later) (93 ∷ behind) ∙ ap (λ t. text ++ t) (append_assoc after (44 ∷ later) (93 ∷ behind)))))
      first)

  future_read : {text : List ℕ} {own : List FutureNode} → SaysFuture text own → (n : FutureNode) (ws : List (List ℕ)) (c : ℕ) (after rest : List ℕ) (others : List FutureNode)
      → RestOf More n ws (c + 1) true after others rest → RestOf Nested n ws c true (text ++ after) (own ++ others) rest
  future_read (future {inside = inside} {words = words} {listed = listed} {node = node} {nested = inner} parts said) n ws c after rest others r =
      let number : node.nested ≡ 0 + node.nested = omega arith in
      subst (λ t. RestOf Nested n ws c true (40 ∷ t) (node ∷ (inner ++ others)) rest) (sym (append_assoc inside (41 ∷ []) after))
      (nested node after (parts_read parts node [] 0 false after (λ is. absurd (false≢true is)) (λ _. refl) said number) r)

pub says_read : (text : List ℕ) (nodes : List FutureNode) → SaysFuture text nodes → IsRead text nodes
says_read text nodes (future {inside = inside} {node = node} {nested = inner} parts said) =
    let number : node.nested ≡ 0 + node.nested = omega arith in
    (node, inner, inside ++ 41 ∷ [], refl, refl, parts_read parts node [] 0 false [] (λ is. absurd (false≢true is)) (λ _. refl) said number)
