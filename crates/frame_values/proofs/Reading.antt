-- The steps of a reader of futures: the text from there says the rest of what is open exactly if it does from here.
use Rattle.std.proofs.Common.{◌≡◌, ◌≢◌, ◌<◌, ◌≤◌, ◌+◌, ◌++◌, ℕ, Bool, true, false, List, [], ◌∷◌, drop, get_or, length, set, reverse, ap, sym, refl, subst, ◌∙◌, arith, append_assoc, length-append}
use Rattle.std.specs.Prelude.{codes}
use Rattle.std.specs.Borrow.{Bor}
use Rattle.std.proofs.lemmas.Bool.{false≢true}
use Rattle.std.proofs.lemmas.List.{append-nil, length-set, map-append, reverse-append, set-append_left, set_at}
use Rattle.plain.specs.declared.fault.Fault.{Fault}
use Rattle.plain.specs.declared.fault.Fault.TheVariants.{Malformed}
use Rattle.lines.specs.Pieces.{piece_texts}
use Rattle.lines.specs.Readings.{Blames}
use Rattle.lines.proofs.Once.{Same}
use Rattle.journal_protocol.specs.FutureNode.{FutureNode}
use Rattle.frame_values.specs.declared.nested.Next.{Next}
use Rattle.frame_values.specs.declared.nested.Next.TheVariants.{Part, Nested, More}
use Rattle.frame_values.specs.declared.nested.OpenFuture.{OpenFuture}
use Rattle.frame_values.specs.declared.words.Within.TheVariants.{Nothing}
use Rattle.frame_values.specs.FutureWords.{after_word, ends_part, first_word}
use Rattle.frame_values.specs.Futures.{SayWords, SaysFuture, node_fields}
use Rattle.frame_values.specs.Notation.{AreFields}
use Rattle.frame_values.specs.OpenFutures.{ArePlaced, Completes, Denies, EndsRest, IsRestOf, ReadsOn, RestOf, blank, close, word, list, empty, nested, comma, end}
use Rattle.frame_values.proofs.Refusing.{same_fields}
use Rattle.frame_values.proofs.Parting.{IsRead, read_says, says_read}
use Rattle.frame_values.proofs.Opening.{at_blank, at_close, at_comma, at_empty, at_end, at_list, at_nested, at_word, no_more, no_nested}

reversed : (olds news : List OpenFuture) (o : OpenFuture) → news ≡ olds ++ o ∷ [] → reverse news ≡ o ∷ reverse olds
reversed olds news o is = ap reverse is ∙ reverse-append olds (o ∷ [])

placed_more : (opens : List OpenFuture) (n m : ℕ) → n ≤ m → ArePlaced opens n → ArePlaced opens m
unfolding ArePlaced
placed_more [] n m less p = tt
placed_more (o ∷ opens) n m less p = (omega (arith, p.0), placed_more opens n m less p.1)

-- the rest of a future, by equal words, counts, flags and texts
same_rest : {next : Next} {n : FutureNode} {inner : List FutureNode} {after : List ℕ} (ws vs : List (List ℕ)) (c d : ℕ) (l m : Bool) (t u : List ℕ) → ws ≡ vs → c ≡ d → l ≡ m → t ≡ u → RestOf next n ws c l t inner after → RestOf next n vs d m u inner after
same_rest {next = next} {n = n} {inner = inner} {after = after} ws vs c d l m t u a b e f r =
    subst (λ x. RestOf next n vs d m x inner after) f (
    subst (λ x. RestOf next n vs d x t inner after) e (
    subst (λ x. RestOf next n vs x l t inner after) b (
    subst (λ x. RestOf next n x c l t inner after) a r)))

-- the innermost open future goes on
goes : (next then : Next) (o p : OpenFuture) (olds news : List OpenFuture) (nodes : List FutureNode) (text rest : List ℕ) → news ≡ olds ++ p ∷ [] → p.place ≡ o.place
    → ((n : FutureNode) (inner : List FutureNode) (after : List ℕ) → IsRestOf p then n rest inner after → IsRestOf o next n text inner after)
    → ((n : FutureNode) (inner : List FutureNode) (after : List ℕ) → IsRestOf o next n text inner after → IsRestOf p then n rest inner after)
    → length rest < length text → ArePlaced (o ∷ reverse olds) (length nodes) → ReadsOn next (o ∷ reverse olds) nodes text then (reverse news) nodes rest
unfolding ArePlaced Completes EndsRest
goes next then o p olds news nodes text rest is at back forth shorter placed =
    let reads : ReadsOn next (o ∷ reverse olds) nodes text then (p ∷ reverse olds) nodes rest = record {
      placed = (subst (λ k. k < length nodes) (sym at) placed.0, placed.1);
      said = λ all s. (s.0, s.1, s.2, back s.0 s.1 s.2 s.3, subst (λ k. Completes More (reverse olds) (set nodes k s.0 ++ s.1) s.2 all) at s.4);
      goes_on = λ g. (g.0, g.1, g.2, forth g.0 g.1 g.2 g.3, g.4);
      shorter = shorter;
    } in
    subst (λ opens. ReadsOn next (o ∷ reverse olds) nodes text then opens nodes rest) (sym (reversed olds news p is)) reads

-- ---- steps

pub first_placed : (o : OpenFuture) (outer : List OpenFuture) (n : ℕ) → ArePlaced (o ∷ outer) n → o.place < n
unfolding ArePlaced
first_placed o outer n placed = placed.0

pub blank_read : (next : Next) (o : OpenFuture) (olds news : List OpenFuture) (nodes : List FutureNode) (text rest : List ℕ) → news ≡ olds ++ o ∷ [] → text ≡ 32 ∷ rest → ArePlaced (o ∷ reverse olds) (length nodes)
    → ReadsOn next (o ∷ reverse olds) nodes text next (reverse news) nodes rest
blank_read next o olds news nodes text rest is e placed =
    goes next next o o olds news nodes text rest is refl
    (λ n inner after r. subst (λ t. IsRestOf o next n t inner after) (sym e) (blank r)) (λ n inner after r. at_blank rest e r)
    (omega (arith, ap length e)) placed

pub list_begun : (o p : OpenFuture) (olds news : List OpenFuture) (nodes : List FutureNode) (text rest : List ℕ) → news ≡ olds ++ p ∷ [] → p.place ≡ o.place → p.words ≡ o.words → p.nested ≡ o.nested → p.has_list ≡ true → o.has_list ≡ false
    → text ≡ codes "nested=[" ++ rest → ArePlaced (o ∷ reverse olds) (length nodes) → ReadsOn Part (o ∷ reverse olds) nodes text Nested (reverse news) nodes rest
list_begun o p olds news nodes text rest is at words count listed unlisted e placed =
    let same : piece_texts p.words.items ≡ piece_texts o.words.items = ap (λ ws. piece_texts ws.items) words in
    goes Part Nested o p olds news nodes text rest is at
    (λ n inner after r.
    same_rest (piece_texts o.words.items) (piece_texts o.words.items) o.nested o.nested false o.has_list (codes "nested=[" ++ rest) text refl refl (sym unlisted) (sym e)
    (list (same_rest (piece_texts p.words.items) (piece_texts o.words.items) p.nested o.nested p.has_list true rest rest same count listed refl r)))
    (λ n inner after r. same_rest (piece_texts o.words.items) (piece_texts p.words.items) o.nested p.nested true p.has_list rest rest (sym same) (sym count) (sym listed) refl (at_list rest e r).1)
    (omega (arith, ap length e)) placed

pub comma_read : (o : OpenFuture) (olds news : List OpenFuture) (nodes : List FutureNode) (text rest : List ℕ) → news ≡ olds ++ o ∷ [] → text ≡ 44 ∷ rest → ArePlaced (o ∷ reverse olds) (length nodes)
    → ReadsOn More (o ∷ reverse olds) nodes text Nested (reverse news) nodes rest
comma_read o olds news nodes text rest is e placed =
    goes More Nested o o olds news nodes text rest is refl
    (λ n inner after r. subst (λ t. IsRestOf o More n t inner after) (sym e) (comma r)) (λ n inner after r. at_comma rest e r)
    (omega (arith, ap length e)) placed

pub end_read : (o : OpenFuture) (olds news : List OpenFuture) (nodes : List FutureNode) (text rest : List ℕ) → news ≡ olds ++ o ∷ [] → ends_part rest ≡ true → text ≡ 93 ∷ rest → ArePlaced (o ∷ reverse olds) (length nodes)
    → ReadsOn More (o ∷ reverse olds) nodes text Part (reverse news) nodes rest
end_read o olds news nodes text rest is ends e placed =
    goes More Part o o olds news nodes text rest is refl
    (λ n inner after r. subst (λ t. IsRestOf o More n t inner after) (sym e) (end ends r)) (λ n inner after r. (at_end rest e r).1)
    (omega (arith, ap length e)) placed

pub empty_read : (o : OpenFuture) (olds news : List OpenFuture) (nodes : List FutureNode) (text rest : List ℕ) → news ≡ olds ++ o ∷ [] → ends_part rest ≡ true → text ≡ 93 ∷ rest → o.nested ≡ 0 → ArePlaced (o ∷ reverse olds) (length nodes)
    → ReadsOn Nested (o ∷ reverse olds) nodes text Part (reverse news) nodes rest
empty_read o olds news nodes text rest is ends e none placed =
    goes Nested Part o o olds news nodes text rest is refl
    (λ n inner after r. subst (λ t. IsRestOf o Nested n t inner after) (sym e) (empty none ends r)) (λ n inner after r. (at_empty rest e r).1)
    (omega (arith, ap length e)) placed

pub word_read : (o p : OpenFuture) (olds news : List OpenFuture) (nodes : List FutureNode) (text rest : List ℕ) (w : Bor (List ℕ)) → news ≡ olds ++ p ∷ [] → p.place ≡ o.place → p.words.items ≡ o.words.items ++ w ∷ [] → p.nested ≡ o.nested → p.has_list ≡ o.has_list
    → w.now ≡ first_word Nothing text → rest ≡ after_word Nothing text → text ≡ w.now ++ rest → 0 < length w.now → ends_part rest ≡ true
    → ((t : List ℕ) → text ≢ 32 ∷ t) → ((t : List ℕ) → text ≢ 41 ∷ t) → ((t : List ℕ) → text ≢ codes "nested=[" ++ t)
    → ArePlaced (o ∷ reverse olds) (length nodes) → ReadsOn Part (o ∷ reverse olds) nodes text Part (reverse news) nodes rest
word_read o p olds news nodes text rest w is at words count listed word_is rest_is whole some ends no_blank no_close no_list placed =
    let more : piece_texts p.words.items ≡ piece_texts o.words.items ++ first_word Nothing text ∷ [] =
    ap piece_texts words ∙ map-append (λ (b : Bor (List ℕ)). b.now) o.words.items (w ∷ []) ∙ ap (λ t. piece_texts o.words.items ++ t ∷ []) word_is in
    let long : 0 < length (first_word Nothing text) = subst (λ t. 0 < length t) word_is some in
    goes Part Part o p olds news nodes text rest is at
    (λ n inner after r.
    word no_list long (subst (λ t. ends_part t ≡ true) rest_is ends)
    (same_rest (piece_texts p.words.items) (piece_texts o.words.items ++ first_word Nothing text ∷ []) p.nested o.nested p.has_list o.has_list rest (after_word Nothing text) more count listed rest_is r))
    (λ n inner after r.
    same_rest (piece_texts o.words.items ++ first_word Nothing text ∷ []) (piece_texts p.words.items) o.nested p.nested o.has_list p.has_list (after_word Nothing text) rest (sym more) (sym count) (sym listed) (sym rest_is) (at_word no_blank no_close no_list r).2)
    (omega (arith, ap length whole, length-append w.now rest)) placed

pub close_read : (o : OpenFuture) (outer : List OpenFuture) (nodes filled : List FutureNode) (text rest : List ℕ) → ((node : FutureNode) × SayWords (piece_texts o.words.items) node × (node.nested ≡ o.nested) × (filled ≡ set nodes o.place node))
    → text ≡ 41 ∷ rest → ArePlaced (o ∷ outer) (length nodes) → ReadsOn Part (o ∷ outer) nodes text More outer filled rest
unfolding ArePlaced Completes EndsRest
close_read o outer nodes filled text rest (node, said, count, fill) e placed = record {
  placed = subst (λ k. ArePlaced outer k) (sym (ap length fill ∙ length-set nodes o.place node)) placed.1;
  said = λ all c. (
    node,
    [],
    rest,
    subst (λ t. IsRestOf o Part node t [] rest) (sym e) (close said count),
    subst (λ ns. Completes More outer ns rest all) (fill ∙ sym (append-nil (set nodes o.place node))) c,
  );
  goes_on = λ g. let at = at_close rest e g.3 in subst (λ t. EndsRest More outer t) (sym at.0) g.4;
  shorter = omega (arith, ap length e);
}

-- a node's place, and nodes after it
filled_first : (nodes inner others : List FutureNode) (hole first n : FutureNode) (k : ℕ) → k < length nodes
    → set (set (nodes ++ hole ∷ []) (length nodes) first ++ inner) k n ++ others ≡ set nodes k n ++ (first ∷ (inner ++ others))
filled_first nodes inner others hole first n k less =
    ap (λ ns. set (ns ++ inner) k n ++ others) (set_at nodes hole [] first (length nodes) refl)
    ∙ ap (λ ns. set ns k n ++ others) (append_assoc nodes (first ∷ []) inner)
    ∙ ap (λ ns. ns ++ others) (set-append_left nodes (first ∷ inner) k n less)
    ∙ append_assoc (set nodes k n) (first ∷ inner) others

pub nested_begun : (o p q : OpenFuture) (olds mids news : List OpenFuture) (nodes more : List FutureNode) (hole : FutureNode) (text rest : List ℕ) → mids ≡ olds ++ p ∷ [] → news ≡ mids ++ q ∷ [] → more ≡ nodes ++ hole ∷ []
    → p.place ≡ o.place → p.words ≡ o.words → p.has_list ≡ o.has_list → p.nested ≡ o.nested + 1 → q.place ≡ length nodes → q.words.items ≡ [] → q.has_list ≡ false → q.nested ≡ 0
    → text ≡ 40 ∷ rest → ArePlaced (o ∷ reverse olds) (length nodes) → ReadsOn Nested (o ∷ reverse olds) nodes text Part (reverse news) more rest
unfolding ArePlaced Completes EndsRest
nested_begun o p q olds mids news nodes more hole text rest mid new longer at words listed count q_at q_words q_listed q_count e placed =
    let same : piece_texts p.words.items ≡ piece_texts o.words.items = ap (λ ws. piece_texts ws.items) words in
    let none : piece_texts q.words.items ≡ [] = ap piece_texts q_words in
    let long : length more ≡ length nodes + 1 = ap length longer ∙ length-append nodes (hole ∷ []) in
    let reads : ReadsOn Nested (o ∷ reverse olds) nodes text Part (q ∷ (p ∷ reverse olds)) more rest = record {
      placed = (omega (arith, long, q_at), (omega (arith, long, at, placed.0), placed_more (reverse olds) (length nodes) (length more) (omega (arith, long)) placed.1));
      said = λ all s.
          let first = s.0 in
          let n = s.4.0 in
          let filled : set (set more q.place first ++ s.1) p.place n ++ s.4.1 ≡ set nodes o.place n ++ (first ∷ (s.1 ++ s.4.1)) =
          ap (λ ns. set (set ns q.place first ++ s.1) p.place n ++ s.4.1) longer
          ∙ ap (λ k. set (set (nodes ++ hole ∷ []) k first ++ s.1) p.place n ++ s.4.1) q_at
          ∙ ap (λ k. set (set (nodes ++ hole ∷ []) (length nodes) first ++ s.1) k n ++ s.4.1) at
          ∙ filled_first nodes s.1 s.4.1 hole first n o.place placed.0 in (
            n,
            first ∷ (s.1 ++ s.4.1),
            s.4.2,
            subst (λ t. IsRestOf o Nested n t (first ∷ (s.1 ++ s.4.1)) s.4.2) (sym e) (nested first s.2
                (same_rest (piece_texts q.words.items) [] q.nested 0 q.has_list false rest rest none q_count q_listed refl s.3)
                (same_rest (piece_texts p.words.items) (piece_texts o.words.items) p.nested (o.nested + 1) p.has_list o.has_list s.2 s.2 same count listed refl s.4.3)),
            subst (λ ns. Completes More (reverse olds) ns s.4.2 all) filled s.4.4,
          );
      goes_on = λ g. let at = at_nested rest e g.3 in (
        at.0,
        at.1,
        at.3,
        same_rest [] (piece_texts q.words.items) 0 q.nested false q.has_list rest rest (sym none) (sym q_count) (sym q_listed) refl at.5,
        (
          g.0,
          at.2,
          g.2,
          same_rest (piece_texts o.words.items) (piece_texts p.words.items) (o.nested + 1) p.nested o.has_list p.has_list at.3 at.3 (sym same) (sym count) (sym listed) refl at.6,
          g.4,
        ),
      );
      shorter = omega (arith, ap length e);
    } in
    subst (λ opens. ReadsOn Nested (o ∷ reverse olds) nodes text Part opens more rest) (sym (reversed mids news q new ∙ ap (λ os. q ∷ os) (reversed olds mids p mid))) reads

-- ---- refusals

pub nested_memory : (Holds : Type 0) (fault : Fault) → (fault ≡ Malformed → ⊥) → Denies Holds fault
nested_memory Holds fault never = record { never = λ bad _. never bad }

-- what would be said of the innermost open future isn't
denied : (next : Next) (o : OpenFuture) (outer : List OpenFuture) (text : List ℕ) (fault : Fault) → (fault ≡ Malformed → (n : FutureNode) (inner : List FutureNode) (after : List ℕ) → IsRestOf o next n text inner after → ⊥) → Denies (EndsRest next (o ∷ outer) text) fault
unfolding EndsRest
denied next o outer text fault none = record { never = λ bad g. none bad g.0 g.1 g.2 g.3 }

pub empty_denied : (o : OpenFuture) (outer : List OpenFuture) (text rest : List ℕ) (fault : Fault) → text ≡ 93 ∷ rest → Denies (ends_part rest ≡ true) fault → Denies (EndsRest Nested (o ∷ outer) text) fault
empty_denied o outer text rest fault e denies = denied Nested o outer text fault (λ bad n inner after r. denies.never bad (at_empty rest e r).0)

pub nested_denied : (o : OpenFuture) (outer : List OpenFuture) (text : List ℕ) (fault : Fault) → ((t : List ℕ) → text ≢ 32 ∷ t) → ((t : List ℕ) → text ≢ 40 ∷ t) → (o.nested ≡ 0 → (t : List ℕ) → text ≢ 93 ∷ t) → Denies (EndsRest Nested (o ∷ outer) text) fault
nested_denied o outer text fault no_blank no_open no_end = denied Nested o outer text fault (λ bad n inner after r. no_nested no_blank no_open no_end r)

pub end_denied : (o : OpenFuture) (outer : List OpenFuture) (text rest : List ℕ) (fault : Fault) → text ≡ 93 ∷ rest → Denies (ends_part rest ≡ true) fault → Denies (EndsRest More (o ∷ outer) text) fault
end_denied o outer text rest fault e denies = denied More o outer text fault (λ bad n inner after r. denies.never bad (at_end rest e r).0)

pub more_denied : (o : OpenFuture) (outer : List OpenFuture) (text : List ℕ) (fault : Fault) → ((t : List ℕ) → text ≢ 32 ∷ t) → ((t : List ℕ) → text ≢ 44 ∷ t) → ((t : List ℕ) → text ≢ 93 ∷ t) → Denies (EndsRest More (o ∷ outer) text) fault
more_denied o outer text fault no_blank no_comma no_end = denied More o outer text fault (λ bad n inner after r. no_more no_blank no_comma no_end r)

pub list_denied : (o : OpenFuture) (outer : List OpenFuture) (text rest : List ℕ) (fault : Fault) → o.has_list ≡ true → text ≡ codes "nested=[" ++ rest → Denies (EndsRest Part (o ∷ outer) text) fault
list_denied o outer text rest fault listed e = denied Part o outer text fault (λ bad n inner after r. false≢true (sym (at_list rest e r).0 ∙ listed))

pub close_denied : (o : OpenFuture) (outer : List OpenFuture) (text rest : List ℕ) (fault : Fault) → text ≡ 41 ∷ rest → Blames (SayWords (piece_texts o.words.items)) fault → Denies (EndsRest Part (o ∷ outer) text) fault
close_denied o outer text rest fault e blames = denied Part o outer text fault (λ bad n inner after r. blames.nothing bad n (at_close rest e r).1)

pub empty_word_denied : (o : OpenFuture) (outer : List OpenFuture) (text : List ℕ) (w : Bor (List ℕ)) (fault : Fault) → w.now ≡ first_word Nothing text → length w.now ≡ 0
    → ((t : List ℕ) → text ≢ 32 ∷ t) → ((t : List ℕ) → text ≢ 41 ∷ t) → ((t : List ℕ) → text ≢ codes "nested=[" ++ t) → Denies (EndsRest Part (o ∷ outer) text) fault
empty_word_denied o outer text w fault word_is none no_blank no_close no_list = denied Part o outer text fault (λ bad n inner after r.
    let some : 0 < length (first_word Nothing text) = (at_word no_blank no_close no_list r).0 in
    let long : length (first_word Nothing text) ≡ 0 = ap length (sym word_is) ∙ none in
    absurd (omega arith))

pub word_denied : (o : OpenFuture) (outer : List OpenFuture) (text rest : List ℕ) (fault : Fault) → rest ≡ after_word Nothing text → ends_part rest ≡ false
    → ((t : List ℕ) → text ≢ 32 ∷ t) → ((t : List ℕ) → text ≢ 41 ∷ t) → ((t : List ℕ) → text ≢ codes "nested=[" ++ t) → Denies (EndsRest Part (o ∷ outer) text) fault
word_denied o outer text rest fault rest_is unended no_blank no_close no_list = denied Part o outer text fault (λ bad n inner after r.
    false≢true (sym unended ∙ ap ends_part rest_is ∙ (at_word no_blank no_close no_list r).1))

same_texts : (ws vs : List (Bor (List ℕ))) → piece_texts ws ≡ piece_texts vs → Same ws vs
same_texts [] [] e = tt
same_texts [] (v ∷ vs) e = absurd (omega (arith, ap length e))
same_texts (w ∷ ws) [] e = absurd (omega (arith, ap length e))
same_texts (w ∷ ws) (v ∷ vs) e = (ap (λ ts. get_or ts 0 []) e, same_texts ws vs (ap (drop 1) e))

pub words_blamed : (words items : List (Bor (List ℕ))) (fault : Fault) → words ≡ items → Blames (AreFields node_fields words) fault → Blames (SayWords (piece_texts items)) fault
words_blamed words items fault same blames = record {
  nothing = λ bad node say. blames.nothing bad node (same_fields node_fields say.0 words node (same_texts say.0 words (say.1 ∙ ap piece_texts (sym same))) say.2);
}

-- ---- the whole text

-- where a reader of the text stands: what the text from there says of the rest, the whole says; and if the whole says a future, it goes on there
pub record Stands (text : List ℕ) (next : Next) (opens : List OpenFuture) (nodes : List FutureNode) (rest : List ℕ) : Type 0 where
  pub placed : ArePlaced opens (length nodes)
  pub said : (all : List FutureNode) → Completes next opens nodes rest all → SaysFuture text all
  pub goes_on : (all : List FutureNode) → SaysFuture text all → EndsRest next opens rest

tail_of : (a b : ℕ) (xs ys : List ℕ) → a ∷ xs ≡ b ∷ ys → xs ≡ ys
tail_of a b xs ys e = ap (λ (t : List ℕ). elim t [ [] ↦ xs | x ∷ t ↦ t ]) e

pub stands_first : (text rest : List ℕ) (o : OpenFuture) (none opens : List OpenFuture) (nothing nodes : List FutureNode) (hole : FutureNode) → none ≡ [] → opens ≡ none ++ o ∷ [] → nothing ≡ [] → nodes ≡ nothing ++ hole ∷ [] → text ≡ 40 ∷ rest
    → o.place ≡ 0 → o.words.items ≡ [] → o.has_list ≡ false → o.nested ≡ 0 → Stands text Part (reverse opens) nodes rest
unfolding ArePlaced Completes EndsRest
stands_first text rest o none opens nothing nodes hole empty_opens one empty_nodes one_node e at words listed count =
    let no_words : piece_texts o.words.items ≡ [] = ap piece_texts words in
    let node_is : nodes ≡ hole ∷ [] = one_node ∙ ap (λ ns. ns ++ hole ∷ []) empty_nodes in
    let open_is : reverse opens ≡ o ∷ [] = ap reverse (one ∙ ap (λ os. os ++ o ∷ []) empty_opens) in
    let stands : Stands text Part (o ∷ []) (hole ∷ []) rest = record {
      placed = (omega (arith, at), tt);
      said = λ all s. read_says text all (
        s.0,
        s.1,
        rest,
        e,
        s.4.1 ∙ ap (λ k. set (hole ∷ []) k s.0 ++ s.1) at,
        subst (λ a. RestOf Part s.0 [] 0 false rest s.1 a) s.4.0 (same_rest (piece_texts o.words.items) [] o.nested 0 o.has_list false rest rest no_words count listed refl s.3),
      );
      goes_on = λ all says. let read : IsRead text all = says_read text all says in (
        read.0,
        read.1,
        [],
        same_rest [] (piece_texts o.words.items) 0 o.nested false o.has_list read.2 rest (sym no_words) (sym count) (sym listed) (tail_of 40 40 read.2 rest (sym read.3 ∙ e)) read.5,
        refl,
      );
    } in
    subst (λ os. Stands text Part os nodes rest) (sym open_is) (subst (λ ns. Stands text Part (o ∷ []) ns rest) (sym node_is) stands)

popped : (text : List ℕ) (next : Next) (opens olds : List OpenFuture) (o : OpenFuture) (nodes : List FutureNode) (rest : List ℕ) → opens ≡ olds ++ o ∷ [] → Stands text next (reverse opens) nodes rest → Stands text next (o ∷ reverse olds) nodes rest
popped text next opens olds o nodes rest is stands = subst (λ os. Stands text next os nodes rest) (reversed olds opens o is) stands

pub stands_placed : (text : List ℕ) (next : Next) (opens olds : List OpenFuture) (o : OpenFuture) (nodes : List FutureNode) (rest : List ℕ) → opens ≡ olds ++ o ∷ [] → Stands text next (reverse opens) nodes rest → ArePlaced (o ∷ reverse olds) (length nodes)
stands_placed text next opens olds o nodes rest is stands = (popped text next opens olds o nodes rest is stands).placed

pub stands_on : (text : List ℕ) (next then : Next) (opens olds news : List OpenFuture) (o : OpenFuture) (nodes more : List FutureNode) (rest behind : List ℕ) → Stands text next (reverse opens) nodes rest → opens ≡ olds ++ o ∷ []
    → ReadsOn next (o ∷ reverse olds) nodes rest then (reverse news) more behind → Stands text then (reverse news) more behind
stands_on text next then opens olds news o nodes more rest behind stands is reads =
    let at : Stands text next (o ∷ reverse olds) nodes rest = popped text next opens olds o nodes rest is stands in
    record { placed = reads.placed; said = λ all c. at.said all (reads.said all c); goes_on = λ all read. reads.goes_on (at.goes_on all read) }

pub stands_last : (text : List ℕ) (next : Next) (opens : List OpenFuture) (nodes : List FutureNode) (rest : List ℕ) → Stands text next (reverse opens) nodes rest → opens ≡ [] → length rest ≡ 0 → SaysFuture text nodes
unfolding Completes
stands_last text next opens nodes rest stands none over =
    let at : Stands text next [] nodes rest = subst (λ os. Stands text next os nodes rest) (ap reverse none) stands in
    at.said nodes (nothing rest over, refl)
  where
    nothing : (r : List ℕ) → length r ≡ 0 → r ≡ []
    nothing [] e = refl
    nothing (b ∷ r) e = absurd (omega (arith, e))

pub rest_denied : (text : List ℕ) (next : Next) (opens : List OpenFuture) (nodes : List FutureNode) (rest : List ℕ) (fault : Fault) → Stands text next (reverse opens) nodes rest → opens ≡ [] → 0 < length rest → Blames (SaysFuture text) fault
unfolding EndsRest
rest_denied text next opens nodes rest fault stands none some = record {
  nothing = λ bad all read.
      let at : Stands text next [] nodes rest = subst (λ os. Stands text next os nodes rest) (ap reverse none) stands in
      let over : rest ≡ [] = at.goes_on all read in
      absurd (omega (arith, ap length over));
}

pub on_denied : (text : List ℕ) (next : Next) (opens olds : List OpenFuture) (o : OpenFuture) (nodes : List FutureNode) (rest : List ℕ) (fault : Fault) → Stands text next (reverse opens) nodes rest → opens ≡ olds ++ o ∷ []
    → Denies (EndsRest next (o ∷ reverse olds) rest) fault → Blames (SaysFuture text) fault
on_denied text next opens olds o nodes rest fault stands is denies = record {
  nothing = λ bad all read. denies.never bad ((popped text next opens olds o nodes rest is stands).goes_on all read);
}

pub unopened_denied : (text : List ℕ) (fault : Fault) → ((rest : List ℕ) → text ≢ 40 ∷ rest) → Blames (SaysFuture text) fault
unopened_denied text fault none = record { nothing = λ bad all says. let read : IsRead text all = says_read text all says in none read.2 read.3 }
