-- What is printed of a future says just that future.
use Rattle.std.proofs.Common.{◌≡◌, ◌+◌, ◌-◌, ◌++◌, ◌==◌, ℕ, zero, suc, Bool, true, false, if◌then◌else◌, nat_lt, List, [], ◌∷◌, ap, sym, refl, subst, ◌∙◌, arith, append_assoc}
use Rattle.std.specs.Prelude.{codes}
use Rattle.std.specs.List.{AllByRecursion}
use Rattle.std.proofs.lemmas.Bool.{false≢true}
use Rattle.std.proofs.lemmas.Bool.Decides.{nat_tests}
use Rattle.std.proofs.lemmas.List.{append-nil}
use Rattle.lines.specs.Pieces.{piece_texts}
use Rattle.journal_protocol.specs.FutureNode.{FutureNode}
use Rattle.journal_protocol.specs.Futures.{are_whole}
use Rattle.journal_attempt.specs.Futures.{future, future_format, future_valid}
use Rattle.frame_values.specs.Futures.{EndsPart, IsWord as IsPart, SayFutures, SayParts, SayWords, SaysFuture, a_blank, a_list, a_word, ends_text, future as a_future, future_notation, future_text, left_then, more_futures, no_part, node_fields, node_head_text, nodes_text, one_future, some_futures}
use Rattle.frame_runs.proofs.Bracketed.{joined, joined_closed, put_first}
use Rattle.frame_runs.proofs.Closed.{IsClosed, IsWord, closed_append, closed_byte, in_round, in_square, plain_word}
use Rattle.frame_runs.proofs.Fitting.{AllBytes}
use Rattle.frame_runs.proofs.FutureParts.{Prints, each_prints, words_in}
use Rattle.frame_runs.proofs.Joined.{bors, each_after}
use Rattle.frame_runs.proofs.Values.{ReadsBack}

-- ---- words

texts_are : (words : List (List ℕ)) → piece_texts (bors words) ≡ words
texts_are [] = refl
texts_are (w ∷ words) = ap (λ ws. w ∷ ws) (texts_are words)

say_words : (n : FutureNode) → Prints n → SayWords (words_in n) n
say_words n prints = (bors (words_in n), texts_are (words_in n), prints.are)

-- The parts that end a future: its words, whether it has a list, how many nest in it, and their nodes.
module _ (tail : List ℕ) (later : List (List ℕ)) (listed : Bool) (count : ℕ) (nested : List FutureNode) (ends : EndsPart tail) (parts : SayParts tail later listed count nested) where
  ends_after : (words : List (List ℕ)) → EndsPart (each_after 32 words ++ tail)
  ends_after [] = ends
  ends_after (w ∷ words) = refl

  word_said : (w : List ℕ) (words : List (List ℕ)) → IsPart w → SayParts (each_after 32 words ++ tail) (words ++ later) listed count nested → SayParts ((w ++ each_after 32 words) ++ tail) (w ∷ (words ++ later)) listed count nested
  word_said w words is others = subst (λ text. SayParts text (w ∷ (words ++ later)) listed count nested) (sym (append_assoc w (each_after 32 words) tail)) (a_word is (ends_after words) others)

  each_said : (words : List (List ℕ)) → AllByRecursion IsPart words → SayParts (each_after 32 words ++ tail) (words ++ later) listed count nested
  each_said [] all = parts
  each_said (w ∷ words) all = a_blank (word_said w words all.0 (each_said words all.1))

  joined_said : (words : List (List ℕ)) → AllByRecursion IsPart words → SayParts (joined words ++ tail) (words ++ later) listed count nested
  joined_said [] all = parts
  joined_said (w ∷ words) all = word_said w words all.0 (each_said words all.1)

-- ---- futures one after another

-- as many whole futures as counted, each with the futures that nest in it
data Forest : ℕ → List FutureNode → Type 0 where
  no_future : Forest 0 []
  first_future : {count : ℕ} {n : FutureNode} {inner others : List FutureNode} → Prints n → Forest n.nested inner → Forest count others → Forest (suc count) (n ∷ (inner ++ others))

-- the first of them, and the others
record Cut (first other : ℕ) (nodes : List FutureNode) : Type 0 where
  front : List FutureNode
  behind : List FutureNode
  is : nodes ≡ front ++ behind
  firsts : Forest first front
  others : Forest other behind

cut : (a b : ℕ) {count : ℕ} {nodes : List FutureNode} → count ≡ a + b → Forest count nodes → Cut a b nodes
cut zero b {nodes = nodes} e forest = let same : b ≡ 0 + b = omega arith in record { front = []; behind = nodes; is = refl; firsts = no_future; others = subst (λ k. Forest k nodes) (e ∙ sym same) forest }
cut (suc a) b e no_future = absurd (omega (arith, e))
cut (suc a) b e (first_future {count = count} {n = n} {inner = inner} {others = others} prints nested forest) =
    let rest : Cut a b others = cut a b (omega (arith, e)) forest in
    record {
      front = n ∷ (inner ++ rest.front);
      behind = rest.behind;
      is = ap (λ ns. n ∷ (inner ++ ns)) rest.is ∙ ap (λ ns. n ∷ ns) (sym (append_assoc inner rest.front rest.behind));
      firsts = first_future prints nested rest.firsts;
      others = rest.others;
    }

forest_of : (count : ℕ) (nodes : List FutureNode) → are_whole count nodes ≡ true → AllByRecursion Prints nodes → Forest count nodes
forest_of zero [] are all = no_future
forest_of zero (n ∷ nodes) are all = absurd (false≢true are)
forest_of (suc count) [] are all = absurd (false≢true are)
forest_of (suc count) (n ∷ nodes) are all =
    let both : Cut n.nested count nodes = cut n.nested count (omega arith) (forest_of (count + n.nested) nodes are all.1) in
    subst (λ ns. Forest (suc count) (n ∷ ns)) (sym both.is) (first_future all.0 both.firsts both.others)

-- ---- what is printed of a future, and of futures of the same list

-- the text of a future in brackets
abbrev bracketed : List ℕ → List ℕ
bracketed inside = 40 ∷ (inside ++ 41 ∷ [])

-- The text that is printed of a future says it; what follows it is what is printed when it ends.
record Future (n : FutureNode) (inner : List FutureNode) : Type 0 where
  inside : List ℕ
  closed : IsClosed inside
  says : SaysFuture (bracketed inside) (n ∷ inner)
  printed : (left : List ℕ) (more : List FutureNode) → nodes_text left (n ∷ (inner ++ more)) ≡ bracketed inside ++ (ends_text left ++ nodes_text (left_then left) more)

-- the same of the futures of a list, to the last
record Futures (count : ℕ) (nodes : List FutureNode) : Type 0 where
  text : List ℕ
  closed : IsClosed text
  says : SayFutures text count nodes
  printed : (outer : List ℕ) (more : List FutureNode) → nodes_text (count ∷ outer) (nodes ++ more) ≡ text ++ (ends_text (1 ∷ outer) ++ nodes_text (left_then (1 ∷ outer)) more)

abbrev Printed : ℕ → List FutureNode → Type 0
Printed zero nodes = nodes ≡ []
Printed (suc count) nodes = Futures (suc count) nodes

-- ---- a future in which none nests

module _ (n : FutureNode) (prints : Prints n) (zero_nested : n.nested ≡ 0) where
  leaf_head : node_head_text n ≡ bracketed (joined (words_in n))
  unfolding node_head_text
  leaf_head = let test : (n.nested == 0) ≡ true = ap (λ k. k == 0) zero_nested in
      ap (λ text. text ++ (if n.nested == 0 then codes ")" else codes " nested=[")) (put_first (codes "(") (node_fields.printed n)) ∙ rw test refl

  leaf_nodes : (left : List ℕ) (more : List FutureNode) → nodes_text left (n ∷ more) ≡ node_head_text n ++ (ends_text left ++ nodes_text (left_then left) more)
  unfolding nodes_text
  leaf_nodes left more = let test : (n.nested == 0) ≡ true = ap (λ k. k == 0) zero_nested in rw test refl

  leaf_parts : SayParts (joined (words_in n)) (words_in n) false n.nested []
  leaf_parts =
      let inside = joined (words_in n) in
      subst (λ k. SayParts inside (words_in n) false k []) (sym zero_nested)
      (subst (λ text. SayParts text (words_in n) false 0 []) (append-nil inside)
      (subst (λ words. SayParts (inside ++ []) words false 0 []) (append-nil (words_in n))
      (joined_said [] [] false 0 [] tt no_part (words_in n) prints.parts)))

  leaf : Future n []
  leaf = record {
    inside = joined (words_in n);
    closed = joined_closed (words_in n) prints.words;
    says = a_future leaf_parts (say_words n prints);
    printed = λ left more. leaf_nodes left more ∙ ap (λ head. head ++ (ends_text left ++ nodes_text (left_then left) more)) leaf_head;
  }

-- ---- a future with a list

-- the list of nested futures, after the words
abbrev listed_text : List ℕ → List ℕ
listed_text futures = 32 ∷ (codes "nested=[" ++ (futures ++ 93 ∷ []))

listed_closed : (futures : List ℕ) → IsClosed futures → IsClosed (listed_text futures)
listed_closed futures closed =
    closed_append (32 ∷ codes "nested=") (91 ∷ (futures ++ 93 ∷ []))
    (closed_append (32 ∷ []) (codes "nested=") (closed_byte 32 (refl, refl, refl)) (plain_word (codes "nested=") (omega arith) refl).closed)
    (in_square futures closed).closed

branch_ends : (words futures name ends rest : List ℕ) → (40 ∷ (words ++ 32 ∷ name)) ++ (futures ++ ((93 ∷ 41 ∷ ends) ++ rest)) ≡ bracketed (words ++ (32 ∷ (name ++ (futures ++ 93 ∷ [])))) ++ (ends ++ rest)
branch_ends words futures name ends rest = simp append_assoc

module _ (n : FutureNode) (prints : Prints n) (count : ℕ) (inner : List FutureNode) (some_nested : n.nested ≡ suc count) (nested : Futures (suc count) inner) where
  branch_test : (n.nested == 0) ≡ false
  branch_test = grind (arith, nat_tests)

  branch_head : node_head_text n ≡ 40 ∷ (joined (words_in n) ++ 32 ∷ codes "nested=[")
  unfolding node_head_text
  branch_head = ap (λ text. text ++ (if n.nested == 0 then codes ")" else codes " nested=[")) (put_first (codes "(") (node_fields.printed n)) ∙ rw branch_test refl

  branch_nodes : (left : List ℕ) (more : List FutureNode) → nodes_text left (n ∷ (inner ++ more)) ≡ node_head_text n ++ nodes_text (n.nested ∷ left) (inner ++ more)
  unfolding nodes_text
  branch_nodes left more = rw branch_test refl

  branch_parts : SayParts (joined (words_in n) ++ listed_text nested.text) (words_in n) true n.nested inner
  branch_parts =
      let tail = listed_text nested.text in
      let list : SayParts tail [] true (suc count) inner = a_blank (a_list (some_futures nested.says) tt no_part) in
      subst (λ k. SayParts (joined (words_in n) ++ tail) (words_in n) true k inner) (sym some_nested)
      (subst (λ words. SayParts (joined (words_in n) ++ tail) words true (suc count) inner) (append-nil (words_in n))
      (joined_said tail [] true (suc count) inner refl list (words_in n) prints.parts))

  branch : Future n inner
  branch = record {
    inside = joined (words_in n) ++ listed_text nested.text;
    closed = closed_append (joined (words_in n)) (listed_text nested.text) (joined_closed (words_in n) prints.words) (listed_closed nested.text nested.closed);
    says = a_future branch_parts (say_words n prints);
    printed = λ left more.
        let rest = nodes_text (left_then left) more in
        branch_nodes left more ∙ ap (λ head. head ++ nodes_text (n.nested ∷ left) (inner ++ more)) branch_head
        ∙ ap (λ k. (40 ∷ (joined (words_in n) ++ 32 ∷ codes "nested=[")) ++ nodes_text (k ∷ left) (inner ++ more)) some_nested
        ∙ ap (λ text. (40 ∷ (joined (words_in n) ++ 32 ∷ codes "nested=[")) ++ text) (nested.printed left more)
        ∙ branch_ends (joined (words_in n)) nested.text (codes "nested=[") (ends_text left) rest;
  }

future_of : (n : FutureNode) (inner : List FutureNode) → Prints n → (count : ℕ) → n.nested ≡ count → Printed count inner → Future n inner
future_of n inner prints zero e nothing = subst (Future n) (sym nothing) (leaf n prints e)
future_of n inner prints (suc count) e nested = branch n prints count inner e nested

-- ---- the futures of a list

blank_futures : {text : List ℕ} {count : ℕ} {nodes : List FutureNode} → SayFutures text count nodes → SayFutures (32 ∷ text) count nodes
blank_futures (one_future before behind fronts said blanks) = one_future (32 ∷ before) behind (refl, fronts) said blanks
blank_futures (more_futures before behind fronts said blanks others) = more_futures (32 ∷ before) behind (refl, fronts) said blanks others

last_future : (n : FutureNode) (inner : List FutureNode) → Future n inner → Futures 1 (n ∷ (inner ++ []))
last_future n inner it = record {
  text = bracketed it.inside;
  closed = (in_round it.inside it.closed).closed;
  says = subst (λ nodes. SayFutures (bracketed it.inside) 1 (n ∷ nodes)) (sym (append-nil inner))
      (subst (λ text. SayFutures text 1 (n ∷ inner)) (append-nil (bracketed it.inside)) (one_future [] [] tt it.says tt));
  printed = λ outer more. ap (λ nodes. nodes_text (1 ∷ outer) (n ∷ (nodes ++ more))) (append-nil inner) ∙ it.printed (1 ∷ outer) more;
}

between : (outer : List ℕ) (count : ℕ) → ends_text (suc (suc count) ∷ outer) ≡ codes ", "
between outer count = let test : nat_lt 1 (suc (suc count)) ≡ true = grind (arith, nat_tests) in rw test refl

one_less : (outer : List ℕ) (count : ℕ) → left_then (suc (suc count) ∷ outer) ≡ suc count ∷ outer
one_less outer count =
    let test : nat_lt 1 (suc (suc count)) ≡ true = grind (arith, nat_tests) in
    let less : suc (suc count) - 1 ≡ suc count = omega arith in
    rw (test, less) refl

after_comma : (text futures ends : List ℕ) → text ++ (codes ", " ++ (futures ++ ends)) ≡ (text ++ (44 ∷ 32 ∷ futures)) ++ ends
after_comma text futures ends = sym (append_assoc text (44 ∷ 32 ∷ futures) ends)

next_future : (n : FutureNode) (inner : List FutureNode) (count : ℕ) (others : List FutureNode) → Future n inner → Futures (suc count) others → Futures (suc (suc count)) (n ∷ (inner ++ others))
next_future n inner count others it later =
    let says : SayFutures (bracketed it.inside ++ (44 ∷ 32 ∷ later.text)) (suc count + 1) ((n ∷ inner) ++ others) = more_futures [] [] tt it.says tt (blank_futures later.says) in
    let counted : suc count + 1 ≡ suc (suc count) = omega arith in
    record {
      text = bracketed it.inside ++ (44 ∷ 32 ∷ later.text);
      closed = closed_append (bracketed it.inside) (44 ∷ 32 ∷ later.text) (in_round it.inside it.closed).closed
          (closed_append (44 ∷ []) (32 ∷ later.text) (closed_byte 44 (refl, refl, refl)) (closed_append (32 ∷ []) later.text (closed_byte 32 (refl, refl, refl)) later.closed));
      says = subst (λ k. SayFutures (bracketed it.inside ++ (44 ∷ 32 ∷ later.text)) k (n ∷ (inner ++ others))) counted says;
      printed = λ outer more.
          ap (λ nodes. nodes_text (suc (suc count) ∷ outer) (n ∷ nodes)) (append_assoc inner others more)
          ∙ it.printed (suc (suc count) ∷ outer) (others ++ more)
          ∙ ap (λ ends. bracketed it.inside ++ (ends ++ nodes_text (left_then (suc (suc count) ∷ outer)) (others ++ more))) (between outer count)
          ∙ ap (λ left. bracketed it.inside ++ (codes ", " ++ nodes_text left (others ++ more))) (one_less outer count)
          ∙ ap (λ text. bracketed it.inside ++ (codes ", " ++ text)) (later.printed outer more)
          ∙ after_comma (bracketed it.inside) later.text (ends_text (1 ∷ outer) ++ nodes_text (left_then (1 ∷ outer)) more);
    }

futures_of : (n : FutureNode) (inner : List FutureNode) (count : ℕ) (others : List FutureNode) → Future n inner → Printed count others → Futures (suc count) (n ∷ (inner ++ others))
futures_of n inner zero others it nothing = subst (λ ns. Futures 1 (n ∷ (inner ++ ns))) (sym nothing) (last_future n inner it)
futures_of n inner (suc count) others it later = next_future n inner count others it later

printed_of : {count : ℕ} {nodes : List FutureNode} → Forest count nodes → Printed count nodes
printed_of no_future = refl
printed_of (first_future {count = count} {n = n} {inner = inner} {others = others} prints nested forest) =
    futures_of n inner count others (future_of n inner prints n.nested refl (printed_of nested)) (printed_of forest)

-- ---- one future

-- its text says it, and is one word
record Whole (nodes : List FutureNode) : Type 0 where
  inside : List ℕ
  closed : IsClosed inside
  says : SaysFuture (bracketed inside) nodes
  printed : future_text nodes ≡ bracketed inside

alone : (n : FutureNode) (inner : List FutureNode) → Future n inner → Whole (n ∷ inner)
unfolding nodes_text
alone n inner it = record {
  inside = it.inside;
  closed = it.closed;
  says = it.says;
  printed = ap (λ nodes. nodes_text [] (n ∷ nodes)) (sym (append-nil inner)) ∙ it.printed [] [] ∙ append-nil (bracketed it.inside);
}

whole_of : {count : ℕ} {nodes : List FutureNode} → count ≡ 1 → Forest count nodes → Whole nodes
whole_of e no_future = absurd (omega (arith, e))
whole_of e (first_future {count = count} {n = n} {inner = inner} {others = others} prints nested forest) =
    let last : count ≡ 0 = omega (arith, e) in
    let nothing : others ≡ [] = subst (λ k. Printed k others) last (printed_of forest) in
    subst (λ nodes. Whole (n ∷ nodes)) (sym (ap (λ ns. inner ++ ns) nothing ∙ append-nil inner)) (alone n inner (future_of n inner prints n.nested refl (printed_of nested)))

pub future_reads : (nodes : List FutureNode) → (future_format).valid nodes → AllBytes ((future_format).spelling nodes) → ReadsBack future_notation nodes
unfolding future future_valid
future_reads nodes v b =
    let it : Whole nodes = whole_of refl (forest_of 1 nodes v.1 (each_prints nodes v.0 b)) in
    record { says = subst (λ text. SaysFuture text nodes) (sym it.printed) it.says; word = subst IsWord (sym it.printed) (in_round it.inside it.closed) }
