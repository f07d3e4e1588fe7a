-- Fields as they are printed, one after another, and in brackets after a word.
use Rattle.std.proofs.Common.{◌≡◌, ◌++◌, ℕ, true, false, List, [], ◌∷◌, Some, None, ap, sym, refl, subst, ◌∙◌, append_assoc}
use Rattle.std.specs.Prelude.{codes}
use Rattle.std.specs.List.{AllByRecursion}
use Rattle.std.proofs.lemmas.List.{append-nil}
use Rattle.lines.specs.Pieces.{AreWords}
use Rattle.frame_values.specs.Notation.{Field, Fields, HoldsFields, bracketed, put, put_all}
use Rattle.frame_runs.proofs.Closed.{IsClosed, IsWord, closed_append, closed_none}
use Rattle.frame_runs.proofs.Joined.{are_words, bors, each_after, each_closed, no_words}
use Rattle.frame_runs.proofs.Named.{FieldsReadBack, are_apart, fields_are, words_of}
use Rattle.frame_runs.proofs.Values.{after_word_is, after_word}

-- words with a blank between each two
abbrev pub joined : List (List ℕ) → List ℕ
joined [] = []
joined (w ∷ words) = w ++ each_after 32 words

pub joined_words : (words : List (List ℕ)) → AllByRecursion IsWord words → AreWords (joined words) (bors words)
joined_words [] all = no_words
joined_words (w ∷ words) all = are_words w words all

all_closed : (words : List (List ℕ)) → AllByRecursion IsWord words → AllByRecursion IsClosed words
all_closed [] all = tt
all_closed (w ∷ words) all = (all.0.closed, all_closed words all.1)

pub joined_closed : (words : List (List ℕ)) → AllByRecursion IsWord words → IsClosed (joined words)
joined_closed [] all = closed_none
joined_closed (w ∷ words) all = closed_append w (each_after 32 words) all.0.closed (each_closed 32 words (refl, refl, refl) (all_closed words all.1))

-- ---- what is printed

assoc_five : (before name text more : List ℕ) → ((((before ++ 32 ∷ []) ++ name) ++ 61 ∷ []) ++ text) ++ more ≡ before ++ ((32 ∷ ((name ++ 61 ∷ []) ++ text)) ++ more)
assoc_five before name text more = simp append_assoc

assoc_four : (before name text more : List ℕ) → ((((before ++ []) ++ name) ++ 61 ∷ []) ++ text) ++ more ≡ before ++ (((name ++ 61 ∷ []) ++ text) ++ more)
assoc_four before name text more = rw (append-nil before) (simp append_assoc)

pub put_more : (before : List ℕ) (fs : List Field) → (put_all (before, false) fs).0 ≡ before ++ each_after 32 (words_of fs)
unfolding put
put_more before [] = sym (append-nil before)
put_more before ((name, None) ∷ fs) = put_more before fs
put_more before ((name, Some text) ∷ fs) =
    put_more ((((before ++ 32 ∷ []) ++ name) ++ 61 ∷ []) ++ text) fs ∙ assoc_five before name text (each_after 32 (words_of fs))

pub put_first : (before : List ℕ) (fs : List Field) → (put_all (before, true) fs).0 ≡ before ++ joined (words_of fs)
unfolding put
put_first before [] = sym (append-nil before)
put_first before ((name, None) ∷ fs) = put_first before fs
put_first before ((name, Some text) ∷ fs) =
    put_more ((((before ++ []) ++ name) ++ 61 ∷ []) ++ text) fs ∙ assoc_four before name text (each_after 32 (words_of fs))

-- ---- fields in brackets

module _ {A : Type 0} (word : List ℕ) (fields : Fields A) (it : A) (is : IsWord word) (reads : FieldsReadBack fields it) (differ : are_apart fields.names ≡ true) where
  text_is : bracketed word fields it ≡ word ++ codes "(" ++ joined (words_of (fields.printed it)) ++ codes ")"
  text_is = ap (λ l. l ++ codes ")") (put_first (word ++ codes "(") (fields.printed it))

  pub bracketed_said : HoldsFields word fields (bracketed word fields it) it
  bracketed_said = (
    joined (words_of (fields.printed it)),
    text_is ∙ after_word_is word (joined (words_of (fields.printed it))),
    (bors (words_of (fields.printed it)), joined_words (words_of (fields.printed it)) reads.words, fields_are fields it reads differ),
  )

  pub bracketed_word : IsWord (bracketed word fields it)
  bracketed_word = subst IsWord (sym text_is) (after_word word (joined (words_of (fields.printed it))) is (joined_closed (words_of (fields.printed it)) reads.words))
