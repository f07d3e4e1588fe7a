-- Words that ask for no call.
use Rattle.std.proofs.Common.{◌≡◌, ◌<◌, inl, inr, ℕ, List, [], ◌∷◌, length, get_or, arith, Some, None, refl, subst, sym, ◌∙◌}
use Rattle.std.specs.Borrow.{Bor}
use Rattle.std.specs.Prelude.{IsAscii}
use Rattle.std.proofs.lemmas.Str.{IsUtf8-from_ascii}
use Rattle.plain.specs.declared.fault.Fault.{Fault}
use Rattle.plain.specs.declared.fault.Fault.TheVariants.{Malformed}
use Rattle.lines.specs.Pieces.{AreWords}
use Rattle.lines.specs.Readings.{Blames}
use Rattle.call_lines.specs.declared.verb.Verb.{Verb}
use Rattle.line_parts.specs.Trees.{SpellsFuture}
use Rattle.lines.proofs.Places.{word_at}
use Rattle.call_lines.specs.Lines.{AskNothing, AsksNothing, HasNoWords, HasWords}
use Rattle.call_lines.specs.Verbs.{IsAwaited, IsLine, verb_name, verb_named}
use Rattle.lines.specs.Words.{words_after_first, text_at}

-- no word
nothing_named : verb_named [] ≡ None
unfolding verb_named verb_name
nothing_named = refl

pub none_ask : (words : List (Bor (List ℕ))) → length words < 1 → AskNothing words
none_ask [] h = record { nothing = λ call asked. absurd (cc (sym nothing_named ∙ asked.names)) }
none_ask (w ∷ words) h = absurd (omega arith)

-- a first word that names no call
pub unnamed_ask : (words : List (Bor (List ℕ))) → verb_named (text_at 0 words) ≡ None → AskNothing words
unnamed_ask words e = record { nothing = λ call asked. absurd (cc (sym e ∙ asked.names)) }

some_once : (a b : Verb) → Some a ≡ Some b → a ≡ b
some_once a b e = search e

-- arguments that aren't those of the call
pub blamed_ask : (words : List (Bor (List ℕ))) (named : Verb) (fault : Fault) → verb_named (text_at 0 words) ≡ Some named → Blames (IsLine named (words_after_first words)) fault → fault ≡ Malformed → AskNothing words
blamed_ask words named fault e blames bad = record {
  nothing = λ call asked. blames.nothing bad call (subst (λ v. IsLine v (words_after_first words) call) (sym (some_once named asked.named (sym e ∙ asked.names))) asked.line);
}

-- a line of ASCII is UTF-8
pub ascii_has_words : (text : List ℕ) (words : List (Bor (List ℕ))) → IsAscii text → AreWords text words → HasWords text words
ascii_has_words text words ascii are = (IsUtf8-from_ascii text ascii, are)

-- a line that has no words, and one whose words ask for nothing
pub wordless_asks : (text : List ℕ) → HasNoWords text → AsksNothing text
wordless_asks text none = inl none

pub words_ask : (text : List ℕ) (words : List (Bor (List ℕ))) → HasWords text words → AskNothing words → AsksNothing text
words_ask text words are nothing = inr (words, are, nothing)

-- the only word is no tree
pub one_tree_blamed : (words : List (Bor (List ℕ))) (d : Bor (List ℕ)) (fault : Fault) → length words ≡ 1 → Blames (SpellsFuture (get_or words 0 d).now) fault → Blames (IsAwaited words) fault
one_tree_blamed words d fault one blames = record {
  nothing = λ bad future is. blames.nothing bad future (subst (λ t. SpellsFuture t future) (sym (word_at words 0 d (omega arith))) is.1);
}
