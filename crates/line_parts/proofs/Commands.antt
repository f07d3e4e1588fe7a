-- Brackets that name no command.
use Rattle.std.proofs.Common.{◌≡◌, ◌≢◌, ◌<◌, ℕ, List, [], ◌∷◌, None, find, length, drop, get_or, ap, sym, subst, ◌∙◌, arith, nat_eq, Option}
use Rattle.std.specs.Borrow.{Bor}
use Rattle.std.specs.Cmp.Lexicographic.{pointwise}
use Rattle.plain.specs.declared.fault.Fault.{Fault}
use Rattle.vm_types.specs.declared.command_type.CommandType.{CommandType}
use Rattle.vm_types.specs.declared.command_type.CommandType.TheVariants as command
use Rattle.lines.specs.Pieces.{AreWordsWithin}
use Rattle.lines.specs.Readings.{Blames}
use Rattle.lines.proofs.Once.{words_within_once}
use Rattle.line_parts.specs.Reports.{AreTypeAndName, IsCommandText, IsCommandAt, IsCommandName, IsType, command_type_name}
use Rattle.lines.specs.Words.{IsNumberOf, text_at}
use Rattle.line_parts.proofs.Finding.{none_named}
use Rattle.line_parts.proofs.Pairs.{same_at, same_length}
use Rattle.lines.proofs.Places.{word_at}

-- the types of commands
abbrev pub types : List CommandType
types =
    command.Input ∷ command.Output ∷ command.GetState ∷ command.GetStateKeys ∷ command.SetState ∷ command.ClearState ∷ command.ClearAllState ∷ command.GetPromise ∷ command.PeekPromise ∷ command.CompletePromise ∷ command.Sleep ∷ command.Call ∷ command.OneWayCall ∷ command.SendSignal ∷ command.Run ∷ command.AttachInvocation ∷ command.GetInvocationOutput ∷ command.CompleteAwakeable ∷ command.CancelInvocation ∷ []

-- a word that names no type
pub no_type : (text : List ℕ) (fault : Fault) → find (λ ty. pointwise nat_eq text (command_type_name ty)) types ≡ None → Blames (IsType text) fault
no_type text fault none = record { nothing = λ bad ty is. go ty is }
  where
    at : (i : ℕ) → i < 19 → text ≡ command_type_name (get_or types i command.Input) → ⊥
    at i h e = none_named command_type_name types text none i command.Input (omega arith) e

    go : (ty : CommandType) → IsType text ty → ⊥
    go command.Input is = at 0 (omega arith) is
    go command.Output is = at 1 (omega arith) is
    go command.GetState is = at 2 (omega arith) is
    go command.GetStateKeys is = at 3 (omega arith) is
    go command.SetState is = at 4 (omega arith) is
    go command.ClearState is = at 5 (omega arith) is
    go command.ClearAllState is = at 6 (omega arith) is
    go command.GetPromise is = at 7 (omega arith) is
    go command.PeekPromise is = at 8 (omega arith) is
    go command.CompletePromise is = at 9 (omega arith) is
    go command.Sleep is = at 10 (omega arith) is
    go command.Call is = at 11 (omega arith) is
    go command.OneWayCall is = at 12 (omega arith) is
    go command.SendSignal is = at 13 (omega arith) is
    go command.Run is = at 14 (omega arith) is
    go command.AttachInvocation is = at 15 (omega arith) is
    go command.GetInvocationOutput is = at 16 (omega arith) is
    go command.CompleteAwakeable is = at 17 (omega arith) is
    go command.CancelInvocation is = at 18 (omega arith) is

pub count_blamed : (words : List (Bor (List ℕ))) (fault : Fault) → length words ≢ 2 → Blames (AreTypeAndName words) fault
count_blamed words fault other = record { nothing = λ bad command are. other are.0 }

pub type_blamed : (words : List (Bor (List ℕ))) (d : Bor (List ℕ)) (fault : Fault) → length words ≡ 2 → Blames (IsType (get_or words 0 d).now) fault → Blames (AreTypeAndName words) fault
type_blamed words d fault two blames = record {
  nothing = λ bad command are. blames.nothing bad command.0 (subst (λ t. IsType t command.0) (sym (word_at words 0 d (omega arith))) are.1);
}

pub name_blamed : (words : List (Bor (List ℕ))) (d : Bor (List ℕ)) (fault : Fault) → length words ≡ 2 → Blames (IsCommandName (get_or words 1 d).now) fault → Blames (AreTypeAndName words) fault
name_blamed words d fault two blames = record {
  nothing = λ bad command are. blames.nothing bad command.1 (subst (λ t. IsCommandName t command.1) (sym (word_at words 1 d (omega arith))) are.2);
}

pub unbracketed_blamed : (text : List ℕ) (fault : Fault) → Blames (AreWordsWithin 40 41 text) fault → Blames (IsCommandText text) fault
unbracketed_blamed text fault blames = record { nothing = λ bad command is. blames.nothing bad is.words is.are_words }

pub words_blamed : (text : List ℕ) (ws : List (Bor (List ℕ))) (fault : Fault) → AreWordsWithin 40 41 text ws → Blames (AreTypeAndName ws) fault → Blames (IsCommandText text) fault
words_blamed text ws fault are blames = record {
  nothing = λ bad command is.
      let all = words_within_once 40 41 text ws is.words are is.are_words in
      blames.nothing bad command (same_length ws is.words all ∙ is.two, subst (λ t. IsType t command.0) (sym (same_at 0 ws is.words all)) is.is_type, subst (λ t. IsCommandName t command.1) (sym (same_at 1 ws is.words all)) is.is_name);
}

pub at_unbracketed_blamed : (text : List ℕ) (fault : Fault) → Blames (AreWordsWithin 40 41 text) fault → Blames (IsCommandAt text) fault
at_unbracketed_blamed text fault blames = record { nothing = λ bad command is. blames.nothing bad is.words is.are_words }

pub at_index_blamed : (text : List ℕ) (ws : List (Bor (List ℕ))) (fault : Fault) → AreWordsWithin 40 41 text ws → Blames (IsNumberOf 32 (text_at 0 ws)) fault → Blames (IsCommandAt text) fault
at_index_blamed text ws fault are blames = record {
  nothing = λ bad command is. blames.nothing bad command.0 (subst (λ t. IsNumberOf 32 t command.0) (sym (same_at 0 ws is.words (words_within_once 40 41 text ws is.words are is.are_words))) is.is_index);
}

-- a type and a name after an index
behind_index : (words : List (Bor (List ℕ))) (ty : CommandType) (name : Option (List ℕ)) → length words ≡ 3 → IsType (text_at 1 words) ty → IsCommandName (text_at 2 words) name → AreTypeAndName (drop 1 words) (ty, name)
behind_index [] ty name three is_type is_name = absurd (omega arith)
behind_index (w ∷ words) ty name three is_type is_name = (omega arith, is_type, is_name)

pub at_words_blamed : (text : List ℕ) (ws others : List (Bor (List ℕ))) (fault : Fault) → AreWordsWithin 40 41 text ws → others ≡ drop 1 ws → Blames (AreTypeAndName others) fault → Blames (IsCommandAt text) fault
at_words_blamed text ws others fault are e blames = record {
  nothing = λ bad command is.
      let all = words_within_once 40 41 text ws is.words are is.are_words in
      let behind = behind_index ws command.1 command.2 (same_length ws is.words all ∙ is.three) (subst (λ t. IsType t command.1) (sym (same_at 1 ws is.words all)) is.is_type) (subst (λ t. IsCommandName t command.2) (sym (same_at 2 ws is.words all)) is.is_name) in
      blames.nothing bad (command.1, command.2) (subst (λ words. AreTypeAndName words (command.1, command.2)) (sym e) behind);
}

pub command_at : (text : List ℕ) (ws others : List (Bor (List ℕ))) (index : ℕ) (ty : CommandType) (name : Option (List ℕ)) → AreWordsWithin 40 41 text ws → others ≡ drop 1 ws → IsNumberOf 32 (text_at 0 ws) index → AreTypeAndName others (ty, name) → IsCommandAt text (index, ty, name)
command_at text [] others index ty name are e is_index is = let long = is.0 in let none = ap length e in absurd (omega arith)
command_at text (w ∷ ws) others index ty name are e is_index is =
    let those = subst (λ words. AreTypeAndName words (ty, name)) e is in
    let long = those.0 in
    record { words = w ∷ ws; are_words = are; three = omega arith; is_index = is_index; is_type = those.1; is_name = those.2 }
