-- What the texts after a field's name say.
use Rattle.std.proofs.Common.{◌≡◌, ◌<◌, true, List, [], ◌∷◌, ℕ, length, get_or, sym, subst}
use Rattle.std.specs.Borrow.{Bor}
use Rattle.lines.specs.Words.{text_at}
use Rattle.lines.proofs.Places.{word_at}
use Rattle.frame_values.specs.Notation.{Notation, SayField}

-- one text
pub field_said : {A : Type 0} (value : Notation A) (found : List (List ℕ)) (text : List ℕ) (it : A) → found ≡ text ∷ [] → value.Says text it → SayField value found it
field_said value found text it is says = subst (λ f. SayField value f it) (sym is) says

-- none
pub field_left_out : {A : Type 0} (value : Notation A) (found : List (List ℕ)) (it : A) → found ≡ [] → value.is_left_out it ≡ true → SayField value found it
field_left_out value found it is left_out = subst (λ f. SayField value f it) (sym is) left_out

-- what the word at a place says
pub said_at : {A : Type 0} (value : Notation A) (words : List (Bor (List ℕ))) (i : ℕ) (d : Bor (List ℕ)) (it : A) → i < length words → value.Says (get_or words i d).now it → value.Says (text_at i words) it
said_at value words i d it h says = subst (λ t. value.Says t it) (word_at words i d h) says
