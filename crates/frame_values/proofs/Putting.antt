-- Fields that are printed after a text.
use Rattle.std.proofs.Common.{◌≡◌, ◌++◌, Bool, List, [], ◌∷◌, ℕ, Some, None, refl, sym, append_assoc, ap, ◌∙◌}
use Rattle.frame_values.specs.Notation.{Field, Printed, put, put_all}

-- what is printed after a text doesn't depend on it
abbrev behind : List ℕ → Printed → Printed
behind before so_far = (before ++ so_far.0, so_far.1)

one_behind : (before : List ℕ) (so_far : Printed) (f : Field) → put (behind before so_far) f ≡ behind before (put so_far f)
unfolding put
one_behind before so_far (name, None) = refl
one_behind before so_far (name, Some text) = simp append_assoc

all_behind : (before : List ℕ) (so_far : Printed) (fields : List Field) → put_all (behind before so_far) fields ≡ behind before (put_all so_far fields)
all_behind before so_far [] = refl
all_behind before so_far (f ∷ fields) = ap (λ s. put_all s fields) (one_behind before so_far f) ∙ all_behind before (put so_far f) fields

pub put_behind : (before text : List ℕ) (is_first : Bool) (fields : List Field) → (put_all (before ++ text, is_first) fields).0 ≡ before ++ (put_all (text, is_first) fields).0
put_behind before text is_first fields = ap (λ s. s.0) (all_behind before (text, is_first) fields)

-- fields after a front, which itself stands after a text
pub printed_behind : (before front opened after : List ℕ) (is_first last : Bool) (fields : List Field) → opened ≡ before ++ front → put_all (opened, is_first) fields ≡ (after, last) → after ≡ before ++ (put_all (front, is_first) fields).0
printed_behind before front opened after is_first last fields is printed = ap (λ s. s.0) (sym printed) ∙ ap (λ t. (put_all (t, is_first) fields).0) is ∙ put_behind before front is_first fields

-- and a tail after the fields
pub closed_behind : (before front opened after closed tail : List ℕ) (is_first last : Bool) (fields : List Field) → opened ≡ before ++ front → put_all (opened, is_first) fields ≡ (after, last) → closed ≡ after ++ tail → closed ≡ before ++ ((put_all (front, is_first) fields).0 ++ tail)
closed_behind before front opened after closed tail is_first last fields is printed behind =
    behind ∙ ap (λ t. t ++ tail) (printed_behind before front opened after is_first last fields is printed) ∙ append_assoc before (put_all (front, is_first) fields).0 tail
