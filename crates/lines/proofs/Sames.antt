-- Words that are the same as texts say the same.
use Rattle.std.proofs.Common.{◌≡◌, ℕ, List, [], ◌∷◌, Option, Some, None, ap, refl, sym, ◌∙◌, ◌&&◌}
use Rattle.std.specs.Borrow.{Bor}
use Rattle.std.specs.List.{list_any}
use Rattle.lines.proofs.Once.{Same}
use Rattle.lines.specs.Fields.{are_named, is_named, text_behind, texts_named}

pub texts_same : (name : List ℕ) (ws vs : List (Bor (List ℕ))) → Same ws vs → texts_named name ws ≡ texts_named name vs
texts_same name [] [] all = refl
texts_same name [] (v ∷ vs) all = absurd all
texts_same name (w ∷ ws) [] all = absurd all
texts_same name (w ∷ ws) (v ∷ vs) all = go (text_behind name w.now) refl (ap (text_behind name) (sym all.0)) (texts_same name ws vs all.1)
  where
    go : (found : Option (List ℕ)) → text_behind name w.now ≡ found → text_behind name v.now ≡ text_behind name w.now → texts_named name ws ≡ texts_named name vs → texts_named name (w ∷ ws) ≡ texts_named name (v ∷ vs)
    go None at other more = rw (other, at) more
    go (Some t) at other more = rw (other, at) (ap (λ ts. t ∷ ts) more)

pub named_same : (names : List (List ℕ)) (ws vs : List (Bor (List ℕ))) → Same ws vs → are_named names ws ≡ are_named names vs
named_same names [] [] all = refl
named_same names [] (v ∷ vs) all = absurd all
named_same names (w ∷ ws) [] all = absurd all
named_same names (w ∷ ws) (v ∷ vs) all =
    ap (λ b. list_any (λ name. is_named name w.now) names && b) (named_same names ws vs all.1) ∙ ap (λ t. list_any (λ name. is_named name t) names && are_named names vs) all.0
