-- The first line of a text ends where its first newline stands.
use Rattle.std.proofs.Common.{◌≢◌, ◌+◌, ◌++◌, ℕ, List, [], ◌∷◌, length, take, drop, get_or, inl, inr, refl, sym, ap, ◌∙◌, arith}
use Rattle.std.specs.List.{All}
use Rattle.std.proofs.lemmas.Bool.{eqb-true}
use Rattle.std.proofs.lemmas.List.{take-append-drop, drop_more, get_or-take, length-take-le}
use Rattle.std.proofs.lemmas.List.Elements.{All-from_get_or}
use Rattle.memchr.specs.Find.{Nowhere, NoneBefore, Passes, is_byte}
use Rattle.lines.specs.Text.{IsFirstLine}

-- a newline stands before it
pub ends_at : (text : List ℕ) (at : ℕ) → NoneBefore (Passes (is_byte 10) text) 0 (length text) at → Passes (is_byte 10) text at
    → IsFirstLine text (take at text) (drop (at + 1) text)
ends_at text at none is =
    let h = none.high in
    let long = length-take-le at text (omega (arith, h)) in
    let line : All (λ b. b ≢ 10) (take at text) =
    All-from_get_or (λ b. b ≢ 10) (take at text) 0 (λ i less e.
    none.before i (omega arith) (omega (arith, long, less)) (rw (sym (get_or-take at text i 0 (omega (arith, long, less))) ∙ e) refl)) in
    let behind = drop_more text at 0 h ∙ ap (λ b. b ∷ drop (at + 1) text) (eqb-true (get_or text at 0) 10 is) in
    (line, inl (sym (take-append-drop at text) ∙ ap (λ t. take at text ++ t) behind))

-- no newline stands in it
pub never_ends : (text : List ℕ) → Nowhere (Passes (is_byte 10) text) 0 (length text) → IsFirstLine text text []
never_ends text nowhere =
    (All-from_get_or (λ b. b ≢ 10) text 0 (λ i less e. nowhere i (omega arith) less (rw e refl)), inr (refl, refl))
