-- A stack, its top first.
use Rattle.std.proofs.Common.{◌≡◌, ◌<◌, ℕ, ◌+◌, List, [], ◌∷◌, ◌++◌, length, length-drop, take, drop, reverse, sym, ap, ◌∙◌, append_assoc, arith}
use Rattle.std.proofs.lemmas.List.{reverse-append, drop-drop, length-reverse}
use Rattle.std.proofs.Math.Seq.{take-add}

pub push_reverse : {X : Type 0} (xs : List X) (x : X) → reverse (xs ++ x ∷ []) ≡ x ∷ reverse xs
push_reverse xs x = reverse-append xs (x ∷ [])

pub one_taken : {X : Type 0} (all kids longer roots rest : List X) (i : ℕ) (x : X) (start : List X) → kids ≡ start ++ take i all → reverse roots ≡ drop i all → roots ≡ rest ++ x ∷ [] → longer ≡ kids ++ x ∷ []
    → (longer ≡ start ++ take (i + 1) all) × (reverse rest ≡ drop (i + 1) all)
one_taken all kids longer roots rest i x start k r top pushed =
    let d : drop i all ≡ x ∷ reverse rest = sym r ∙ ap reverse top ∙ push_reverse rest x in
    let t : take (i + 1) all ≡ take i all ++ x ∷ [] = take-add i 1 all ∙ ap (λ z. take i all ++ take 1 z) d in
    let e : drop (i + 1) all ≡ reverse rest = sym (drop-drop 1 i all) ∙ ap (drop 1) d in
    (pushed ∙ ap (λ z. z ++ x ∷ []) k ∙ append_assoc start (take i all) (x ∷ []) ∙ ap (λ z. start ++ z) (sym t), sym e)

-- where the stack is empty, what was taken from it is all that it had
pub none_to_take : {X : Type 0} (all roots : List X) (i count : ℕ) → reverse roots ≡ drop i (reverse all) → roots ≡ [] → i < count → length all < count
none_to_take all roots i count r none less =
    let e : length (drop i (reverse all)) ≡ 0 = ap length (sym r ∙ ap reverse none) in
    omega (arith, e, length-drop i (reverse all), length-reverse all, less)
