-- How many bytes were written, as far as a usize goes.
use Rattle.std.proofs.Common.{◌≡◌, ℕ, ◌+◌, ◌-◌, ◌^◌, List, ◌∷◌, ◌++◌, [], length, min, ap, sym, ◌∙◌, append-nil, length-append, arith}
use Rattle.std.specs.List.{concat}
use Rattle.std.proofs.lemmas.List.Folds.{concat-append}
use Rattle.vm_parts.specs.Outboxes.{len_of}

saturates_both : (limit a b : ℕ) → min (min a limit + min b limit) limit ≡ min (a + b) limit
saturates_both limit a b = omega arith

-- what was taken and what waits
pub both_counted : (taken waits : List (List ℕ)) → min (len_of taken + len_of waits) (2 ^ 64 - 1) ≡ min (length (concat taken ++ concat waits)) (2 ^ 64 - 1)
both_counted taken waits =
    saturates_both (2 ^ 64 - 1) (length (concat taken)) (length (concat waits))
    ∙ ap (λ n. min n (2 ^ 64 - 1)) (sym (length-append (concat taken) (concat waits)))

saturates : (limit a b len : ℕ) → len ≡ min a limit → min (len + b) limit ≡ min (a + b) limit
saturates limit a b len e = omega arith

-- one piece more
pub piece_counted : (pieces : List (List ℕ)) (piece : List ℕ) (len : ℕ) → len ≡ len_of pieces → min (len + length piece) (2 ^ 64 - 1) ≡ len_of (pieces ++ piece ∷ [])
piece_counted pieces piece len e =
    saturates (2 ^ 64 - 1) (length (concat pieces)) (length piece) len e
    ∙ ap (λ n. min n (2 ^ 64 - 1)) (sym (ap length (concat-append pieces (piece ∷ []) ∙ ap (λ l. concat pieces ++ l) (append-nil piece)) ∙ length-append (concat pieces) piece))
