-- What the id of an awakeable names.
use Rattle.std.proofs.Common.{◌≡◌, ◌<◌, ◌+◌, ◌-◌, ℕ, zero, suc, List, [], ◌∷◌, ◌++◌, length, take, drop, Some, None, refl, ap, ◌∙◌, arith, length-append}
use Rattle.std.specs.Prelude.{◌^◌, cond, nat_lt, false}
use Rattle.std.specs.Int.{w32, from_be_bytes, to_be_bytes}
use Rattle.std.proofs.lemmas.Bool.Decides.{nat_tests}
use Rattle.std.proofs.lemmas.List.{drop_at, take_at}
use Rattle.std.proofs.lemmas.Nat.{from_be_bytes-to_be_bytes_4}
use Rattle.base64.specs.Engines.{url_safe_no_pad}
use Rattle.base64.specs.GeneralPurpose.{IsBytes}
use Rattle.base64.proofs.EngineFacts.{decode_of-encode_of}
use Rattle.journal_store.specs.Awakeables.{awakeable_named, named_by, named_in}
use Rattle.vm_asks.specs.Awakeables.{awakeable_id}

number_bytes : (n : ℕ) → IsBytes (to_be_bytes w32 n)
number_bytes n zero = omega arith
number_bytes n (suc zero) = omega arith
number_bytes n (suc (suc zero)) = omega arith
number_bytes n (suc (suc (suc zero))) = omega arith
number_bytes n (suc (suc (suc (suc i)))) = omega arith

both_bytes : (xs ys : List ℕ) → IsBytes xs → IsBytes ys → IsBytes (xs ++ ys)
both_bytes [] ys small others i = others i
both_bytes (x ∷ xs) ys small others zero = small 0
both_bytes (x ∷ xs) ys small others (suc i) = both_bytes xs ys (λ k. small (suc k)) others i

-- what stands before the last four bytes, and the number that these are
split_last : (id last : List ℕ) → length last ≡ 4 → named_in (id ++ last) ≡ Some (id, from_be_bytes w32 last)
split_last id last four =
    let n : length (id ++ last) ≡ length id + 4 = length-append id last ∙ ap (λ k. length id + k) four in
    let enough : nat_lt (length (id ++ last)) 4 ≡ false = grind (arith, n, nat_tests) in
    let at : length (id ++ last) - 4 ≡ length id = omega (arith, n) in
    ap (λ b. cond b None (Some (take (length (id ++ last) - 4) (id ++ last), from_be_bytes w32 (drop (length (id ++ last) - 4) (id ++ last))))) enough
    ∙ ap (λ k. Some (take k (id ++ last), from_be_bytes w32 (drop k (id ++ last)))) at
    ∙ (λ i. Some (take_at id last (length id) refl i, from_be_bytes w32 (drop_at id last (length id) refl i)))

pub names_signal : (invocation : List ℕ) (signal : ℕ) → IsBytes invocation → signal < 2 ^ 32 → awakeable_named (awakeable_id invocation signal) ≡ Some (invocation, signal)
unfolding awakeable_id
names_signal invocation signal small fits =
    ap named_by (decode_of-encode_of url_safe_no_pad (invocation ++ to_be_bytes w32 signal) refl (both_bytes invocation (to_be_bytes w32 signal) small (number_bytes signal)))
    ∙ split_last invocation (to_be_bytes w32 signal) refl
    ∙ ap (λ n. Some (invocation, n)) (from_be_bytes-to_be_bytes_4 signal fits)
