-- Lists that grow side by side: words and what they encode.
use Rattle.std.proofs.Common.{◌≡◌, ◌<◌, ◌+◌, ◌++◌, ℕ, List, [], ◌∷◌, length, take, get_or, sym, subst}
use Rattle.std.proofs.lemmas.List.{take_more}
use Rattle.std.specs.Borrow.{Bor}
use Rattle.journal_protocol.specs.Header.{Header}
use Rattle.lines.proofs.Growing.{zip_push}
use Rattle.line_parts.specs.Targets.{AreHeaders}
use Rattle.line_parts.specs.Values.{ArePairs, IsPair}

-- one word more that is a pair
pub pairs_more : (words : List (Bor (List ℕ))) (i : ℕ) (d : Bor (List ℕ)) (pairs after : List (List ℕ × List ℕ)) (pair : List ℕ × List ℕ) → i < length words → ArePairs (take i words) pairs → IsPair (get_or words i d).now pair
    → after ≡ pairs ++ pair ∷ [] → ArePairs (take (i + 1) words) after
pairs_more words i d pairs after pair h all more is =
    let pushed = zip_push (λ (w : Bor (List ℕ)) (p : List ℕ × List ℕ). IsPair w.now p) (take i words) pairs (get_or words i d) pair all more in
    subst (λ ys. ArePairs (take (i + 1) words) ys) (sym is) (subst (λ ws. ArePairs ws (pairs ++ pair ∷ [])) (sym (take_more words i d h)) pushed)

-- one text more that is a header
pub headers_more : (found more : List (List ℕ)) (text : List ℕ) (headers after : List Header) (header : Header) → AreHeaders found headers → more ≡ found ++ text ∷ [] → IsPair text (header.key, header.value) → after ≡ headers ++ header ∷ [] → AreHeaders more after
headers_more found more text headers after header all longer pair is =
    let pushed = zip_push (λ (t : List ℕ) (h : Header). IsPair t (h.key, h.value)) found headers text header all pair in
    subst (λ ys. AreHeaders more ys) (sym is) (subst (λ ts. AreHeaders ts (headers ++ header ∷ [])) (sym longer) pushed)
