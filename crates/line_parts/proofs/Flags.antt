-- Words that stand alone, each at most once.
use Rattle.std.proofs.Common.{◌≡◌, ◌<◌, ◌+◌, ◌++◌, ℕ, suc, Bool, true, false, List, [], ◌∷◌, length, take, drop, filter, get_or, ap, refl, sym, ◌∙◌, arith, length-append}
use Rattle.std.proofs.lemmas.List.{drop_more, take-append-drop}
use Rattle.std.proofs.lemmas.List.Elements.{filter-append}
use Rattle.std.specs.Borrow.{Bor}
use Rattle.plain.specs.declared.fault.Fault.{Fault}
use Rattle.lines.specs.Readings.{Blames}
use Rattle.lines.proofs.Once.{Same}
use Rattle.line_parts.specs.Values.{HasFlag, is_flag, words_without}

flags_after : (flag : List ℕ) (words : List (Bor (List ℕ))) (i : ℕ) (d : Bor (List ℕ)) → i < length words → is_flag flag (get_or words i d) ≡ true
    → length (filter (is_flag flag) (take i words)) < length (filter (is_flag flag) words)
flags_after flag words i d h here =
    let next : filter (is_flag flag) (drop i words) ≡ get_or words i d ∷ filter (is_flag flag) (drop (i + 1) words) = ap (filter (is_flag flag)) (drop_more words i d h) ∙ (rw here refl) in
    let whole : filter (is_flag flag) words ≡ filter (is_flag flag) (take i words) ++ filter (is_flag flag) (drop i words) =
    ap (filter (is_flag flag)) (sym (take-append-drop i words)) ∙ filter-append (is_flag flag) (take i words) (drop i words) in
    let long = ap length (whole ∙ ap (λ l. filter (is_flag flag) (take i words) ++ l) next) in
    omega (arith, long, length-append (filter (is_flag flag) (take i words)) (get_or words i d ∷ filter (is_flag flag) (drop (i + 1) words)))

-- a word that stands twice
pub twice_blamed : (flag : List ℕ) (words : List (Bor (List ℕ))) (i : ℕ) (d : Bor (List ℕ)) (fault : Fault) → i < length words → is_flag flag (get_or words i d) ≡ true → HasFlag flag (take i words) true
    → Blames (HasFlag flag words) fault
twice_blamed flag words i d fault h here once = record { nothing = λ bad stands is. go stands is }
  where
    go : (stands : Bool) → HasFlag flag words stands → ⊥
    go true is = let more = flags_after flag words i d h here in absurd (omega arith)
    go false is = let more = flags_after flag words i d h here in absurd (omega arith)

-- ---- words that are the same as texts

flags_same : (flag : List ℕ) (ws vs : List (Bor (List ℕ))) → Same ws vs → length (filter (is_flag flag) ws) ≡ length (filter (is_flag flag) vs)
flags_same flag [] [] all = refl
flags_same flag [] (v ∷ vs) all = absurd all
flags_same flag (w ∷ ws) [] all = absurd all
flags_same flag (w ∷ ws) (v ∷ vs) all = go (is_flag flag w) refl (ap (λ t. is_flag flag (record { ref_ptr = (0, 0); now = t })) (sym all.0)) (flags_same flag ws vs all.1)
  where
    go : (b : Bool) → is_flag flag w ≡ b → is_flag flag v ≡ is_flag flag w → length (filter (is_flag flag) ws) ≡ length (filter (is_flag flag) vs) → length (filter (is_flag flag) (w ∷ ws)) ≡ length (filter (is_flag flag) (v ∷ vs))
    go true at other more = rw (other, at) (ap (λ n. suc n) more)
    go false at other more = rw (other, at) more

pub flag_same : (flag : List ℕ) (ws vs : List (Bor (List ℕ))) (stands : Bool) → Same ws vs → HasFlag flag vs stands → HasFlag flag ws stands
flag_same flag ws vs stands all has = flags_same flag ws vs all ∙ has

-- the words but one
pub without_same : (flag : List ℕ) (ws vs : List (Bor (List ℕ))) → Same ws vs → Same (words_without flag ws) (words_without flag vs)
without_same flag [] [] all = tt
without_same flag [] (v ∷ vs) all = absurd all
without_same flag (w ∷ ws) [] all = absurd all
without_same flag (w ∷ ws) (v ∷ vs) all = go (is_flag flag w) refl (ap (λ t. is_flag flag (record { ref_ptr = (0, 0); now = t })) (sym all.0)) (without_same flag ws vs all.1)
  where
    go : (b : Bool) → is_flag flag w ≡ b → is_flag flag v ≡ is_flag flag w → Same (words_without flag ws) (words_without flag vs) → Same (words_without flag (w ∷ ws)) (words_without flag (v ∷ vs))
    go true at other more = rw (other, at) more
    go false at other more = rw (other, at) (all.0, more)
