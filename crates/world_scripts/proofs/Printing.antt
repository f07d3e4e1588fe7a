-- Texts that are printed one after another.
use Rattle.std.proofs.Common.{◌≡◌, ℕ, suc, ◌+◌, ◌<◌, ◌≤◌, List, [], ◌∷◌, ◌++◌, length, drop, slice_index_or, refl, sym, ap, subst, ◌∙◌, append_assoc, arith, codes}
use Rattle.std.proofs.lemmas.List.{append-nil, drop_all, drop_more}
use Rattle.world_rounds.specs.Rounds.{ReportView}
use Rattle.world_scripts.specs.Printed.{AddsSuch, AddsSome, AreEach, IsRoundText, answer_lines, count_text, error_line}

-- ---- something is added

pub adds_none : (old : List ℕ) → AddsSome old old
adds_none old = ([], sym (append-nil old))

pub adds_more : (old now then added : List ℕ) → AddsSome old now → then ≡ now ++ added → AddsSome old then
adds_more old now then added so_far is = (so_far.0 ++ added, is ∙ ap (λ l. l ++ added) so_far.1 ∙ append_assoc old so_far.0 added)

pub adds_then : (old now then : List ℕ) → AddsSome old now → AddsSome now then → AddsSome old then
adds_then old now then first second = adds_more old now then second.0 first second.1

-- ---- a text for each item

-- The first `i` items are printed. With the texts of the others after them, the texts of all are printed.
abbrev pub PrintsOn : {A : Type 0} → (ℕ → A → List ℕ → Type 0) → ℕ → List A → ℕ → List ℕ → List ℕ → Type 0
PrintsOn holds n all i old now = (done : List ℕ) × (now ≡ old ++ done) × ((rest : List ℕ) → AreEach holds (n + i) (drop i all) rest → AreEach holds n all (done ++ rest))

pub print_none : {A : Type 0} (holds : ℕ → A → List ℕ → Type 0) (n : ℕ) (all : List A) (old : List ℕ) → PrintsOn holds n all 0 old old
print_none holds n all old =
    let same : n + 0 ≡ n = omega arith in
    ([], sym (append-nil old), λ rest h. subst (λ m. AreEach holds m all rest) same h)

pub print_more : {A : Type 0} (holds : ℕ → A → List ℕ → Type 0) (n : ℕ) (all : List A) (i : ℕ) (x : A) (line old now then : List ℕ) → i < length all → x ≡ slice_index_or all i x → holds (n + i) x line → then ≡ now ++ line
    → PrintsOn holds n all i old now → PrintsOn holds n all (i + 1) old then
print_more holds n all i x line old now then lt is p e so_far =
    let same : drop i all ≡ x ∷ drop (i + 1) all = drop_more all i x lt ∙ ap (λ y. y ∷ drop (i + 1) all) (sym is) in
    let on : n + (i + 1) ≡ suc (n + i) = omega arith in (
      so_far.0 ++ line,
      e ∙ ap (λ l. l ++ line) so_far.1 ∙ append_assoc old so_far.0 line,
      λ rest h. subst (λ l. AreEach holds n all l) (sym (append_assoc so_far.0 line rest)) (so_far.2 (line ++ rest) (subst (λ xs. AreEach holds (n + i) xs (line ++ rest)) (sym same) (line, rest, p, subst (λ m. AreEach holds m (drop (i + 1) all) rest) on h, refl))),
    )

pub print_all : {A : Type 0} (holds : ℕ → A → List ℕ → Type 0) (n : ℕ) (all : List A) (i : ℕ) (old now : List ℕ) → length all ≤ i → PrintsOn holds n all i old now → AddsSuch (AreEach holds n all) old now
print_all holds n all i old now le so_far = (
  so_far.0,
  subst (λ l. AreEach holds n all l) (append-nil so_far.0) (so_far.2 [] (subst (λ xs. AreEach holds (n + i) xs []) (sym (drop_all i all le)) refl)),
  so_far.1,
)

-- ---- a round

pub round_printed : (n : ℕ) (r : ReportView) (old a b c d new frames : List ℕ) → a ≡ old ++ count_text (codes "round ") n → b ≡ a ++ answer_lines r.answers → c ≡ b ++ frames → d ≡ c ++ error_line r.error
    → new ≡ d ++ count_text (codes "entries ") r.entries → AddsSuch (IsRoundText n r) old new
round_printed n r old a b c d new frames ea eb ec ed en =
    let answers = answer_lines r.answers in
    let x = count_text (codes "round ") n in
    let y = error_line r.error in
    let z = count_text (codes "entries ") r.entries in
    let all : new ≡ ((((old ++ x) ++ answers) ++ frames) ++ y) ++ z =
    en ∙ ap (λ l. l ++ z) (ed ∙ ap (λ l. l ++ y) (ec ∙ ap (λ l. l ++ frames) (eb ∙ ap (λ l. l ++ answers) ea))) in
    let apart : ((((old ++ x) ++ answers) ++ frames) ++ y) ++ z ≡ old ++ (x ++ (answers ++ (frames ++ (y ++ z)))) =
    append_assoc (((old ++ x) ++ answers) ++ frames) y z ∙ append_assoc ((old ++ x) ++ answers) frames (y ++ z) ∙ append_assoc (old ++ x) answers (frames ++ (y ++ z)) ∙ append_assoc old x (answers ++ (frames ++ (y ++ z))) in (
      x ++ (answers ++ (frames ++ (y ++ z))),
      record { frames = frames; is = sym (append_assoc ((x ++ answers) ++ frames) y z ∙ append_assoc (x ++ answers) frames (y ++ z) ∙ append_assoc x answers (frames ++ (y ++ z))) },
      all ∙ apart,
    )
