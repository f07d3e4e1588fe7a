-- The values of a map's entries, where a test of a value says the same as one of its key.
use Rattle.std.proofs.Common.{◌≡◌, ℕ, Bool, true, false, cond, List, [], ◌∷◌, ◌++◌, Some, None, refl, sym, ap, ◌∙◌, ◌+◌, ◌<◌, arith}
use Rattle.std.specs.List.{AllByRecursion, find}
use Rattle.std.specs.Map.{lookup, remove_entry, set_value, values_of, keys_of}
use Rattle.std.specs.Ordering.{is_lt, nat_cmp, match_ordering}
use Rattle.std.specs.declared.cmp.Ordering.TheVariants.{Greater}
use Rattle.std.proofs.lemmas.Bool.Decides.{nat_tests}
use Rattle.std.specs.BTreeMap.{insert_entry}
use Rattle.vm_runs.specs.Firsts.{with_first, without_first}

-- both tests say the same of each entry
abbrev pub SayTheSame : {X : Type 0} → (X → Bool) → (ℕ → Bool) → List (ℕ × X) → Type 0
SayTheSame p test es = AllByRecursion (λ e. p e.1 ≡ test e.0) es

pub found : {X : Type 0} (p : X → Bool) (test : ℕ → Bool) (es : List (ℕ × X)) → SayTheSame p test es → lookup test es ≡ find p (values_of es)
found p test [] h = refl
found p test (e ∷ es) h = ap (λ b. cond b (Some e.1) (lookup test es)) (sym h.0) ∙ ap (cond (p e.1) (Some e.1)) (found p test es h.1)

pub removed : {X : Type 0} (p : X → Bool) (test : ℕ → Bool) (es : List (ℕ × X)) → SayTheSame p test es → values_of (remove_entry test es) ≡ without_first p (values_of es)
removed p test [] h = refl
removed p test (e ∷ es) h = ap (λ b. values_of (cond b es (e ∷ remove_entry test es))) (sym h.0) ∙ at (p e.1) (removed p test es h.1)
  where
    at : (b : Bool) → values_of (remove_entry test es) ≡ without_first p (values_of es) → values_of (cond b es (e ∷ remove_entry test es)) ≡ cond b (values_of es) (e.1 ∷ without_first p (values_of es))
    at true r = refl
    at false r = ap (λ xs. e.1 ∷ xs) r

pub changed : {X : Type 0} (p : X → Bool) (change : X → X) (test : ℕ → Bool) (x : X) (es : List (ℕ × X)) → SayTheSame p test es → lookup test es ≡ Some x
    → values_of (set_value test es (change x)) ≡ with_first p change (values_of es)
changed p change test x [] h e = absurd (none e)
  where
    none : None ≡ Some x → ⊥
    none e = cc
changed p change test x (e ∷ es) h is = at (test e.0) (changed p change test x es h.1) is ∙ ap (λ b. cond b (change e.1 ∷ values_of es) (e.1 ∷ with_first p change (values_of es))) (sym h.0)
  where
    at : (b : Bool) → (lookup test es ≡ Some x → values_of (set_value test es (change x)) ≡ with_first p change (values_of es)) → cond b (Some e.1) (lookup test es) ≡ Some x → values_of (cond b ((e.0, change x) ∷ es) (e ∷ set_value test es (change x))) ≡ cond b (change e.1 ∷ values_of es) (e.1 ∷ with_first p change (values_of es))
    at true rest f = cc
    at false rest f = ap (λ xs. e.1 ∷ xs) (rest f)

-- ---- a key above all others

-- a number is above each key
abbrev pub Above : {X : Type 0} → ℕ → List (ℕ × X) → Type 0
Above k es = AllByRecursion (λ e. e.0 < k) es

pub added : {X : Type 0} (k : ℕ) (x : X) (es : List (ℕ × X)) → Above k es → insert_entry nat_cmp es k x ≡ es ++ (k, x) ∷ []
added k x [] h = refl
added k x (e ∷ es) h = ap (λ o. match_ordering o ((k, x) ∷ e ∷ es) ((e.0, x) ∷ es) (e ∷ insert_entry nat_cmp es k x)) (greater e.0 k h.0) ∙ ap (λ l. e ∷ l) (added k x es h.1)
  where
    greater : (a b : ℕ) → a < b → nat_cmp b a ≡ Greater
    greater a b l = grind (arith, nat_tests)

appended : {X : Type 0} (k : ℕ) (x : X) (es : List (ℕ × X)) → values_of (es ++ (k, x) ∷ []) ≡ values_of es ++ x ∷ []
appended k x [] = refl
appended k x (e ∷ es) = ap (λ l. e.1 ∷ l) (appended k x es)

pub values_added : {X : Type 0} (k : ℕ) (x : X) (es : List (ℕ × X)) → Above k es → values_of (insert_entry nat_cmp es k x) ≡ values_of es ++ x ∷ []
values_added k x es h = ap values_of (added k x es h) ∙ appended k x es

pub unchanged : {X : Type 0} (p : X → Bool) (change : X → X) (test : ℕ → Bool) (es : List (ℕ × X)) → SayTheSame p test es → lookup test es ≡ None → with_first p change (values_of es) ≡ values_of es
unchanged p change test [] h e = refl
unchanged p change test (e ∷ es) h is = ap (λ b. cond b (change e.1 ∷ values_of es) (e.1 ∷ with_first p change (values_of es))) h.0 ∙ at (test e.0) (unchanged p change test es h.1) is
  where
    none : Some e.1 ≡ None → ⊥
    none e = cc

    at : (b : Bool) → (lookup test es ≡ None → with_first p change (values_of es) ≡ values_of es) → cond b (Some e.1) (lookup test es) ≡ None → cond b (change e.1 ∷ values_of es) (e.1 ∷ with_first p change (values_of es)) ≡ e.1 ∷ values_of es
    at true rest f = absurd (none f)
    at false rest f = ap (λ xs. e.1 ∷ xs) (rest f)

-- the number after the last key is above all
pub all_above : {X : Type 0} (last : ℕ) (es : List (ℕ × X)) → AllByRecursion (λ (q : ℕ). is_lt (nat_cmp last q) ≡ false) (keys_of es) → Above (last + 1) es
all_above last [] upto = tt
all_above last (e ∷ es) upto = (next e.0 upto.0, all_above last es upto.1)
  where
    next : (q : ℕ) → is_lt (nat_cmp last q) ≡ false → q < last + 1
    next q f = grind (arith, nat_tests)
