-- Proposals at their numbers, which their completion ids lead to.
use Rattle.std.proofs.Common.{◌≡◌, ℕ, Bool, true, false, true≢false, cond, List, [], ◌∷◌, ◌++◌, Option, Some, None, IfNone, is_some, refl, sym, ap, ◌∙◌, arith, nat_cmp}
use Rattle.std.specs.Prelude.{◌==◌}
use Rattle.std.specs.List.{AllByRecursion, find}
use Rattle.std.specs.BTreeMap.{is_at}
use Rattle.std.specs.Map.{remove_entry, values_of}
use Rattle.std.proofs.lemmas.Bool.Decides.{nat_tests}
use Rattle.journal_attempt.specs.declared.runs.ProposeRunCompletion.{ProposeRunCompletion}
use Rattle.vm_runs.specs.Firsts.{without_first}
use Rattle.vm_runs.specs.Kept.{is_for}

same_id : (a b : ℕ) → (a == b) ≡ true → a ≡ b
same_id a b e = grind (arith, nat_tests)

other_id : (a b : ℕ) → (a == b) ≡ false → is_at (nat_cmp b) a ≡ false
other_id a b e = grind (arith, nat_tests)

same_some : {A : Type 0} (a b : A) → Some a ≡ Some b → a ≡ b
same_some a b e = cc

not_none : {A : Type 0} (a : A) → Some a ≡ None → ⊥
not_none a e = cc

-- `num` leads from an id to a number, and `get` from a number to a proposal
module _ (num : ℕ → Option ℕ) where
  abbrev pub AtNum : List (ℕ × ProposeRunCompletion) → Type 0
  AtNum es = AllByRecursion (λ e. num e.1.id ≡ Some e.0) es

-- none is for this id
abbrev pub NoneFor : ℕ → List (ℕ × ProposeRunCompletion) → Type 0
NoneFor id es = AllByRecursion (λ e. is_for id e.1 ≡ false) es

pub no_number : (num : ℕ → Option ℕ) (id : ℕ) (es : List (ℕ × ProposeRunCompletion)) → num id ≡ None → AtNum num es → NoneFor id es
no_number num id [] none at = tt
no_number num id (e ∷ es) none at = (by (is_for id e.1) refl, no_number num id es none at.1)
  where
    by : (b : Bool) → is_for id e.1 ≡ b → b ≡ false
    by true f = absurd (not_none e.0 (sym at.0 ∙ ap num (same_id e.1.id id f) ∙ none))
    by false f = refl

module _ (num : ℕ → Option ℕ) (get : ℕ → Option ProposeRunCompletion) (id n : ℕ) (leads : num id ≡ Some n) where
  abbrev Got : List (ℕ × ProposeRunCompletion) → Type 0
  Got es = AllByRecursion (λ e. get e.0 ≡ Some e.1) es

  here : (e : ℕ × ProposeRunCompletion) → num e.1.id ≡ Some e.0 → is_for id e.1 ≡ true → e.0 ≡ n
  here e at f = same_some e.0 n (sym at ∙ ap num (same_id e.1.id id f) ∙ leads)

  pub not_there : (es : List (ℕ × ProposeRunCompletion)) → ((k : ProposeRunCompletion) → get n ≡ Some k → is_for id k ≡ false) → AtNum num es → Got es → NoneFor id es
  not_there [] other at got = tt
  not_there (e ∷ es) other at got = (by (is_for id e.1) refl, not_there es other at.1 got.1)
    where
      by : (b : Bool) → is_for id e.1 ≡ b → b ≡ false
      by true f = absurd (true≢false (sym f ∙ other e.1 (ap get (sym (here e at.0 f)) ∙ got.0)))
      by false f = refl

  pub there : (es : List (ℕ × ProposeRunCompletion)) (k : ProposeRunCompletion) → get n ≡ Some k → is_for id k ≡ true → AtNum num es → Got es → AllByRecursion (λ e. is_for id e.1 ≡ is_at (nat_cmp n) e.0) es
  there [] k is for at got = tt
  there (e ∷ es) k is for at got = (by (is_for id e.1) (is_at (nat_cmp n) e.0) refl refl, there es k is for at.1 got.1)
    where
      itself : (a : ℕ) → a ≡ n → is_at (nat_cmp n) a ≡ true
      itself a e = grind (arith, nat_tests)

      is_it : (a : ℕ) → is_at (nat_cmp n) a ≡ true → a ≡ n
      is_it a e = grind (arith, nat_tests)

      by : (b c : Bool) → is_for id e.1 ≡ b → is_at (nat_cmp n) e.0 ≡ c → b ≡ c
      by true true f g = refl
      by false false f g = refl
      by true false f g = absurd (true≢false (sym (itself e.0 (here e at.0 f)) ∙ g))
      by false true f g = absurd (true≢false (sym for ∙ ap (is_for id) (same_some k e.1 (sym is ∙ ap get (sym (is_it e.0 g)) ∙ got.0)) ∙ f))

-- ids that lead elsewhere lead where they did
pub others_lead : (old new : ℕ → Option ℕ) (id : ℕ) (w : Option ℕ) (es : List (ℕ × ProposeRunCompletion)) → ((q : ℕ) → new q ≡ cond (is_at (nat_cmp id) q) w (old q)) → NoneFor id es → AtNum old es → AtNum new es
others_lead old new id w [] changes none at = tt
others_lead old new id w (e ∷ es) changes none at =
    (changes e.1.id ∙ ap (λ b. cond b w (old e.1.id)) (other_id e.1.id id none.0) ∙ at.0, others_lead old new id w es changes none.1 at.1)

pub one_more : (num : ℕ → Option ℕ) (n : ℕ) (k : ProposeRunCompletion) (es : List (ℕ × ProposeRunCompletion)) → num k.id ≡ Some n → AtNum num es → AtNum num (es ++ (n, k) ∷ [])
one_more num n k [] e at = (e, tt)
one_more num n k (f ∷ es) e at = (at.0, one_more num n k es e at.1)

-- ---- what is left

pub all_removed : {X : Type 0} (P : ℕ × X → Type 0) (test : ℕ → Bool) (es : List (ℕ × X)) → AllByRecursion P es → AllByRecursion P (remove_entry test es)
all_removed P test [] a = tt
all_removed P test (e ∷ es) a = by (test e.0) (all_removed P test es a.1)
  where
    by : (b : Bool) → AllByRecursion P (remove_entry test es) → AllByRecursion P (cond b es (e ∷ remove_entry test es))
    by true rest = a.1
    by false rest = (a.0, rest)

pub none_left : (id : ℕ) (test : ℕ → Bool) (es : List (ℕ × ProposeRunCompletion)) → AllByRecursion (λ e. is_for id e.1 ≡ test e.0) es → AllByRecursion (λ e. test e.0 ≡ false) es → NoneFor id es
none_left id test [] same none = tt
none_left id test (e ∷ es) same none = (same.0 ∙ none.0, none_left id test es same.1 none.1)

pub not_found : (id : ℕ) (es : List (ℕ × ProposeRunCompletion)) → NoneFor id es → find (is_for id) (values_of es) ≡ None
not_found id [] none = refl
not_found id (e ∷ es) none = ap (λ b. cond b (Some e.1) (find (is_for id) (values_of es))) none.0 ∙ not_found id es none.1

pub not_removed : (id : ℕ) (es : List (ℕ × ProposeRunCompletion)) → NoneFor id es → values_of es ≡ without_first (is_for id) (values_of es)
not_removed id [] none = refl
not_removed id (e ∷ es) none = ap (λ l. e.1 ∷ l) (not_removed id es none.1) ∙ sym (ap (λ b. cond b (values_of es) (e.1 ∷ without_first (is_for id) (values_of es))) none.0)

pub unless_some : {A : Type 0} (P : Type 0) (o : Option A) → is_some o ≡ false → IfNone o P → P
unless_some P None e h = h
unless_some P (Some a) e h = absurd (true≢false e)
