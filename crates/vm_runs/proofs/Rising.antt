-- Runs whose handles rise: each handle once, and the first of several is that of the least handle.
use Rattle.std.proofs.Common.{◌≡◌, ℕ, ◌<◌, ◌≤◌, min, inl, inr, Bool, true, false, true≢false, cond, ◌&&◌, ◌||◌, List, [], ◌∷◌, ◌++◌, ◌+◌, length, get_or, take, Option, Some, None, refl, sym, ap, ◌∙◌, subst, arith}
use Rattle.std.specs.Prelude.{◌==◌, if◌then◌else◌, ⊤}
use Rattle.std.specs.List.{AllByRecursion, find, list_any}
use Rattle.std.specs.Option.{option_map, unwrap_or}
use Rattle.std.proofs.lemmas.Bool.Decides.{nat_tests}
use Rattle.std.proofs.lemmas.Bool.{cases_lt}
use Rattle.std.proofs.lemmas.List.{take_more}
use Rattle.std.proofs.lemmas.List.Folds.{list_any-append}
use Rattle.await_trees.specs.declared.handle.NotificationHandle.{NotificationHandle}
use Rattle.vm_runs.specs.declared.pending.PendingRun.{PendingRun}
use Rattle.vm_runs.specs.declared.pending.RunExecution.{RunExecution}
use Rattle.std.specs.List.Sorted.{IsStrictlySortedBy}
use Rattle.std.specs.Map.{keys_of, lookup, remove_entry, set_value, values_of}
use Rattle.std.specs.BTreeMap.{is_at}
use Rattle.std.specs.Ordering.{is_lt, nat_cmp}
use Rattle.std.specs.declared.cmp.Ordering.TheVariants.{Less}
use Rattle.std.proofs.lemmas.Map.Keys.{sorted_head, sorted_tail}
use Rattle.vm_runs.specs.Firsts.{with_first}
use Rattle.vm_runs.specs.Pending.{has_handle, is_one_of, is_waiting_run, may_execute, lesser_handle, handle_of, run_started}
use Rattle.vm_runs.proofs.Entries.{Above, SayTheSame, found}

-- each handle is above k
abbrev pub AllAbove : ℕ → List PendingRun → Type 0
AllAbove k runs = AllByRecursion (λ (run : PendingRun). k < run.handle) runs

-- each handle is above those before it
abbrev pub Rise : List PendingRun → Type 0
Rise [] = ⊤
Rise (run ∷ runs) = AllAbove run.handle runs × Rise runs

-- ---- what is above

module _ (k : ℕ) (p : PendingRun → Bool) where
  found_above : (runs : List PendingRun) (run : PendingRun) → AllAbove k runs → find p runs ≡ Some run → k < run.handle
  found_above [] run a e = absurd (none e)
    where
      none : None ≡ Some run → ⊥
      none e = cc
  found_above (r ∷ runs) run a e = at (p r) (found_above runs run a.1) e
    where
      handles : Some r ≡ Some run → r.handle ≡ run.handle
      handles e = cc

      at : (b : Bool) → (find p runs ≡ Some run → k < run.handle) → cond b (Some r) (find p runs) ≡ Some run → k < run.handle
      at true rest e = subst (λ h. k < h) (handles e) a.0
      at false rest e = rest e

-- ---- one handle

-- a run of this handle that is so
abbrev has_so : (RunExecution → Bool) → List ℕ → PendingRun → Bool
has_so so any run = so run.execution && is_one_of any run.handle

module _ (so : RunExecution → Bool) (h : ℕ) where
  none_above : (runs : List PendingRun) (k : ℕ) → AllAbove k runs → h ≤ k → list_any (has_so so (h ∷ [])) runs ≡ false
  none_above [] k a l = refl
  none_above (r ∷ runs) k a l =
      let not_here : (h == r.handle) ≡ false = grind (arith, nat_tests) in
      ap (λ b. (so r.execution && (b || false)) || list_any (has_so so (h ∷ [])) runs) not_here ∙ at (so r.execution) (none_above runs k a.1 l)
    where
      at : (b : Bool) → list_any (has_so so (h ∷ [])) runs ≡ false → ((b && false) || list_any (has_so so (h ∷ [])) runs) ≡ false
      at true e = e
      at false e = e

  -- whether the run of this handle is so
  pub so_at : (runs : List PendingRun) → Rise runs → list_any (has_so so (h ∷ [])) runs ≡ unwrap_or (option_map (λ (run : PendingRun). so run.execution) (find (has_handle (record { 0 = h })) runs)) false
  so_at [] rise = refl
  so_at (r ∷ runs) rise = at (r.handle == h) (h == r.handle) refl (same r.handle h) (so_at runs rise.1)
    where
      same : (a b : ℕ) → (a == b) ≡ (b == a)
      same a b = grind (arith, nat_tests)

      here : (b : Bool) → list_any (has_so so (h ∷ [])) runs ≡ false → ((b && true) || list_any (has_so so (h ∷ [])) runs) ≡ b
      here true e = refl
      here false e = e

      there : (b : Bool) (o : Bool) → ((b && false) || o) ≡ o
      there true o = refl
      there false o = refl

      at : (b c : Bool) → (r.handle == h) ≡ b → b ≡ c
          → list_any (has_so so (h ∷ [])) runs ≡ unwrap_or (option_map (λ (run : PendingRun). so run.execution) (find (has_handle (record { 0 = h })) runs)) false
          → ((so r.execution && (c || false)) || list_any (has_so so (h ∷ [])) runs) ≡ unwrap_or (option_map (λ (run : PendingRun). so run.execution) (cond b (Some r) (find (has_handle (record { 0 = h })) runs))) false
      at true true e s rest = here (so r.execution) (none_above runs r.handle rise.0 (grind (arith, nat_tests)))
      at false false e s rest = there (so r.execution) (list_any (has_so so (h ∷ [])) runs) ∙ rest
      at true false e s rest = absurd (true≢false s)
      at false true e s rest = absurd (true≢false (sym s))

  any_above : (runs : List PendingRun) (k : ℕ) → AllAbove k runs → list_any (has_so so (h ∷ [])) runs ≡ true → k < h
  any_above runs k a e = elim (cases_lt k h) [
    | inl less ↦ less
    | inr more ↦ absurd (true≢false (sym e ∙ none_above runs k a more))
  ]

-- ---- several handles

-- the handle of the first run that waits and has one of these
abbrev first_of : List ℕ → List PendingRun → Option ℕ
first_of any runs = option_map (λ (run : PendingRun). run.handle) (find (may_execute any) runs)

module _ (hs : List ℕ) (h : ℕ) where
  lesser_above : (runs : List PendingRun) (k : ℕ) → AllAbove k runs → h ≡ k → lesser_handle (first_of hs runs) h ≡ k
  lesser_above runs k a e = at (find (may_execute hs) runs) refl
    where
      at : (o : Option PendingRun) → find (may_execute hs) runs ≡ o → lesser_handle (option_map (λ (run : PendingRun). run.handle) o) h ≡ k
      at None found = e
      at (Some run) found = let above = found_above k (may_execute hs) runs run a found in omega (arith, above, e)

  -- one handle more
  pub first_more : (runs : List PendingRun) → Rise runs → first_of (hs ++ h ∷ []) runs ≡ cond (list_any (may_execute (h ∷ [])) runs) (Some (lesser_handle (first_of hs runs) h)) (first_of hs runs)
  first_more [] rise = refl
  first_more (r ∷ runs) rise =
      ap (λ b. option_map (λ (run : PendingRun). run.handle) (cond (is_waiting_run r.execution && b) (Some r) (find (may_execute (hs ++ h ∷ [])) runs))) (list_any-append (λ other. other == r.handle) hs (h ∷ []))
      ∙ at (is_waiting_run r.execution) (is_one_of hs r.handle) (h == r.handle) refl (first_more runs rise.1)
    where
      same : (h == r.handle) ≡ true → h ≡ r.handle
      same e = grind (arith, nat_tests)

      min_left : (a b : ℕ) → a ≤ b → min a b ≡ a
      min_left a b l = omega (arith, l)

      kept : (a : Bool) → list_any (may_execute (h ∷ [])) runs ≡ a → Some r.handle ≡ cond a (Some (min r.handle h)) (Some r.handle)
      kept true e = ap Some (sym (min_left r.handle h (let above = any_above is_waiting_run h runs r.handle rise.0 e in omega (arith, above))))
      kept false e = refl

      at : (w b t : Bool) → (h == r.handle) ≡ t → first_of (hs ++ h ∷ []) runs ≡ cond (list_any (may_execute (h ∷ [])) runs) (Some (lesser_handle (first_of hs runs) h)) (first_of hs runs)
          → option_map (λ (run : PendingRun). run.handle) (cond (w && (b || (t || false))) (Some r) (find (may_execute (hs ++ h ∷ [])) runs))
          ≡ cond ((w && (t || false)) || list_any (may_execute (h ∷ [])) runs) (Some (lesser_handle (option_map (λ (run : PendingRun). run.handle) (cond (w && b) (Some r) (find (may_execute hs) runs))) h)) (option_map (λ (run : PendingRun). run.handle) (cond (w && b) (Some r) (find (may_execute hs) runs)))
      at false b t e rest = rest
      at true true true e rest = ap Some (sym (min_left r.handle h (let is = same e in omega (arith, is))))
      at true true false e rest = kept (list_any (may_execute (h ∷ [])) runs) refl
      at true false true e rest = ap Some (sym (lesser_above runs r.handle rise.0 (same e)))
      at true false false e rest = rest

-- the first run that passes is changed as the run of its handle is
pub changed_at : (p : PendingRun → Bool) (change : PendingRun → PendingRun) (runs : List PendingRun) (run : PendingRun) → Rise runs → find p runs ≡ Some run
    → with_first p change runs ≡ with_first (has_handle (record { 0 = run.handle })) change runs
changed_at p change [] run rise e = refl
changed_at p change (r ∷ runs) run rise e = at (p r) (changed_at p change runs run rise.1) e
  where
    itself : (a b : ℕ) → a ≡ b → (a == b) ≡ true
    itself a b e = grind (arith, nat_tests)

    other : (a b : ℕ) → a < b → (a == b) ≡ false
    other a b e = grind (arith, nat_tests)

    handles : Some r ≡ Some run → r.handle ≡ run.handle
    handles e = cc

    at : (b : Bool) → (find p runs ≡ Some run → with_first p change runs ≡ with_first (has_handle (record { 0 = run.handle })) change runs) → cond b (Some r) (find p runs) ≡ Some run
        → (if b then change r ∷ runs else r ∷ with_first p change runs) ≡ (if r.handle == run.handle then change r ∷ runs else r ∷ with_first (has_handle (record { 0 = run.handle })) change runs)
    at true rest e = sym (ap (λ b. cond b (change r ∷ runs) (r ∷ with_first (has_handle (record { 0 = run.handle })) change runs)) (itself r.handle run.handle (handles e)))
    at false rest e =
        ap (λ l. r ∷ l) (rest e)
        ∙ sym (ap (λ b. cond b (change r ∷ runs) (r ∷ with_first (has_handle (record { 0 = run.handle })) change runs)) (other r.handle run.handle (found_above r.handle p runs run rise.0 e)))

module _ (so : RunExecution → Bool) where
  none_of : (runs : List PendingRun) → list_any (has_so so []) runs ≡ false
  none_of [] = refl
  none_of (r ∷ runs) = at (so r.execution) (none_of runs)
    where
      at : (b : Bool) → list_any (has_so so []) runs ≡ false → ((b && false) || list_any (has_so so []) runs) ≡ false
      at true e = e
      at false e = e

  one_more : (h : ℕ) (hs : List ℕ) (runs : List PendingRun) → list_any (has_so so (h ∷ hs)) runs ≡ (list_any (has_so so (h ∷ [])) runs || list_any (has_so so hs) runs)
  one_more h hs [] = refl
  one_more h hs (r ∷ runs) = ap (λ b. (so r.execution && ((h == r.handle) || is_one_of hs r.handle)) || b) (one_more h hs runs) ∙ at (so r.execution) (h == r.handle) (is_one_of hs r.handle) (list_any (has_so so (h ∷ [])) runs) (list_any (has_so so hs) runs)
    where
      at : (s a b x y : Bool) → ((s && (a || b)) || (x || y)) ≡ (((s && (a || false)) || x) || ((s && b) || y))
      at false a b x y = refl
      at true true b x y = refl
      at true false true true y = refl
      at true false true false y = refl
      at true false false x y = refl

  -- any of several is any of each
  pub any_of : (any : List ℕ) (runs : List PendingRun) → list_any (has_so so any) runs ≡ list_any (λ h. list_any (has_so so (h ∷ [])) runs) any
  any_of [] runs = none_of runs
  any_of (h ∷ hs) runs = one_more h hs runs ∙ ap (λ b. list_any (has_so so (h ∷ [])) runs || b) (any_of hs runs)

-- ---- runs by their handles

-- each is at its own handle
abbrev pub AtHandles : List (ℕ × PendingRun) → Type 0
AtHandles es = AllByRecursion (λ e. e.0 ≡ e.1.handle) es

-- the query for a handle finds the runs that have it
pub handles_say : (h : ℕ) (es : List (ℕ × PendingRun)) → AtHandles es → SayTheSame (has_handle (record { 0 = h })) (is_at (nat_cmp h)) es
handles_say h [] at = tt
handles_say h (e ∷ es) at = (same e.0 e.1.handle at.0, handles_say h es at.1)
  where
    same : (k r : ℕ) → k ≡ r → (r == h) ≡ is_at (nat_cmp h) k
    same k r e = grind (arith, nat_tests)

above_from : (k : ℕ) (es : List (ℕ × PendingRun)) → AtHandles es → AllByRecursion (λ (q : ℕ). nat_cmp k q ≡ Less) (keys_of es) → AllAbove k (values_of es)
above_from k [] at less = tt
above_from k (e ∷ es) at less = (above k e.0 e.1.handle at.0 less.0, above_from k es at.1 less.1)
  where
    above : (k q r : ℕ) → q ≡ r → nat_cmp k q ≡ Less → k < r
    above k q r e l = grind (arith, nat_tests)

-- a map's runs rise
pub rise_from : (es : List (ℕ × PendingRun)) → AtHandles es → IsStrictlySortedBy nat_cmp (keys_of es) → Rise (values_of es)
rise_from [] at sorted = tt
rise_from (e ∷ es) at sorted = (subst (λ k. AllAbove k (values_of es)) at.0 (above_from e.0 es at.1 (sorted_head nat_cmp e.0 (keys_of es) sorted)), rise_from es at.1 (sorted_tail nat_cmp e.0 (keys_of es) sorted))

-- runs below a handle have keys below it
pub keys_below : (k : ℕ) (es : List (ℕ × PendingRun)) → AtHandles es → AllByRecursion (λ (run : PendingRun). run.handle < k) (values_of es) → Above k es
keys_below k [] at below = tt
keys_below k (e ∷ es) at below = (subst (λ h. h < k) (sym at.0) below.0, keys_below k es at.1 below.1)

-- the last key is the greatest
pub all_below : (k last : ℕ) (es : List (ℕ × PendingRun)) → AtHandles es → AllByRecursion (λ (q : ℕ). is_lt (nat_cmp last q) ≡ false) (keys_of es) → last < k → AllByRecursion (λ (run : PendingRun). run.handle < k) (values_of es)
all_below k last [] at upto l = tt
all_below k last (e ∷ es) at upto l = (below e.0 e.1.handle at.0 upto.0, all_below k last es at.1 upto.1 l)
  where
    below : (q r : ℕ) → q ≡ r → is_lt (nat_cmp last q) ≡ false → r < k
    below q r e f = grind (arith, nat_tests)

-- ---- what stays at its handle

pub at_added : (k : ℕ) (run : PendingRun) (es : List (ℕ × PendingRun)) → k ≡ run.handle → AtHandles es → AtHandles (es ++ (k, run) ∷ [])
at_added k run [] e at = (e, tt)
at_added k run (f ∷ es) e at = (at.0, at_added k run es e at.1)

pub at_removed : (test : ℕ → Bool) (es : List (ℕ × PendingRun)) → AtHandles es → AtHandles (remove_entry test es)
at_removed test [] at = tt
at_removed test (e ∷ es) at = by (test e.0) (at_removed test es at.1)
  where
    by : (b : Bool) → AtHandles (remove_entry test es) → AtHandles (cond b es (e ∷ remove_entry test es))
    by true rest = at.1
    by false rest = (at.0, rest)

pub at_changed : (test : ℕ → Bool) (run new : PendingRun) (es : List (ℕ × PendingRun)) → lookup test es ≡ Some run → new.handle ≡ run.handle → AtHandles es → AtHandles (set_value test es new)
at_changed test run new [] f e at = tt
at_changed test run new (r ∷ es) f e at = by (test r.0) (λ g. at_changed test run new es g e at.1) f
  where
    handles : Some r.1 ≡ Some run → r.1.handle ≡ run.handle
    handles e = cc

    by : (b : Bool) → (lookup test es ≡ Some run → AtHandles (set_value test es new)) → cond b (Some r.1) (lookup test es) ≡ Some run → AtHandles (cond b ((r.0, new) ∷ es) (r ∷ set_value test es new))
    by true rest f = (at.0 ∙ handles f ∙ sym e, at.1)
    by false rest f = (at.0, rest f)

-- whether the run that a query finds is so
pub so_found : (so : RunExecution → Bool) (h : ℕ) (es : List (ℕ × PendingRun)) → AtHandles es → IsStrictlySortedBy nat_cmp (keys_of es) → (o : Option PendingRun) → o ≡ lookup (is_at (nat_cmp h)) es
    → unwrap_or (option_map (λ (run : PendingRun). so run.execution) o) false ≡ list_any (has_so so (h ∷ [])) (values_of es)
so_found so h es at sorted o e =
    ap (λ o. unwrap_or (option_map (λ (run : PendingRun). so run.execution) o) false) (e ∙ found (has_handle (record { 0 = h })) (is_at (nat_cmp h)) es (handles_say h es at))
    ∙ sym (so_at so h (values_of es) (rise_from es at sorted))

-- ---- the handle that is chosen

-- of one handle more, by whether its run waits
pub taken_more : (handles : List ℕ) (i : ℕ) (runs : List PendingRun) → Rise runs → i < length handles → (b : Bool) → b ≡ list_any (may_execute (get_or handles i 0 ∷ [])) runs
    → (least : Option ℕ) → least ≡ first_of (take i handles) runs → cond b (Some (lesser_handle least (get_or handles i 0))) least ≡ first_of (take (i + 1) handles) runs
taken_more handles i runs rise within b e least is =
    ap (λ b. cond b (Some (lesser_handle least (get_or handles i 0))) least) e
    ∙ ap (λ o. cond (list_any (may_execute (get_or handles i 0 ∷ [])) runs) (Some (lesser_handle o (get_or handles i 0))) o) is
    ∙ sym (first_more (take i handles) (get_or handles i 0) runs rise)
    ∙ ap (λ hs. first_of hs runs) (sym (take_more handles i 0 within))

abbrev as_handle : ℕ → NotificationHandle
as_handle h = record { 0 = h }

module _ (any : List ℕ) where
  pub chosen : (o : Option PendingRun) (h : Option ℕ) → h ≡ option_map (λ (run : PendingRun). run.handle) o → option_map as_handle h ≡ option_map handle_of o
  chosen None h e = ap (option_map as_handle) e
  chosen (Some run) h e = ap (option_map as_handle) e

  pub chosen_changes : (runs : List PendingRun) → Rise runs → (o : Option PendingRun) → find (may_execute any) runs ≡ o → (h : ℕ) → Some h ≡ option_map (λ (run : PendingRun). run.handle) o
      → with_first (has_handle (record { 0 = h })) run_started runs ≡ with_first (may_execute any) run_started runs
  chosen_changes runs rise None found h e = absurd (none e)
    where
      none : Some h ≡ None → ⊥
      none e = cc
  chosen_changes runs rise (Some run) found h e = ap (λ h. with_first (has_handle (record { 0 = h })) run_started runs) (same e) ∙ sym (changed_at (may_execute any) run_started runs run rise found)
    where
      same : Some h ≡ Some run.handle → h ≡ run.handle
      same e = cc

  pub none_changes : (runs : List PendingRun) → None ≡ first_of any runs → runs ≡ with_first (may_execute any) run_started runs
  none_changes [] e = refl
  none_changes (r ∷ runs) e = at (may_execute any r) (none_changes runs) e
    where
      none : None ≡ Some r.handle → ⊥
      none e = cc

      at : (b : Bool) → (None ≡ first_of any runs → runs ≡ with_first (may_execute any) run_started runs) → None ≡ option_map (λ (run : PendingRun). run.handle) (cond b (Some r) (find (may_execute any) runs))
          → r ∷ runs ≡ cond b (run_started r ∷ runs) (r ∷ with_first (may_execute any) run_started runs)
      at true rest e = absurd (none e)
      at false rest e = ap (λ l. r ∷ l) (rest e)

-- of no handles
pub none_taken : (runs : List PendingRun) → None ≡ first_of [] runs
none_taken [] = refl
none_taken (r ∷ runs) = none_taken runs ∙ at (is_waiting_run r.execution)
  where
    at : (b : Bool) → first_of [] runs ≡ option_map (λ (run : PendingRun). run.handle) (cond (b && false) (Some r) (find (may_execute []) runs))
    at true = refl
    at false = refl
