use Rattle.std.proofs.Common.{ℕ, BTreeMap, ap, refl, subst, sym, ◌∙◌}
use Rattle.std.specs.BTreeMap.{is_at}
use Rattle.std.specs.List.Sorted.{IsStrictlySortedBy}
use Rattle.std.specs.Map.{keys_of, values_of}
use Rattle.std.specs.Ordering.{nat_cmp}
use Rattle.vm_runs.specs.declared.pending.PendingRun.{PendingRun}
use Rattle.vm_runs.specs.Firsts.{with_first}
use Rattle.vm_runs.specs.Pending.{has_handle, run_started}
use Rattle.vm_runs.proofs.Entries.{changed, unchanged}
use Rattle.vm_runs.proofs.Rising.{AtHandles, at_changed, handles_say}
use Rattle.vm_runs.proofs.ordered_runs.OrderedRuns.execute.Goals as goal

pub invariant_of-self : goal.invariant_of-self
invariant_of-self c =
    let same = ap (λ (m : BTreeMap ℕ PendingRun). m.entries) (sym c.get_mut.follows.holds-at-none) in
    (subst AtHandles same c.self.invariant.0, subst (λ es. IsStrictlySortedBy nat_cmp (keys_of es)) same c.self.invariant.1)

pub invariant_of-self-2 : goal.invariant_of-self-2
invariant_of-self-2 c =
    let h = c.args.handle in
    let es = c.self.inside.by_handle.entries in
    let run = c.in-Some.run'.now in
    let writes = c.get_mut.follows.holds (run_started run) in
    (subst AtHandles (sym writes.0) (at_changed (is_at (nat_cmp h)) run (run_started run) es (sym c.in-Some.ensures.value) refl c.self.invariant.0), writes.4)

pub returns-in_default : goal.returns-in_default
returns-in_default c =
    let h = c.args.handle in
    let es = c.self.inside.by_handle.entries in
    let p = has_handle (record { 0 = h }) in
    ap (λ (m : BTreeMap ℕ PendingRun). values_of m.entries) c.get_mut.follows.holds-at-none ∙ sym (unchanged p run_started (is_at (nat_cmp h)) es (handles_say h es c.self.invariant.0) (sym c.in_default.ensures.value)) ∙ ap (with_first p run_started) c.self.view_is

pub returns : goal.returns
returns c =
    let h = c.args.handle in
    let es = c.self.inside.by_handle.entries in
    let run = c.in-Some.run'.now in
    let p = has_handle (record { 0 = h }) in
    let writes = c.get_mut.follows.holds (run_started run) in
    ap values_of writes.0 ∙ changed p run_started (is_at (nat_cmp h)) run es (handles_say h es c.self.invariant.0) (sym c.in-Some.ensures.value) ∙ ap (with_first p run_started) c.self.view_is
