use Rattle.std.proofs.Common.{ap, find, sym, subst, ◌∙◌}
use Rattle.std.specs.BTreeMap.{is_at}
use Rattle.std.specs.Map.{values_of}
use Rattle.std.specs.Ordering.{nat_cmp}
use Rattle.vm_runs.specs.Firsts.{without_first}
use Rattle.vm_runs.specs.Pending.{has_handle}
use Rattle.vm_runs.proofs.Entries.{found, removed}
use Rattle.vm_runs.proofs.Rising.{AtHandles, at_removed, handles_say}
use Rattle.vm_runs.proofs.ordered_runs.OrderedRuns.notify_execution_completed.Goals as goal

pub invariant_of-self : goal.invariant_of-self
invariant_of-self c =
    (subst AtHandles (sym c.remove.ensures.entries) (at_removed (is_at (nat_cmp c.args.executed.0)) c.self.inside.by_handle.entries c.self.invariant.0), c.remove.ensures.ordered)

pub returns-clause-run : goal.returns-clause-run
returns-clause-run c =
    let h = c.args.executed.0 in
    let es = c.self.inside.by_handle.entries in
    c.remove.ensures.value ∙ found (has_handle c.args.executed) (is_at (nat_cmp h)) es (handles_say h es c.self.invariant.0) ∙ ap (find (has_handle c.args.executed)) c.self.view_is

pub returns-clause-rest : goal.returns-clause-rest
returns-clause-rest c =
    let h = c.args.executed.0 in
    let es = c.self.inside.by_handle.entries in
    ap values_of c.remove.ensures.entries ∙ removed (has_handle c.args.executed) (is_at (nat_cmp h)) es (handles_say h es c.self.invariant.0) ∙ ap (without_first (has_handle c.args.executed)) c.self.view_is
