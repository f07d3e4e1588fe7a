use Rattle.std.proofs.Common.{Some, None, [], ◌∷◌, ap, ◌∙◌}
use Rattle.std.specs.List.{list_any}
use Rattle.vm_runs.specs.Pending.{executes, is_executing_in}
use Rattle.vm_runs.proofs.Rising.{so_found}
use Rattle.vm_runs.proofs.ordered_runs.OrderedRuns.executes.Goals as goal

pub returns-in-Some : goal.returns-in-Some
returns-in-Some c =
    c.executes.ensures ∙ so_found executes c.args.handle c.self.inside.by_handle.entries c.self.invariant.0 c.self.invariant.1 (Some c.in-Some.run'.now) c.in-Some.ensures.value
    ∙ ap (list_any (is_executing_in (c.args.handle ∷ []))) c.self.view_is

pub returns-in-None : goal.returns-in-None
returns-in-None c =
    so_found executes c.args.handle c.self.inside.by_handle.entries c.self.invariant.0 c.self.invariant.1 None c.in-None.ensures.value
    ∙ ap (list_any (is_executing_in (c.args.handle ∷ []))) c.self.view_is
