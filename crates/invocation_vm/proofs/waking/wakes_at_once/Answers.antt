use Rattle.std.proofs.Common.{rules, sym, ◌∙◌}
use Rattle.invocation_vm.proofs.AtOnce.{wakes}
use Rattle.invocation_vm.proofs.waking.wakes_at_once.Goals as goal

pub returns : goal.returns
returns c =
    wakes c.args.handle c.in-Some.enough c.uses_until.result c.uses_until-cancelled.result c.args.machine.now c.use_first.new.results (sym c.has_failed.ensures ∙ c.if-has_failed.false) (search rules) (search rules) c.uses_until.ensures c.in-Some.is c.uses_until-cancelled.ensures (search rules) c.use_first.ensures
