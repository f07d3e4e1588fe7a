use Rattle.std.proofs.Common.{sym, ◌∙◌}
use Rattle.invocation_vm.specs.Seen.{seen}
use Rattle.vm_layers.proofs.Fed.{refused_none}
use Rattle.vm_layers.proofs.feeding.refuse_input.Goals as goal

pub returns-then-has_failed-clause-ok : goal.returns-then-has_failed-clause-ok
returns-then-has_failed-clause-ok c = sym (refused_none (seen c.args.vm.now) (sym c.has_failed.ensures ∙ c.if-has_failed.true))
