use Rattle.c_values.specs.declared.status.Status.TheVariants as status
use Rattle.c_calls.proofs.Outcomes.{is_kept}
use Rattle.c_calls.proofs.making.make_vm.Goals as goal

pub returns-in_default : goal.returns-in_default
returns-in_default c =
    is_kept c.args.alloc c.args.given c.args.options.now c.tell_status.result c.args.vm.now.value status.BadNumber c.in_default.ensures c.tell_status.ensures
