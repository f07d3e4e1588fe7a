use Rattle.std.proofs.Common.{ap, get_or, sym, take, ◌∙◌}
use Rattle.std.specs.Option.{option_map, option_or}
use Rattle.std.proofs.lemmas.List.{take_more}
use Rattle.vm_runs.specs.Settling.{run_as_related}
use Rattle.vm_awaits.specs.Awaits.{last_run}
use Rattle.vm_machine.specs.Proposals.{run_at}
use Rattle.vm_awaits.proofs.Waiting.{last_related_behind}
use Rattle.vm_awaits.proofs.awaits.last_related_run.Goals as goal

pub loop-handle-preserved : goal.loop-handle-preserved
loop-handle-preserved c =
    let i = c.loop-handle.handle-index in
    let handles = c.args.handles.now in
    let v = c.args.machine.now in
    c.or-found.ensures
    ∙ ap (λ o. option_or o c.loop-handle.found) c.in_ok-related_run.ensures
    ∙ ap (λ o. option_or (option_map run_as_related (run_at (get_or handles i 0) v)) o) c.loop-handle.invariant
    ∙ sym (last_related_behind (take i handles) (get_or handles i 0) v)
    ∙ ap (λ hs. option_map run_as_related (last_run hs v)) (sym (take_more handles i 0 c.loop-handle-test.true))
