use Rattle.vm_parts.proofs.Results.{first_comes}
use Rattle.vm_parts.specs.Deliveries.{id_at}
use Rattle.vm_parts.proofs.async_results.AsyncResults.first_result.Goals as goal

pub returns-in_ok-find-in-None : goal.returns-in_ok-find-in-None
returns-in_ok-find-in-None c =
    first_comes c.args.delivery c.args.self.now c.in_ok-find-in-None.field-0.now (id_at c.args.handle c.args.self.now.handles) _
    (rw (← c.self.view_is) c.in_ok-find-in-None.ensures) c.in-None.ensures (rw (← c.self.view_is) c.first_known.ensures)
