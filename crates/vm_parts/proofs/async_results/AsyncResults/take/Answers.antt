use Rattle.std.proofs.Common.{refl, sym, ◌∙◌}
use Rattle.std.specs.Option.{option_or}
use Rattle.vm_parts.specs.Arrived.{Arrived}
use Rattle.vm_parts.specs.Deliveries.{left_ready}
use Rattle.vm_parts.proofs.Results.{none_taken}
use Rattle.vm_parts.proofs.async_results.AsyncResults.take.Goals as goal

pub returns-in_err-taken : goal.returns-in_err-taken
returns-in_err-taken c =
    let s = c.self.inside in
    let v : Arrived = record { queued = s.arrivals.queued; ready = record { delivered = s.arrivals.delivered; eager = s.eager }; handles = s.handles } in
    let id = c.in_ok-id.id.now in
    let none = sym c.in_err-taken.was ∙ c.or.ensures ∙ (λ i. option_or (c.take_delivered-delivered.ensures.found i) (c.take_eager-eager.ensures.found i)) in
    rw (← c.self.view_is, c.take_delivered-delivered.ensures.left, c.take_eager-eager.ensures.left)
    (none_taken c.args.delivery c.args.handle v id c.from_residual-in_err-taken.result (left_ready c.args.delivery id v.ready) c.in_ok-id.ensures none refl c.from_residual-in_err-taken.ensures)
