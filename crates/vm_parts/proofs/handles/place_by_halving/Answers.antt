use Rattle.std.proofs.Common.{rules}
use Rattle.std.proofs.lemmas.List.Sorted.{answers_always}
use Rattle.vm_parts.specs.declared.handles.Held.{Held}
use Rattle.vm_parts.proofs.Mapped.{absent, searchable, equal_is}
use Rattle.vm_parts.proofs.handles.place_by_halving.Goals as goal

pub returns-in-Ok : goal.returns-in-Ok
returns-in-Ok c =
    let at = c.in-Ok.ensures.position (λ (y : Held). y.handle) (answers_always _ _ _ (λ f a r g k. search rules)) in
    (c.in-Ok.ensures.bound, λ d. equal_is _ _ (at d))

pub returns-in-Err : goal.returns-in-Err
returns-in-Err c = absent c.args.held.now c.args.handle c.in-Err.field-0 (c.in-Err.ensures.position (λ (y : Held). y.handle) (answers_always _ _ _ (λ f a r g k. search rules)) (searchable c.args.held.now c.args.handle c.requires))
