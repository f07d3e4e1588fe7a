use Rattle.std.proofs.Common.{sym, ap, ◌∙◌}
use Rattle.std.proofs.Math.ListN.{set}
use Rattle.std.specs.Option.{is_some}
use Rattle.vm_parts.specs.declared.handles.Held.{Held}
use Rattle.vm_parts.specs.Mappings.{HasNoMapping, IsMappingAt, MappingsAscend}
use Rattle.vm_parts.proofs.Mapped.{forgotten, no_id, none_unmapped, id_found, left_live, ascend_set}
use Rattle.vm_parts.proofs.handles.forget.Goals as goal

pub returns-in-None-clause-result : goal.returns-in-None-clause-result
returns-in-None-clause-result c =
    let items = c.args.held.now.items in
    let none : HasNoMapping c.args.handle items = rw (← c.deref.ensures.value) c.in-None.ensures in
    sym (ap is_some (no_id c.args.handle items none))

pub returns-in-None-clause-left : goal.returns-in-None-clause-left
returns-in-None-clause-left c =
    let items = c.args.held.now.items in
    let none : HasNoMapping c.args.handle items = rw (← c.deref.ensures.value) c.in-None.ensures in
    sym (none_unmapped c.args.handle items none)

pub returns-in-Some-clause-result : goal.returns-in-Some-clause-result
returns-in-Some-clause-result c =
    let items = c.args.held.now.items in
    let at : IsMappingAt c.args.handle items c.in-Some.place = rw (← c.deref.ensures.value) c.in-Some.ensures in
    c.give_up.ensures.result ∙ ap (λ (z : Held). is_some z.id) c.index_mut-at.ensures.value
    ∙ sym (ap is_some (id_found c.args.handle items c.in-Some.place c.requires at c.index_mut-at.result.now))

pub returns-in-Some-clause-left : goal.returns-in-Some-clause-left
returns-in-Some-clause-left c =
    let items = c.args.held.now.items in
    let at : IsMappingAt c.args.handle items c.in-Some.place = rw (← c.deref.ensures.value) c.in-Some.ensures in
    let e = c.give_up.ensures.left ∙ ap forgotten c.index_mut-at.ensures.value in
    rw e (left_live c.args.handle items c.in-Some.place c.requires at c.index_mut-at.result.now)

pub returns-in-Some-clause-ascend : goal.returns-in-Some-clause-ascend
returns-in-Some-clause-ascend c =
    let items = c.args.held.now.items in
    let e = c.give_up.ensures.left ∙ ap forgotten c.index_mut-at.ensures.value in
    let h : MappingsAscend (set items c.in-Some.place c.give_up.new.held) = rw e (ascend_set items c.in-Some.place c.index_mut-at.result.now c.requires) in
    h
