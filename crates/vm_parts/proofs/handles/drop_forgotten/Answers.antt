use Rattle.std.proofs.Common.{◌≡◌, rules, ap, ◌∙◌}
use Rattle.std.specs.List.{filter}
use Rattle.std.proofs.lemmas.List.Elements.{filter_from_retain}
use Rattle.vm_parts.proofs.Mapped.{is_held, live_kept, ascend_kept}
use Rattle.vm_parts.specs.Mappings.{live_mappings}
use Rattle.vm_parts.proofs.handles.drop_forgotten.Goals as goal

pub returns-clause-live : goal.returns-clause-live
returns-clause-live c =
    let left : c.retain.new.self.items ≡ filter is_held c.args.held.now.items = filter_from_retain _ is_held (λ p x b q k. search rules) _ _ _ c.retain.ensures.filtered in
    ap live_mappings (c.shrink_to.ensures.items ∙ left) ∙ live_kept c.args.held.now.items

pub returns-clause-ascend : goal.returns-clause-ascend
returns-clause-ascend c =
    let left : c.retain.new.self.items ≡ filter is_held c.args.held.now.items = filter_from_retain _ is_held (λ p x b q k. search rules) _ _ _ c.retain.ensures.filtered in
    rw (c.shrink_to.ensures.items, left) (ascend_kept c.args.held.now.items c.requires)
