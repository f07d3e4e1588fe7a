use Rattle.std.proofs.Common.{◌≡◌, ◌++◌, ◌∷◌, [], Some, length, true, sym, ap, ◌∙◌, append-nil, arith}
use Rattle.std.proofs.lemmas.Bool.Decides.{nat_tests}
use Rattle.std.proofs.lemmas.List.{nil_from_length}
use Rattle.vm_parts.specs.declared.handles.Held.{Held}
use Rattle.vm_parts.specs.Mappings.{MappingsAscend, AllUnder, live_mappings}
use Rattle.vm_parts.proofs.Mapped.{ascend_push, live_push}
use Rattle.vm_parts.proofs.handles.Handles.append.Goals as goal

pub invariant_of-self-2 : goal.invariant_of-self-2
invariant_of-self-2 c =
    let s = c.self.inside in
    let x : Held = record { handle = c.args.mapping.handle; id = Some c.args.mapping.id } in
    let above : c.is_above.result ≡ true = cc in
    let under : AllUnder s.ascending.items c.args.mapping.handle = rw (← c.deref.ensures.value) (c.is_above.ensures.above above) in
    let h : MappingsAscend c.push-2.new.self.items = rw c.in_ok-push-2.ensures.items (ascend_push s.ascending.items x c.self.invariant under) in
    h

pub returns-clause-ok : goal.returns-clause-ok
returns-clause-ok c =
    let s = c.self.inside in
    let x : Held = record { handle = c.args.mapping.handle; id = Some c.args.mapping.id } in
    let empty : length s.others.items ≡ 0 = grind (arith, nat_tests) in
    let none = nil_from_length s.others.items empty in
    let held = s.ascending.items in
    rw (← c.self.view_is, none, c.in_ok-push-2.ensures.items)
    (append-nil (live_mappings (held ++ x ∷ [])) ∙ live_push held x ∙ ap (λ ms. ms ++ c.args.mapping ∷ []) (sym (append-nil (live_mappings held))))
