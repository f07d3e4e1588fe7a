use Rattle.std.proofs.Common.{sym, ap, ◌∙◌}
use Rattle.std.specs.Option.{option_copied}
use Rattle.vm_parts.proofs.Mapped.{no_id, id_found}
use Rattle.vm_parts.proofs.handles.find_held.Goals as goal

pub returns-in-Some : goal.returns-in-Some
returns-in-Some c =
    c.as_ref.ensures.value
    ∙ sym (id_found c.args.handle c.args.held.now c.in-Some.place c.requires c.in-Some.ensures c.index-held-place.result)

pub returns-in_err-place : goal.returns-in_err-place
returns-in_err-place c = ap option_copied c.from_residual.ensures ∙ sym (no_id c.args.handle c.args.held.now c.in_err-place.ensures)

pub returns : goal.returns
returns c =
    c.as_ref-2.ensures.value
    ∙ sym (id_found c.args.handle c.args.held.now c.in_ok-place.place c.requires c.in_ok-place.ensures c.index-held-place-2.result)
