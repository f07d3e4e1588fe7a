use Rattle.std.proofs.Common.{◌≡◌, None, find, take, nat_eq, arith, subst, ap, sym, refl, ◌∙◌}
use Rattle.std.specs.Cmp.Lexicographic.{pointwise}
use Rattle.line_parts.specs.Reports.{command_type_name}
use Rattle.line_parts.proofs.Commands.{no_type, types}
use Rattle.line_parts.proofs.Finding.{none_more}
use Rattle.line_parts.proofs.report.command_type_of.Goals as goal

pub returns-clause-none : goal.returns-clause-none
returns-clause-none c =
    let all : c.loop-ty.ty-index ≡ 19 = omega arith in
    no_type c.args.text.now _ (subst (λ n. find (λ ty. pointwise nat_eq c.args.text.now (command_type_name ty)) (take n types) ≡ None) all c.loop-ty.invariant)

pub loop-ty-preserved : goal.loop-ty-preserved
loop-ty-preserved c =
    none_more (λ ty. pointwise nat_eq c.args.text.now (command_type_name ty)) types c.loop-ty.ty-index _ _ refl c.loop-ty-test.true c.loop-ty.invariant
    (ap (λ name. pointwise nat_eq c.args.text.now name) (sym (c.as_bytes.ensures.value ∙ c.name_of_type.ensures)) ∙ sym c.if-eq.ensures)
