use Rattle.std.proofs.Common.{◌≡◌, None, find, take, nat_eq, arith, subst, ap, sym, refl, ◌∙◌}
use Rattle.std.specs.Cmp.Lexicographic.{pointwise}
use Rattle.line_parts.specs.Trees.{kind_name}
use Rattle.line_parts.proofs.Finding.{none_more}
use Rattle.line_parts.proofs.TreeWords.{kinds, no_kind_named}
use Rattle.line_parts.proofs.trees.kind_of.Goals as goal

pub returns-clause-none : goal.returns-clause-none
returns-clause-none c =
    let all : c.loop-kind.kind-index ≡ 5 = omega arith in
    no_kind_named c.args.word.now _ (subst (λ n. find (λ kind. pointwise nat_eq c.args.word.now (kind_name kind)) (take n kinds) ≡ None) all c.loop-kind.invariant)

pub loop-kind-preserved : goal.loop-kind-preserved
loop-kind-preserved c =
    none_more (λ kind. pointwise nat_eq c.args.word.now (kind_name kind)) kinds c.loop-kind.kind-index _ _ refl c.loop-kind-test.true c.loop-kind.invariant
    (ap (λ name. pointwise nat_eq c.args.word.now name) (sym (c.as_bytes.ensures.value ∙ c.name_of_kind.ensures)) ∙ sym c.if-eq.ensures)
