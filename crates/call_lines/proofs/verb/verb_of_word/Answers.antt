use Rattle.std.proofs.Common.{◌≡◌, None, find, take, nat_eq, arith, subst, ap, sym, refl, ◌∙◌}
use Rattle.std.proofs.lemmas.Grind.{common_steps}
use Rattle.std.specs.Cmp.Lexicographic.{pointwise}
use Rattle.call_lines.specs.Verbs.{verb_name, verb_named, verbs}
use Rattle.line_parts.proofs.Finding.{found_here, none_more}
use Rattle.call_lines.proofs.verb.verb_of_word.Goals as goal

pub returns-clause-none : goal.returns-clause-none
unfolding verb_named
returns-clause-none c =
    let all : c.loop-verb.verb-index ≡ 37 = omega arith in
    subst (λ n. find (λ verb. pointwise nat_eq c.args.word.now (verb_name verb)) (take n verbs) ≡ None) all c.loop-verb.invariant

pub returns-then-eq-clause-named : goal.returns-then-eq-clause-named
unfolding verb_named
returns-then-eq-clause-named c =
    found_here (λ verb. pointwise nat_eq c.args.word.now (verb_name verb)) verbs c.loop-verb.verb-index _ c.loop-verb-test.true c.loop-verb.invariant (grind (arith, common_steps))

pub loop-verb-preserved : goal.loop-verb-preserved
loop-verb-preserved c =
    none_more (λ verb. pointwise nat_eq c.args.word.now (verb_name verb)) verbs c.loop-verb.verb-index _ _ refl c.loop-verb-test.true c.loop-verb.invariant
    (ap (λ name. pointwise nat_eq c.args.word.now name) (sym (c.as_bytes.ensures.value ∙ c.name_of_verb.ensures)) ∙ sym c.if-eq.ensures)
