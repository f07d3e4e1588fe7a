use Rattle.std.proofs.Common.{◌≡◌, ◌+◌, Err, subst, rules}
use Rattle.lines.specs.Readings.{Blames}
use Rattle.lines.specs.Words.{IsNumberOf}
use Rattle.lines.proofs.Places.{behind_is}
use Rattle.line_parts.proofs.Retrying.{denominator_blamed}
use Rattle.line_parts.proofs.policies.fraction_of.Goals as goal

pub returns-in_err-denominator-clause-none : goal.returns-in_err-denominator-clause-none
returns-in_err-denominator-clause-none c =
    let is : c.from_residual-in_err-denominator.result ≡ Err c.in_err-denominator.field-0.0 = search rules in
    rw is (denominator_blamed c.args.text.now c.in-Some.at c.in_err-denominator.field-0.0 (search rules)
    (subst (λ t. Blames (IsNumberOf 32 t) c.in_err-denominator.field-0.0) (behind_is (c.in-Some.at + 1) c.args.text.now) c.in_err-denominator.ensures.none))
