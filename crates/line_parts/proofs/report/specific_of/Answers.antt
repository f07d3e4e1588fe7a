use Rattle.std.proofs.Common.{◌≡◌, ◌∙◌, Err, drop, ap, rules}
use Rattle.line_parts.proofs.Commands.{at_words_blamed}
use Rattle.line_parts.proofs.report.specific_of.Goals as goal

pub returns-in_err-ty-clause-none : goal.returns-in_err-ty-clause-none
returns-in_err-ty-clause-none c =
    let is : c.from_residual-in_err-ty.result ≡ Err c.in_err-ty.field-0.0 = search rules in
    rw is (at_words_blamed c.args.text.now c.in_ok-found.found.items c.behind.result.now c.in_err-ty.field-0.0 c.in_ok-found.ensures.words (c.behind.ensures ∙ ap (drop 1) c.as_slice-words.ensures.value) c.in_err-ty.ensures.none)
