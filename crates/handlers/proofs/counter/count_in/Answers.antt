use Rattle.std.proofs.Common.{◌∙◌, arith, refl}
use Rattle.handlers.proofs.Counting.{no_text, read, count_fits}
use Rattle.handlers.proofs.counter.count_in.Goals as goal

pub returns-in-Ok-clause-value : goal.returns-in-Ok-clause-value
returns-in-Ok-clause-value c =
    c.unwrap_or.ensures ∙ read c.args.bytes.now c.in-Ok.digits.now c.parse.result c.in-Ok.ensures.cases.0 (c.if-not-begins_with_digit.ensures.some refl) (omega (arith, c.if-bytes-gt18.false)) (c.if-not-begins_with_digit.ensures.unsigned refl) c.parse.ensures.value.0

pub returns-in-Ok-clause-fits : goal.returns-in-Ok-clause-fits
returns-in-Ok-clause-fits c = rw (returns-in-Ok-clause-value c) (count_fits c.args.bytes.now)

pub returns-in-Err-clause-value : goal.returns-in-Err-clause-value
returns-in-Err-clause-value c = no_text c.args.bytes.now c.in-Err.ensures.cases.0
