use Rattle.std.proofs.Common.{◌≡◌, ◌<◌, length, get_or, ap, subst, arith, rules}
use Rattle.std.proofs.lemmas.Int.Digits.{digits_value_more, digits_more}
use Rattle.std.proofs.lemmas.List.{take_all}
use Rattle.std.specs.Char.{digit_value}
use Rattle.std.specs.Str.Parse.{AllDigits, digits_value}
use Rattle.lines.proofs.Numerals.{no_digit, too_large}
use Rattle.lines.proofs.atoms.number_of.Goals as goal

pub returns-in_err-digit-clause-none : goal.returns-in_err-digit-clause-none
returns-in_err-digit-clause-none c =
    let other : digit_value (get_or c.args.text.now c.loop-byte.byte-index 0) < 10 → ⊥ = search rules in
    rw c.from_residual.ensures (no_digit c.args.text.now c.loop-byte.byte-index c.loop-byte-test.true other)

pub returns-in_err-checked_mul-clause-none : goal.returns-in_err-checked_mul-clause-none
returns-in_err-checked_mul-clause-none c =
    rw c.from_residual-in_err-checked_mul.ensures (too_large c.args.text.now c.loop-byte.byte-index c.loop-byte-test.true (omega (arith, c.in_err-checked_mul.ensures, c.loop-byte.invariant.1)))

pub returns-in_err-number-clause-none : goal.returns-in_err-number-clause-none
returns-in_err-number-clause-none c =
    let digit : c.from-in-loop-byte.result ≡ digit_value (get_or c.args.text.now c.loop-byte.byte-index 0) = search rules in
    rw c.from_residual-in_err-number.ensures (too_large c.args.text.now c.loop-byte.byte-index c.loop-byte-test.true (omega (arith, digit, c.in_err-number.ensures, c.in_ok-checked_mul.ensures.1, c.loop-byte.invariant.1)))

pub loop-byte-preserved : goal.loop-byte-preserved
loop-byte-preserved c =
    let text = c.args.text.now in
    let i = c.loop-byte.byte-index in
    let digit : c.from-in-loop-byte.result ≡ digit_value (get_or text i 0) = search rules in
    let below : digit_value (get_or text i 0) < 10 = search rules in (
      digits_more 10 text i c.loop-byte-test.true c.loop-byte.invariant.0 below,
      omega (arith, digit, digits_value_more 10 text i c.loop-byte-test.true, c.in_ok-number.ensures.1, c.in_ok-checked_mul.ensures.1, c.loop-byte.invariant.1),
      omega (arith, c.in_ok-number.ensures.0, c.in_ok-number.ensures.1),
    )

pub returns-clause-digits : goal.returns-clause-digits
returns-clause-digits c =
    let whole = take_all c.loop-byte.byte-index c.args.text.now c.loop-byte-test.false in
    let some : 0 < length c.args.text.now = grind arith in
    ((some, subst (AllDigits 10) whole c.loop-byte.invariant.0), omega (arith, ap (digits_value 10) whole, c.loop-byte.invariant.1, c.loop-byte.invariant.2))
