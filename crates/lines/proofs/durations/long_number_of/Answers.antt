use Rattle.std.proofs.Common.{rules}
use Rattle.std.specs.Str.{IsUtf8}
use Rattle.lines.proofs.Blaming.{numeral_is_utf8}
use Rattle.lines.proofs.durations.long_number_of.Goals as goal

pub returns-in_err-ok-in-48-to-57-clause-none : goal.returns-in_err-ok-in-48-to-57-clause-none
returns-in_err-ok-in-48-to-57-clause-none c =
    let bad : IsUtf8 c.args.digits.now → ⊥ = search rules in
    rw c.from_residual.ensures (λ numeral. absurd (bad (numeral_is_utf8 c.args.digits.now numeral)))
