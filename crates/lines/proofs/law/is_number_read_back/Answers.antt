use Rattle.std.proofs.Common.{arith}
use Rattle.std.proofs.lemmas.Fmt.{decimal_is_IsNumeral}
use Rattle.lines.proofs.law.is_number_read_back.Goals as goal

pub returns-clause-reads : goal.returns-clause-reads
returns-clause-reads c = let n = decimal_is_IsNumeral c.args._number (omega (arith, c.ranges._number)) in (n.0, omega (arith, n.1, c.ranges._number))

pub returns-clause-value : goal.returns-clause-value
returns-clause-value c = (decimal_is_IsNumeral c.args._number (omega (arith, c.ranges._number))).1
