use Rattle.std.proofs.Common.{inl, inr, refl, arith}
use Rattle.std.specs.List.{flat_map}
use Rattle.lines.specs.Atoms.{printed_byte, in_hex}
use Rattle.lines.proofs.Spelling.{chars_read, digits_read}
use Rattle.lines.proofs.law.is_read_back.Goals as goal

pub returns-clause-in_quotes : goal.returns-clause-in_quotes
returns-clause-in_quotes c =
    inl (flat_map printed_byte c.args._bytes.now, refl, chars_read c.args._bytes.now (λ k. omega (arith, c.type_inv._bytes k)))

pub returns-clause-as_digits : goal.returns-clause-as_digits
returns-clause-as_digits c =
    inr (flat_map in_hex c.args._bytes.now, refl, digits_read c.args._bytes.now (λ k. omega (arith, c.type_inv._bytes k)))
