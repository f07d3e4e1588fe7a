use Rattle.std.proofs.Common.{arith}
use Rattle.lines.proofs.Missing.{if_err_map, one_atom_blamed}
use Rattle.line_parts.proofs.arguments.bytes_alone.Goals as goal

pub returns-in-len1-clause-none : goal.returns-in-len1-clause-none
returns-in-len1-clause-none c =
    if_err_map c.shared_of.result _ _ (λ fault blames. one_atom_blamed c.args.arguments.now _ fault (omega arith) blames) c.shared_of.ensures.none
