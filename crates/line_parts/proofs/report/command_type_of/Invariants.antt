use Rattle.std.proofs.Common.{◌≡◌, None, find, take, nat_eq}
use Rattle.std.specs.Cmp.Lexicographic.{pointwise}
use Rattle.line_parts.specs.Reports.{command_type_name}
use Rattle.line_parts.proofs.report.command_type_of.Given as goal

abbrev pub invariant-loop-ty : goal.invariant-loop-ty
invariant-loop-ty l = find (λ ty. pointwise nat_eq l.text (command_type_name ty)) (take l.ty-index l.ty-items) ≡ None
