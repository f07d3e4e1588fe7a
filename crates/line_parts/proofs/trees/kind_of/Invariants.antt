use Rattle.std.proofs.Common.{◌≡◌, None, find, take, nat_eq}
use Rattle.std.specs.Cmp.Lexicographic.{pointwise}
use Rattle.line_parts.specs.Trees.{kind_name}
use Rattle.line_parts.proofs.trees.kind_of.Given as goal

abbrev pub invariant-loop-kind : goal.invariant-loop-kind
invariant-loop-kind l = find (λ kind. pointwise nat_eq l.word (kind_name kind)) (take l.kind-index l.kind-items) ≡ None
