use Rattle.std.proofs.Common.{◌≡◌, None, find, take, nat_eq}
use Rattle.std.specs.Cmp.Lexicographic.{pointwise}
use Rattle.call_lines.specs.Verbs.{verb_name}
use Rattle.call_lines.proofs.verb.verb_of_word.Given as goal

abbrev pub invariant-loop-verb : goal.invariant-loop-verb
invariant-loop-verb l = find (λ verb. pointwise nat_eq l.word (verb_name verb)) (take l.verb-index l.verb-items) ≡ None
