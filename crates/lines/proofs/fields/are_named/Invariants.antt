use Rattle.std.proofs.Common.{◌≡◌, true, take}
use Rattle.std.specs.List.{list_all, list_any}
use Rattle.lines.specs.Fields.{is_named}
use Rattle.lines.proofs.fields.are_named.Given as goal

abbrev pub invariant-loop-word : goal.invariant-loop-word
invariant-loop-word l = list_all (λ word. list_any (λ name. is_named name.now word.now) l.names) (take l.word-index l.words) ≡ true
