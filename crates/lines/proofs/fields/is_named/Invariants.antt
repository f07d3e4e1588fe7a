use Rattle.std.proofs.Common.{◌≡◌, take, false}
use Rattle.std.specs.List.{list_any}
use Rattle.lines.specs.Fields.{is_named}
use Rattle.lines.proofs.fields.is_named.Given as goal

abbrev pub invariant-loop-name : goal.invariant-loop-name
invariant-loop-name l = list_any (λ name. is_named name.now l.word) (take l.name-index l.names) ≡ false
