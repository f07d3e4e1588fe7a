use Rattle.std.specs.Prelude.{◌==◌, ◌++◌, if◌then◌else◌, codes, true}
use Rattle.std.proofs.Common.{ap, ◌∙◌}
use Rattle.frame_values.specs.Futures.{node_head_text, node_fields}
use Rattle.frame_values.proofs.Putting.{closed_behind}
use Rattle.frame_values.proofs.future.print_head.Goals as goal

pub returns : goal.returns
unfolding node_head_text
returns c = closed_behind c.args.line.now (codes "(") c.word.new.self c.print.new.line c.word-2.new.self (if c.args.node.now.nested == 0 then codes ")" else codes " nested=[") true c.in_ok-print.field-0 (node_fields.printed c.args.node.now) c.in_ok-word.ensures c.in_ok-print.ensures (c.in_ok-word-2.ensures ∙ ap (λ t. c.print.new.line ++ t) c.behind_fields.ensures)
