use Rattle.std.specs.Prelude.{codes, true}
use Rattle.frame_values.proofs.Putting.{closed_behind}
use Rattle.frame_values.proofs.choices.print_bracketed.Goals as goal

pub returns : goal.returns
returns g c = closed_behind c.args.line.now c.args.word.now c.word.new.self c.print.new.line c.word-2.new.self (codes ")") true c.in_ok-print.field-0 (g.T.Bracketed.fields.printed c.args.form.now) c.in_ok-word.ensures c.in_ok-print.ensures c.in_ok-word-2.ensures
