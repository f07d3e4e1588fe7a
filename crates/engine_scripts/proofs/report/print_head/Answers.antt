use Rattle.std.proofs.Common.{codes}
use Rattle.engine_lines.specs.Parts.{word_and_count}
use Rattle.engine_scripts.specs.Printed.{called_text, options_text}
use Rattle.engine_lines.proofs.Printing.{four_added}
use Rattle.engine_scripts.proofs.report.print_head.Goals as goal

pub returns : goal.returns
returns c =
    four_added (word_and_count (codes "invocation ") c.args.number) (called_text c.args.engine.now c.args.it.now) (options_text c.args.it.now) (codes "\n") c.args.report.now c.print_count.new.report c.print_called.new.report c.print_options.new.report c.word.new.self c.in_ok-print_count.ensures c.in_ok-print_called.ensures c.in_ok-print_options.ensures c.in_ok-word.ensures
