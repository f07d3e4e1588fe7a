use Rattle.std.proofs.Common.{codes}
use Rattle.frame_values.specs.Choices.{notification_result_notation, signal_notation}
use Rattle.engine_lines.proofs.Printing.{four_added}
use Rattle.engine_lines.proofs.parts.print_signal.Goals as goal

pub returns : goal.returns
returns c =
    four_added (codes "  waits signal ") (signal_notation.text c.args.signal.now) (codes " ") (notification_result_notation.text c.args.brings.now) c.args.report.now c.word.new.self c.print.new.line c.word-2.new.self c.print-2.new.line c.in_ok-word.ensures c.in_ok-print.ensures c.in_ok-word-2.ensures c.in_ok-print-2.ensures
