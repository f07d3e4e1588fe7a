use Rattle.std.proofs.Common.{◌++◌, ◌∙◌, ap, codes}
use Rattle.world_scripts.specs.Printed.{answer_lines, count_text}
use Rattle.world_rounds.specs.Inside.{report_view}
use Rattle.world_scripts.proofs.Printing.{round_printed}
use Rattle.world_scripts.proofs.report.print_round.Goals as goal

pub returns : goal.returns
returns c =
    let frames = c.in_ok-print_bytes.ensures in
    round_printed c.args.number (report_view c.args.round.now) c.args.report.now c.print_count.new.report c.print_answers.new.report c.print_bytes.new.report c.print_error.new.report c.print_count-2.new.report frames.0
    c.in_ok-print_count.ensures (c.in_ok-print_answers.ensures ∙ ap (λ xs. c.print_count.new.report ++ answer_lines xs) c.as_slice.ensures.value) frames.1 c.in_ok-print_error.ensures (c.in_ok-print_count-2.ensures ∙ ap (λ n. c.print_error.new.report ++ count_text (codes "entries ") n) c.from.ensures)
