use Rattle.std.proofs.Common.{◌≡◌, ◌++◌, ◌∙◌, ap, codes}
use Rattle.engine_lines.specs.Parts.{word_and_count}
use Rattle.engine_lines.proofs.Printing.{two_added}
use Rattle.engine_lines.proofs.parts.print_timer.Goals as goal

pub returns : goal.returns
returns c =
    let wide : c.print_count.new.report ≡ c.args.report.now ++ word_and_count (codes "  waits clock ") c.args.completes = c.in_ok-print_count.ensures ∙ ap (λ n. c.args.report.now ++ word_and_count (codes "  waits clock ") n) c.from.ensures in
    two_added (word_and_count (codes "  waits clock ") c.args.completes) (word_and_count (codes " at ") c.args.due) c.args.report.now c.print_count.new.report c.print_count-2.new.report wide c.in_ok-print_count-2.ensures
