use Rattle.std.proofs.Common.{◌≡◌, Err, codes, rules}
use Rattle.world_scripts.proofs.Nothing.{piece_row, step_row}
use Rattle.world_scripts.proofs.parse.event_behind.Goals as goal

pub returns-in_err-count-clause-none : goal.returns-in_err-count-clause-none
returns-in_err-count-clause-none c =
    let is : c.from_residual.result ≡ Err c.in_err-count.field-0.0 = search rules in
    let word : c.args.word.now ≡ codes "piece" = search rules in
    rw is (piece_row c.args.word.now c.args.others.now c.in_err-count.field-0.0 word c.in_err-count.ensures.none)

pub returns-in_err-steps-clause-none : goal.returns-in_err-steps-clause-none
returns-in_err-steps-clause-none c =
    let is : c.from_residual-in_err-steps.result ≡ Err c.in_err-steps.field-0.0 = search rules in
    let word : c.args.word.now ≡ codes "step" = search rules in
    rw is (step_row c.args.word.now c.args.others.now c.in_err-steps.field-0.0 word c.in_err-steps.ensures.none)
