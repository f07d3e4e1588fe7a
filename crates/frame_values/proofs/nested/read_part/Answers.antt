use Rattle.std.proofs.Common.{◌≡◌, Err, reverse, length, rules}
use Rattle.frame_values.proofs.Reading.{close_denied, close_read, first_placed}
use Rattle.frame_values.proofs.nested.read_part.Goals as goal

pub close-requires : goal.close-requires
close-requires c = first_placed c.args.current (reverse c.args.open.now.items) (length c.args.nodes.now.items) c.requires.placed

pub returns-in_err-close-clause-none : goal.returns-in_err-close-clause-none
returns-in_err-close-clause-none c =
    let is : c.from_residual.result ≡ Err c.in_err-close.field-0.0 = search rules in
    rw is (close_denied c.args.current (reverse c.args.open.now.items) c.args.text.now c.in-Some.rest.now _ c.in-Some.ensures.some c.in_err-close.ensures.none)

pub returns-in-Some-clause-reads : goal.returns-in-Some-clause-reads
returns-in-Some-clause-reads c =
    close_read c.args.current (reverse c.args.open.now.items) c.args.nodes.now.items c.close.new.nodes.items c.args.text.now c.in-Some.rest.now c.in_ok-close.ensures.node c.in-Some.ensures.some c.requires.placed
