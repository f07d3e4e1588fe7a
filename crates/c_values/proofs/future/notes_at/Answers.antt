use Rattle.std.proofs.Common.{◌≡◌, ◌∙◌, sym, ap, length, rules}
use Rattle.c_values.specs.Noting.{AllRead}
use Rattle.c_values.proofs.Streams.{whole_read, zero_of}
use Rattle.c_values.proofs.future.notes_at.Goals as goal

pub returns-then-is_empty : goal.returns-then-is_empty
returns-then-is_empty c =
    let none : length c.in-Ok.decoder ≡ 0 = ap length (sym c.waiting.ensures) ∙ zero_of (length c.waiting.result.now) (sym c.is_empty.ensures ∙ c.if-is_empty.true) in
    let read : AllRead c.args.stream.now c.in-Ok.came c.in-Ok.decoder = search rules in
    sym (whole_read c.args.stream.now c.in-Ok.decoder c.in-Ok.came read none)
