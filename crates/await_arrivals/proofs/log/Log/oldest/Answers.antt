use Rattle.std.proofs.Common.{sym, ap, ◌∙◌, arith}
use Rattle.std.specs.Option.{option_copied}
use Rattle.await_arrivals.specs.declared.log.Entry.{Entry}
use Rattle.await_arrivals.proofs.Presents.{oldest_none, oldest_late, oldest_within, oldest_at}
use Rattle.await_arrivals.proofs.log.Log.oldest.Goals as goal

pub returns-in_err-place : goal.returns-in_err-place
returns-in_err-place c =
    ap option_copied c.from_residual.ensures ∙ sym (oldest_none c.args.id.now c.args.self.now c.args.seen c.in_err-place.ensures)

pub returns-then-seen-place : goal.returns-then-seen-place
returns-then-seen-place c = sym (oldest_late c.args.id.now c.args.self.now c.args.seen c.in_ok-place.place c.in_ok-place.ensures c.if-seen-place.true)

pub index-requires : goal.index-requires
index-requires c =
    let e = c.in_ok-place.ensures in
    let w = oldest_within c.args.id.now c.self.inside.entries.items c.in_ok-place.place (rw (← c.self.view_is) at e) in
    omega arith

pub returns : goal.returns
returns c =
    let e = c.in_ok-place.ensures in
    let is = oldest_at c.args.id.now c.self.inside.entries.items c.args.seen c.in_ok-place.place (rw (← c.self.view_is) at e) (omega arith) in
    rw (← c.self.view_is) (c.as_ref.ensures.value ∙ ap (λ (z : Entry). z.result) c.index.ensures ∙ is c.index.result.now)
