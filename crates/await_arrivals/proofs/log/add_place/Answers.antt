use Rattle.std.proofs.Common.{[], sym, ap, ◌∙◌, ◌++◌, ◌∷◌, arith}
use Rattle.std.proofs.lemmas.List.{get_or_read}
use Rattle.await_arrivals.proofs.Moves.{where_ok}
use Rattle.await_arrivals.proofs.Tracking.{tracked_known, tracked_first}
use Rattle.await_arrivals.proofs.log.add_place.Goals as goal

pub returns-in-Some-clause-ok : goal.returns-in-Some-clause-ok
returns-in-Some-clause-ok c =
    let slots = c.args.slots.now.items in
    let slot = sym c.in-Some.ensures in
    let read = get_or_read slots c.in-Some.slot c.index_mut-at.result.now (c.requires c.in-Some.slot slot) c.index_mut-at.ensures.value [] in
    where_ok c.push.result (λ e. λ log n some t. tracked_known log c.args.index.now slots c.in-Some.slot c.args.place c.args.entry.now c.push.new.self t slot some n (e ∙ ap (λ z. z ++ c.args.place ∷ []) read)) c.push.ensures.ok

pub returns-in-Ok-clause-ok : goal.returns-in-Ok-clause-ok
returns-in-Ok-clause-ok c = λ log n some t.
    let slots = c.args.slots.now.items in
    tracked_first log c.args.index.now c.insert.new.self slots c.push-2.new.self.items c.args.place c.len-slot.result c.args.entry.now t (sym c.in_default.ensures) some n (rw c.one.ensures at c.in_ok-push.ensures.items) (omega arith) c.in-Ok.ensures.ok c.in-Ok.ensures.ok_held
