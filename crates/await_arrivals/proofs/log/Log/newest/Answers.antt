use Rattle.std.proofs.Common.{[], sym, ap, ◌∙◌, arith}
use Rattle.std.proofs.lemmas.List.{get_or_read}
use Rattle.std.specs.Option.{option_copied}
use Rattle.std.specs.List.Sorted.{IsNonDecreasing}
use Rattle.await_arrivals.specs.declared.log.Entry.{Entry}
use Rattle.await_arrivals.specs.Entries.{under}
use Rattle.await_arrivals.specs.Results.{newest}
use Rattle.await_arrivals.proofs.Tracking.{at_slot, no_slot}
use Rattle.await_arrivals.proofs.Presents.{places_rise, newest_none, newest_within, newest_at}
use Rattle.await_arrivals.proofs.log.Log.newest.Goals as goal

pub returns-in_err-slot : goal.returns-in_err-slot
returns-in_err-slot c =
    let s = c.self.inside in
    let none = no_slot s.entries.items s.index s.slots.items c.args.id.now c.args.seen c.self.invariant (sym c.in_err-slot.ensures) in
    rw (← c.self.view_is) (ap option_copied c.from_residual.ensures ∙ sym (ap newest none))

pub newest_under-requires : goal.newest_under-requires
newest_under-requires c =
    let s = c.self.inside in
    let at = at_slot s.entries.items s.index s.slots.items c.args.id.now c.in_ok-slot.slot c.self.invariant (sym c.in_ok-slot.ensures) in
    let read = get_or_read s.slots.items c.in_ok-slot.slot c.index.result.now at.0 c.index.ensures [] in
    let rise : IsNonDecreasing c.index.result.now = rw (read ∙ at.1) (places_rise c.args.id.now s.entries.items) in
    rise

pub returns-in_err-place : goal.returns-in_err-place
returns-in_err-place c =
    let s = c.self.inside in
    let at = at_slot s.entries.items s.index s.slots.items c.args.id.now c.in_ok-slot.slot c.self.invariant (sym c.in_ok-slot.ensures) in
    let read = get_or_read s.slots.items c.in_ok-slot.slot c.index.result.now at.0 c.index.ensures [] in
    let none = newest_none c.args.id.now s.entries.items c.args.seen (c.in_err-place.ensures ∙ ap (λ z. newest (under c.args.seen z)) (read ∙ at.1)) in
    rw (← c.self.view_is) (ap option_copied c.from_residual-in_err-place.ensures ∙ sym none)

pub index-requires-2 : goal.index-requires-2
index-requires-2 c =
    let s = c.self.inside in
    let at = at_slot s.entries.items s.index s.slots.items c.args.id.now c.in_ok-slot.slot c.self.invariant (sym c.in_ok-slot.ensures) in
    let read = get_or_read s.slots.items c.in_ok-slot.slot c.index.result.now at.0 c.index.ensures [] in
    let w = newest_within c.args.id.now s.entries.items c.args.seen c.in_ok-place.place (c.in_ok-place.ensures ∙ ap (λ z. newest (under c.args.seen z)) (read ∙ at.1)) in
    omega arith

pub returns : goal.returns
returns c =
    let s = c.self.inside in
    let at = at_slot s.entries.items s.index s.slots.items c.args.id.now c.in_ok-slot.slot c.self.invariant (sym c.in_ok-slot.ensures) in
    let read = get_or_read s.slots.items c.in_ok-slot.slot c.index.result.now at.0 c.index.ensures [] in
    let is = newest_at c.args.id.now s.entries.items c.args.seen c.in_ok-place.place (c.in_ok-place.ensures ∙ ap (λ z. newest (under c.args.seen z)) (read ∙ at.1)) in
    rw (← c.self.view_is) (c.as_ref.ensures.value ∙ ap (λ (z : Entry). z.result) c.index-2.ensures ∙ is c.index-2.result.now)
