use Rattle.std.proofs.Common.{[], sym, ap, ◌∙◌, take, drop, arith}
use Rattle.std.proofs.lemmas.List.{get_or_read}
use Rattle.await_arrivals.specs.Entries.{not_taken}
use Rattle.await_arrivals.specs.Results.{first}
use Rattle.await_arrivals.specs.declared.log.Entry.{Entry}
use Rattle.await_arrivals.proofs.Entries.{cleared_by}
use Rattle.await_arrivals.proofs.Tracking.{at_slot, no_slot, no_front, no_early, no_first, within, tracked_taken, taken}
use Rattle.await_arrivals.proofs.log.Log.take_first.Goals as goal

pub returns-in_err-slot-clause-found : goal.returns-in_err-slot-clause-found
returns-in_err-slot-clause-found c =
    let s = c.self.inside in
    let none = no_slot s.entries.items s.index s.slots.items c.args.id.now c.args.seen c.self.invariant (sym c.in_err-slot.ensures) in
    rw (← c.self.view_is) (c.from_residual.ensures ∙ sym (ap first none))

pub returns-in_err-slot-clause-left : goal.returns-in_err-slot-clause-left
returns-in_err-slot-clause-left c =
    let s = c.self.inside in
    let none = no_slot s.entries.items s.index s.slots.items c.args.id.now c.args.seen c.self.invariant (sym c.in_err-slot.ensures) in
    rw (← c.self.view_is) (sym (no_first c.args.id.now (not_taken (take c.args.seen s.entries.items)) none))

pub returns-in_err-place-clause-found : goal.returns-in_err-place-clause-found
returns-in_err-place-clause-found c =
    let s = c.self.inside in
    let slot = sym c.in_ok-slot.ensures in
    let below = (at_slot s.entries.items s.index s.slots.items c.args.id.now c.in_ok-slot.slot c.self.invariant slot).0 in
    let read = get_or_read s.slots.items c.in_ok-slot.slot c.index.result.now below c.index.ensures [] in
    let none = no_front s.entries.items s.index s.slots.items c.args.id.now c.args.seen c.self.invariant c.in_ok-slot.slot slot (sym (c.in_err-place.ensures ∙ ap first read)) in
    rw (← c.self.view_is) (c.from_residual-in_err-place.ensures ∙ sym (ap first none))

pub returns-in_err-place-clause-left : goal.returns-in_err-place-clause-left
returns-in_err-place-clause-left c =
    let s = c.self.inside in
    let slot = sym c.in_ok-slot.ensures in
    let below = (at_slot s.entries.items s.index s.slots.items c.args.id.now c.in_ok-slot.slot c.self.invariant slot).0 in
    let read = get_or_read s.slots.items c.in_ok-slot.slot c.index.result.now below c.index.ensures [] in
    let none = no_front s.entries.items s.index s.slots.items c.args.id.now c.args.seen c.self.invariant c.in_ok-slot.slot slot (sym (c.in_err-place.ensures ∙ ap first read)) in
    rw (← c.self.view_is) (sym (no_first c.args.id.now (not_taken (take c.args.seen s.entries.items)) none))

pub returns-then-place-seen-clause-found : goal.returns-then-place-seen-clause-found
returns-then-place-seen-clause-found c =
    let s = c.self.inside in
    let slot = sym c.in_ok-slot.ensures in
    let below = (at_slot s.entries.items s.index s.slots.items c.args.id.now c.in_ok-slot.slot c.self.invariant slot).0 in
    let read = get_or_read s.slots.items c.in_ok-slot.slot c.index.result.now below c.index.ensures [] in
    let none = no_early s.entries.items s.index s.slots.items c.args.id.now c.args.seen c.self.invariant c.in_ok-slot.slot c.in_ok-place.place slot (sym (c.in_ok-place.ensures ∙ ap first read)) c.if-place-seen.true in
    rw (← c.self.view_is) (sym (ap first none))

pub returns-then-place-seen-clause-left : goal.returns-then-place-seen-clause-left
returns-then-place-seen-clause-left c =
    let s = c.self.inside in
    let slot = sym c.in_ok-slot.ensures in
    let below = (at_slot s.entries.items s.index s.slots.items c.args.id.now c.in_ok-slot.slot c.self.invariant slot).0 in
    let read = get_or_read s.slots.items c.in_ok-slot.slot c.index.result.now below c.index.ensures [] in
    let none = no_early s.entries.items s.index s.slots.items c.args.id.now c.args.seen c.self.invariant c.in_ok-slot.slot c.in_ok-place.place slot (sym (c.in_ok-place.ensures ∙ ap first read)) c.if-place-seen.true in
    rw (← c.self.view_is) (sym (no_first c.args.id.now (not_taken (take c.args.seen s.entries.items)) none))

pub index_mut-entry-requires : goal.index_mut-entry-requires
index_mut-entry-requires c =
    let s = c.self.inside in
    let slot = sym c.in_ok-slot.ensures in
    let below = (at_slot s.entries.items s.index s.slots.items c.args.id.now c.in_ok-slot.slot c.self.invariant slot).0 in
    let read = get_or_read s.slots.items c.in_ok-slot.slot c.index.result.now below c.index.ensures [] in
    let w = within s.entries.items s.index s.slots.items c.args.id.now c.in_ok-slot.slot c.in_ok-place.place c.self.invariant slot (sym (c.in_ok-place.ensures ∙ ap first read)) in
    omega arith

pub invariant_of-self : goal.invariant_of-self
invariant_of-self c =
    let s = c.self.inside in
    let slot = sym c.in_ok-slot.ensures in
    let below = (at_slot s.entries.items s.index s.slots.items c.args.id.now c.in_ok-slot.slot c.self.invariant slot).0 in
    let read = get_or_read s.slots.items c.in_ok-slot.slot c.index.result.now below c.index.ensures [] in
    let again = get_or_read s.slots.items c.in_ok-slot.slot c.index_mut-at.result.now below c.index_mut-at.ensures.value [] in
    let gone = cleared_by c.in_ok-place.place s.entries.items c.index_mut-entry.result.now c.give_up.new.entry c.index_mut-entry.ensures.value c.give_up.ensures.left in
    rw (gone, c.advance.ensures ∙ ap (drop 1) again) (tracked_taken s.entries.items s.index s.slots.items c.args.id.now c.in_ok-slot.slot c.in_ok-place.place c.self.invariant slot (sym (c.in_ok-place.ensures ∙ ap first read)))

pub returns-clause-found : goal.returns-clause-found
returns-clause-found c =
    let s = c.self.inside in
    let slot = sym c.in_ok-slot.ensures in
    let below = (at_slot s.entries.items s.index s.slots.items c.args.id.now c.in_ok-slot.slot c.self.invariant slot).0 in
    let read = get_or_read s.slots.items c.in_ok-slot.slot c.index.result.now below c.index.ensures [] in
    let t = taken s.entries.items s.index s.slots.items c.args.id.now c.in_ok-slot.slot c.in_ok-place.place c.self.invariant slot (sym (c.in_ok-place.ensures ∙ ap first read)) c.args.seen (omega arith) in
    let e = c.index_mut-entry.result.now in
    rw (← c.self.view_is) (c.give_up.ensures.result ∙ ap (λ (z : Entry). z.result) c.index_mut-entry.ensures.value ∙ t.result e)

pub returns-clause-left : goal.returns-clause-left
returns-clause-left c =
    let s = c.self.inside in
    let slot = sym c.in_ok-slot.ensures in
    let below = (at_slot s.entries.items s.index s.slots.items c.args.id.now c.in_ok-slot.slot c.self.invariant slot).0 in
    let read = get_or_read s.slots.items c.in_ok-slot.slot c.index.result.now below c.index.ensures [] in
    let t = taken s.entries.items s.index s.slots.items c.args.id.now c.in_ok-slot.slot c.in_ok-place.place c.self.invariant slot (sym (c.in_ok-place.ensures ∙ ap first read)) c.args.seen (omega arith) in
    let gone = cleared_by c.in_ok-place.place s.entries.items c.index_mut-entry.result.now c.give_up.new.entry c.index_mut-entry.ensures.value c.give_up.ensures.left in
    rw (← c.self.view_is, gone) t.left
