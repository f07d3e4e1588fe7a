use Rattle.std.proofs.Common.{◌-◌, length, refl}
use Rattle.await_arrivals.proofs.Drops.{dropped}
use Rattle.await_arrivals.proofs.Moves.{same_came}
use Rattle.await_arrivals.proofs.arrivals.Arrivals.give_back.Goals as goal

pub overflow_sub-self : goal.overflow_sub-self
overflow_sub-self c =
    let s = c.self.inside in
    let d = dropped s.seen s.log c.compact.new.self c.self.invariant.0 c.self.invariant.1 c.in-Ok.ensures.ok (length c.compact.new.self - (length s.log - s.seen)) refl in
    rw (c.len.ensures, c.len-in-Ok.ensures) d.enough

pub invariant_of-self : goal.invariant_of-self
invariant_of-self c =
    let s = c.self.inside in
    let d = dropped s.seen s.log c.compact.new.self c.self.invariant.0 c.self.invariant.1 c.in-Ok.ensures.ok (length c.compact.new.self - (length s.log - s.seen)) refl in
    rw (c.len.ensures, c.len-in-Ok.ensures) (d.within, d.all)

pub returns-in-Ok : goal.returns-in-Ok
returns-in-Ok c =
    let s = c.self.inside in
    let d = dropped s.seen s.log c.compact.new.self c.self.invariant.0 c.self.invariant.1 c.in-Ok.ensures.ok (length c.compact.new.self - (length s.log - s.seen)) refl in
    rw (← c.self.view_is, c.len.ensures, c.len-in-Ok.ensures) (same_came _ _ d.queued d.delivered)
