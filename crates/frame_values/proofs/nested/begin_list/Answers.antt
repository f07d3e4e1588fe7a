use Rattle.std.proofs.Common.{reverse, refl, true}
use Rattle.frame_values.specs.declared.nested.OpenFuture.{OpenFuture}
use Rattle.frame_values.proofs.Reading.{list_begun, list_denied}
use Rattle.frame_values.proofs.nested.begin_list.Goals as goal

pub returns-then-current-clause-none : goal.returns-then-current-clause-none
returns-then-current-clause-none c =
    λ text e. list_denied c.args.current (reverse c.args.open.now.items) text c.args.list.now _ c.if-current.true e

pub returns-clause-reads : goal.returns-clause-reads
returns-clause-reads c =
    let p : OpenFuture = record { place = c.args.current.place; words = c.args.current.words; has_list = true; nested = c.args.current.nested } in
    λ text nodes e placed. list_begun c.args.current p c.args.open.now.items c.push.new.self.items nodes text c.args.list.now c.in_ok-push.ensures.items refl refl refl refl c.if-current.false e placed
