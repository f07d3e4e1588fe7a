use Rattle.std.proofs.Common.{◌≡◌, ◌+◌, refl, arith, rules}
use Rattle.std.proofs.lemmas.Grind.{common_steps}
use Rattle.frame_values.specs.declared.nested.OpenFuture.{OpenFuture}
use Rattle.frame_values.proofs.Reading.{nested_begun}
use Rattle.frame_values.proofs.nested.begin_nested.Goals as goal

pub returns-clause-reads : goal.returns-clause-reads
returns-clause-reads c =
    let p : OpenFuture = record { place = c.args.current.place; words = c.args.current.words; has_list = c.args.current.has_list; nested = c.in_ok-nested.nested } in
    let count : c.in_ok-nested.nested ≡ c.args.current.nested + 1 = first_of (search rules, grind (arith, common_steps)) in
    λ text e. nested_begun c.args.current p c.begun.result c.args.open.now.items c.push.new.self.items c.push-2.new.self.items c.args.nodes.now.items c.push-3.new.self.items c.unread.result text c.args.rest.now
    c.in_ok-push.ensures.items c.in_ok-push-2.ensures.items c.in_ok-push-3.ensures.items refl refl refl count (first_of (search rules, grind (arith, common_steps))) c.begun.ensures.words c.begun.ensures.list c.begun.ensures.nested e c.requires
