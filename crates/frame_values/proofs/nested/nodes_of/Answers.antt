use Rattle.std.proofs.Common.{◌≡◌, ◌<◌, ◌++◌, ◌∷◌, [], Err, length, arith, rules}
use Rattle.std.proofs.lemmas.Grind.{common_steps}
use Rattle.frame_values.proofs.Reading.{on_denied, rest_denied, stands_first, stands_last, stands_on, stands_placed}
use Rattle.frame_values.proofs.nested.nodes_of.Goals as goal

pub loop-current-init : goal.loop-current-init
loop-current-init c =
    stands_first c.args.text.now c.in-Some.inside.now c.begun.result c.new-open.result.items c.push.new.self.items c.new-nodes.result.items c.push-2.new.self.items c.unread.result
    (first_of (search rules, grind (arith, common_steps))) c.in_ok-push.ensures.items (first_of (search rules, grind (arith, common_steps))) c.in_ok-push-2.ensures.items
    c.in-Some.ensures.some c.begun.ensures.place c.begun.ensures.words c.begun.ensures.list c.begun.ensures.nested

pub read_on-requires : goal.read_on-requires
read_on-requires c =
    let is : c.loop-current.open.items ≡ c.pop.new.self.items ++ c.in-Some-pop.current ∷ [] = search rules in
    stands_placed c.args.text.now c.loop-current.next c.loop-current.open.items c.pop.new.self.items c.in-Some-pop.current c.loop-current.nodes.items c.loop-current.rest.now is c.loop-current.invariant

pub loop-current-preserved : goal.loop-current-preserved
loop-current-preserved c =
    let is : c.loop-current.open.items ≡ c.pop.new.self.items ++ c.in-Some-pop.current ∷ [] = search rules in
    stands_on c.args.text.now c.loop-current.next c.in_ok-place.place.0 c.loop-current.open.items c.pop.new.self.items c.read_on.new.open.items c.in-Some-pop.current c.loop-current.nodes.items c.read_on.new.nodes.items c.loop-current.rest.now c.in_ok-place.place.1.now
    c.loop-current.invariant is c.in_ok-place.ensures.reads

pub loop-current-smaller : goal.loop-current-smaller
loop-current-smaller c = c.in_ok-place.ensures.reads.shorter

pub returns-in_err-place-clause-none : goal.returns-in_err-place-clause-none
returns-in_err-place-clause-none c =
    let is : c.loop-current.open.items ≡ c.pop.new.self.items ++ c.in-Some-pop.current ∷ [] = search rules in
    let failed : c.from_residual-in_err-place.result ≡ Err c.in_err-place.field-0.0 = search rules in
    rw failed (on_denied c.args.text.now c.loop-current.next c.loop-current.open.items c.pop.new.self.items c.in-Some-pop.current c.loop-current.nodes.items c.loop-current.rest.now _ c.loop-current.invariant is c.in_err-place.ensures.none)

pub returns-then-is_empty-clause-value : goal.returns-then-is_empty-clause-value
returns-then-is_empty-clause-value c =
    let none : c.loop-current.open.items ≡ [] = first_of (search rules, grind (arith, common_steps)) in
    let over : length c.loop-current.rest.now ≡ 0 = first_of (search rules, grind (arith, common_steps)) in
    stands_last c.args.text.now c.loop-current.next c.loop-current.open.items c.loop-current.nodes.items c.loop-current.rest.now c.loop-current.invariant none over

pub returns-clause-none : goal.returns-clause-none
returns-clause-none c =
    let none : c.loop-current.open.items ≡ [] = first_of (search rules, grind (arith, common_steps)) in
    let some : 0 < length c.loop-current.rest.now = first_of (search rules, grind (arith, common_steps)) in
    rest_denied c.args.text.now c.loop-current.next c.loop-current.open.items c.loop-current.nodes.items c.loop-current.rest.now _ c.loop-current.invariant none some
