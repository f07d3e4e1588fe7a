use Rattle.std.proofs.Common.{◌≡◌, ◌+◌, length, length-append, ap, arith}
use Rattle.line_parts.specs.declared.trees.OpenNode.{OpenNode}
use Rattle.line_parts.proofs.TreeEnding.{comma_goes_on}
use Rattle.line_parts.proofs.TreeReading.{reads_comma, reads_closing}
use Rattle.line_parts.proofs.trees.go_on.Goals as goal

pub returns-in-Some-behind-clause-stands : goal.returns-in-Some-behind-clause-stands
returns-in-Some-behind-clause-stands c =
    λ whole stands. reads_closing whole c.in-Some-behind.rest.now c.args.text.now c.args.nodes.now.items c.pop.new.self.items c.in-Some.field-0.kind c.in-Some.field-0.children c.push.new.self c.args.tree c.node_over.result
    c.in-Some.ensures.items c.in-Some-behind.ensures.some c.in_ok-push.ensures.ok c.node_over.ensures stands

pub returns-clause-stands : goal.returns-clause-stands
returns-clause-stands c =
    λ whole stands. reads_comma whole c.in_ok-rest.rest.now c.args.text.now c.args.nodes.now.items c.pop.new.self.items c.push-2.new.self.items c.in-Some.field-0.kind c.in-Some.field-0.children c.push.new.self c.args.tree
    c.in-Some.ensures.items (rw c.in_ok-rest.ensures.ok_part at c.behind-2.ensures.some) c.in_ok-push.ensures.ok c.in_ok-push-2.ensures.items stands

pub returns-clause-goes_on : goal.returns-clause-goes_on
returns-clause-goes_on c =
    let one_less : length c.args.nodes.now.items ≡ length c.pop.new.self.items + 1 = let long = ap length c.in-Some.ensures.items in omega (arith, long, length-append {A = OpenNode}) in
    let again : length c.push-2.new.self.items ≡ length c.pop.new.self.items + 1 = let long = ap length c.in_ok-push-2.ensures.items in omega (arith, long, length-append {A = OpenNode}) in
    λ on. comma_goes_on (length c.args.nodes.now.items) (length c.pop.new.self.items) (length c.push-2.new.self.items) c.args.text.now c.in_ok-rest.rest.now one_less again (rw c.in_ok-rest.ensures.ok_part at c.behind-2.ensures.some) on
