use Rattle.std.proofs.Common.{◌≡◌, ◌<◌, [], length, rules, arith}
use Rattle.std.proofs.lemmas.Grind.{common_steps}
use Rattle.await_trees.specs.Tree.{tree_of}
use Rattle.line_parts.proofs.TreeEnding.{ends_open, ends_whole, goes_on_first}
use Rattle.line_parts.proofs.TreeReading.{stands_first}
use Rattle.line_parts.proofs.trees.tree_without_blanks.Goals as goal

pub loop-rest-init : goal.loop-rest-init
loop-rest-init c = record {
  stands = stands_first c.args.text.now c.new-nodes.result.items (first_of (search rules, grind (arith, common_steps)));
  goes_on = λ t s. goes_on_first c.args.text.now (length c.new-nodes.result.items) (first_of (search rules, grind (arith, common_steps))) t s;
}

pub returns-then-not-is_empty-clause-none : goal.returns-then-not-is_empty-clause-none
returns-then-not-is_empty-clause-none c =
    let over : c.loop-rest.rest.now ≡ [] = first_of (search rules, grind (arith, common_steps)) in
    let some : 0 < length c.loop-rest.nodes.items = first_of (search rules, grind (arith, common_steps)) in
    record { nothing = λ bad future s. ends_open (length c.loop-rest.nodes.items) c.loop-rest.last c.loop-rest.rest.now over some (c.loop-rest.invariant.goes_on (tree_of future) s) }

pub returns-clause-none : goal.returns-clause-none
returns-clause-none c =
    let over : c.loop-rest.rest.now ≡ [] = first_of (search rules, grind (arith, common_steps)) in
    ends_whole c.args.text.now c.loop-rest.rest.now (length c.loop-rest.nodes.items) c.loop-rest.last c.ok_or.result over c.ok_or.ensures.value c.loop-rest.invariant.goes_on
