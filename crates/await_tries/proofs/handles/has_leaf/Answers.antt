use Rattle.std.proofs.Common.{ℕ, ◌≡◌, ◌+◌, ◌∷◌, [], List, Option, Some, reverse, refl, sym, ap, subst, ◌∙◌}
use Rattle.await_trees.specs.Handles.{handles_of, handles_in}
use Rattle.await_tries.specs.declared.walk.Row.{Row}
use Rattle.await_tries.specs.Left.{Left, IsTreeLeft}
use Rattle.await_tries.specs.Spells.{node_at}
use Rattle.await_tries.specs.Walks.{coming, Sound, Steps}
use Rattle.await_tries.proofs.Walking.{on_top, started, is_inner, inner_next, steps_fewer, steps_within}
use Rattle.await_tries.proofs.handles.has_leaf.Goals as goal

pub loop-rows-init : goal.loop-rows-init
loop-rows-init c =
    let ns = c.nodes-nodes.result.now in
    let kids = c.kids-kids.result.now in
    let left : Left = record { nodes = ns; kids = kids } in
    let whole : IsTreeLeft left = rw (c.nodes-nodes.ensures.nodes, c.kids-kids.ensures) c.nodes-nodes.ensures.whole in
    let row : Row = record { place = (node_at ns 0).first; end = (node_at ns 0).first + (node_at ns 0).count } in
    let (k, label) = is_inner (node_at ns 0).label c.in_default.not-Leaf in
    let start = started left k row whole label refl refl in
    let pushed : reverse c.push.new.self.items ≡ row ∷ [] = on_top c.push.new.self.items c.new-rows.result.items row c.in_ok-push.ensures.items ∙ ap (λ (z : List Row). row ∷ reverse z) c.new-rows.ensures.items in
    record {
      sound = subst (Sound ns kids) (sym pushed) start.sound;
      still = ap handles_in (ap (coming ns kids) pushed ∙ start.comes) ∙ sym (ap handles_of start.is);
    }

pub bounds : goal.bounds
bounds c =
    let ns = c.nodes-nodes.result.now in
    let kids = c.kids-kids.result.now in
    let rows = reverse c.loop-rows.rows.items in
    let after = reverse c.next_node.new.rows.items in
    let step : Steps ns kids rows (Some c.in-Some.number) after = subst (λ (z : Option ℕ). Steps ns kids rows z after) c.in-Some.is c.in_ok-number.ensures in
    steps_within ns kids rows after c.in-Some.number step

pub loop-rows-smaller : goal.loop-rows-smaller
loop-rows-smaller c =
    let ns = c.nodes-nodes.result.now in
    let kids = c.kids-kids.result.now in
    let rows = reverse c.loop-rows.rows.items in
    let after = reverse c.next_node.new.rows.items in
    let step : Steps ns kids rows (Some c.in-Some.number) after = subst (λ (z : Option ℕ). Steps ns kids rows z after) c.in-Some.is c.in_ok-number.ensures in
    steps_fewer ns kids rows after c.in-Some.number step

pub loop-rows-preserved : goal.loop-rows-preserved
loop-rows-preserved c =
    let ns = c.nodes-nodes.result.now in
    let kids = c.kids-kids.result.now in
    let rows = reverse c.loop-rows.rows.items in
    let after = reverse c.next_node.new.rows.items in
    let step : Steps ns kids rows (Some c.in-Some.number) after = subst (λ (z : Option ℕ). Steps ns kids rows z after) c.in-Some.is c.in_ok-number.ensures in
    let (k, label) = is_inner (node_at ns c.in-Some.number).label c.in_default-label.not-Leaf in
    record {
      sound = step.4;
      still = inner_next ns kids rows after c.in-Some.number k [] label step ∙ c.loop-rows.invariant.still;
    }
