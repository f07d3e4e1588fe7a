use Rattle.std.proofs.Common.{rules, ℕ, ◌≡◌, ◌+◌, ◌∷◌, ◌++◌, [], List, Option, Some, reverse, refl, sym, ap, subst, ◌∙◌}
use Rattle.await_trees.specs.Handles.{handles_of, handles_in}
use Rattle.await_tries.specs.declared.walk.Row.{Row}
use Rattle.await_tries.specs.Left.{Left, IsTreeLeft}
use Rattle.await_tries.specs.Spells.{node_at}
use Rattle.await_tries.specs.Walks.{coming, Sound, Steps}
use Rattle.await_tries.proofs.Walking.{on_top, started, is_inner, inner_next, steps_fewer, steps_within}
use Rattle.await_tries.proofs.handles.list_handles.Goals as goal

pub loop-rows-init : goal.loop-rows-init
loop-rows-init c =
    let ns = c.nodes-nodes.result.now in
    let kids = c.kids-kids.result.now in
    let left : Left = record { nodes = ns; kids = kids } in
    let whole : IsTreeLeft left = rw (c.nodes-nodes.ensures.nodes, c.kids-kids.ensures) c.nodes-nodes.ensures.whole in
    let row : Row = record { place = (node_at ns 0).first; end = (node_at ns 0).first + (node_at ns 0).count } in
    let (k, label) = is_inner (node_at ns 0).label c.in_default.not-Leaf in
    let start = started left k row whole label refl refl in
    let pushed : reverse c.push-2.new.self.items ≡ row ∷ [] = on_top c.push-2.new.self.items c.new-rows.result.items row c.in_ok-push-2.ensures.items ∙ ap (λ (z : List Row). row ∷ reverse z) c.new-rows.ensures.items in
    record {
      sound = subst (Sound ns kids) (sym pushed) start.sound;
      listed = ap (λ z. z ++ handles_in (coming ns kids (reverse c.push-2.new.self.items))) c.new-handles.ensures.items ∙ ap handles_in (ap (coming ns kids) pushed ∙ start.comes) ∙ sym (ap handles_of start.is);
    }

pub bounds : goal.bounds
bounds c =
    let ns = c.nodes-nodes.result.now in
    let kids = c.kids-kids.result.now in
    let step : Steps ns kids (reverse c.loop-rows.rows.items) (Some c.in-Some.number) (reverse c.next_node.new.rows.items) = subst (λ (z : Option ℕ). Steps ns kids (reverse c.loop-rows.rows.items) z (reverse c.next_node.new.rows.items)) c.in-Some.is c.in_ok-number.ensures in
    steps_within ns kids (reverse c.loop-rows.rows.items) (reverse c.next_node.new.rows.items) c.in-Some.number step

pub offset_bounds-nodes-number : goal.offset_bounds-nodes-number
offset_bounds-nodes-number c =
    let ns = c.nodes-nodes.result.now in
    let kids = c.kids-kids.result.now in
    let step : Steps ns kids (reverse c.loop-rows.rows.items) (Some c.in-Some.number) (reverse c.next_node.new.rows.items) = subst (λ (z : Option ℕ). Steps ns kids (reverse c.loop-rows.rows.items) z (reverse c.next_node.new.rows.items)) c.in-Some.is c.in_ok-number.ensures in
    let within = steps_within ns kids (reverse c.loop-rows.rows.items) (reverse c.next_node.new.rows.items) c.in-Some.number step in
    search rules

pub loop-rows-smaller : goal.loop-rows-smaller
loop-rows-smaller c =
    let ns = c.nodes-nodes.result.now in
    let kids = c.kids-kids.result.now in
    let step : Steps ns kids (reverse c.loop-rows.rows.items) (Some c.in-Some.number) (reverse c.next_node.new.rows.items) = subst (λ (z : Option ℕ). Steps ns kids (reverse c.loop-rows.rows.items) z (reverse c.next_node.new.rows.items)) c.in-Some.is c.in_ok-number.ensures in
    steps_fewer ns kids (reverse c.loop-rows.rows.items) (reverse c.next_node.new.rows.items) c.in-Some.number step

pub loop-rows-preserved : goal.loop-rows-preserved
loop-rows-preserved c =
    let ns = c.nodes-nodes.result.now in
    let kids = c.kids-kids.result.now in
    let rows = reverse c.loop-rows.rows.items in
    let after = reverse c.next_node.new.rows.items in
    let step : Steps ns kids rows (Some c.in-Some.number) after = subst (λ (z : Option ℕ). Steps ns kids rows z after) c.in-Some.is c.in_ok-number.ensures in
    let (k, label) = is_inner (node_at ns c.in-Some.number).label c.in_default-label.not-Leaf in
    record {
      sound = step.4;
      listed = inner_next ns kids rows after c.in-Some.number k c.loop-rows.handles.items label step ∙ c.loop-rows.invariant.listed;
    }
