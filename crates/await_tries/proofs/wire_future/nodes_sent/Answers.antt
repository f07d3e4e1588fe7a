use Rattle.std.proofs.Common.{rules, ℕ, ◌≡◌, ◌+◌, ◌∷◌, ◌++◌, [], List, Option, Some, reverse, refl, sym, ap, subst, ◌∙◌}
use Rattle.journal_attempt.specs.declared.future.FutureNode.{FutureNode}
use Rattle.await_trees.specs.Wires.{head_of, nested, sent}
use Rattle.await_tries.specs.declared.walk.Row.{Row}
use Rattle.await_tries.specs.Left.{Left, IsTreeLeft}
use Rattle.await_tries.specs.Message.{ids}
use Rattle.await_tries.specs.Spells.{node_at, children}
use Rattle.await_tries.specs.Walks.{reads, coming, Sound, Steps}
use Rattle.await_tries.proofs.Walking.{on_top, started, is_leaf, leaf_passed, head_next, steps_fewer, steps_within}
use Rattle.await_tries.proofs.wire_future.nodes_sent.Goals as goal

pub loop-rows-init : goal.loop-rows-init
loop-rows-init c =
    let ns = c.nodes-nodes.result.now in
    let kids = c.kids-kids.result.now in
    let id = ids c.args.results.now in
    let left : Left = record { nodes = ns; kids = kids } in
    let whole : IsTreeLeft left = rw (c.nodes-nodes.ensures.nodes, c.kids-kids.ensures) c.nodes-nodes.ensures.whole in
    let row : Row = record { place = (node_at ns 0).first; end = (node_at ns 0).first + (node_at ns 0).count } in
    let k = c.in-Inner.kind in
    let start = started left k row whole c.in-Inner.is refl refl in
    let pushed : reverse c.push.new.self.items ≡ row ∷ [] = on_top c.push.new.self.items c.new-rows.result.items row c.in_ok-push.ensures.items ∙ ap (λ (z : List Row). row ∷ reverse z) c.new-rows.ensures.items in
    let filled : c.send_head.new.sent ≡ c.new-sent.result ++ head_of id k (reads ns kids (children ns kids 0)) ∷ [] = rw (← c.nodes-nodes.ensures.nodes, ← c.kids-kids.ensures) at c.in_ok-send_head.ensures in
    let first : c.send_head.new.sent ≡ head_of id k start.trees ∷ [] = filled ∙ ap (λ (z : List FutureNode). z ++ head_of id k (reads ns kids (children ns kids 0)) ∷ []) c.new-sent.ensures ∙ ap (λ z. head_of id k z ∷ []) start.read_so in
    record {
      sound = subst (Sound ns kids) (sym pushed) start.sound;
      listed = ap (λ (z : List FutureNode). z ++ nested id (coming ns kids (reverse c.push.new.self.items))) first ∙ ap (λ z. head_of id k start.trees ∷ nested id z) (ap (coming ns kids) pushed ∙ start.comes) ∙ sym (ap (sent id) start.is);
    }

pub bounds : goal.bounds
bounds c =
    let ns = c.nodes-nodes.result.now in
    let kids = c.kids-kids.result.now in
    let rows = reverse c.loop-rows.rows.items in
    let after = reverse c.next_node.new.rows.items in
    let step : Steps ns kids rows (Some c.in-Some.number) after = subst (λ (z : Option ℕ). Steps ns kids rows z after) c.in-Some.is c.in_ok-number.ensures in
    steps_within ns kids rows after c.in-Some.number step

pub offset_bounds-nodes-number : goal.offset_bounds-nodes-number
offset_bounds-nodes-number c =
    let ns = c.nodes-nodes.result.now in
    let kids = c.kids-kids.result.now in
    let rows = reverse c.loop-rows.rows.items in
    let after = reverse c.next_node.new.rows.items in
    let step : Steps ns kids rows (Some c.in-Some.number) after = subst (λ (z : Option ℕ). Steps ns kids rows z after) c.in-Some.is c.in_ok-number.ensures in
    let within = steps_within ns kids rows after c.in-Some.number step in
    search rules

pub loop-rows-smaller-in-Continue-branch-5 : goal.loop-rows-smaller-in-Continue-branch-5
loop-rows-smaller-in-Continue-branch-5 c =
    let ns = c.nodes-nodes.result.now in
    let kids = c.kids-kids.result.now in
    let rows = reverse c.loop-rows.rows.items in
    let after = reverse c.next_node.new.rows.items in
    let step : Steps ns kids rows (Some c.in-Some.number) after = subst (λ (z : Option ℕ). Steps ns kids rows z after) c.in-Some.is c.in_ok-number.ensures in
    steps_fewer ns kids rows after c.in-Some.number step

pub loop-rows-preserved-in-Continue-branch-5 : goal.loop-rows-preserved-in-Continue-branch-5
loop-rows-preserved-in-Continue-branch-5 c =
    let ns = c.nodes-nodes.result.now in
    let kids = c.kids-kids.result.now in
    let id = ids c.args.results.now in
    let n = c.in-Some.number in
    let k = c.in-Inner-label.kind in
    let rows = reverse c.loop-rows.rows.items in
    let after = reverse c.next_node.new.rows.items in
    let step : Steps ns kids rows (Some n) after = subst (λ (z : Option ℕ). Steps ns kids rows z after) c.in-Some.is c.in_ok-number.ensures in
    let filled : c.send_head-in-Inner-label.new.sent ≡ c.loop-rows.sent ++ head_of id k (reads ns kids (children ns kids n)) ∷ [] = rw (← c.nodes-nodes.ensures.nodes, ← c.kids-kids.ensures) at c.in_ok-send_head-2.ensures in
    record {
      sound = step.4;
      listed = head_next id ns kids rows after n k (head_of id k (reads ns kids (children ns kids n))) c.loop-rows.sent c.send_head-in-Inner-label.new.sent c.in-Inner-label.is step refl filled ∙ c.loop-rows.invariant.listed;
    }

pub loop-rows-smaller : goal.loop-rows-smaller
loop-rows-smaller c =
    let ns = c.nodes-nodes.result.now in
    let kids = c.kids-kids.result.now in
    let rows = reverse c.loop-rows.rows.items in
    let after = reverse c.next_node.new.rows.items in
    let step : Steps ns kids rows (Some c.in-Some.number) after = subst (λ (z : Option ℕ). Steps ns kids rows z after) c.in-Some.is c.in_ok-number.ensures in
    steps_fewer ns kids rows after c.in-Some.number step

pub loop-rows-preserved : goal.loop-rows-preserved
loop-rows-preserved c =
    let ns = c.nodes-nodes.result.now in
    let kids = c.kids-kids.result.now in
    let rows = reverse c.loop-rows.rows.items in
    let after = reverse c.next_node.new.rows.items in
    let step : Steps ns kids rows (Some c.in-Some.number) after = subst (λ (z : Option ℕ). Steps ns kids rows z after) c.in-Some.is c.in_ok-number.ensures in
    let (h, label) = is_leaf (node_at ns c.in-Some.number).label c.in_default-label.not-Inner in
    record {
      sound = step.4;
      listed = leaf_passed (ids c.args.results.now) ns kids rows after c.in-Some.number h c.loop-rows.sent label step ∙ c.loop-rows.invariant.listed;
    }
