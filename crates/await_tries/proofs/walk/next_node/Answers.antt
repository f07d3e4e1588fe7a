use Rattle.std.proofs.Common.{rules, ◌∷◌, ◌+◌, List, get_or, reverse, refl, sym, ap, ◌∙◌, subst}
use Rattle.await_tries.specs.declared.walk.Row.{Row}
use Rattle.await_tries.specs.Spells.{node_at}
use Rattle.await_tries.specs.Walks.{coming, Sound}
use Rattle.await_tries.proofs.Walking.{on_top, next_within, step_leaf, step_inner, is_leaf, steps_from}
use Rattle.await_tries.proofs.walk.next_node.Goals as goal

pub returns-in_ok-push-2 : goal.returns-in_ok-push-2
returns-in_ok-push-2 c =
    let ns = c.args.nodes.now in
    let kids = c.args.kids.now in
    let row = c.in-Some.row in
    let rest = c.pop.new.self.items in
    let n = get_or kids row.place 0 in
    let after : Row = record { place = row.place + 1; end = row.end } in
    let g : Row = record { place = (node_at ns n).first; end = (node_at ns n).first + (node_at ns n).count } in
    let top = on_top c.loop-row.rows.items rest row c.in-Some.ensures.items in
    let sound : Sound ns kids (row ∷ reverse rest) = subst (Sound ns kids) top c.loop-row.invariant.sound in
    let same = ap (coming ns kids) (sym top) ∙ c.loop-row.invariant.same in
    let step = step_inner ns kids row after (reverse rest) sound c.if-row.true refl refl g c.in-Inner.field-0 c.requires.ranged c.in-Inner.is refl refl in
    let pushed = on_top c.push-in-Inner.new.self.items c.push.new.self.items g c.in_ok-push-2.ensures.items ∙ ap (λ (z : List Row). g ∷ z) (on_top c.push.new.self.items rest after c.in_ok-push.ensures.items) in
    steps_from ns kids (reverse c.args.rows.now.items) (row ∷ reverse rest) (g ∷ after ∷ reverse rest) (reverse c.push-in-Inner.new.self.items) n same step pushed

pub returns-in_default-label : goal.returns-in_default-label
returns-in_default-label c =
    let ns = c.args.nodes.now in
    let kids = c.args.kids.now in
    let row = c.in-Some.row in
    let rest = c.pop.new.self.items in
    let n = get_or kids row.place 0 in
    let after : Row = record { place = row.place + 1; end = row.end } in
    let top = on_top c.loop-row.rows.items rest row c.in-Some.ensures.items in
    let sound : Sound ns kids (row ∷ reverse rest) = subst (Sound ns kids) top c.loop-row.invariant.sound in
    let same = ap (coming ns kids) (sym top) ∙ c.loop-row.invariant.same in
    let (h, label) = is_leaf (node_at ns n).label c.in_default-label.not-Inner in
    let step = step_leaf ns kids row after (reverse rest) sound c.if-row.true refl refl h label in
    let pushed = on_top c.push.new.self.items rest after c.in_ok-push.ensures.items in
    steps_from ns kids (reverse c.args.rows.now.items) (row ∷ reverse rest) (after ∷ reverse rest) (reverse c.push.new.self.items) n same step pushed

pub bounds-nodes-child : goal.bounds-nodes-child
bounds-nodes-child c = next_within c.args.nodes.now c.args.kids.now c.loop-row.rows.items c.pop.new.self.items c.in-Some.row c.requires.ranged c.loop-row.invariant.sound c.in-Some.ensures.items c.if-row.true

pub bounds-nodes-child-then-row : goal.bounds-nodes-child-then-row
bounds-nodes-child-then-row c = next_within c.args.nodes.now c.args.kids.now c.loop-row.rows.items c.pop.new.self.items c.in-Some.row c.requires.ranged c.loop-row.invariant.sound c.in-Some.ensures.items c.if-row.true

pub bounds-nodes-child-then-row-2 : goal.bounds-nodes-child-then-row-2
bounds-nodes-child-then-row-2 c = next_within c.args.nodes.now c.args.kids.now c.loop-row.rows.items c.pop.new.self.items c.in-Some.row c.requires.ranged c.loop-row.invariant.sound c.in-Some.ensures.items c.if-row.true

pub offset_bounds-nodes-child : goal.offset_bounds-nodes-child
offset_bounds-nodes-child c =
    let within = next_within c.args.nodes.now c.args.kids.now c.loop-row.rows.items c.pop.new.self.items c.in-Some.row c.requires.ranged c.loop-row.invariant.sound c.in-Some.ensures.items c.if-row.true in
    search rules

pub overflow_add-first : goal.overflow_add-first
overflow_add-first c =
    let within = next_within c.args.nodes.now c.args.kids.now c.loop-row.rows.items c.pop.new.self.items c.in-Some.row c.requires.ranged c.loop-row.invariant.sound c.in-Some.ensures.items c.if-row.true in
    let fits = c.requires.ranged.fits (get_or c.args.kids.now c.in-Some.row.place 0) within in
    search rules
