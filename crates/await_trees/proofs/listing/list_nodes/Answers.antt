use Rattle.std.proofs.Common.{◌∷◌, ◌++◌, [], List, Bor, map, ap, ◌∙◌, sym}
use Rattle.std.proofs.lemmas.List.{nil_from_length}
use Rattle.await_trees.specs.declared.tree.UnresolvedFuture.{UnresolvedFuture}
use Rattle.await_trees.specs.Preorder.{preorders_on}
use Rattle.await_trees.proofs.Preorders.{row_read, row_done, read_smaller, done_smaller, node_written}
use Rattle.await_trees.proofs.listing.list_nodes.Goals as goal

abbrev now : Bor (List UnresolvedFuture) → List UnresolvedFuture
now row = row.now

pub loop-row-preserved-in-Continue-branch-5 : goal.loop-row-preserved-in-Continue-branch-5
loop-row-preserved-in-Continue-branch-5 c =
    let s = c.in-Some-split_first in
    let o = c.open-in-Some-split_first in
    let rest = c.pop.new.self.items in
    let pushed = c.in_ok-push-5.ensures.items ∙ ap (λ z. z ++ o.result.1 ∷ []) c.in_ok-push-3.ensures.items in
    let read = row_read now c.loop-row.rows.items rest c.push-in-Some-split_first-3.new.self.items c.in-Some.row s.others o.result.1 s.child.now o.result.0 c.in-Some.ensures.items s.ensures.cases.0 o.ensures pushed in
    ap (λ z. z ++ preorders_on (map now c.push-in-Some-split_first-3.new.self.items)) c.in_ok-push-4.ensures.items
    ∙ node_written c.loop-row.nodes.items (preorders_on (map now c.loop-row.rows.items)) (preorders_on (map now c.push-in-Some-split_first-3.new.self.items)) _ o.result.0 c.loop-row.invariant read

pub loop-row-smaller-in-Continue-branch-5 : goal.loop-row-smaller-in-Continue-branch-5
loop-row-smaller-in-Continue-branch-5 c =
    let s = c.in-Some-split_first in
    let o = c.open-in-Some-split_first in
    let rest = c.pop.new.self.items in
    let pushed = c.in_ok-push-5.ensures.items ∙ ap (λ z. z ++ o.result.1 ∷ []) c.in_ok-push-3.ensures.items in
    let read = row_read now c.loop-row.rows.items rest c.push-in-Some-split_first-3.new.self.items c.in-Some.row s.others o.result.1 s.child.now o.result.0 c.in-Some.ensures.items s.ensures.cases.0 o.ensures pushed in
    read_smaller now c.loop-row.rows.items rest c.push-in-Some-split_first-3.new.self.items c.in-Some.row s.others o.result.1 o.result.0 c.in-Some.ensures.items pushed read

pub loop-row-preserved : goal.loop-row-preserved
loop-row-preserved c =
    let empty = nil_from_length c.in-Some.row.now c.in_default-split_first.ensures.cases in
    let done = row_done now c.loop-row.rows.items c.pop.new.self.items c.in-Some.row c.in-Some.ensures.items empty in
    ap (λ z. c.loop-row.nodes.items ++ z) (sym done) ∙ c.loop-row.invariant

pub loop-row-smaller : goal.loop-row-smaller
loop-row-smaller c =
    let empty = nil_from_length c.in-Some.row.now c.in_default-split_first.ensures.cases in
    let done = row_done now c.loop-row.rows.items c.pop.new.self.items c.in-Some.row c.in-Some.ensures.items empty in
    done_smaller now c.loop-row.rows.items c.pop.new.self.items c.in-Some.row c.in-Some.ensures.items done
