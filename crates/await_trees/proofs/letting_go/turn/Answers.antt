use Rattle.std.proofs.Common.{rules, ◌≡◌, ◌<◌, suc, length, ap, ◌∙◌, sym}
use Rattle.std.proofs.lemmas.List.{get_or_read}
use Rattle.await_trees.specs.Counts.{count, in_row, in_some}
use Rattle.await_trees.proofs.Counting.{swapped, count-Unknown}
use Rattle.await_trees.proofs.letting_go.turn.Goals as goal

pub returns : goal.returns
returns c =
    let us = c.in-Some.children.items in
    let some : 0 < length us = search rules in
    let first = get_or_read us 0 c.index_mut.result.now some c.index_mut.ensures.value c.replace-tree.result in
    let other : count c.replace-tree.new.dest ≡ suc (in_some c.args.row) = ap count c.replace-tree.ensures.after ∙ count-Unknown c.from_vec.result ∙ ap (λ z. suc (in_row z)) c.from_vec.ensures ∙ sym (ap (λ z. suc (in_some z)) c.in-Some-row.is) in
    swapped us c.replace-tree.result c.replace-tree.new.dest (in_some c.args.found) (in_some c.args.row) some (sym first ∙ sym c.replace-tree.ensures.value) (ap in_some c.in-Some.is) other
