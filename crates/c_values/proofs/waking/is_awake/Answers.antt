use Rattle.std.proofs.Common.{◌≡◌, ◌-◌, ◌++◌, ◌∷◌, [], ℕ, ◌∙◌, length, sym, ap, arith}
use Rattle.await_trees.specs.Wires.{readings}
use Rattle.std.proofs.Common.{drop}
use Rattle.c_values.specs.Children.{stacked}
use Rattle.c_values.specs.Waking.{outcome_in}
use Rattle.c_values.proofs.Judging.{next_reads, stepped}
use Rattle.c_values.proofs.waking.is_awake.Goals as goal

pub loop-i-preserved : goal.loop-i-preserved
loop-i-preserved c =
    let at = outcome_in c.args.came.now in
    let n = c.index-nodes-i.result in
    let stack = c.loop-i.stack.items in
    let ts = readings (drop c.loop-i.i c.args.nodes.now) in
    let lent = c.deref.ensures in
    let fewer : length stack ≡ c.len.result = sym (ap length lent.value) ∙ lent.len ∙ sym c.len.ensures in
    let from : c.nested_from-from.result ≡ length stack - n.nested = c.nested_from-from.ensures ∙ ap (λ (m : ℕ). m - n.nested) (sym fewer) in
    record {
      within = omega (arith, c.loop-i.invariant.within);
      stack = c.in_ok-push.ensures.items ∙ ap (λ l. l ++ c.in_ok-found.found ∷ []) c.truncate.ensures.items
          ∙ stepped at n ts c.nested_from-from.result stack c.deref.result.now c.in_ok-found.found c.loop-i.invariant.stack from lent.value c.in_ok-found.ensures
          ∙ sym (ap (stacked at) (next_reads c.args.nodes.now c.loop-i.i n c.loop-i-test.true c.loop-i.invariant.within c.index-nodes-i.is));
    }
