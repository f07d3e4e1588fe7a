use Rattle.std.proofs.Common.{◌≡◌, ◌+◌, ℕ, List, ◌∷◌, ◌++◌, Err, length, length-append, ap, ◌∙◌, rules, arith}
use Rattle.await_trees.specs.Copies.{future_node}
use Rattle.line_parts.specs.declared.trees.OpenNode.{OpenNode}
use Rattle.line_parts.proofs.TreeEnding.{empty_goes_on, no_handle, no_kind, node_goes_on}
use Rattle.line_parts.proofs.TreeReading.{reads_empty, reads_opening}
use Rattle.line_parts.proofs.trees.begin.Goals as goal

pub returns-in-Some-behind-clause-stands : goal.returns-in-Some-behind-clause-stands
returns-in-Some-behind-clause-stands c =
    let word : List ℕ = c.cut.result.0.now in
    λ whole stands. reads_empty whole word c.in-Some-behind.rest.now c.args.text.now c.args.nodes.now.items c.in_ok-kind.kind c.node_over.result
    (c.cut.ensures.whole ∙ ap (λ z. word ++ z) (c.in-Some.ensures.some ∙ ap (λ z. 40 ∷ z) c.in-Some-behind.ensures.some))
    c.in_ok-kind.ensures.value (c.node_over.ensures ∙ ap (future_node c.in_ok-kind.kind) c.new-children.ensures) stands

pub returns-clause-stands : goal.returns-clause-stands
returns-clause-stands c =
    let word : List ℕ = c.cut.result.0.now in
    λ whole stands. reads_opening whole word c.in-Some.inside.now c.args.text.now c.args.nodes.now.items c.push.new.self.items c.in_ok-kind.kind c.new-children.result
    (c.cut.ensures.whole ∙ ap (λ z. word ++ z) c.in-Some.ensures.some)
    c.in_ok-kind.ensures.value c.new-children.ensures c.in_ok-push.ensures.items stands

pub returns-in_err-handle-clause-none : goal.returns-in_err-handle-clause-none
returns-in_err-handle-clause-none c =
    let is : c.from_residual.result ≡ Err c.in_err-handle.field-0.0 = search rules in
    rw is (λ bad on. no_handle (length c.args.nodes.now.items) c.args.text.now c.cut.result.0.now c.cut.result.1.now c.in_err-handle.field-0.0 c.cut.ensures.word c.cut.ensures.rest c.in_default.ensures.none c.in_err-handle.ensures.none bad on)

pub returns-in_err-kind-clause-none : goal.returns-in_err-kind-clause-none
returns-in_err-kind-clause-none c =
    let is : c.from_residual-in_err-kind.result ≡ Err c.in_err-kind.field-0.0 = search rules in
    rw is (λ bad on. no_kind (length c.args.nodes.now.items) c.args.text.now c.cut.result.0.now c.cut.result.1.now c.in-Some.inside.now c.in_err-kind.field-0.0 c.cut.ensures.word c.cut.ensures.rest c.in-Some.ensures.some c.in_err-kind.ensures.none bad on)

pub returns-in-Some-behind-clause-goes_on : goal.returns-in-Some-behind-clause-goes_on
returns-in-Some-behind-clause-goes_on c =
    λ on. empty_goes_on (length c.args.nodes.now.items) c.args.text.now c.cut.result.1.now c.in-Some.inside.now c.in-Some-behind.rest.now c.cut.ensures.rest c.in-Some.ensures.some c.in-Some-behind.ensures.some on

pub returns-clause-goes_on : goal.returns-clause-goes_on
returns-clause-goes_on c =
    let more : length c.push.new.self.items ≡ length c.args.nodes.now.items + 1 = let long = ap length c.in_ok-push.ensures.items in omega (arith, long, length-append {A = OpenNode}) in
    λ on. node_goes_on (length c.args.nodes.now.items) (length c.push.new.self.items) c.args.text.now c.cut.result.1.now c.in-Some.inside.now more c.cut.ensures.rest c.in-Some.ensures.some c.in_default-behind.ensures.none on
