use Rattle.std.proofs.Common.{rules, ◌≡◌, true, false, refl, sym, ◌∙◌}
use Rattle.std.proofs.lemmas.Bool.{false≢true}
use Rattle.journal_attempt.specs.Futures.{are_whole, layout}
use Rattle.journal_attempt.proofs.future.Future.from_nodes.Goals as goal

pub returns-then-not-is_whole-clause-layout : goal.returns-then-not-is_whole-clause-layout
returns-then-not-is_whole-clause-layout c =
    let e : are_whole 1 c.args.nodes ≡ false = search rules in
    (λ h. absurd (false≢true h), λ l. sym e ∙ (layout c.args.nodes).1 l)

pub returns-clause-layout : goal.returns-clause-layout
returns-clause-layout c =
    let e : are_whole 1 c.args.nodes ≡ true = search rules in
    (λ _. (layout c.args.nodes).0 e, λ _. refl)
