use Rattle.std.proofs.Common.{◌≡◌, rules, ◌∙◌}
use Rattle.std.specs.List.{filter}
use Rattle.std.proofs.lemmas.List.Elements.{filter_from_retain}
use Rattle.await_arrivals.specs.Entries.{has_its_result}
use Rattle.await_arrivals.proofs.log.drop_taken.Goals as goal

pub returns : goal.returns
returns c =
    let left : c.retain.new.self.items ≡ filter has_its_result c.args.entries.now.items = filter_from_retain _ has_its_result (λ p x b q k. search rules) _ _ _ c.retain.ensures.filtered in
    c.shrink_to.ensures.items ∙ left
