use Rattle.std.proofs.Common.{ℕ, ◌≡◌, false, nat_cmp, is_lt}
use Rattle.std.specs.Map.{keys_of}
use Rattle.std.proofs.lemmas.List.Elements.{recursion_from_All}
use Rattle.vm_runs.proofs.Entries.{all_above}
use Rattle.vm_runs.proofs.ordered_proposals.next_number.Goals as goal

pub returns-else-last : goal.returns-else-last
returns-else-last c =
    let es = c.args.kept.now.entries in
    let last = c.in-Some.last.now in
    all_above last es (recursion_from_All (λ (q : ℕ). is_lt (nat_cmp last q) ≡ false) (keys_of es) c.in-Some.ensures.all_up_to)
