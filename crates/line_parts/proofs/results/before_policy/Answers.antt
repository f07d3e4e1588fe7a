use Rattle.std.proofs.Common.{true, false, rules}
use Rattle.line_parts.specs.Results.{is_policy}
use Rattle.line_parts.proofs.Lasts.{all_left, front_taken, last_tested}
use Rattle.line_parts.proofs.results.before_policy.Goals as goal

pub returns-then-starts_with : goal.returns-then-starts_with
returns-then-starts_with c =
    front_taken is_policy c.args.words.now c.in-Some.front.now c.in-Some.last.now c.in-Some.ensures.cases.0
    (last_tested is_policy c.args.words.now c.in-Some.front.now c.in-Some.last.now true c.in-Some.ensures.cases.0 (search rules))

pub returns : goal.returns
returns c =
    all_left is_policy c.args.words.now (last_tested is_policy c.args.words.now c.in-Some.front.now c.in-Some.last.now false c.in-Some.ensures.cases.0 (search rules))
