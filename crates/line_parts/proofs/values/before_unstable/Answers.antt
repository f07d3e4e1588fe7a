use Rattle.std.proofs.Common.{◌≡◌, true, false, rules}
use Rattle.line_parts.specs.Values.{is_unstable, last_is}
use Rattle.line_parts.proofs.Lasts.{all_left, front_taken, last_tested}
use Rattle.line_parts.proofs.values.before_unstable.Goals as goal

pub returns-then-eq-clause-front : goal.returns-then-eq-clause-front
returns-then-eq-clause-front c =
    let is : true ≡ last_is is_unstable c.args.words.now = last_tested is_unstable c.args.words.now c.in-Some.front.now c.in-Some.last.now true c.in-Some.ensures.cases.0 (search rules) in
    front_taken is_unstable c.args.words.now c.in-Some.front.now c.in-Some.last.now c.in-Some.ensures.cases.0 is

pub returns-then-eq-clause-unstable : goal.returns-then-eq-clause-unstable
returns-then-eq-clause-unstable c =
    let is : true ≡ last_is is_unstable c.args.words.now = last_tested is_unstable c.args.words.now c.in-Some.front.now c.in-Some.last.now true c.in-Some.ensures.cases.0 (search rules) in
    cc

pub returns-clause-front : goal.returns-clause-front
returns-clause-front c =
    all_left is_unstable c.args.words.now (last_tested is_unstable c.args.words.now c.in-Some.front.now c.in-Some.last.now false c.in-Some.ensures.cases.0 (search rules))

pub returns-clause-unstable : goal.returns-clause-unstable
returns-clause-unstable c =
    let is : false ≡ last_is is_unstable c.args.words.now = last_tested is_unstable c.args.words.now c.in-Some.front.now c.in-Some.last.now false c.in-Some.ensures.cases.0 (search rules) in
    cc
