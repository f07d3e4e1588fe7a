use Rattle.std.proofs.Common.{◌≡◌, true, arith, rules}
use Rattle.std.proofs.lemmas.Grind.{common_steps}
use Rattle.frame_values.specs.FutureWords.{ends_part}
use Rattle.frame_values.proofs.Reading.{empty_read, end_read}
use Rattle.frame_values.proofs.nested.end_list.Goals as goal

pub returns-clause-more : goal.returns-clause-more
returns-clause-more c =
    let ends : ends_part c.args.rest.now ≡ true = first_of (search rules, grind (arith, common_steps)) in
    λ text nodes e placed. end_read c.args.current c.args.open.now.items c.push.new.self.items nodes text c.args.rest.now c.in_ok-push.ensures.items ends e placed

pub returns-clause-empty : goal.returns-clause-empty
returns-clause-empty c =
    let ends : ends_part c.args.rest.now ≡ true = first_of (search rules, grind (arith, common_steps)) in
    λ text nodes e none placed. empty_read c.args.current c.args.open.now.items c.push.new.self.items nodes text c.args.rest.now c.in_ok-push.ensures.items ends e none placed
