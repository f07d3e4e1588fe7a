use Rattle.std.proofs.Common.{◌<◌, length, take, sym, ap, ◌∙◌, arith}
use Rattle.await_arrivals.specs.Results.{newest_after, results_of, without_all}
use Rattle.await_arrivals.specs.Entries.{not_taken}
use Rattle.await_arrivals.proofs.Tracking.{one_taken, all_next, no_all, no_first, none_is}
use Rattle.await_arrivals.proofs.log.Log.take_newest.Goals as goal

pub loop-result-smaller : goal.loop-result-smaller
loop-result-smaller c =
    let before = not_taken (take c.args.seen c.loop-result.self) in
    let after = not_taken (take c.args.seen c.take_first.new.self) in
    let e = ap length (one_taken c.args.id.now before after c.in-Some.result c.in-Some.ensures.found c.in-Some.ensures.left) in
    let below : length (results_of c.args.id.now after) < length (results_of c.args.id.now before) = omega arith in
    below

pub loop-result-preserved : goal.loop-result-preserved
loop-result-preserved c =
    let before = not_taken (take c.args.seen c.loop-result.self) in
    let after = not_taken (take c.args.seen c.take_first.new.self) in
    let i = c.loop-result.invariant in
    record {
      found = i.found ∙ ap (newest_after c.loop-result.found) (one_taken c.args.id.now before after c.in-Some.result c.in-Some.ensures.found c.in-Some.ensures.left);
      left = i.left ∙ sym (ap (without_all c.args.id.now) c.in-Some.ensures.left ∙ all_next c.args.id.now before);
      rest = c.in-Some.ensures.rest ∙ i.rest;
      len = c.in-Some.ensures.len ∙ i.len;
    }

pub returns-clause-left : goal.returns-clause-left
returns-clause-left c =
    let i = c.loop-result.invariant in
    let e = c.in_default.ensures in
    let ready = not_taken (take c.args.seen c.loop-result.self) in
    let none = none_is (results_of c.args.id.now ready) (sym e.found) in
    e.left ∙ no_first c.args.id.now ready none ∙ sym (i.left ∙ no_all c.args.id.now ready none)
