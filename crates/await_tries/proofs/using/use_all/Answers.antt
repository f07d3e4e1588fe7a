use Rattle.std.proofs.Common.{◌≡◌, ◌<◌, suc, length, sym, ap, ◌∙◌, arith}
use Rattle.await_tries.specs.Used.{used}
use Rattle.await_tries.proofs.Moves.{used_suc, left_over, next_is, none_next, none_queued, some_queued}
use Rattle.await_tries.proofs.using.use_all.Goals as goal

pub loop-preserved : goal.loop-preserved
loop-preserved c =
    let v = c.args.results.now in
    let (n, known, is) = c.loop.invariant in
    let some : 0 < length c.loop.results.queued = some_queued c.loop.results.queued (sym c.loop-test.true ∙ c.use_one.ensures.found) in
    (suc n, omega (arith, left_over v c.loop.results n is), c.use_one.ensures.used ∙ next_is c.loop.results ∙ ap (λ w. used w 1) is ∙ used_suc v n)

pub returns : goal.returns
returns c =
    let v = c.args.results.now in
    let (n, known, is) = c.loop.invariant in
    let none : length c.loop.results.queued ≡ 0 = none_queued c.loop.results.queued (sym c.loop-test.false ∙ c.use_one.ensures.found) in
    let all : n ≡ length v.queued = omega (arith, left_over v c.loop.results n is) in
    c.use_one.ensures.used ∙ none_next c.loop.results (sym c.loop-test.false ∙ c.use_one.ensures.found) ∙ is ∙ ap (used v) all
