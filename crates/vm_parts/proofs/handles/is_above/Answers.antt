use Rattle.std.proofs.Common.{◌≡◌, ◌<◌, ◌-◌, suc, length, get_or, arith}
use Rattle.std.proofs.lemmas.Bool.Decides.{nat_tests}
use Rattle.vm_parts.proofs.Mapped.{last_under, under_at}
use Rattle.vm_parts.proofs.handles.is_above.Goals as goal

pub returns-in-Some-clause-above : goal.returns-in-Some-clause-above
returns-in-Some-clause-above c = λ less.
    let held = c.args.held.now in
    let item = c.in-Some.ensures.item in
    let n : suc (length held - 1) ≡ length held = omega (arith, item.3.0) in
    let under : c.in-Some.last.now.handle < c.args.handle = grind (arith, nat_tests) in
    let last : (get_or held (length held - 1) c.in-Some.last.now).handle < c.args.handle = rw (← item.1) under in
    last_under c.args.handle held (length held - 1) c.in-Some.last.now n c.requires last

pub returns-in-Some-clause-wherever : goal.returns-in-Some-clause-wherever
returns-in-Some-clause-wherever c = λ all.
    let held = c.args.held.now in
    let item = c.in-Some.ensures.item in
    let below : length held - 1 < length held = omega (arith, item.3.0) in
    let last : (get_or held (length held - 1) c.in-Some.last.now).handle < c.args.handle = under_at c.args.handle held all (length held - 1) c.in-Some.last.now below in
    let under : c.in-Some.last.now.handle < c.args.handle = rw item.1 last in
    grind (arith, nat_tests)
