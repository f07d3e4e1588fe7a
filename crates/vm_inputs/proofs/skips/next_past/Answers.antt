use Rattle.std.proofs.Common.{◌≡◌, ◌≤◌, ◌<◌, length, arith}
use Rattle.vm_inputs.proofs.Passing.{walk_begins, walk_ends, walk_goes_on, walk_stops}
use Rattle.vm_inputs.proofs.skips.next_past.Goals as goal

pub loop-i-init : goal.loop-i-init
loop-i-init c = walk_begins c.items-commands.result.now.items c.args.machine.now.commands c.from-next.result c.args.machine.now.counters.completion c.items-commands.ensures c.from-next.ensures

pub returns-in-Ok-None : goal.returns-in-Ok-None
returns-in-Ok-None c =
    let cs = c.items-commands.result.now.items in
    let lt : c.loop-i.i < length cs = omega arith in
    walk_stops cs c.loop-i.i c.loop-i.next c.index.result.now c.in-Ok-None.field-0 _ lt c.index.ensures c.in-Ok-None.ensures c.in-Ok-None.field-0-is c.loop-i.invariant

pub loop-i-preserved : goal.loop-i-preserved
loop-i-preserved c =
    let cs = c.items-commands.result.now.items in
    let lt : c.loop-i.i < length cs = omega arith in
    walk_goes_on cs c.loop-i.i c.loop-i.next c.index.result.now c.in-Ok-Some.field-0 _ c.in-Ok-Some.id lt c.index.ensures c.in-Ok-Some.ensures c.in-Ok-Some.field-0-is c.loop-i.invariant

pub returns : goal.returns
returns c =
    let cs = c.items-commands.result.now.items in
    let end : length cs ≤ c.loop-i.i = omega arith in
    walk_ends cs c.loop-i.i c.loop-i.next _ end c.loop-i.invariant
