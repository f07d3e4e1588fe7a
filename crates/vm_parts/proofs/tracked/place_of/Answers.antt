use Rattle.std.proofs.Common.{◌≡◌, ◌-◌, suc, length, rules, arith}
use Rattle.std.proofs.lemmas.List.Sorted.{answers_always}
use Rattle.vm_state.specs.declared.tracked_call.TrackedCall.{TrackedCall}
use Rattle.vm_parts.proofs.Tracking.{behind_last, place_found}
use Rattle.vm_parts.proofs.tracked.place_of.Goals as goal

pub returns : goal.returns
returns c =
    let calls = c.args.calls.now in
    let item = c.in-Some.ensures.item in
    let end : suc (length calls - 1) ≡ length calls = omega (arith, item.3.0) in
    behind_last c.args.handle calls (length calls - 1) c.in-Some.last.now end c.requires item.1 c.if-last-handle.true

pub returns-2 : goal.returns-2
returns-2 c =
    place_found c.args.handle c.args.calls.now c.binary_search_by_key.result c.requires c.binary_search_by_key.ensures.bound
    (c.binary_search_by_key.ensures.position (λ (t : TrackedCall). t.handle) (answers_always _ _ _ (λ f a r g k. search rules)))
