use Rattle.std.proofs.Common.{◌<◌, length, sym, ap, arith, refl}
use Rattle.vm_inputs.proofs.States.{some_key_no_text, key_text_more, entry_more}
use Rattle.vm_inputs.proofs.messages.read_state.Goals as goal

pub returns-in_default : goal.returns-in_default
returns-in_default c =
    let pairs = c.args.pairs.now in
    let is = rw c.as_slice-pair-items.ensures at c.pair-item.is in
    let below : c.loop-pair.pair-index < length pairs = omega (arith, c.loop-pair-test.true, ap length c.as_slice-pair-items.ensures) in
    rw (some_key_no_text pairs c.loop-pair.pair-index c.pair-item.result below is (rw c.as_slice.ensures at c.in_default.ensures.cases.0) c.loop-pair.invariant.rest) refl

pub loop-pair-preserved : goal.loop-pair-preserved
loop-pair-preserved c =
    let pairs = c.args.pairs.now in
    let is = rw c.as_slice-pair-items.ensures at c.pair-item.is in
    let below : c.loop-pair.pair-index < length pairs = omega (arith, c.loop-pair-test.true, ap length c.as_slice-pair-items.ensures) in
    record {
      read = rw (c.in_ok-put.ensures.ok, c.loop-pair.invariant.read, c.new.ensures, c.in_ok-key.ensures, c.in-Ok.ensures.cases.0, c.as_slice.ensures, c.in_ok-value.ensures.cases) (sym (entry_more pairs c.loop-pair.pair-index c.pair-item.result below is));
      rest = key_text_more pairs c.loop-pair.pair-index c.pair-item.result below is (rw c.as_slice.ensures at c.in-Ok.ensures.cases.1) c.loop-pair.invariant.rest;
    }
