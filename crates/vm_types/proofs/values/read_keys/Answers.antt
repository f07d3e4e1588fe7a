use Rattle.std.proofs.Common.{◌<◌, length, sym, ap, arith, refl}
use Rattle.vm_types.proofs.Texts.{some_no_text, text_more, take_next}
use Rattle.vm_types.proofs.values.read_keys.Goals as goal

pub returns-in_default : goal.returns-in_default
returns-in_default c =
    let keys = c.args.keys.now in
    let is = rw c.as_slice-key-items.ensures at c.key-item.is in
    let below : c.loop-key.key-index < length keys = omega (arith, c.loop-key-test.true, ap length c.as_slice-key-items.ensures) in
    rw (some_no_text keys c.loop-key.key-index c.key-item.result below is (rw c.as_slice.ensures at c.in_default.ensures.cases.0) c.loop-key.invariant.rest) refl

pub loop-key-preserved : goal.loop-key-preserved
loop-key-preserved c =
    let keys = c.args.keys.now in
    let is = rw c.as_slice-key-items.ensures at c.key-item.is in
    let below : c.loop-key.key-index < length keys = omega (arith, c.loop-key-test.true, ap length c.as_slice-key-items.ensures) in
    record {
      read = rw (c.in_ok-push.ensures.ok, c.loop-key.invariant.read, c.in_ok-from_str.ensures, c.in-Ok.ensures.cases.0, c.as_slice.ensures) (sym (take_next keys c.loop-key.key-index c.key-item.result below is));
      rest = text_more keys c.loop-key.key-index c.key-item.result below is (rw c.as_slice.ensures at c.in-Ok.ensures.cases.1) c.loop-key.invariant.rest;
    }
