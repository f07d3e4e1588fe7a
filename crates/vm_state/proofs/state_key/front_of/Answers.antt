use Rattle.std.proofs.Common.{◌≡◌, get_or, arith, rules}
use Rattle.vm_state.proofs.StateKeys.{AreBytes, more_fits}
use Rattle.vm_state.proofs.state_key.front_of.Goals as goal

pub overflow_mul-number : goal.overflow_mul-number
overflow_mul-number c =
    let small : AreBytes c.args.bytes.now = search rules in
    omega (arith, c.loop-i.invariant, more_fits c.loop-i.i c.args.bytes.now small c.loop-i-test.true)

pub overflow_add-number : goal.overflow_add-number
overflow_add-number c =
    let small : AreBytes c.args.bytes.now = search rules in
    let byte : c.from.result ≡ get_or c.args.bytes.now c.loop-i.i 0 = search rules in
    omega (arith, byte, c.loop-i.invariant, more_fits c.loop-i.i c.args.bytes.now small c.loop-i-test.true)

pub returns : goal.returns
returns c = record { is = search rules; bytes = λ k. omega (arith, c.type_inv.bytes k) }
