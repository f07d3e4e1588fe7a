use Rattle.std.proofs.Common.{◌≡◌, None, Some, inl, refl, subst, sym}
use Rattle.invocation_vm.specs.Seen.{seen}
use Rattle.vm_attempt.specs.Inside.{the_fields}
use Rattle.vm_attempt.specs.Invariant.{AlwaysHolds}
use Rattle.vm_attempt.proofs.Advanced.{new_is_new, new_whole}
use Rattle.vm_attempt.proofs.Blamed.{new_blamed}
use Rattle.vm_attempt.proofs.Caused.{new_led}
use Rattle.vm_attempt.proofs.Steady.{made_told, new_told}
use Rattle.vm_attempt.proofs.attempt.Attempt.for_version.Goals as goal
use Rattle.vm_model.specs.Fixed.{fixed_by}

pub invariant_of-result : goal.invariant_of-result
invariant_of-result g c =
    let m = g.H.Handler.meaning c.new.result.handler in
    let fixed = fixed_by m c.args.version c.args.options in
    let fresh = new_is_new m c.args.alloc c.args.options c.args.version (seen c.in-Ok.vm) c.in-Ok.ensures in
    subst (AlwaysHolds fixed) (sym (new_told c.args.alloc c.args.options c.args.version (seen c.in-Ok.vm) (the_fields c.new.result) c.in-Ok.ensures c.new.ensures.record)) (
      inl fresh,
      new_blamed m c.args.alloc c.args.options c.args.version (seen c.in-Ok.vm) c.in-Ok.ensures,
      λ p. inl fresh,
      refl,
      λ p made over. absurd (let z : None ≡ Some made = over in cc),
      new_whole c.args.alloc c.args.options c.args.version (seen c.in-Ok.vm) c.in-Ok.ensures,
      λ p. inl fresh,
      new_led m c.args.alloc c.args.options c.args.version (seen c.in-Ok.vm) c.in-Ok.ensures,
    )

pub returns-in-Ok : goal.returns-in-Ok
returns-in-Ok g c = made_told c.args.alloc c.args.options c.args.handler c.new.result.handler c.args.version (seen c.in-Ok.vm) (the_fields c.new.result) c.in-Ok.ensures c.new.ensures.record c.new.ensures.handler
