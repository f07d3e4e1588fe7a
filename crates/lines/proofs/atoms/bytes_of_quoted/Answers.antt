use Rattle.std.proofs.Common.{◌≡◌, length, arith}
use Rattle.lines.specs.Atoms.{first_char}
use Rattle.lines.proofs.Blaming.{goes_on_more, no_first_char, spelling_ends}
use Rattle.lines.proofs.Spelling.{spells_all, spells_more}
use Rattle.lines.proofs.atoms.bytes_of_quoted.Goals as goal

pub returns-clause-bytes : goal.returns-clause-bytes
returns-clause-bytes c =
    let e : length c.loop-rest.rest.now ≡ 0 = grind arith in
    spells_all first_char c.args.text.now c.loop-rest.rest.now c.loop-rest.bytes.items e c.loop-rest.invariant.0

pub returns-in_default-clause-none : goal.returns-in_default-clause-none
returns-in_default-clause-none c = record {
  nothing = λ _ all s.
      let on = c.loop-rest.invariant.1 all s in
      spelling_ends first_char c.loop-rest.rest.now on.0 (grind arith) c.in_default.ensures.value on.2;
}

pub loop-rest-preserved : goal.loop-rest-preserved
loop-rest-preserved c = (
  spells_more first_char c.args.text.now c.loop-rest.rest.now c.in-Some.behind.now c.loop-rest.bytes.items c.push.new.self.items c.in-Some.byte c.in-Some.ensures.value c.in_ok-push.ensures.items c.loop-rest.invariant.0,
  goes_on_more first_char c.args.text.now c.loop-rest.rest.now c.in-Some.behind.now c.loop-rest.bytes.items c.push.new.self.items c.in-Some.byte no_first_char c.in-Some.ensures.value c.in_ok-push.ensures.items c.loop-rest.invariant.1,
)
