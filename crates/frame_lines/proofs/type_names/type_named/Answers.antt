use Rattle.std.proofs.Common.{rules, ◌≡◌, arith, sym, ap, ◌∙◌}
use Rattle.journal_protocol.specs.Types.{type_at}
use Rattle.frame_lines.specs.Names.{type_word}
use Rattle.frame_lines.proofs.Naming.{none_more, same_type, unnamed}
use Rattle.frame_values.proofs.Bracketing.{unequal}
use Rattle.frame_lines.proofs.type_names.type_named.Goals as goal
use Rattle.frame_lines.proofs.type_names.type_named.Goals.{in_default-via-in-None-1, in_default-via-in-Some+else-eq}

pub loop-number-init : goal.loop-number-init
loop-number-init c = λ n ty less at. absurd (omega arith)

pub loop-number-preserved : goal.loop-number-preserved
loop-number-preserved c = elim c.in_default.branch [
  | in_default-via-in-None-1 w ↦ none_more c.args.name.now c.loop-number.number c.loop-number.invariant (λ ty at named. search (rules, at))
  | in_default-via-in-Some+else-eq w ↦ none_more c.args.name.now c.loop-number.number c.loop-number.invariant (λ ty at named.
      let same : w.in-Some.ty ≡ ty = same_type (type_at c.loop-number.number) w.in-Some.ty ty (sym c.from_number.ensures.found ∙ w.in-Some.is) at in
      unequal c.args.name.now w.as_bytes.result.now (sym w.eq.ensures ∙ w.if-eq.false) (named ∙ ap type_word (sym same) ∙ sym (w.as_bytes.ensures.value ∙ w.name_of.ensures)))
]

pub returns-clause-none : goal.returns-clause-none
returns-clause-none c = unnamed c.args.name.now c.loop-number.number c.loop-number-test.false c.loop-number.invariant
