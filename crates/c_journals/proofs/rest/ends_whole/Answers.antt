use Rattle.std.proofs.Common.{◌==◌, ℕ, List, length, ap, subst, sym, ◌∙◌}
use Rattle.c_journals.specs.Journals.{EndsAs}
use Rattle.c_journals.proofs.Wholes.{ends_there, taken_shorter, taken_tail}
use Rattle.c_journals.proofs.rest.ends_whole.Goals as goal

pub loop-smaller : goal.loop-smaller
loop-smaller c = taken_shorter _ _ _ c.in_ok-next_written.ensures.ok (sym c.is_some.ensures ∙ c.if-is_some.true)

pub loop-preserved : goal.loop-preserved
loop-preserved c = record { same = taken_tail _ _ _ c.in_ok-next_written.ensures.ok (sym c.is_some.ensures ∙ c.if-is_some.true) ∙ c.loop.invariant.same }

pub returns-clause-ok : goal.returns-clause-ok
returns-clause-ok c = subst (EndsAs c.args.left.now) (sym (c.is_empty.ensures ∙ ap (λ (bytes : List ℕ). length bytes == 0) c.waiting.ensures)) (ends_there c.args.left.now _ _ _ c.in_ok-next_written.ensures.ok (sym c.is_some.ensures ∙ c.if-is_some.false) c.loop.invariant.same)
