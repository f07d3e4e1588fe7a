use Rattle.std.proofs.Common.{[], arith, rules}
use Rattle.std.proofs.lemmas.Grind.{common_steps}
use Rattle.lines.proofs.Naming.{texts_none, only_more, twice}
use Rattle.lines.proofs.fields.field_of.Goals.{in-Some+else-is_some, in_default}
use Rattle.lines.proofs.fields.field_of.Goals as goal

pub loop-word-preserved : goal.loop-word-preserved
loop-word-preserved c = elim c.match-text_behind.branch [
  | in-Some+else-is_some w ↦ only_more c.args.name.now c.args.words.now c.loop-word.word-index (record { ref_ptr = (0, 0); now = [] }) c.loop-word.found c.match-text_behind.found w.in-Some.text c.loop-word.invariant (grind (arith, common_steps)) (grind (arith, common_steps)) (grind (arith, common_steps)) w.found-is
  | in_default w ↦ grind (arith, common_steps, texts_none)
]

pub returns-then-is_some-clause-twice : goal.returns-then-is_some-clause-twice
returns-then-is_some-clause-twice c =
    twice c.args.name.now c.args.words.now c.loop-word.word-index (record { ref_ptr = (0, 0); now = [] }) c.loop-word.found c.in-Some.text.now c.loop-word.invariant (search rules) c.loop-word-test.true (grind (arith, common_steps))
