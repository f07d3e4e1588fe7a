use Rattle.std.proofs.Common.{[], arith, codes, take}
use Rattle.std.proofs.lemmas.Grind.{common_steps}
use Rattle.lines.specs.Fields.{texts_named}
use Rattle.lines.proofs.Naming.{texts_none, texts_some}
use Rattle.world_scripts.proofs.Gathering.{entries_more}
use Rattle.world_scripts.proofs.given.state_in.Goals.{in-Some+in_ok-pair_of+in_ok-push, in_default}
use Rattle.world_scripts.proofs.given.state_in.Goals as goal

pub loop-word-preserved : goal.loop-word-preserved
loop-word-preserved c = elim c.match-text_behind.branch [
  | in-Some+in_ok-pair_of+in_ok-push w ↦ entries_more (texts_named (codes "state=") (take c.loop-word.word-index c.args.words.now)) _ w.in-Some.text.now c.loop-word.state.items c.match-text_behind.state.items w.in_ok-pair_of.field-0
      c.loop-word.invariant (texts_some (codes "state=") c.args.words.now c.loop-word.word-index (record { ref_ptr = (0, 0); now = [] }) w.in-Some.text.now (grind (arith, common_steps)) (grind (arith, common_steps))) w.in_ok-pair_of.ensures.value (grind (arith, common_steps))
  | in_default w ↦ grind (arith, common_steps, texts_none)
]
