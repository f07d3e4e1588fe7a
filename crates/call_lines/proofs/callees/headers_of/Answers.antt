use Rattle.std.proofs.Common.{[], arith, codes, take}
use Rattle.std.proofs.lemmas.Grind.{common_steps}
use Rattle.lines.specs.Fields.{texts_named}
use Rattle.lines.proofs.Naming.{texts_none, texts_some}
use Rattle.line_parts.proofs.Pairing.{headers_more}
use Rattle.call_lines.proofs.callees.headers_of.Goals.{in-Some+in_ok-key+in_ok-push, in_default}
use Rattle.call_lines.proofs.callees.headers_of.Goals as goal

pub loop-word-preserved : goal.loop-word-preserved
loop-word-preserved c = elim c.match-text_behind.branch [
  | in-Some+in_ok-key+in_ok-push w ↦ headers_more (texts_named (codes "header=") (take c.loop-word.word-index c.args.words.now)) _ w.in-Some.text.now c.loop-word.headers c.match-text_behind.headers (record { key = w.in_ok-key.key; value = w.in_ok-key.value })
      c.loop-word.invariant (texts_some (codes "header=") c.args.words.now c.loop-word.word-index (record { ref_ptr = (0, 0); now = [] }) w.in-Some.text.now (grind (arith, common_steps)) (grind (arith, common_steps))) w.in_ok-key.ensures.value (grind (arith, common_steps))
  | in_default w ↦ grind (arith, common_steps, texts_none)
]
