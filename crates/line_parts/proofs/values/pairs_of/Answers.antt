use Rattle.std.proofs.Common.{[], arith}
use Rattle.std.proofs.lemmas.Grind.{common_steps}
use Rattle.line_parts.proofs.Pairing.{pairs_more}
use Rattle.line_parts.proofs.values.pairs_of.Goals as goal

pub loop-word-preserved : goal.loop-word-preserved
loop-word-preserved c =
    pairs_more c.args.words.now c.loop-word.word-index (record { ref_ptr = (0, 0); now = [] }) c.loop-word.pairs c.push.new.self c.in_ok-pair_of.field-0 (grind (arith, common_steps)) c.loop-word.invariant c.in_ok-pair_of.ensures.value c.in_ok-push.ensures.ok
