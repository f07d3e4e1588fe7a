use Rattle.std.proofs.Common.{rules, subst, take}
use Rattle.std.proofs.lemmas.List.{take_rest}
use Rattle.std.specs.Io.KnownBytes.{Appends}
use Rattle.program_runs.proofs.Writing.{some_more}
use Rattle.program_runs.proofs.streams.write_all.Goals as goal

pub loop-preserved : goal.loop-preserved
loop-preserved g c =
    let before = g.W.Write.contents c.loop.writer in
    let then = g.W.Write.contents c.write_some.new.writer in
    let more = subst (λ rest. Appends before then (take c.in_ok-at.field-0 rest)) (take_rest c.args.bytes.now c.loop.at) c.in_ok-at.ensures.ok in (
      search rules,
      some_more (g.W.Write.contents c.args.writer.now) before then c.args.bytes.now c.loop.at c.in_ok-at.field-0 c.loop.invariant.1 more,
    )
