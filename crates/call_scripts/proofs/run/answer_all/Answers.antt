use Rattle.std.proofs.Common.{◌≡◌, ◌≢◌, ◌++◌, ◌∷◌, [], arith}
use Rattle.call_scripts.proofs.Transcribing.{written_more}
use Rattle.call_scripts.proofs.run.answer_all.Goals as goal

pub loop-rest-preserved : goal.loop-rest-preserved
loop-rest-preserved g c =
    let told = c.in-Ok.ensures in
    let some : c.loop-rest.rest.now ≢ [] = grind arith in
    let end : c.as_bytes.result.now ≡ told.0 ++ 10 ∷ [] = grind (arith, told.2) in (
      written_more c.args.alloc c.args.script.now c.loop-rest.rest.now c.first_line.result.0.now c.first_line.result.1.now c.args.vm.now c.loop-rest.vm c.answer_line.new.vm
          told.0 c.as_bytes.result.now (g.W.Sink.contents c.args.writer.now) (g.W.Sink.contents c.loop-rest.writer) (g.W.Sink.contents c.write_whole.new.self)
          c.loop-rest.invariant.0 some c.first_line.ensures.first told.1 end c.in_default-write_whole.ensures.ok,
      λ e h. c.loop-rest.invariant.1 e (c.in_default-write_whole.ensures.later e h),
    )
