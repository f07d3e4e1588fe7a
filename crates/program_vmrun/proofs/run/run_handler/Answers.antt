use Rattle.std.proofs.Common.{Some, refl, subst}
use Rattle.std.specs.Io.KnownBytes.{Appends}
use Rattle.invocation_vm.specs.Making.{version_in}
use Rattle.program_runs.specs.Streams.{AppendsSome}
use Rattle.program_vmrun.proofs.Driving.{all_left, served_of}
use Rattle.program_vmrun.proofs.run.run_handler.Goals as goal

pub returns-clause-runs : goal.returns-clause-runs
returns-clause-runs g c =
    let left = g.R.Source.remaining c.args.reader.now in
    let input = c.read_whole.new.input.items in
    let part = AppendsSome (g.W.Sink.contents c.args.writer.now) (g.W.Sink.contents c.write_whole.new.self) in
    let all = all_left left c.new-input.result.items input input c.new-input.ensures.items refl c.in_default.ensures.bytes in
    let some = subst part c.as_slice.ensures c.in-Err-write_whole.ensures.part in (
      c.in-Err-write_whole.ensures.err,
      c.in_default.ensures.end,
      served_of c.args.alloc (version_in (Some (Some c.args.content_type.now))) c.in-Ok.version (g.H.Handler.meaning c.args.handler) left part input c.in-Ok-serve_anew.output c.in-Ok-serve_anew.ending c.in-Ok.ensures.does all some c.in-Ok-serve_anew.ensures,
    )

pub returns-in-Ok-write_whole-clause-runs : goal.returns-in-Ok-write_whole-clause-runs
returns-in-Ok-write_whole-clause-runs g c =
    let left = g.R.Source.remaining c.args.reader.now in
    let input = c.read_whole.new.input.items in
    let whole = Appends (g.W.Sink.contents c.args.writer.now) (g.W.Sink.contents c.write_whole.new.self) in
    let all = all_left left c.new-input.result.items input input c.new-input.ensures.items refl c.in_default.ensures.bytes in
    let some = subst whole c.as_slice.ensures c.in-Ok-write_whole.ensures.ok in (
      c.in_default.ensures.end,
      served_of c.args.alloc (version_in (Some (Some c.args.content_type.now))) c.in-Ok.version (g.H.Handler.meaning c.args.handler) left whole input c.in-Ok-serve_anew.output c.in-Ok-serve_anew.ending c.in-Ok.ensures.does all some c.in-Ok-serve_anew.ensures,
    )
