use Rattle.program_vmrun.proofs.Driving.{served_anew}
use Rattle.program_vmrun.proofs.run.serve_anew.Goals as goal

pub returns : goal.returns
returns g c =
    served_anew g.H.Handler.meaning c.args.alloc c.default.result c.args.handler c.args.version c.in_ok-attempt.attempt
    c.args.input.items c.in_ok-input.input c.serve.result c.in_ok-input.ensures.ok c.default.ensures c.in_ok-attempt.ensures c.serve.ensures
