use Rattle.std.proofs.Common.{◌∙◌}
use Rattle.c_calls.proofs.reports.ReportCallVmCall.make.Goals as goal

pub returns-in-Ok : goal.returns-in-Ok
returns-in-Ok c = (
  (
    c.in_ok-error.error,
    c.in-Ok.related,
    c.in_ok-error.ensures.ok,
    c.in-Ok.ensures.ok,
    record {
      given = c.notify_error.result;
      leaves = c.notify_error.ensures;
      told = c.keep.ensures.kept ∙ c.fed.ensures;
    },
  ),
  c.keep.ensures.told,
)
