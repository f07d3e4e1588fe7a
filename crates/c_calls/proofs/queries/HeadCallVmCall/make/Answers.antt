use Rattle.std.proofs.Common.{◌∙◌, refl}
use Rattle.c_calls.proofs.queries.HeadCallVmCall.make.Goals as goal

pub returns : goal.returns
returns c = (
  (record { given = c.get_response_head.result; head = c.get_response_head.ensures; told = c.keep.ensures.kept ∙ c.head.ensures }, refl),
  c.keep.ensures.told,
)
