use Rattle.journal_messages.proofs.Alone.{one_body, one_type}
use Rattle.journal_protocol.proofs.laws.encodings_are_of_one_form.Goals as goal

-- src/laws.rt
pub returns-clause-ty : goal.returns-clause-ty
returns-clause-ty c = one_type

pub returns-clause-body : goal.returns-clause-body
returns-clause-body c = one_body
