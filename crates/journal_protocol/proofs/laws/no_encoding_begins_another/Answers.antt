use Rattle.journal_messages.proofs.Alone.{no_beginning}
use Rattle.journal_protocol.proofs.laws.no_encoding_begins_another.Goals as goal

-- src/laws.rt
pub returns : goal.returns
returns c = no_beginning
