use Rattle.engines.proofs.Storing.{bytes_read}
use Rattle.engines.proofs.member.note_bytes.Goals as goal

pub returns : goal.returns
returns c = bytes_read c.args.note c.encode.result c.encode.ensures.written c.encode.ensures.valid
