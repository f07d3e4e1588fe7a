use Rattle.std.proofs.Common.{rules}
use Rattle.wire.specs.Format.{u16s}
use Rattle.wire.specs.Forms.{u16_format}
use Rattle.wire.proofs.Read.{read_of, u16_none}
use Rattle.wire.proofs.wire.U16Wire.get.Goals as goal

pub returns-then-front-lt2 : goal.returns-then-front-lt2
returns-then-front-lt2 c = u16_none c.args.input.now (search rules)

pub returns : goal.returns
unfolding u16s
returns c = read_of u16_format c.from_be_bytes-n.result c.args.input.now c.advance.new.self (search rules) (search rules)
