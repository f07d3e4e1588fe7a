use Rattle.std.proofs.Common.{rules}
use Rattle.wire.specs.Format.{u32s}
use Rattle.wire.specs.Forms.{u32_format}
use Rattle.wire.proofs.Read.{read_of, u32_none}
use Rattle.wire.proofs.wire.U32Wire.get.Goals as goal

pub returns-then-front-lt4 : goal.returns-then-front-lt4
returns-then-front-lt4 c = u32_none c.args.input.now (search rules)

pub returns : goal.returns
unfolding u32s
returns c = read_of u32_format c.from_be_bytes-n.result c.args.input.now c.advance.new.self (search rules) (search rules)
