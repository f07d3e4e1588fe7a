use Rattle.std.proofs.Common.{rules}
use Rattle.wire.specs.Format.{u64s}
use Rattle.wire.specs.Forms.{u64_format}
use Rattle.wire.proofs.Read.{read_of, u64_none}
use Rattle.wire.proofs.wire.U64Wire.get.Goals as goal

pub returns-then-front-lt8 : goal.returns-then-front-lt8
returns-then-front-lt8 c = u64_none c.args.input.now (search rules)

pub returns : goal.returns
unfolding u64s
returns c = read_of u64_format c.from_be_bytes-n.result c.args.input.now c.advance.new.self (search rules) (search rules)
