use Rattle.std.proofs.Common.{rules}
use Rattle.frame_lines.specs.Messages.{fields_of}
use Rattle.frame_lines.proofs.message.print_fields.Goals as goal

pub returns-in-Start : goal.returns-in-Start
unfolding fields_of
returns-in-Start c = rw c.in-Start.is c.print.ensures

pub returns-in-Call : goal.returns-in-Call
unfolding fields_of
returns-in-Call c = rw c.in-Call.is (search rules)

pub returns-in-OneWayCall : goal.returns-in-OneWayCall
unfolding fields_of
returns-in-OneWayCall c = rw c.in-OneWayCall.is (search rules)
