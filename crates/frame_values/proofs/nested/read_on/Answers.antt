use Rattle.frame_values.proofs.Reading.{blank_read}
use Rattle.frame_values.proofs.nested.read_on.Goals as goal

pub returns-in-Some-clause-reads : goal.returns-in-Some-clause-reads
returns-in-Some-clause-reads c =
    blank_read c.args.next c.args.current c.args.open.now.items c.push.new.self.items c.args.nodes.now.items c.args.text.now c.in-Some.rest.now c.in_ok-push.ensures.items c.in-Some.ensures.some c.requires
