use Rattle.frame_values.proofs.Reading.{comma_read}
use Rattle.frame_values.proofs.nested.read_more.Goals as goal

pub returns-in-Some-clause-reads : goal.returns-in-Some-clause-reads
returns-in-Some-clause-reads c =
    λ nodes placed. comma_read c.args.current c.args.open.now.items c.push.new.self.items nodes c.args.text.now c.in-Some.rest.now c.in_ok-push.ensures.items c.in-Some.ensures.some placed
