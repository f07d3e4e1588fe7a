use Rattle.engines.proofs.Beginnings.{new_lasts}
use Rattle.engines.proofs.member.Member.new.Goals as goal

pub invariant_of-result : goal.invariant_of-result
invariant_of-result g c = new_lasts c.args.course.given c.args.course.journal c.new.result.waiting.items c.new.result.next c.new.ensures.waiting c.new.ensures.next c.requires.new c.requires.began c.requires.ids
