use Rattle.program_vmrun.proofs.run.feed_all.Goals as goal

pub returns-clause-fed : goal.returns-clause-fed
returns-clause-fed g c = (c.feed.new.self.record_of, (c.feed.result, c.feed.ensures.does), (c.close.result, c.close.ensures.does))
