use Rattle.std.proofs.Common.{sym}
use Rattle.std.proofs.lemmas.List.{drop-drop}
use Rattle.await_arrivals.proofs.queue.Queue.advance.Goals as goal

pub returns-then-self-len : goal.returns-then-self-len
returns-then-self-len c = rw (← c.self.view_is) (sym (drop-drop 1 c.self.inside.cursor c.self.inside.all.items))
