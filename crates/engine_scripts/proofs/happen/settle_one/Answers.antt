use Rattle.engine_scripts.proofs.happen.settle_one.Goals as goal

pub returns-clause-does : goal.returns-clause-does
returns-clause-does c = record {
  begun = c.begin.new.engine;
  begins = c.in_ok-begin.ensures.does;
  fed = c.act.new.engine;
  feeds = c.in_ok-act.ensures.does;
  stepped = c.act-2.new.engine;
  count = _;
  steps = c.in_ok-act-2.ensures.does;
  stored = c.store.new.engine;
  stores = c.in_ok-store.ensures.does;
  delivers = c.in_ok-deliver_all.ensures.does;
}
