use Rattle.std.proofs.Common.{rules, false, inl, inr, true}
use Rattle.journal_store.proofs.Stored.{going_done, going_fault, going_next, going_over, one_shorter, same_kept}
use Rattle.journal_store.proofs.storing.store_from.Goals as goal

pub returns-in-Err-clause-err : goal.returns-in-Err-clause-err
returns-in-Err-clause-err c = elim c.in-Err.ensures.err [ inl h ↦ inl h | inr h ↦ inr (going_fault c.args.version c.args.n c.args.unstored.now c.args.journal.now c.args.entries.now.items c.args.feed.now.items c.loop-left.left c.loop-left.journal c.loop-left.entries.items c.loop-left.feed.items c.loop-left.unstored c.loop-left.invariant.going c.in-Err.fault h c.loop-left-test.true) ]

pub returns-in-Ok-None-clause-ok : goal.returns-in-Ok-None-clause-ok
returns-in-Ok-None-clause-ok c = going_over c.args.version c.args.n c.args.unstored.now c.args.journal.now c.args.entries.now.items c.args.feed.now.items c.loop-left.left c.loop-left.journal c.loop-left.entries.items c.loop-left.feed.items c.loop-left.unstored c.loop-left.invariant.going c.in-Ok-None.field-0 c.store_one.new.journal c.store_one.new.entries.items c.store_one.new.feed.items c.store_one.new.unstored c.in-Ok-None.field-0-is c.in-Ok-None.ensures.ok

pub loop-left-smaller-then-stored : goal.loop-left-smaller-then-stored
loop-left-smaller-then-stored c = one_shorter c.args.version c.loop-left.unstored c.in-Ok-Some.field-0 c.in-Ok-Some.stored c.store_one.new.unstored c.loop-left.journal c.loop-left.entries.items c.loop-left.feed.items c.store_one.new.journal c.store_one.new.entries.items c.store_one.new.feed.items c.in-Ok-Some.field-0-is c.in-Ok-Some.ensures.ok

pub loop-left-smaller : goal.loop-left-smaller
loop-left-smaller c = one_shorter c.args.version c.loop-left.unstored c.in-Ok-Some.field-0 c.in-Ok-Some.stored c.store_one.new.unstored c.loop-left.journal c.loop-left.entries.items c.loop-left.feed.items c.store_one.new.journal c.store_one.new.entries.items c.store_one.new.feed.items c.in-Ok-Some.field-0-is c.in-Ok-Some.ensures.ok

pub returns-clause-ok : goal.returns-clause-ok
returns-clause-ok c = going_done c.args.version c.args.n c.args.unstored.now c.args.journal.now c.args.entries.now.items c.args.feed.now.items c.loop-left.left c.loop-left.journal c.loop-left.entries.items c.loop-left.feed.items c.loop-left.unstored c.loop-left.invariant.going c.loop-left-test.false

pub loop-left-preserved-then-stored : goal.loop-left-preserved-then-stored
loop-left-preserved-then-stored c = record {
  going = going_next c.args.version c.args.n c.args.unstored.now c.args.journal.now c.args.entries.now.items c.args.feed.now.items c.loop-left.left c.loop-left.journal c.loop-left.entries.items c.loop-left.feed.items c.loop-left.unstored c.loop-left.invariant.going c.in-Ok-Some.field-0 c.in-Ok-Some.stored true c.store_one.new.journal c.store_one.new.entries.items c.store_one.new.feed.items c.store_one.new.unstored c.in-Ok-Some.field-0-is (search rules) c.in-Ok-Some.ensures.ok c.loop-left-test.true;
  kept = same_kept c.args.journal.now c.loop-left.journal c.store_one.new.journal c.loop-left.invariant.kept c.store_one.ensures.kept;
}

pub loop-left-preserved : goal.loop-left-preserved
loop-left-preserved c = record {
  going = going_next c.args.version c.args.n c.args.unstored.now c.args.journal.now c.args.entries.now.items c.args.feed.now.items c.loop-left.left c.loop-left.journal c.loop-left.entries.items c.loop-left.feed.items c.loop-left.unstored c.loop-left.invariant.going c.in-Ok-Some.field-0 c.in-Ok-Some.stored false c.store_one.new.journal c.store_one.new.entries.items c.store_one.new.feed.items c.store_one.new.unstored c.in-Ok-Some.field-0-is (search rules) c.in-Ok-Some.ensures.ok c.loop-left-test.true;
  kept = same_kept c.args.journal.now c.loop-left.journal c.store_one.new.journal c.loop-left.invariant.kept c.store_one.ensures.kept;
}
