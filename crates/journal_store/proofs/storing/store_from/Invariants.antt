use Rattle.std.proofs.Common.{length}
use Rattle.journal_store.specs.Journals.{IsSameKept}
use Rattle.journal_store.proofs.Stored.{Going}
use Rattle.journal_store.proofs.storing.store_from.Given as goal

abbrev pub invariant-loop-left : goal.invariant-loop-left
invariant-loop-left l = record {
  going : Going l.version l.n l.fn.unstored l.fn.journal l.fn.entries.items l.fn.feed.items l.left l.journal l.entries.items l.feed.items l.unstored;
  kept : IsSameKept l.fn.journal l.journal;
}

abbrev pub decreases-loop-left : goal.decreases-loop-left
decreases-loop-left l = length l.unstored
