-- What was known at the last commit is known after an error, too; and what is stored of an output
-- when nothing was to be appended before.
use Rattle.std.proofs.Common.{◌≡◌, ℕ, List, [], length, Bool, sym, ◌∙◌, subst}
use Rattle.journal_protocol.specs.Version.{Version}
use Rattle.journal_entries.specs.declared.fault.JournalFault.{JournalFault}
use Rattle.journal_store.specs.Ids.{known_kept}
use Rattle.journal_store.specs.Known.{IsKnown}
use Rattle.journal_store.specs.Journals.{IsSameKept, Kept, JournalView}
use Rattle.journal_store.specs.Stored.{IsStoringFault}
use Rattle.c_journals.specs.declared.journal.HeldJournal.{HeldJournal}
use Rattle.c_journals.specs.Journals.{IsUndone, StoresAll}

-- the journal at the last commit is the same
pub kept_same : (old mid : JournalView) (journal : List (List ℕ)) → IsSameKept old mid → Kept old journal → Kept mid journal
kept_same old mid journal same k = record {
  ids = λ id. subst (λ kept. IsKnown journal id (known_kept (record { kept = kept; since = mid.ids.since }) id)) (sym same.ids) (k.ids id);
  count = same.count ∙ k.count;
}

-- what is taken back after more came goes back as far
pub undone_from : (old mid new : HeldJournal) → IsSameKept old.journal mid.journal → IsUndone mid new → IsUndone old new
undone_from old mid new same u = record {
  back = record {
    holds = λ journal k. u.back.holds journal (kept_same old.journal mid.journal journal same k);
    kept = λ journal k. u.back.kept journal (kept_same old.journal mid.journal journal same k);
  };
  rows = u.rows;
  feed = u.feed;
}

-- nothing was to be appended or fed before
pub stores_first : (version : Version) (output : List ℕ) (whole : Bool) (old : JournalView) (rows : List (List ℕ)) (feed : List ℕ) (new : JournalView) (rows' : List (List ℕ)) (feed' : List ℕ) → rows ≡ [] → feed ≡ [] → StoresAll version output whole old rows feed new rows' feed'
    → StoresAll version output whole old [] [] new rows' feed'
stores_first version output whole old rows feed new rows' feed' e f s = subst (λ (x : List (List ℕ) × List ℕ). StoresAll version output whole old x.0 x.1 new rows' feed') (λ i. (e i, f i)) s

-- the fault is the first one of the output
pub faults_first : (version : Version) (output : List ℕ) (old : JournalView) (rows : List (List ℕ)) (f : JournalFault) → rows ≡ [] → IsStoringFault version (length output) output old rows f → IsStoringFault version (length output) output old [] f
faults_first version output old rows f e s = subst (λ rows. IsStoringFault version (length output) output old rows f) e s
