-- That new commands carry new completion ids, where recorded commands are skipped.
use Rattle.std.specs.Prelude.{◌≡◌, ℕ, List, [], ◌∷◌, take, drop}
use Rattle.vm_types.specs.declared.options.JournalReplay.TheVariants.{Disabled}
use Rattle.vm_types.specs.declared.options.VMOptions.{VMOptions}
use Rattle.vm_asks.specs.Carried.{AreGreater, all_carried}
use Rattle.journal_entries.specs.Frames.{frames_of}
use Rattle.journal_entries.specs.JournalFrames.{commands_among}
use Rattle.journal_entries.specs.Entries.{journal_frames}
use Rattle.world_rounds.specs.Rounds.{ReportView}

-- the completion ids that the commands of a journal carry
abbrev pub ids_in : List (List ℕ) → List ℕ
ids_in journal = all_carried (commands_among (journal_frames journal))

-- those that the commands among some output carry
abbrev pub ids_written : List ℕ → List ℕ
ids_written output = all_carried (commands_among (frames_of output).0)

-- A round over a journal has added entries to it, and its attempt has written this output: each
-- completion id that a command of either carries is greater than each that the journal's commands
-- carried when the round began.
pub record IsFresh (before added : List (List ℕ)) (output : List ℕ) : Type 0 where
  pub written : AreGreater (ids_in before) (ids_written output)
  pub stored : AreGreater (ids_in before) (ids_in added)

-- the same of each of these rounds, of which the first began when the last journal had its first n
-- entries
abbrev pub AreFresh : ℕ → List (List ℕ) → List ReportView → Type 0
AreFresh n journal [] = Unit {0}
AreFresh n journal (r ∷ rs) = IsFresh (take n journal) (drop n (take r.entries journal)) r.output
    × AreFresh r.entries journal rs

-- recorded commands are skipped
abbrev pub Skips : VMOptions → Type 0
Skips options = options.journal_replay ≡ Disabled
