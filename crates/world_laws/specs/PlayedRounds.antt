-- What holds of each of some rounds, whose attempts may run other handlers, and of their faults.
use Rattle.std.specs.Prelude.{◌≡◌, ◌⊎◌, ℕ, List, [], ◌∷◌, length}
use Rattle.journal_entries.specs.declared.fault.JournalFault.{JournalFault}
use Rattle.journal_entries.specs.declared.fault.JournalFault.TheVariants as journal_fault
use Rattle.journal_entries.specs.Entries.{journal_entries}
use Rattle.vm_model.specs.Histories.{Honest}
use Rattle.vm_model.specs.HonestRounds.{HonestRounds}
use Rattle.world_rounds.specs.declared.types.Setting.{Setting}
use Rattle.world_rounds.specs.Courses.{attempt_of}
use Rattle.world_rounds.specs.Families.{Played, PlayedDo}
use Rattle.world_rounds.specs.Fresh.{AreFresh}
use Rattle.world_rounds.specs.Rounds.{EventFault, ReportView, RoundDoes, RoundFaultsBy}
use Rattle.world_rounds.specs.States.{base_of}
use Rattle.world_rounds.specs.Worlds.{setup_of}

-- Each round is an honest one of its own handler: its attempt is the handler's run over the journal
-- with which the round begins, and each command that was stored stands after all that was delivered
-- before it was written.
abbrev pub EachIsHonest : (w : Setting) (played : List Played) (old : List (List ℕ))
    (reports : List ReportView) (new : List (List ℕ)) → PlayedDo w played old reports new → Type 0
EachIsHonest w [] old reports new d = Unit {0}
EachIsHonest w (p ∷ ps) old reports new (mid, report, more, is, one, others) =
    HonestRounds (setup_of w) p.handler (Honest (base_of w)) (journal_entries old)
    (attempt_of p.handler w p.round old report mid one ∷ []) (journal_entries mid)
    × EachIsHonest w ps mid more new others

-- In each round the completion ids of the new commands are greater than all that the journal's
-- commands carried when it began.
abbrev pub EachIsFresh : (w : Setting) (played : List Played) (old : List (List ℕ))
    (reports : List ReportView) (new : List (List ℕ)) → PlayedDo w played old reports new → Type 0
EachIsFresh w [] old reports new d = Unit {0}
EachIsFresh w (p ∷ ps) old reports new (mid, report, more, is, one, others) =
    AreFresh (length old) mid (report ∷ []) × EachIsFresh w ps mid more new others

-- The first of these rounds that has a fault of this kind has this one.
abbrev pub PlayedFaultBy : EventFault → Setting → List Played → List (List ℕ) → JournalFault
    → Type 0
PlayedFaultBy Has w [] old f = f ≡ journal_fault.Memory
PlayedFaultBy Has w (p ∷ ps) old f =
    RoundFaultsBy Has p.handler w p.round old f
    ⊎ ((mid : List (List ℕ)) × (report : ReportView)
    × RoundDoes p.handler w p.round old report mid × PlayedFaultBy Has w ps mid f)
