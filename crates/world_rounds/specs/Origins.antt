-- Where the entries of a journal come from that is left by rounds.
use Rattle.std.specs.Prelude.{◌≡◌, ◌⊎◌, ℕ, List, ◌∷◌, ◌++◌, Some}
use Rattle.std.specs.List.{AllByRecursion}
use Rattle.journal_protocol.specs.Notification.{Notification}
use Rattle.journal_entries.specs.Proposals.{acknowledged_completion}
use Rattle.journal_protocol.specs.ProposeRunCompletion.{ProposeRunCompletion}
use Rattle.vm_attempt.specs.Heard.{proposals_in}
use Rattle.journal_entries.specs.Entries.{note_in, notes_in}
use Rattle.journal_entries.specs.Storing.{stored_as, written_from}
use Rattle.journal_entries.specs.declared.storing.Written.{Written}
use Rattle.world_rounds.specs.declared.types.Event.TheVariants as event
use Rattle.world_rounds.specs.declared.types.Round.{Round}
use Rattle.world_rounds.specs.Rounds.{ReportView}

-- the item stands in this list
abbrev pub IsAmong : {A : Type 0} → A → List A → Type 0
IsAmong {A} x xs = (before : List A) × (behind : List A) × (xs ≡ before ++ x ∷ behind)

-- the entry arrived in one of these rounds
abbrev pub HasArrived : List ℕ → List Round → Type 0
HasArrived entry rounds =
    (round : Round) × IsAmong round rounds × IsAmong (event.Arrive entry) round.events

-- an attempt of one of these reports wrote a command or a proposal, which is stored as this entry
abbrev pub WasWritten : List ℕ → List ReportView → Type 0
WasWritten entry reports = (report : ReportView) × (w : Written) × IsAmong report reports
    × IsAmong w (written_from report.output) × (entry ≡ stored_as w)

-- an entry that is this notification arrived in one of these rounds
abbrev pub ArrivedAs : Notification → List Round → Type 0
ArrivedAs n rounds = (entry : List ℕ) × HasArrived entry rounds × (note_in entry ≡ Some n)

-- an attempt of one of these reports proposed a run's result, and this is the run's completion
abbrev pub WasProposed : Notification → List ReportView → Type 0
WasProposed n reports = (report : ReportView) × (p : ProposeRunCompletion) × IsAmong report reports
    × IsAmong p (proposals_in report.output) × (n ≡ acknowledged_completion p.id p)

-- The journal is the old one and entries after it, each of which arrived or was written;
-- and each notification among these arrived, or completes a run with a result that was proposed.
pub record NothingIsInvented (rounds : List Round) (old : List (List ℕ)) (reports : List ReportView)
    (new : List (List ℕ)) : Type 0 where
  pub added : List (List ℕ)
  pub extends : new ≡ old ++ added
  pub entries : AllByRecursion (λ x. HasArrived x rounds ⊎ WasWritten x reports) added
  pub notes : AllByRecursion (λ n. ArrivedAs n rounds ⊎ WasProposed n reports) (notes_in added)
