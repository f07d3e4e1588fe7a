-- The course of a round's attempt: what was delivered to it after its journal and what it wrote,
-- in the order in which this happened.
use Rattle.std.specs.Prelude.{ℕ, List, [], ◌∷◌, ◌++◌, length, map, drop}
use Rattle.std.proofs.Common.{inl, inr}
use Rattle.journal_protocol.specs.Notification.{Notification}
use Rattle.journal_protocol.specs.Start.{Start}
use Rattle.vm_machine.specs.Inputs.{coverage_of}
use Rattle.vm_state.specs.declared.state_map.StateMap.{StateMap}
use Rattle.vm_state.specs.Entries.{entries_of as state_entries}
use Rattle.vm_model.specs.Calls.{Meaning}
use Rattle.vm_model.specs.Histories.{Knowledge}
use Rattle.vm_model.specs.HonestRounds.{Attempted, HonestRounds}
use Rattle.journal_entries.specs.Journal.{Entry, Recorded, Notified}
use Rattle.journal_protocol.specs.Version.{Version}
use Rattle.vm_attempt.specs.Record.{Record, heard}
use Rattle.vm_attempt.specs.Told.{arrivals_of, written_by}
use Rattle.world_rounds.specs.declared.types.Event.{Event}
use Rattle.world_rounds.specs.declared.types.Round.{Round}
use Rattle.world_rounds.specs.declared.types.Setting.{Setting}
use Rattle.journal_entries.specs.Entries.{journal_entries, notes_in}
use Rattle.world_rounds.specs.Rounds.{Happen, Now, ReportView, RoundDoes, RoundsDo, begin}
use Rattle.world_rounds.specs.Worlds.{setup_of, start_for}

-- The notifications that an attempt was fed after those of its journal; an acknowledgement counts
-- as the completion of its run.
abbrev pub delivered : Version → List (List ℕ) → Record → List Notification
delivered version journal r = drop (length (notes_in journal)) (arrivals_of (heard version r))

-- what is new in a list that has grown
abbrev pub new_in : {A : Type 0} → List A → List A → List A
new_in old new = drop (length old) new

-- what an event brought: the notifications that were delivered by it, and the commands that were
-- written by it
abbrev pub brought_by : Version → List (List ℕ) → Record → Record → List Entry
brought_by version journal old new = map Notified
    (new_in (delivered version journal old) (delivered version journal new))
    ++ map Recorded (new_in (written_by old) (written_by new))

-- the course of events, one after another, of an attempt on this journal
abbrev pub course_of : (m : Meaning) (journal : List (List ℕ)) (events : List Event) (old new : Now)
    → Happen m events old new → List Entry
course_of m journal [] old new h = []
course_of m journal (e ∷ es) old new (mid, happens, others) = brought_by old.version journal
    old.attempt mid.attempt ++ course_of m journal es mid new others

-- the state that a Start hands out
abbrev pub start_handed : Start → StateMap
start_handed st = record { entries = state_entries st.state; coverage = coverage_of st.partial }

-- the attempt of a round; one that was refused has no course
abbrev pub attempt_of : (m : Meaning) (w : Setting) (round : Round) (old : List (List ℕ))
    (report : ReportView) (new : List (List ℕ)) → RoundDoes m w round old report new → Attempted
attempt_of m w round old report new (inl d) = record {
  given = start_handed (start_for w round old);
  course = course_of m old round.events (begin d.alloc w round old) d.ran.now d.ran.happen;
  answers = report.answers;
}
attempt_of m w round old report new (inr d) = record {
  given = start_handed (start_for w round old);
  course = [];
  answers = report.answers;
}

-- the attempts of rounds, in order
abbrev pub attempts_of : (m : Meaning) (w : Setting) (rounds : List Round) (old : List (List ℕ))
    (reports : List ReportView) (new : List (List ℕ)) → RoundsDo m w rounds old reports new
    → List Attempted
attempts_of m w [] old reports new d = []
attempts_of m w (r ∷ rs) old reports new (mid, report, more, is, does, others) = attempt_of m w r
    old report mid does ∷ attempts_of m w rs mid more new others

-- The rounds are honest: each attempt makes a run of the handler over its journal, with as much of
-- the state as it was handed.
abbrev pub AreHonest : Knowledge
    → (m : Meaning) (w : Setting) (rounds : List Round) (old : List (List ℕ))
    (reports : List ReportView) (new : List (List ℕ)) → RoundsDo m w rounds old reports new → Type 0
AreHonest Knows m w rounds old reports new d =
    HonestRounds (setup_of w) m Knows (journal_entries old)
    (attempts_of m w rounds old reports new d) (journal_entries new)
