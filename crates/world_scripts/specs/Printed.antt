-- What is fixed of the text of a report.
use Rattle.std.specs.Prelude.{◌≡◌, ℕ, suc, List, [], ◌∷◌, ◌++◌, codes, Option, Some, None}
use Rattle.std.specs.Fmt.{decimal}
use Rattle.std.specs.List.{flat_map}
use Rattle.lines.specs.Atoms.{quoted}
use Rattle.journal_protocol.specs.Error.{Error}
use Rattle.vm_types.specs.declared.steps.Answer.{Answer}
use Rattle.vm_types.specs.declared.steps.Answer.TheVariants as answer
use Rattle.call_lines.specs.Answers.{answer_text}
use Rattle.world_rounds.specs.Inside.{report_view}
use Rattle.world_rounds.specs.Rounds.{ReportView}
use Rattle.world_rounds.specs.declared.types.Report.{Report}
use Rattle.journal_entries.specs.declared.fault.JournalFault.{JournalFault}
use Rattle.journal_entries.specs.declared.fault.JournalFault.TheVariants as journal_fault

-- ---- texts one after another

-- something that this holds of is added
abbrev pub AddsSuch : (List ℕ → Type 0) → List ℕ → List ℕ → Type 0
AddsSuch holds old new = (added : List ℕ) × holds added × (new ≡ old ++ added)

-- something is added
abbrev pub AddsSome : List ℕ → List ℕ → Type 0
AddsSome old new = (added : List ℕ) × (new ≡ old ++ added)

-- a text for each item, one after another; the items are numbered from this number on
abbrev pub AreEach : {A : Type 0} → (ℕ → A → List ℕ → Type 0) → ℕ → List A → List ℕ → Type 0
AreEach holds number [] text = text ≡ []
AreEach holds number (item ∷ items) text = (first : List ℕ) × (rest : List ℕ)
    × holds number item first × AreEach holds (suc number) items rest × (text ≡ first ++ rest)

-- ---- answers

-- the word by which an answer is called
unfoldable pub answer_word : Answer → List ℕ
answer_word (answer.Input input) = codes "input"
answer_word (answer.Handle handle) = codes "handle"
answer_word (answer.Call handles) = codes "handles"
answer_word (answer.CallWithDeadline handles) = codes "deadline"
answer_word (answer.Send handle) = codes "handle"
answer_word (answer.Awakeable made) = codes "awakeable"
answer_word answer.Unit = codes "unit"
answer_word answer.Awake = codes "awake"
answer_word answer.Cancelled = codes "cancelled"
answer_word (answer.Taken value) = codes "taken"
answer_word (answer.Completed is) = codes "completed"

-- the value after that word; empty if the answer has none
abbrev pub answer_value : Answer → List ℕ
answer_value answer.Unit = []
answer_value answer.Awake = []
answer_value answer.Cancelled = []
answer_value given = codes " " ++ answer_text given

-- the line of an answer
abbrev pub answer_line : Answer → List ℕ
answer_line given = codes "answer " ++ answer_word given ++ answer_value given ++ codes "\n"

-- a line for each answer
abbrev pub answer_lines : List Answer → List ℕ
answer_lines answers = flat_map answer_line answers

-- ---- rounds

-- the line of an error, if there is one
abbrev pub error_line : Option Error → List ℕ
error_line None = []
error_line (Some e) = codes "error " ++ decimal e.code ++ codes " " ++ quoted e.message
    ++ codes "\n"

-- a line of a word and a number
abbrev pub count_text : List ℕ → ℕ → List ℕ
count_text word count = word ++ decimal count ++ codes "\n"

-- the text of a round: its number, its answers, the frames that it sent, its error, and how many
-- entries the journal has
pub record IsRoundText (number : ℕ) (report : ReportView) (text : List ℕ) : Type 0 where
  pub frames : List ℕ
  pub is : text ≡ count_text (codes "round ") number ++ answer_lines report.answers ++ frames
      ++ error_line report.error ++ count_text (codes "entries ") report.entries

-- the texts of the rounds, which are numbered from 1
abbrev pub AreRoundTexts : List Report → List ℕ → Type 0
AreRoundTexts reports text =
    AreEach (λ number report. IsRoundText number (report_view report)) 1 reports text

-- the text of the journal, which is printed after the rounds
abbrev pub IsJournalText : List ℕ → Type 0
IsJournalText text = (entries : List ℕ) × (text ≡ codes "journal\n" ++ entries)

-- a whole report: the text of each round, then the journal
abbrev pub IsPrinted : List Report → List ℕ → Type 0
IsPrinted reports text = (rounds : List ℕ) × (journal : List ℕ) × AreRoundTexts reports rounds
    × IsJournalText journal × (text ≡ rounds ++ journal)

-- ---- faults

-- the name of a fault
unfoldable pub fault_name : JournalFault → List ℕ
fault_name journal_fault.NotANotification = codes "NotANotification"
fault_name journal_fault.NoSuchId = codes "NoSuchId"
fault_name journal_fault.SecondCompletion = codes "SecondCompletion"
fault_name journal_fault.WrongKind = codes "WrongKind"
fault_name journal_fault.RunIsProposed = codes "RunIsProposed"
fault_name journal_fault.Memory = codes "Memory"
fault_name journal_fault.JournalFull = codes "JournalFull"
fault_name journal_fault.BadJournal = codes "BadJournal"

-- the report of rounds that a fault has stopped
abbrev pub fault_text : JournalFault → List ℕ
fault_text fault = codes "fault " ++ fault_name fault ++ codes "\n"
