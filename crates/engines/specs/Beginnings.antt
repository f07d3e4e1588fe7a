-- How an invocation's journal began, and what lasts of an invocation over all events.
use Rattle.std.specs.Prelude.{◌≡◌, ℕ, List, [], slice_get, Some}
use Rattle.journal_protocol.specs.Frames.{IsWhole, encoding}
use Rattle.journal_protocol.specs.Message.TheVariants as message
use Rattle.journal_entries.specs.Entries.{said_in}
use Rattle.world_rounds.specs.Course.{CourseView}
use Rattle.engine_inboxes.specs.declared.inbox.Inbox.{Inbox}
use Rattle.engine_inboxes.specs.declared.types.Waiting.{Waiting}
use Rattle.engine_inboxes.specs.Deliverable.{Deliverable}
use Rattle.engine_inboxes.specs.Ids.{past_new_along}

-- the first entry of a journal: its input
abbrev pub entry_of_input : List ℕ → List ℕ
entry_of_input parameter = encoding (message.Input (record { headers = []; value = parameter }))

-- that entry can be read back
abbrev pub IsWholeInput : List ℕ → Type 0
IsWholeInput parameter = IsWhole (message.Input (record { headers = []; value = parameter }))

-- Before its first round the journal was an input alone, which can be read back.
pub record BeganWithInput (given : ℕ) (journal : List (List ℕ)) : Type 0 where
  pub one : given ≡ 1
  pub parameter : List ℕ
  pub whole : IsWholeInput parameter
  pub first : slice_get journal 0 ≡ Some (entry_of_input parameter)

-- The ids of each command of a journal were new ones in order, and this is next past all of them.
abbrev pub IsPastAll : List (List ℕ) → ℕ → Type 0
IsPastAll journal next = past_new_along 0 (said_in journal) ≡ Some next

-- What lasts over all events: what waits can be delivered, the journal began with an input, and
-- what is next is past the ids of all commands.
pub record MemberLasts (given : ℕ) (journal : List (List ℕ)) (waiting : List Waiting) (next : ℕ)
    : Type 0 where
  pub waits : Deliverable journal waiting next
  pub began : BeganWithInput given journal
  pub ids : IsPastAll journal next

-- the same of a course and its inbox
abbrev pub LastsWithInbox : {H : Type 0} → CourseView H → Inbox → Type 0
LastsWithInbox course inbox = MemberLasts course.given course.journal inbox.waiting.items inbox.next
