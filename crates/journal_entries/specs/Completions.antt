-- That no completion has two results among notifications, and that each is of the kind of its id.
use Rattle.std.specs.Prelude.{◌≡◌, ◌≢◌, ℕ, true, List, [], ◌∷◌, ◌++◌, Option, Some, None}
use Rattle.journal_protocol.specs.Notification.{Notification}
use Rattle.journal_protocol.specs.NotificationId.{NotificationId}
use Rattle.journal_protocol.specs.NotificationId.TheVariants.{CompletionId, SignalId, SignalName}
use Rattle.journal_protocol.specs.NotificationResult.{NotificationResult}
use Rattle.journal_entries.specs.declared.completions.Completes.{Completes}
use Rattle.journal_entries.specs.declared.completions.Completes.TheVariants as completes
use Rattle.journal_entries.specs.Arrivals.{completes_among, is_invocation_id}
use Rattle.journal_entries.specs.Entries.{note_in, said_in}

-- no notification has this id
abbrev pub CompletesNone : NotificationId → List Notification → Type 0
CompletesNone id [] = Unit {0}
CompletesNone id (n ∷ ns) = (n.id ≢ id) × CompletesNone id ns

-- a completion has no other result among these; a signal may be delivered again
abbrev pub HasNoOther : NotificationId → List Notification → Type 0
HasNoOther (CompletionId id) ns = CompletesNone (CompletionId id) ns
HasNoOther (SignalId id) ns = Unit {0}
HasNoOther (SignalName name) ns = Unit {0}

-- no completion has two results
abbrev pub CompleteOnce : List Notification → Type 0
CompleteOnce [] = Unit {0}
CompleteOnce (n ∷ ns) = HasNoOther n.id ns × CompleteOnce ns

-- ---- kinds

-- a result that completes an id by this is an invocation's id, if that is expected
abbrev pub IsOfKind : Option Completes → NotificationResult → Type 0
IsOfKind None result = ⊥
IsOfKind (Some completes.InvocationId) result = is_invocation_id result ≡ true
IsOfKind (Some completes.Proposal) result = Unit {0}
IsOfKind (Some completes.AnyResult) result = Unit {0}

-- a completion after these entries is of the kind of its id, by the last of their commands that
-- carries it
abbrev pub IsOfItsKind : NotificationId → NotificationResult → List (List ℕ) → Type 0
IsOfItsKind (CompletionId id) result before = IsOfKind (completes_among id (said_in before) None)
    result
IsOfItsKind (SignalId id) result before = Unit {0}
IsOfItsKind (SignalName name) result before = Unit {0}

-- the same of an entry's notification, if it is one
abbrev pub NoteIsOfItsKind : Option Notification → List (List ℕ) → Type 0
NoteIsOfItsKind None before = Unit {0}
NoteIsOfItsKind (Some n) before = IsOfItsKind n.id n.result before

-- each completion among some entries after these was of the kind of its id when it was stored
abbrev pub EachOfItsKind : List (List ℕ) → List (List ℕ) → Type 0
EachOfItsKind before [] = Unit {0}
EachOfItsKind before (x ∷ xs) = NoteIsOfItsKind (note_in x) before
    × EachOfItsKind (before ++ x ∷ []) xs
