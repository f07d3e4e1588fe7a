-- What an await says that waits for one notification id, or for it and a signal.
use Rattle.std.specs.Prelude.{ℕ, List, [], ◌∷◌, Option, Some, None, false}
use Rattle.journal_attempt.specs.declared.control.AwaitingOn.{AwaitingOn}
use Rattle.journal_attempt.specs.declared.future.FutureKind.TheVariants.{FirstCompleted}
use Rattle.journal_values.specs.declared.notification.NotificationId.{NotificationId}
use Rattle.journal_values.specs.declared.notification.NotificationId.TheVariants.{CompletionId, SignalId, SignalName}

-- the completion ids that an id is
abbrev pub completions_in : NotificationId → List ℕ
completions_in (CompletionId id) = id ∷ []
completions_in (SignalId id) = []
completions_in (SignalName name) = []

-- the other signal, or none
abbrev pub other_signals : Option ℕ → List ℕ
other_signals None = []
other_signals (Some signal) = signal ∷ []

-- the signals that an id is, and the other signal
abbrev pub signals_awaited : NotificationId → Option ℕ → List ℕ
signals_awaited (CompletionId id) other = other_signals other
signals_awaited (SignalId id) other = id ∷ other_signals other
signals_awaited (SignalName name) other = other_signals other

-- the names of signals that an id is
abbrev pub names_in : NotificationId → List (List ℕ)
names_in (CompletionId id) = []
names_in (SignalId id) = []
names_in (SignalName name) = name ∷ []

-- an id is awaited, or the first of it and of the other signal
abbrev pub awaiting_id : NotificationId → Option ℕ → AwaitingOn
awaiting_id id other = record {
  future = record {
    kind = FirstCompleted;
    waiting_completions = completions_in id;
    waiting_signals = signals_awaited id other;
    waiting_named_signals = names_in id;
    nested = 0;
  } ∷ [];
  executing_side_effects = false;
}
