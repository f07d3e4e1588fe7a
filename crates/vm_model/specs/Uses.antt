-- What a run used of its journal and what its handles stand for, by its calls and answers alone.
use Rattle.std.specs.Prelude.{◌≡◌, ◌⊎◌, ℕ, zero, suc, ◌+◌, true, List, [], ◌∷◌, ◌++◌, Option, Some, None, Ok}
use Rattle.journal_protocol.specs.Message.{Message}
use Rattle.journal_protocol.specs.RawMessage.{RawMessage}
use Rattle.journal_protocol.specs.Notification.{Notification}
use Rattle.journal_protocol.specs.NotificationId.{NotificationId}
use Rattle.journal_protocol.specs.NotificationId.TheVariants.{CompletionId, SignalId, SignalName}
use Rattle.journal_protocol.specs.NotificationResult.{NotificationResult}
use Rattle.journal_protocol.specs.Version.{Version}
use Rattle.journal_protocol.specs.Equality.{header_equal}
use Rattle.journal_protocol.specs.Frames.{type_of}
use Rattle.journal_protocol.specs.Bodies.{message_in}
use Rattle.journal_protocol.specs.Types.{type_number}
use Rattle.vm_types.specs.declared.steps.Answer.{Answer}
use Rattle.vm_types.specs.declared.steps.Answer.TheVariants as answer
use Rattle.vm_types.specs.declared.steps.Step.{Step}
use Rattle.vm_types.specs.declared.steps.Step.TheVariants as step
use Rattle.vm_types.specs.declared.values.Value.{Value}
use Rattle.vm_asks.specs.declared.asks.Ask.{Ask}
use Rattle.vm_asks.specs.declared.asks.Ask.TheVariants as ask
use Rattle.vm_asks.specs.declared.command.Command.{Command}
use Rattle.vm_asks.specs.Asks.{all_ids, ask_of, cancel_invocation_command}
use Rattle.vm_types.specs.Options.{ignores_payloads}
use Rattle.vm_asks.specs.StateReads.{recorded_as}
use Rattle.vm_asks.specs.Requests.{ids_of, with_ids}
use Rattle.vm_model.specs.Calls.{Demand, Meaning, Setup, Usage}
use Rattle.vm_model.specs.Calls.Demand.{Exactly, Reads}
use Rattle.vm_model.specs.Calls.Usage.{Used, Read, Taken}
use Rattle.vm_model.specs.Sums.{completion_ids, signal_ids}

-- ---- recorded commands

-- what a command needs recorded, where this is the next completion id
abbrev pub needed_for : Setup → ℕ → Command → Demand
needed_for s id c =
    Exactly (with_ids id c.message) (ignores_payloads s.options.non_determinism_checks c.unstable)

-- and what it needs with the commands after it
abbrev pub all_needed : Setup → ℕ → Command → List Command → List Demand
all_needed s id c [] = needed_for s id c ∷ []
all_needed s id c (b ∷ bs) = needed_for s id c ∷ all_needed s (id + ids_of c.message) b bs

-- what is needed recorded, where this is the next completion id
abbrev pub needed_by : Setup → ℕ → Ask → List Demand
needed_by s id (ask.Command c) = needed_for s id c ∷ []
needed_by s id (ask.Commands kind first second) = all_needed s id first (second ∷ [])
needed_by s id (ask.Read r) = Reads r id ∷ []
needed_by s id a = []

-- what is needed recorded where the cancel signal is sent to these invocations, in order
abbrev pub cancels_needed : Setup → List (List ℕ) → List Demand
cancels_needed s [] = []
cancels_needed s (id ∷ ids) = Exactly (cancel_invocation_command id).message
    (ignores_payloads s.options.non_determinism_checks (cancel_invocation_command id).unstable)
    ∷ cancels_needed s ids

-- What calls need recorded, in order, if each of them sends the cancel signal to these invocations.
-- Their completion ids come after this number of earlier ones, and those of each call after those
-- of the calls before it.
abbrev pub needed : Setup → ℕ → List Step → List (List (List ℕ)) → List Demand
needed s before [] cancels = []
needed s before (st ∷ steps) [] = needed_by s (1 + before) (ask_of s.version st)
    ++ needed s (before + completion_ids s.version st) steps []
needed s before (st ∷ steps) (sent ∷ cancels) = needed_by s (1 + before) (ask_of s.version st)
    ++ (cancels_needed s sent ++ needed s (before + completion_ids s.version st) steps cancels)

-- a call with this answer sends the cancel signal to these invocations: to none but where it is
-- answered Cancelled
abbrev pub IsSentBy : Answer → List (List ℕ) → Type 0
IsSentBy answer.Cancelled sent = Unit {0}
IsSentBy a sent = sent ≡ []

-- the calls with these answers send the cancel signal to such invocations, one list a call
abbrev pub AreSentBy : List Answer → List (List (List ℕ)) → Type 0
AreSentBy [] cancels = cancels ≡ []
AreSentBy (a ∷ answers) [] = ⊥
AreSentBy (a ∷ answers) (sent ∷ cancels) = IsSentBy a sent × AreSentBy answers cancels

-- the cancel signal was sent to these invocations by the call that comes next: to none but where
-- that is an await
abbrev pub IsSentFor : Step → List (List ℕ) → Type 0
IsSentFor (step.Await future) sent = Unit {0}
IsSentFor st sent = sent ≡ []

-- a recorded command stands for what is needed: it has the type of the command and is header-equal
-- to it, or is a form of the read
abbrev pub Stands : Demand → RawMessage → Type 0
Stands (Exactly command ignore) raw = (type_number raw.ty ≡ type_number (type_of command))
    × ((recorded : Message) × (message_in raw.ty raw.body ≡ Some recorded)
    × (header_equal recorded command ignore ≡ true))
Stands (Reads r id) raw = (result : Option NotificationResult) × (recorded_as r id raw ≡ Ok result)

-- recorded commands stand for what is needed, one for one
abbrev pub StandFor : List Demand → List RawMessage → Type 0
StandFor [] [] = Unit {0}
StandFor [] (c ∷ cs) = ⊥
StandFor (d ∷ ds) [] = ⊥
StandFor (d ∷ ds) (c ∷ cs) = Stands d c × StandFor ds cs

-- ---- arrivals

-- the arrivals that awaits used, in order; what was used stands newest first
abbrev pub arrivals_in : List Usage → List Notification
arrivals_in [] = []
arrivals_in (Used n ∷ us) = arrivals_in us ++ n ∷ []
arrivals_in (Read id result ∷ us) = arrivals_in us
arrivals_in (Taken id ∷ us) = arrivals_in us

-- ---- handles

-- this number of completion ids, from this one on
abbrev pub ids_from : ℕ → ℕ → List NotificationId
ids_from zero id = []
ids_from (suc n) id = CompletionId id ∷ ids_from n (id + 1)

-- the ids that are given, where these are the next completion id and the next signal id
abbrev pub given_for : ℕ → ℕ → Ask → List NotificationId
given_for completion signal (ask.Command c) = ids_from (ids_of c.message) completion
given_for completion signal (ask.Commands kind first second) = ids_from
    (all_ids first (second ∷ [])) completion
given_for completion signal (ask.Read r) = CompletionId completion ∷ []
given_for completion signal ask.Awakeable = SignalId signal ∷ []
given_for completion signal (ask.Signal name) = SignalName name ∷ []
given_for completion signal a = []

-- The ids that calls were given, in order, after these numbers of earlier completion ids and signal
-- ids: completion ids count from 1 and signal ids from 17.
abbrev pub ids_of_steps : Version → ℕ → ℕ → List Step → List NotificationId
ids_of_steps version completions signals [] = []
ids_of_steps version completions signals (st ∷ steps) =
    given_for (1 + completions) (17 + signals) (ask_of version st)
    ++ ids_of_steps version (completions + completion_ids version st)
    (signals + signal_ids version st) steps

-- the item with this index, from 0
abbrev pub item : {A : Type 0} → ℕ → List A → Option A
item n [] = None
item zero (x ∷ xs) = Some x
item (suc n) (x ∷ xs) = item n xs

-- A handle stands for its id: 1 for the cancel signal, and from 17 on each for the id that was
-- given in its turn.
abbrev pub IsGiven : List NotificationId → ℕ → NotificationId → Type 0
IsGiven given handle id =
    ((handle ≡ 1) × (id ≡ SignalId 1)) ⊎ ((k : ℕ) × (handle ≡ 17 + k) × (item k given ≡ Some id))

-- a take of the handle was answered with a value
abbrev pub WasTaken : Meaning → ℕ → List Answer → Type 0
WasTaken m handle answers = (before : List Answer) × (value : Value) × (behind : List Answer)
    × (answers ≡ before ++ answer.Taken (Some value) ∷ behind)
    × (m before ≡ step.Take (record { 0 = handle }))
