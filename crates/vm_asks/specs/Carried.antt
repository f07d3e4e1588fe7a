-- The completion ids that commands carry, for whose results notifications come; and the one that is
-- next past all of them.
use Rattle.std.specs.Prelude.{ℕ, ◌+◌, ◌<◌, ◌≤◌, max, List, [], ◌∷◌, ◌++◌, Option, Some, None}
use Rattle.std.specs.List.{AllByRecursion}
use Rattle.std.specs.Option.{option_and_then}
use Rattle.journal_protocol.specs.Message.{Message}
use Rattle.journal_protocol.specs.Message.TheVariants as message
use Rattle.journal_protocol.specs.RawMessage.{RawMessage}
use Rattle.journal_protocol.specs.Bodies.{message_in}

-- ---- what commands carry

-- the completion ids that a command carries; an eager read has its result in itself and carries
-- none
abbrev pub carried : Message → List ℕ
carried (message.Sleep c) = c.result_completion_id ∷ []
carried (message.GetLazyState c) = c.result_completion_id ∷ []
carried (message.GetLazyStateKeys c) = c.result_completion_id ∷ []
carried (message.Call c) = c.request.invocation_id_notification_idx ∷ c.result_completion_id ∷ []
carried (message.OneWayCall c) = c.request.invocation_id_notification_idx ∷ []
carried (message.GetPromise c) = c.result_completion_id ∷ []
carried (message.PeekPromise c) = c.result_completion_id ∷ []
carried (message.CompletePromise c) = c.result_completion_id ∷ []
carried (message.Run c) = c.result_completion_id ∷ []
carried (message.AttachInvocation c) = c.result_completion_id ∷ []
carried (message.GetInvocationOutput c) = c.result_completion_id ∷ []
carried m = []

-- those that what was read carries, if it could be read
abbrev pub read_carried : Option Message → List ℕ
read_carried None = []
read_carried (Some m) = carried m

-- those that a recorded command carries
abbrev pub carried_by : RawMessage → List ℕ
carried_by c = read_carried (message_in c.ty c.body)

-- those that recorded commands carry, in order
abbrev pub all_carried : List RawMessage → List ℕ
all_carried [] = []
all_carried (c ∷ cs) = carried_by c ++ all_carried cs

-- ---- ids beside each other

-- each of these ids is less than this one
abbrev pub AreBelow : ℕ → List ℕ → Type 0
AreBelow next ids = AllByRecursion (λ id. id < next) ids

-- none of these ids is less than this one
abbrev pub AreFrom : ℕ → List ℕ → Type 0
AreFrom next ids = AllByRecursion (λ id. next ≤ id) ids

-- each of these new ids is greater than each of the old ones
abbrev pub AreGreater : List ℕ → List ℕ → Type 0
AreGreater old new = AllByRecursion (λ id. AreBelow id old) new

-- ---- the id that is next

-- the completion id that is next past these, where this one was
abbrev pub past : ℕ → List ℕ → ℕ
past next [] = next
past next (id ∷ ids) = past (max next (id + 1)) ids

-- past those that what was read carries; none where it couldn't be read
abbrev pub read_past : ℕ → Option Message → Option ℕ
read_past next None = None
read_past next (Some m) = Some (past next (carried m))

-- past all that recorded commands carry; none where one of them can't be read
abbrev pub past_all : ℕ → List RawMessage → Option ℕ
past_all next [] = Some next
past_all next (c ∷ cs) = option_and_then (λ id. past_all id cs)
    (read_past next (message_in c.ty c.body))
