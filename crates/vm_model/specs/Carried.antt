-- Which completion ids a journal's commands carry, for whose results notifications come, and of
-- which kind these are.
use Rattle.std.specs.Prelude.{◌≡◌, ◌≤◌, ◌==◌, ℕ, Bool, true, false, List, [], length, Option, Some, None, IsSome}
use Rattle.std.specs.List.{AllByRecursion, list_any}
use Rattle.await_arrivals.specs.Results.{results_of}
use Rattle.journal_protocol.specs.Message.{Message}
use Rattle.journal_protocol.specs.Message.TheVariants as message
use Rattle.journal_protocol.specs.RawMessage.{RawMessage}
use Rattle.journal_protocol.specs.Bodies.{message_in}
use Rattle.journal_protocol.specs.Notification.{Notification}
use Rattle.journal_protocol.specs.NotificationId.TheVariants.{CompletionId}
use Rattle.journal_protocol.specs.NotificationResult.{NotificationResult}
use Rattle.vm_asks.specs.Carried.{carried}
use Rattle.vm_parts.specs.Tracked.{id_of_result}

-- the id is one of these
abbrev pub is_id_among : ℕ → List ℕ → Bool
is_id_among id ids = list_any (λ other. other == id) ids

-- what was read of a command carries the id
abbrev pub read_carries : ℕ → Option Message → Bool
read_carries id None = false
read_carries id (Some m) = is_id_among id (carried m)

-- one of the stored commands carries the id
abbrev pub is_carried : ℕ → List RawMessage → Bool
is_carried id cs = list_any (λ c. read_carries id (message_in c.ty c.body)) cs

-- each completion id has one result at most
abbrev pub ComeOnce : List Notification → Type 0
ComeOnce ns = (id : ℕ) → length (results_of (CompletionId id) ns) ≤ 1

-- results came only for completion ids that the commands carry
abbrev pub AreCarried : List Notification → List RawMessage → Type 0
AreCarried ns cs = (id : ℕ) → is_carried id cs ≡ false → results_of (CompletionId id) ns ≡ []

-- ---- kinds

-- what was read is a call or a one-way call that carries the id for its invocation's
abbrev pub names_invocation : ℕ → Option Message → Bool
names_invocation id (Some (message.Call c)) = c.request.invocation_id_notification_idx == id
names_invocation id (Some (message.OneWayCall c)) = c.request.invocation_id_notification_idx == id
names_invocation id m = false

-- one of the stored commands is a call or a one-way call that carries the id for its invocation's
abbrev pub is_for_invocation : ℕ → List RawMessage → Bool
is_for_invocation id cs = list_any (λ c. names_invocation id (message_in c.ty c.body)) cs

-- the result is an invocation's id
abbrev pub IsInvocationId : NotificationResult → Type 0
IsInvocationId result = IsSome (id_of_result result)

-- each result of an id that a call or a one-way call carries for its invocation's is an
-- invocation's id
abbrev pub AreOfTheirKind : List Notification → List RawMessage → Type 0
AreOfTheirKind ns cs = (id : ℕ) → is_for_invocation id cs ≡ true
    → AllByRecursion IsInvocationId (results_of (CompletionId id) ns)
