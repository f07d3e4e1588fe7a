-- The completion ids that commands carry, as new ones in order.
use Rattle.std.specs.Prelude.{ℕ, ◌+◌, nat_lt, if◌then◌else◌, List, [], ◌∷◌, Option, Some, None}
use Rattle.std.specs.Option.{option_and_then}
use Rattle.journal_protocol.specs.Message.{Message}
use Rattle.journal_protocol.specs.Message.TheVariants as message

-- the ids that a command carries, two at most
abbrev pub carried_pair : Message → Option ℕ × Option ℕ
carried_pair (message.Sleep c) = (Some c.result_completion_id, None)
carried_pair (message.GetLazyState c) = (Some c.result_completion_id, None)
carried_pair (message.GetLazyStateKeys c) = (Some c.result_completion_id, None)
carried_pair (message.GetPromise c) = (Some c.result_completion_id, None)
carried_pair (message.PeekPromise c) = (Some c.result_completion_id, None)
carried_pair (message.CompletePromise c) = (Some c.result_completion_id, None)
carried_pair (message.AttachInvocation c) = (Some c.result_completion_id, None)
carried_pair (message.GetInvocationOutput c) = (Some c.result_completion_id, None)
carried_pair (message.Run c) = (Some c.result_completion_id, None)
carried_pair (message.OneWayCall c) = (Some c.request.invocation_id_notification_idx, None)
carried_pair (message.Call c) =
    (Some c.request.invocation_id_notification_idx, Some c.result_completion_id)
carried_pair m = (None, None)

-- what is next past an id, if it isn't below this one
abbrev pub past_new : ℕ → Option ℕ → Option ℕ
past_new next None = Some next
past_new next (Some id) = if nat_lt id next then None else Some (id + 1)

-- what is next past all ids of a command, if they are new ones in order
abbrev pub past_new_ids : ℕ → Message → Option ℕ
past_new_ids next m =
    option_and_then (λ mid. past_new mid (carried_pair m).1) (past_new next (carried_pair m).0)

-- what is next past the ids of these commands, if each one's are new ones in order
abbrev pub past_new_along : ℕ → List Message → Option ℕ
past_new_along next [] = Some next
past_new_along next (m ∷ ms) =
    option_and_then (λ mid. past_new_along mid ms) (past_new_ids next m)
