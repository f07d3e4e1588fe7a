-- What each layer keeps of a message.
use Rattle.std.specs.Prelude.{◌≡◌, ◌⊎◌, List, [], ◌∷◌}
use Rattle.std.specs.List.{flat_map}
use Rattle.journal_protocol.specs.FutureNode.{FutureNode}
use Rattle.journal_protocol.specs.FutureKind.TheVariants.{Unknown}
use Rattle.journal_protocol.specs.Message.{Message}
use Rattle.journal_protocol.specs.Message.TheVariants as message

-- the ids that a future waits for, in the order of its nodes, without how they are combined: one
-- future of an unknown kind
abbrev pub kept_ids : List FutureNode → List FutureNode
kept_ids nodes = record {
  kind = Unknown;
  waiting_completions = flat_map (λ (n : FutureNode). n.waiting_completions) nodes;
  waiting_signals = flat_map (λ (n : FutureNode). n.waiting_signals) nodes;
  waiting_named_signals = flat_map (λ (n : FutureNode). n.waiting_named_signals) nodes;
  nested = 0;
} ∷ []

-- a message without how a suspension, or a report of what is awaited, combines its ids
abbrev pub without_tree : Message → Message
without_tree (message.Suspension s) = message.Suspension (record { future = kept_ids s.future })
without_tree (message.AwaitingOn a) = message.AwaitingOn (record {
  future = kept_ids a.future;
  executing_side_effects = a.executing_side_effects;
})
without_tree m = m

-- What a reader finds of a message in each layer: all of it, or all but the tree of these two. No
-- journal has them, and no VM reads them.
abbrev pub Keeps : Message → Message → Type 0
Keeps m read = (read ≡ m) ⊎ (read ≡ without_tree m)
