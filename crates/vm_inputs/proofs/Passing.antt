-- The completion id that is next past what recorded commands carry, command by command.
use Rattle.std.proofs.Common.{◌≡◌, ℕ, ◌+◌, ◌<◌, ◌≤◌, List, [], ◌∷◌, length, drop, get_or, Option, Some, None, refl, sym, ap, ◌∙◌}
use Rattle.std.specs.Option.{option_and_then}
use Rattle.std.proofs.lemmas.List.{drop_all}
use Rattle.journal_protocol.specs.RawMessage.{RawMessage}
use Rattle.journal_protocol.specs.Bodies.{message_in}
use Rattle.vm_asks.specs.Carried.{past_all, read_past}
use Rattle.plain.proofs.Places.{from_place}

-- past the command at a place, and then those after it
pub past_at : (cs : List RawMessage) (i next : ℕ) (raw : RawMessage) (o : Option ℕ) → i < length cs → raw ≡ get_or cs i raw → o ≡ read_past next (message_in raw.ty raw.body)
    → past_all next (drop i cs) ≡ option_and_then (λ id. past_all id (drop (i + 1) cs)) o
past_at cs i next raw o lt at read = ap (past_all next) (from_place cs i raw lt at) ∙ ap (option_and_then (λ id. past_all id (drop (i + 1) cs))) (sym read)

-- after the last command
pub past_end : (cs : List RawMessage) (i next : ℕ) → length cs ≤ i → past_all next (drop i cs) ≡ Some next
past_end cs i next end = ap (past_all next) (drop_all i cs end)

-- ---- the walk

-- the walk begins after the first command
pub walk_begins : (is cs : List RawMessage) (a b : ℕ) → is ≡ cs → a ≡ b → past_all a (drop 1 is) ≡ past_all b (drop 1 cs)
walk_begins is cs a b same at = ap (λ l. past_all a (drop 1 l)) same ∙ ap (λ n. past_all n (drop 1 cs)) at

-- a command that can't be read ends it
pub walk_stops : (cs : List RawMessage) (i next : ℕ) (raw : RawMessage) (o p : Option ℕ) → i < length cs → raw ≡ get_or cs i raw → o ≡ read_past next (message_in raw.ty raw.body) → o ≡ None
    → past_all next (drop i cs) ≡ p → None ≡ p
walk_stops cs i next raw o p lt at read none walk = sym (past_at cs i next raw o lt at read ∙ ap (option_and_then (λ id. past_all id (drop (i + 1) cs))) none) ∙ walk

-- one that can be read is passed
pub walk_goes_on : (cs : List RawMessage) (i next : ℕ) (raw : RawMessage) (o p : Option ℕ) (id : ℕ) → i < length cs → raw ≡ get_or cs i raw → o ≡ read_past next (message_in raw.ty raw.body) → o ≡ Some id
    → past_all next (drop i cs) ≡ p → past_all id (drop (i + 1) cs) ≡ p
walk_goes_on cs i next raw o p id lt at read some walk = sym (past_at cs i next raw o lt at read ∙ ap (option_and_then (λ id. past_all id (drop (i + 1) cs))) some) ∙ walk

-- it ends after the last command
pub walk_ends : (cs : List RawMessage) (i next : ℕ) (p : Option ℕ) → length cs ≤ i → past_all next (drop i cs) ≡ p → Some next ≡ p
walk_ends cs i next p end walk = sym (past_end cs i next end) ∙ walk
