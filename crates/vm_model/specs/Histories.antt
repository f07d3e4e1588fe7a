-- Which points of a handler's run are reached on a journal, and what an attempt writes.
use Rattle.std.specs.Prelude.{◌≡◌, ◌⊎◌, ◌<◌, ◌≤◌, length, take, ℕ, zero, suc, Bool, true, false, ◌||◌, List, [], ◌∷◌, ◌++◌, Option, Some, None}
use Rattle.journal_protocol.specs.InputCommand.{InputCommand}
use Rattle.journal_protocol.specs.Message.{Message}
use Rattle.journal_protocol.specs.Message.TheVariants as message
use Rattle.journal_protocol.specs.RawMessage.{RawMessage}
use Rattle.journal_protocol.specs.Notification.{Notification}
use Rattle.journal_protocol.specs.VoidOrValue.{VoidOrValue}
use Rattle.journal_protocol.specs.VoidOrValue.TheVariants as stands
use Rattle.journal_protocol.specs.Bodies.{message_in}
use Rattle.vm_state.specs.declared.state_map.Known.{Known}
use Rattle.vm_state.specs.declared.state_map.Known.TheVariants.{Unknown, Empty, Value}
use Rattle.vm_state.specs.declared.state_map.StateMap.{StateMap}
use Rattle.vm_types.specs.declared.steps.Step.TheVariants as step
use Rattle.await_trees.specs.declared.tree.UnresolvedFuture.{UnresolvedFuture}
use Rattle.vm_state.specs.Entries.{IsInOrder}
use Rattle.vm_state.specs.States.{value_known, known_keys}
use Rattle.vm_asks.specs.declared.state_read.StateRead.TheVariants as reads
use Rattle.vm_asks.specs.StateReads.{own_form}
use Rattle.vm_model.specs.Calls.{Setup, Meaning, Derived, is_awake, is_cancelled_in}
use Rattle.journal_entries.specs.Journal.{Entry, commands_in, notifications_in, input_read_from, messages_in, stored_form}
use Rattle.vm_model.specs.Moves.{Point, after, next, start, supplied, longer, arrival_used, changed_by}

-- A point is reached on a journal: some number of moves leads to it from the point after the input.
abbrev pub Told : Setup → Meaning → InputCommand → List Notification → List RawMessage → Point
    → Type 0
Told s m input ns cs p = (n : ℕ) × (after s m n (start s input ns cs) ≡ Some p)

-- ---- what is known of the state

-- What is known of a state, an ordered map, is so in this one: each key is unknown or as there, and
-- so are all keys together.
pub record IsTrueOf (now state : StateMap) : Type 0 where
  pub in_order : IsInOrder state.entries
  pub at : (key : List ℕ) → (value_known key state ≡ Unknown)
      ⊎ (value_known key state ≡ value_known key now)
  pub keys : (known_keys state ≡ None) ⊎ (known_keys state ≡ known_keys now)

-- As much is known of a state, an ordered map, as of this one, and it is so there.
pub record IsAllOf (now state : StateMap) : Type 0 where
  pub in_order : IsInOrder state.entries
  pub at : (key : List ℕ) → value_known key state ≡ value_known key now
  pub keys : known_keys state ≡ known_keys now

-- the states that a call may go by, after the commands said so far
abbrev pub Knowledge : Type 1
Knowledge = StateMap → List Message → Type 0

-- an attempt was handed this state, and its calls have changed it since
abbrev pub Handed : StateMap → Knowledge
Handed given state said = state ≡ changed_by said given

-- what is known is so, where the commands so far have changed the base
abbrev pub Honest : StateMap → Knowledge
Honest base state said = IsTrueOf (changed_by said base) state

-- all is known that the base says, where the commands so far have changed it
abbrev pub Whole : StateMap → Knowledge
Whole base state said = IsAllOf (changed_by said base) state

-- A recorded command that is an eager read is stored just as this state gives it.
abbrev pub EagerReadMatches : StateMap → RawMessage → Option Message → Type 0
EagerReadMatches state raw (Some (message.GetEagerState c)) = (id : ℕ) → raw
    ≡ stored_form (own_form (reads.Value c.key c.name) id state)
EagerReadMatches state raw (Some (message.GetEagerStateKeys c)) = (id : ℕ) → raw
    ≡ stored_form (own_form (reads.Keys c.name) id state)
EagerReadMatches state raw m = Unit {0}

-- the result that an eager read records of a key, by what is known of it
abbrev pub recorded_value : Known → Option VoidOrValue
recorded_value Unknown = None
recorded_value Empty = Some stands.Void
recorded_value (Value value) = Some (stands.Value value)

-- each recorded eager read is as the state is there, by the recorded commands before it
abbrev pub EagerFrom : StateMap → List RawMessage → Type 0
EagerFrom state [] = Unit {0}
EagerFrom state (c ∷ cs) = EagerReadMatches state c (message_in c.ty c.body)
    × EagerFrom (changed_by (messages_in (c ∷ [])) state) cs

-- ---- histories

-- The journal is one history of the handler, each command once: it begins with an input, some point
-- that is reached on it with its own notifications uses all its commands, and each eager read is as
-- the state is there, from the base on.
pub record History (s : Setup) (m : Meaning) (base : StateMap) (journal : List Entry) : Type 0 where
  pub first : RawMessage
  pub input : InputCommand
  pub reads : input_read_from first ≡ Some input
  pub rest : List RawMessage
  pub begins : commands_in journal ≡ first ∷ rest
  pub at : Point
  pub told : Told s m input (notifications_in journal) rest at
  pub uses_all : at.left ≡ []
  pub eager : EagerFrom base rest

-- This number of moves leads from p to q and makes these commands: each that was needed and not
-- recorded. Such a command is the call's own, by a state that it may go by.
abbrev pub Made : Setup → Meaning → Knowledge → ℕ → Point → List RawMessage → Point → Type 0
Made s m Knows zero p made q = (made ≡ []) × (p ≡ q)
Made s m Knows (suc n) p made q =
    (state : StateMap) × (r : Point) × (rest : List RawMessage)
    × Knows state p.said
    × (made ≡ supplied s m state p ++ rest)
    × (next s m (longer (supplied s m state p) p) ≡ Some r)
    × Made s m Knows n r rest q

-- these are the first commands of a run that nothing disturbs: its reads go by all of the base
abbrev pub Undisturbed : Setup → Meaning → StateMap → InputCommand → List Notification
    → List RawMessage → Type 0
Undisturbed s m base input ns cs =
    (n : ℕ) × (q : Point) × Made s m (Whole base) n (start s input ns []) cs q

-- no move comes next, not even with the call's own command, by what is known of the state
abbrev pub IsStuck : Setup → Meaning → StateMap → Point → Type 0
IsStuck s m state p = next s m (longer (supplied s m state p) p) ≡ None

-- all but the first
abbrev pub after_head : {A : Type 0} → List A → List A
after_head [] = []
after_head (x ∷ xs) = xs

-- the second list begins with the first
abbrev pub IsPrefix : {A : Type 0} → List A → List A → Type 0
IsPrefix {A} xs ys = (rest : List A) × (ys ≡ xs ++ rest)

-- of two lists one is a prefix of the other
abbrev pub OneBegins : {A : Type 0} → List A → List A → Type 0
OneBegins xs ys = IsPrefix xs ys ⊎ IsPrefix ys xs

-- ---- awaits

-- arrivals are used, one after another
abbrev pub arrivals_used : List Notification → Derived → Derived
arrivals_used [] d = d
arrivals_used (n ∷ ns) d = arrivals_used ns (arrival_used n d)

-- the least number of the next arrivals after which the test holds
pub record IsLeast (test : Derived → Bool) (d : Derived) (queue : List Notification)
    (n : ℕ) : Type 0 where
  pub there : n ≤ length queue
  pub holds : test (arrivals_used (take n queue) d) ≡ true
  pub least : (i : ℕ) → i < n → test (arrivals_used (take i queue) d) ≡ false

-- the handler awaits this future
abbrev pub IsAwaiting : Meaning → Point → UnresolvedFuture → Type 0
IsAwaiting m p future = m p.answers ≡ step.Await future

-- what ends an await: the handler is cancelled, or the future is awake
abbrev pub ends_await : Setup → UnresolvedFuture → Derived → Bool
ends_await s future d = is_cancelled_in s d || is_awake s future d
