-- What a layer of messages says, and what a translation of one into another is.
use Rattle.std.specs.Prelude.{◌≡◌, ℕ, ◌≤◌, List, [], ◌∷◌, ◌++◌, length, drop, Option, Some, None, Result, Ok, Err}
use Rattle.std.specs.List.{flat_map, AllByRecursion}
use Rattle.plain.specs.declared.fault.Fault.{Fault}
use Rattle.plain.specs.declared.fault.Fault.TheVariants as fault
use Rattle.journal_protocol.specs.Message.{Message}
use Rattle.vm_layers.specs.declared.layer.LayerFault.{LayerFault}
use Rattle.vm_layers.specs.declared.layer.LayerFault.TheVariants.{Memory, Malformed as BadBytes, NoSuchMessage, TooLong}

-- what is at the front of a stream: a whole message and the bytes after it, less than a frame, or
-- no frame of a message
pub data Front : Type 0 where
  Whole : Message → List ℕ → Front
  Partial : Front
  Malformed : Front

-- the fault of this repository's own bytes, as one of a layer
abbrev pub layer_fault : Fault → LayerFault
layer_fault fault.Memory = Memory
layer_fault fault.Malformed = BadBytes

-- A message's frame is added to what was written. A message that is refused adds nothing: the layer
-- has no such message, or the message doesn't fit a frame. Out of memory adds nothing either, and
-- says nothing of the message.
abbrev pub Encoded : (Message → Type 0) → (Message → Type 0) → (Message → List ℕ) → Message
    → List ℕ → Result (Unit {0}) LayerFault → List ℕ → Type 0
Encoded Has Fits frame m old (Ok _) new = Fits m × (new ≡ old ++ frame m)
Encoded Has Fits frame m old (Err Memory) new = new ≡ old
Encoded Has Fits frame m old (Err BadBytes) new = ⊥
Encoded Has Fits frame m old (Err NoSuchMessage) new = (Has m → ⊥) × (new ≡ old)
Encoded Has Fits frame m old (Err TooLong) new = Has m × (Fits m → ⊥) × (new ≡ old)

-- The message at the front is read, with the length of its frame; none if it isn't whole yet. Want
-- of memory says nothing of the bytes.
abbrev pub IsFrontRead : (List ℕ → Front) → List ℕ → Result (Option (Message × ℕ)) LayerFault
    → Type 0
IsFrontRead front bs (Ok (Some x)) = (x.1 ≤ length bs) × (front bs ≡ Whole x.0 (drop x.1 bs))
IsFrontRead front bs (Ok None) = front bs ≡ Partial
IsFrontRead front bs (Err Memory) = Unit {0}
IsFrontRead front bs (Err BadBytes) = front bs ≡ Malformed
IsFrontRead front bs (Err NoSuchMessage) = ⊥
IsFrontRead front bs (Err TooLong) = ⊥

-- these messages stand at the front of the stream, one after another, and then the rest
abbrev pub HoldsMessages : (List ℕ → Front) → List ℕ → List Message → List ℕ → Type 0
HoldsMessages front bs [] rest = bs ≡ rest
HoldsMessages front bs (m ∷ ms) rest = (next : List ℕ) × (front bs ≡ Whole m next)
    × HoldsMessages front next ms rest

-- Some whole messages at the front of a stream were taken off it, each of which fits the other
-- layer. Their frames there were added to what was written, one after another.
pub record Moves (front : List ℕ → Front) (Fits : Message → Type 0) (frame : Message → List ℕ)
    (stream : List ℕ) (rest : List ℕ) (old : List ℕ) (new : List ℕ) : Type 0 where
  pub messages : List Message
  pub held : HoldsMessages front stream messages rest
  pub fit : AllByRecursion Fits messages
  pub written : new ≡ old ++ flat_map frame messages

-- Why a translation stops: no whole message is left, or what is left begins with no frame, with a
-- message that the other layer doesn't have, or with one that doesn't fit a frame there. Out of
-- memory says nothing of what is left.
abbrev pub Stops : (List ℕ → Front) → (Message → Type 0) → (Message → Type 0) → List ℕ
    → Result (Unit {0}) LayerFault → Type 0
Stops front Has Fits rest (Ok _) = front rest ≡ Partial
Stops front Has Fits rest (Err Memory) = Unit {0}
Stops front Has Fits rest (Err BadBytes) = front rest ≡ Malformed
Stops front Has Fits rest (Err NoSuchMessage) =
    (m : Message) × (next : List ℕ) × (front rest ≡ Whole m next) × (Has m → ⊥)
Stops front Has Fits rest (Err TooLong) =
    (m : Message) × (next : List ℕ) × (front rest ≡ Whole m next) × Has m × (Fits m → ⊥)
