-- What a VM takes of a peer that speaks a layer, and what it hands out to it.
use Rattle.std.specs.Prelude.{◌≡◌, ◌⊎◌, ℕ, if◌then◌else◌, List, [], ◌∷◌, ◌++◌, None, Result, Ok, Err}
use Rattle.std.specs.List.{concat, flat_map, AllByRecursion}
use Rattle.journal_protocol.specs.Errors.{no_memory}
use Rattle.journal_protocol.specs.Frames.{IsWhole, encoding}
use Rattle.journal_protocol.specs.Message.{Message}
use Rattle.vm_machine.specs.Outcomes.{IsStarved}
use Rattle.invocation_vm.specs.Views.{StarvesAmong, View, after_input, has_failed, messages_in_bytes, spoiled}
use Rattle.vm_layers.specs.Layers.{Front, HoldsMessages, Moves, Stops}
use Rattle.vm_layers.specs.Steps.{IsSettled}
use Rattle.vm_layers.specs.declared.layer.LayerFault.{LayerFault}
use Rattle.vm_layers.specs.declared.layer.LayerFault.TheVariants.{Memory, Malformed as BadBytes, NoSuchMessage, TooLong}

-- a layer that has each message
abbrev pub HasEach : Message → Type 0
HasEach m = Unit {0}

-- no frame of a message follows: a VM fails as by bytes of its own that are none
abbrev pub refused_input : View → View
refused_input v = record v { machine = spoiled v.machine }

-- the translation of a VM's input ended so: by no fault, or by one
abbrev pub faulted : Result (Unit {0}) LayerFault → View → View
faulted (Ok _) v = v
faulted (Err fault) v = refused_input v

-- the VM once these messages came, and then a fault or none
abbrev pub after_messages : List Message → Result (Unit {0}) LayerFault → View → View
after_messages ms fault v = faulted fault (after_input v (flat_map encoding ms))

-- what waits beside a VM: nothing, once it has failed
abbrev pub kept_by : View → List ℕ → List ℕ
kept_by v rest = if has_failed v.machine then [] else rest

-- A piece comes over a layer, after what waited. These messages stand at its front, and the VM
-- takes them, one after another. If it hasn't failed by them, they are all: what follows is less
-- than a frame, which waits, or it is the fault by which the VM fails. A VM that has failed stays
-- as it is, and drops what follows.
pub record ComesOver (front : List ℕ → Front) (waited piece : List ℕ) (old : View)
    (waits : List ℕ) (new : View) : Type 0 where
  pub messages : List Message
  pub rest : List ℕ
  pub fault : Result (Unit {0}) LayerFault
  pub held : HoldsMessages front (waited ++ piece) messages rest
  pub fit : AllByRecursion IsWhole messages
  pub all : (after_input old (flat_map encoding messages)).machine.failure ≡ None
      → Stops front HasEach IsWhole rest fault × IsSettled fault
  pub vm : new ≡ after_messages messages fault old
  pub waiting : waits ≡ kept_by new rest

-- no memory is found for these bytes of the VM's own, or after them
abbrev pub FoundNone : View → List ℕ → View → Type 0
FoundNone old fed new = StarvesAmong (messages_in_bytes old fed) old.machine new.machine
    ⊎ (((after_input old fed).machine.failure ≡ None)
    × IsStarved (after_input old fed).machine no_memory new.machine)

-- A VM that hasn't failed finds no memory: once some of the messages came that stand at the front,
-- or to say that a fault follows them.
pub record StarvesOver (front : List ℕ → Front) (waited piece : List ℕ) (old : View)
    (waits : List ℕ) (new : View) : Type 0 where
  pub messages : List Message
  pub rest : List ℕ
  pub held : HoldsMessages front (waited ++ piece) messages rest
  pub fit : AllByRecursion IsWhole messages
  pub starves : FoundNone old (flat_map encoding messages) new
  pub waiting : waits ≡ []

-- the same, by how the translation of these bytes ended: without memory for it the VM takes none
abbrev pub FeedStarves : Result (Unit {0}) LayerFault → View → List ℕ → View → Type 0
FeedStarves (Err Memory) old fed new = IsStarved old.machine no_memory new.machine
FeedStarves came old fed new = FoundNone old fed new

-- What is whole of these bytes was translated; without memory nothing is said.
abbrev pub Pushed : (List ℕ → Front) → List ℕ → List ℕ → List ℕ → List ℕ
    → Result (Unit {0}) LayerFault → Type 0
Pushed front stream rest old new (Err Memory) = Unit {0}
Pushed front stream rest old new came = Moves front IsWhole encoding stream rest old new
    × Stops front HasEach IsWhole rest came

-- what a VM wrote and wasn't handed out: what waits beside it, and its output
abbrev pub unsent : List ℕ → View → List ℕ
unsent waits v = waits ++ concat v.machine.output

-- nothing of a VM changes except its output
abbrev pub WithOutput : View → View → Type 0
WithOutput old new =
    new ≡ record old { machine = record old.machine { output = new.machine.output } }

-- Why no more is handed out of these messages: there are none, or the layer doesn't have the first
-- of them, or it doesn't fit a frame there. Out of memory says nothing of them.
abbrev pub EndsBefore : (Message → Type 0) → (Message → Type 0) → List Message
    → Result (Unit {0}) LayerFault → Type 0
EndsBefore Has Fits left (Ok _) = left ≡ []
EndsBefore Has Fits left (Err Memory) = Unit {0}
EndsBefore Has Fits left (Err BadBytes) = ⊥
EndsBefore Has Fits left (Err NoSuchMessage) =
    (m : Message) × (later : List Message) × (left ≡ m ∷ later) × (Has m → ⊥)
EndsBefore Has Fits left (Err TooLong) =
    (m : Message) × (later : List Message) × (left ≡ m ∷ later) × Has m × (Fits m → ⊥)

-- Of these messages the first were handed out, in the layer; the others are left.
pub record HandsOut (Has : Message → Type 0) (Fits : Message → Type 0) (frame : Message → List ℕ)
    (written : List Message) (rest : List ℕ) (old : List ℕ) (new : List ℕ)
    (result : Result (Unit {0}) LayerFault) : Type 0 where
  pub sent : List Message
  pub left : List Message
  pub split : written ≡ sent ++ left
  pub fit : AllByRecursion Fits sent
  pub out : new ≡ old ++ flat_map frame sent
  pub stays : rest ≡ flat_map encoding left
  pub ends : EndsBefore Has Fits left result
