-- What contracts see of a VM, and what its calls do to it.
use Rattle.std.specs.Prelude.{◌≡◌, ◌⊎◌, ◌<◌, ℕ, Bool, true, false, if◌then◌else◌, List, [], ◌∷◌, ◌++◌, length, Option, None, is_some, Result, Err, OnOk, OnErr, IfOk}
use Rattle.std.specs.List.{concat}
use Rattle.std.specs.declared.alloc.AllocError.{AllocError}
use Rattle.journal_protocol.specs.Error.{Error}
use Rattle.journal_protocol.specs.RawMessage.{RawMessage}
use Rattle.journal_protocol.specs.Errors.{no_memory}
use Rattle.vm_types.specs.declared.command_type.CommandRelationship.{CommandRelationship}
use Rattle.vm_parts.specs.Outboxes.{WholeStream}
use Rattle.vm_machine.specs.declared.machine.Machine.{Machine}
use Rattle.vm_machine.specs.Inputs.{message_step, malformed_step, close_step}
use Rattle.vm_machine.specs.Outcomes.{CalledBy, Does, DoesBy, Done, Failed, IsStarved, Outcome, called}
use Rattle.vm_machine.specs.Reports.{report_step}
use Rattle.journal_entries.specs.Frames.{Tail, Rest, Garbage, frames_of}

-- the machine, and the bytes that came and are no whole frame yet
pub record View : Type 0 where
  pub undecoded : List ℕ
  pub machine : Machine

-- there is a first error
abbrev pub has_failed : Machine → Bool
has_failed m = is_some m.failure

-- the machine that an event leaves
abbrev pub left_by : {A : Type 0} → Outcome A → Machine
left_by (Done a m) = m
left_by (Failed e m) = m

-- one message comes
unfoldable pub received : RawMessage → Machine → Machine
received raw m = left_by (called (message_step raw m) m)

-- bytes come that no frame begins with
unfoldable pub spoiled : Machine → Machine
spoiled m = left_by (called (malformed_step m) m)

-- messages come, one after another
abbrev pub all_received : List RawMessage → Machine → Machine
all_received [] m = m
all_received (raw ∷ raws) m = all_received raws (received raw m)

-- a machine that has failed drops the bytes that are left
abbrev pub left_over : Tail → Machine → View
left_over (Rest bytes) m = record { undecoded = if has_failed m then [] else bytes; machine = m }
left_over Garbage m = record { undecoded = []; machine = spoiled m }

-- the whole frames are taken
abbrev pub consumed : List RawMessage × Tail → Machine → View
consumed frames m = left_over frames.1 (all_received frames.0 m)

-- bytes come; a machine that has failed drops them
abbrev pub after_input : View → List ℕ → View
after_input v bytes =
    if has_failed v.machine then v else consumed (frames_of (v.undecoded ++ bytes)) v.machine

-- the input is closed
abbrev pub after_closing : View → View
after_closing v = record v { machine = left_by (called (close_step v.machine) v.machine) }

-- an error is reported
abbrev pub after_error : View → Error → Option CommandRelationship → View
after_error v e relationship =
    record v { machine = left_by (called (report_step e relationship v.machine) v.machine) }

-- the messages that bytes bring
abbrev pub messages_in_bytes : View → List ℕ → List RawMessage
messages_in_bytes v bytes = (frames_of (v.undecoded ++ bytes)).0

-- the first of these messages have come, and these are left
pub record HaveCome (raws left : List RawMessage) (old reached : Machine) : Type 0 where
  pub before : List RawMessage
  pub split : raws ≡ before ++ left
  pub machine : reached ≡ all_received before old

-- A machine that hasn't failed finds no memory, once the first of these messages have come, by
-- which it hasn't failed and has written nothing.
pub record StarvesAmong (raws : List RawMessage) (old new : Machine) : Type 0 where
  pub lives : old.failure ≡ None
  pub reached : Machine
  pub left : List RawMessage
  pub came : HaveCome raws left old reached
  pub live : reached.failure ≡ None
  pub quiet : reached.output ≡ old.output
  pub starved : IsStarved reached no_memory new

-- a call that brings these messages, and answers nothing or out of memory
pub record Leaves (raws : List RawMessage) (after : View) (r : Result Unit AllocError)
    (old new : View) : Type 0 where
  pub ok : OnOk r (new ≡ after)
  pub err : OnErr r (StarvesAmong raws old.machine new.machine)

-- A call: the machine does what the step says, and no byte is read.
abbrev pub Calls : {A : Type 0} → (Machine → Outcome A) → Result A Error → View → View → Type 0
Calls step r old new =
    Does (called (step old.machine) old.machine) r old.machine new.machine
    × (new.undecoded ≡ old.undecoded)

-- A call whose event may come to several outcomes.
abbrev pub CallsBy : {A : Type 0} → (Machine → Outcome A → Type 0) → Result A Error → View → View
    → Type 0
CallsBy R r old new =
    DoesBy (CalledBy (R old.machine) old.machine) r old.machine new.machine
    × (new.undecoded ≡ old.undecoded)

-- one frame was taken: there may be more, or this is the end
abbrev pub Goes : Bool → View → View → Type 0
Goes true old new =
    (new.machine.failure ≡ None) × (length new.undecoded < length old.undecoded)
    × (new.machine.output ≡ old.machine.output)
    × (consumed (frames_of new.undecoded) new.machine
    ≡ consumed (frames_of old.undecoded) old.machine)
    × ((raw : RawMessage) × ((frames_of old.undecoded).0 ≡ raw ∷ (frames_of new.undecoded).0)
    × (new.machine ≡ received raw old.machine))
Goes false old new = new ≡ consumed (frames_of old.undecoded) old.machine

-- all output is taken: whole frames, one after another, each of a message that can be read back; or
-- nothing is changed
pub record TakesOutput (r : Result (List ℕ) AllocError) (old new : View) : Type 0 where
  pub bytes : IfOk r (λ bytes. bytes ≡ concat old.machine.output)
  pub whole : IfOk r WholeStream
  pub ok : OnOk r (new ≡ record old { machine = record old.machine { output = [] } })
  pub err : OnErr r (new ≡ old)

-- a failed VM's answer: its first error, or out of memory for it; it stays as it is
abbrev pub AnswersFirst : {A : Type 0} → Error → Result A Error → View → View → Type 0
AnswersFirst e r old new = ((r ≡ Err e) ⊎ (r ≡ Err no_memory)) × (new ≡ old)
