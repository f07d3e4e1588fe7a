-- Messages in other bytes: the length of what is between, a mark and the body, and the type's
-- number. Below version 7 a suspension is written without its tree, and what is awaited isn't
-- reported.
use Rattle.std.specs.Prelude.{◌≡◌, ℕ, ◌+◌, ◌<◌, ◌^◌, nat_lt, if◌then◌else◌, List, [], ◌∷◌, ◌++◌, length, take, drop, Bool, true, false, Option, Some, None, Result, Ok, Err}
use Rattle.std.proofs.Common.{Global}
use Rattle.std.specs.declared.vec.Vec.{Vec}
use Rattle.std.specs.Int.{w16, w32, to_be_bytes, from_be_bytes}
use Rattle.journal_protocol.specs.Types.{type_at, type_number}
use Rattle.journal_protocol.specs.MessageType.{MessageType}
use Rattle.journal_protocol.specs.MessageType.TheVariants as type
use Rattle.journal_protocol.specs.Frames.{IsWhole, body, type_of}
use Rattle.journal_protocol.specs.Bodies.{message_in}
use Rattle.journal_protocol.specs.Message.{Message}
use Rattle.journal_protocol.specs.Message.TheVariants as message
use Rattle.journal_protocol.specs.Suspension.{Suspension}
use Rattle.journal_protocol.specs.Version.{Version}
use Rattle.journal_protocol.specs.Versions.{is_from_v7}
use Rattle.vm_layers.specs.Kept.{kept_ids}
use Rattle.vm_layers.specs.Layers.{Front, Partial, Malformed}
use Rattle.vm_layers.specs.Own.{front_if}
use Rattle.vm_layers.specs.declared.layer.LayerFault.{LayerFault}
use Rattle.vm_layers.specs.declared.layer.LayerFault.TheVariants as fault
use Rattle.vm_layers.specs.declared.short.Short.{Short}

-- ---- what a version has

-- the suspension that a message is, if it is one
abbrev pub suspension_of : Message → Option Suspension
suspension_of (message.Suspension s) = Some s
suspension_of m = None

-- the suspension that is written without its tree: below version 7 each is
abbrev pub cut_in : Version → Message → Option Suspension
cut_in version m = if is_from_v7 version then None else suspension_of m

abbrev pub sent_if : Option Suspension → Message → Message
sent_if None m = m
sent_if (Some s) m = message.Suspension (record { future = kept_ids s.future })

-- what is written of a message
abbrev pub sent_form : Short → Message → Message
sent_form layer m = sent_if (cut_in layer.version m) m

-- a report of what is awaited came with version 7
abbrev pub knows_type : Version → MessageType → Bool
knows_type version type.AwaitingOn = is_from_v7 version
knows_type version ty = true

abbrev pub HasMessage : Short → Message → Type 0
HasMessage layer m = knows_type layer.version (type_of (sent_form layer m)) ≡ true

abbrev pub type_if_known : Version → Option MessageType → Option MessageType
type_if_known version None = None
type_if_known version (Some ty) = if knows_type version ty then Some ty else None

-- the type of this number, if the version has it
abbrev pub type_in : Version → ℕ → Option MessageType
type_in version n = type_if_known version (type_at n)

-- ---- frames

abbrev pub mark_of : Bool → ℕ
mark_of false = 0
mark_of true = 1

-- the length in four bytes, as many bytes, and the type's number in two
abbrev pub short_frame : MessageType → List ℕ → List ℕ
short_frame ty payload =
    to_be_bytes w32 (length payload) ++ payload ++ to_be_bytes w16 (type_number ty)

-- the frame of a message; with either mark it encodes the same message
abbrev pub short : Short → Message → List ℕ
short layer m =
    short_frame (type_of (sent_form layer m)) (mark_of layer.mark ∷ body (sent_form layer m))

-- the version has the message, and the length fits four bytes
abbrev pub IsShort : Short → Message → Type 0
IsShort layer m = HasMessage layer m × IsWhole (sent_form layer m)
    × (length (body (sent_form layer m)) + 1 < 2 ^ 32)

-- the frame is made, or the version has no such message, or it is too long
abbrev pub Framed : Short → Message → Result (Vec ℕ Global) LayerFault → Type 0
Framed layer m (Ok frame) = IsShort layer m × (frame.items ≡ short layer m)
Framed layer m (Err fault.Memory) = Unit {0}
Framed layer m (Err fault.Malformed) = ⊥
Framed layer m (Err fault.NoSuchMessage) = HasMessage layer m → ⊥
Framed layer m (Err fault.TooLong) = HasMessage layer m × (IsShort layer m → ⊥)

-- the body after its mark, if that is 0 or 1
abbrev pub body_in : List ℕ → Option (List ℕ)
body_in [] = None
body_in (mark ∷ b) = if nat_lt mark 2 then Some b else None

-- the message of this type and body, if there are both
abbrev pub short_front_in : Option MessageType → Option (List ℕ) → List ℕ → Front
short_front_in None b rest = Malformed
short_front_in (Some ty) None rest = Malformed
short_front_in (Some ty) (Some b) rest = front_if (message_in ty b) rest

-- what follows a length n: n bytes and the number of a type, or not all of them yet
abbrev pub sized : Version → ℕ → List ℕ → Front
sized v n bs = if nat_lt (length bs) (n + 2) then Partial
    else short_front_in (type_in v (from_be_bytes w16 (take 2 (drop n bs))))
    (body_in (take n bs)) (drop (n + 2) bs)

-- the message at the front of a stream
unfoldable pub short_front : Version → List ℕ → Front
short_front v bs = if nat_lt (length bs) 4 then Partial
    else sized v (from_be_bytes w32 (take 4 bs)) (drop 4 bs)
