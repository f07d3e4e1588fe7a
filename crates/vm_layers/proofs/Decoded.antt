-- The message at the front, once its parts are read.
use Rattle.std.proofs.Common.{◌≡◌, ℕ, ◌+◌, ◌≤◌, List, length, take, drop, Option, Some, None, Err, refl, ap, ◌∙◌}
use Rattle.std.specs.Int.{w16, w32, from_be_bytes}
use Rattle.journal_protocol.specs.Bodies.{Read, message_in}
use Rattle.plain.specs.declared.fault.Fault.{Fault}
use Rattle.plain.specs.declared.fault.Fault.TheVariants as fault
use Rattle.journal_protocol.specs.MessageType.{MessageType}
use Rattle.journal_protocol.specs.Message.{Message}
use Rattle.vm_layers.specs.Layers.{IsFrontRead, Malformed, Whole, layer_fault}
use Rattle.vm_layers.specs.Own.{front_if}
use Rattle.vm_layers.specs.ShortLaws.{whole_frame}
use Rattle.journal_protocol.specs.Version.{Version}
use Rattle.vm_layers.specs.Short.{body_in, short_front, short_front_in, type_in}

-- n bytes and a number stand after the length
pub record IsFramed (bs : List ℕ) (n : ℕ) : Type 0 where
  pub long : n + 6 ≤ length bs
  pub len : n ≡ from_be_bytes w32 (take 4 bs)

abbrev pub type_behind : Version → List ℕ → ℕ → Option MessageType
type_behind v bs n = type_in v (from_be_bytes w16 (take 2 (drop (n + 4) bs)))

none_spelled : (ty : Option MessageType) (rest : List ℕ) → short_front_in ty None rest ≡ Malformed
none_spelled None rest = refl
none_spelled (Some ty) rest = refl

pub no_type : (v : Version) (bs : List ℕ) (n : ℕ) → IsFramed bs n → type_behind v bs n ≡ None → short_front v bs ≡ Malformed
no_type v bs n f e = whole_frame v bs n f.long f.len ∙ ap (λ z. short_front_in z (body_in (take n (drop 4 bs))) (drop (n + 6) bs)) e

pub no_body : (v : Version) (bs : List ℕ) (n : ℕ) → IsFramed bs n → body_in (take n (drop 4 bs)) ≡ None → short_front v bs ≡ Malformed
no_body v bs n f e = whole_frame v bs n f.long f.len ∙ ap (λ z. short_front_in (type_behind v bs n) z (drop (n + 6) bs)) e ∙ none_spelled (type_behind v bs n) (drop (n + 6) bs)

parts : (v : Version) (bs : List ℕ) (n : ℕ) (ty : MessageType) (b : List ℕ) → IsFramed bs n → type_behind v bs n ≡ Some ty → body_in (take n (drop 4 bs)) ≡ Some b
    → short_front v bs ≡ front_if (message_in ty b) (drop (n + 6) bs)
parts v bs n ty b f t e = whole_frame v bs n f.long f.len ∙ ap (λ z. short_front_in z (body_in (take n (drop 4 bs))) (drop (n + 6) bs)) t
    ∙ ap (λ z. short_front_in (Some ty) z (drop (n + 6) bs)) e

pub read : (v : Version) (bs : List ℕ) (n : ℕ) (ty : MessageType) (b : List ℕ) (m : Message) → IsFramed bs n → type_behind v bs n ≡ Some ty → body_in (take n (drop 4 bs)) ≡ Some b
    → message_in ty b ≡ Some m → (n + 6 ≤ length bs) × (short_front v bs ≡ Whole m (drop (n + 6) bs))
read v bs n ty b m f t e r = (f.long, parts v bs n ty b f t e ∙ ap (λ z. front_if z (drop (n + 6) bs)) r)

pub refused : (v : Version) (bs : List ℕ) (n : ℕ) (ty : MessageType) (b : List ℕ) (why : Fault) → IsFramed bs n → type_behind v bs n ≡ Some ty → body_in (take n (drop 4 bs)) ≡ Some b
    → Read (message_in ty b) (Err why) → IsFrontRead (short_front v) bs (Err (layer_fault why))
refused v bs n ty b fault.Memory f t e r = tt
refused v bs n ty b fault.Malformed f t e r = parts v bs n ty b f t e ∙ ap (λ z. front_if z (drop (n + 6) bs)) r
