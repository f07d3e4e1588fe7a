-- Names that C gives.
use Rattle.std.proofs.Common.{◌≡◌, ℕ, List, true, false, Bool, Ok, Err, refl}
use Rattle.std.specs.Str.{IsUtf8, is_utf8}
use Rattle.std.proofs.lemmas.Str.{IsUtf8-from_is_utf8, is_utf8-from_IsUtf8}
use Rattle.journal_protocol.specs.NotificationId.TheVariants.{SignalName}
use Rattle.c_values.specs.declared.status.Status.TheVariants as status
use Rattle.c_values.specs.Reading.{name_id}

-- a name that is UTF-8 is an id
pub name_is : (name : List ℕ) → IsUtf8 name → name_id name ≡ Ok (SignalName name)
name_is name u = rw (is_utf8-from_IsUtf8 name u) refl

not_utf8 : (name : List ℕ) (b : Bool) → is_utf8 name ≡ b → ¬ IsUtf8 name → is_utf8 name ≡ false
not_utf8 name true e bad = absurd (bad (IsUtf8-from_is_utf8 name e))
not_utf8 name false e bad = e

-- another is none
pub no_name : (name : List ℕ) → ¬ IsUtf8 name → name_id name ≡ Err status.BadText
no_name name bad = rw (not_utf8 name (is_utf8 name) refl bad) refl
