-- What a line of the script asks for.
use Rattle.std.specs.Prelude.{◌≡◌, ◌≢◌, ◌⊎◌, ◌==◌, ◌||◌, ℕ, Bool, true, false, List, drop, length, nat_eq, codes, string_bytes}
use Rattle.std.specs.Borrow.{Bor}
use Rattle.std.specs.Cmp.Lexicographic.{pointwise}
use Rattle.std.specs.List.{starts_with}
use Rattle.std.specs.Str.{IsTrimAscii, IsUtf8}
use Rattle.lines.specs.Atoms.{IsText}
use Rattle.lines.specs.Pieces.{AreWords, outside, place}
use Rattle.vm_types.specs.declared.options.VMOptions.{VMOptions}
use Rattle.vm_types.specs.declared.content_type.ContentType.{ContentType}
use Rattle.vm_types.specs.declared.content_type.ContentType.TheVariants.{Absent, Unreadable, Named}
use Rattle.vm_types.specs.declared.call.Call.{Call}
use Rattle.call_lines.specs.declared.request.Request.{Request}
use Rattle.call_lines.specs.declared.request.Request.TheVariants as request
use Rattle.call_lines.specs.Verbs.{IsAsked}
use Rattle.line_parts.specs.VmOptions.{AreOptions}
use Rattle.lines.specs.Text.{says_nothing}
use Rattle.lines.specs.Words.{text_at}

-- whether the first word of a line without blanks at its ends is `vm`
unfoldable pub begins_with_vm : List ℕ → Bool
begins_with_vm text = pointwise nat_eq text (codes "vm") || starts_with nat_eq text (codes "vm ")

-- the content type that a word of a `vm` line names
abbrev pub IsContentType : List ℕ → ContentType → Type 0
IsContentType word Absent = word ≡ codes "-"
IsContentType word Unreadable = word ≡ codes "!"
IsContentType word (Named text) = IsText word (string_bytes text)

-- these words are `vm`, this content type and these options
pub record IsMade (words : List (Bor (List ℕ))) (made : ContentType × VMOptions) : Type 0 where
  pub name : text_at 0 words ≡ codes "vm"
  pub content_type : IsContentType (text_at 1 words) made.0
  pub options : AreOptions (drop 2 words) made.1

-- the line is UTF-8, and these are its words
abbrev pub HasWords : List ℕ → List (Bor (List ℕ)) → Type 0
HasWords text words = IsUtf8 text × AreWords text words

-- why a line has no words: it isn't UTF-8, or its quotes or brackets aren't closed
abbrev pub HasNoWords : List ℕ → Type 0
HasNoWords text = (IsUtf8 text → ⊥) ⊎ (place text ≢ outside)

-- the words of the line make a VM of this content type and these options
abbrev pub MakesWith : List ℕ → ContentType → VMOptions → Type 0
MakesWith text content_type options =
    (words : List (Bor (List ℕ))) × HasWords text words × IsMade words (content_type, options)

-- these words make no VM
pub record MakeNothing (words : List (Bor (List ℕ))) : Type 0 where
  pub nothing : (made : ContentType × VMOptions) → IsMade words made → ⊥

-- why a line makes no VM: it has no words, or its words make none
abbrev pub MakesNothing : List ℕ → Type 0
MakesNothing text =
    HasNoWords text ⊎ ((words : List (Bor (List ℕ))) × HasWords text words × MakeNothing words)

-- the words of the line ask for this call
abbrev pub AsksCall : List ℕ → Call → Type 0
AsksCall text call = (words : List (Bor (List ℕ))) × HasWords text words × IsAsked words call

-- these words ask for no call
pub record AskNothing (words : List (Bor (List ℕ))) : Type 0 where
  pub nothing : (call : Call) → IsAsked words call → ⊥

-- why a line asks for no call: it has no words, or its words ask for nothing
abbrev pub AsksNothing : List ℕ → Type 0
AsksNothing text =
    HasNoWords text ⊎ ((words : List (Bor (List ℕ))) × HasWords text words × AskNothing words)

-- What a line without blanks at its ends asks for. One that begins with `vm` makes a VM, and any
-- other is a call. It is bad if it has no words, or if its words make or ask for nothing.
abbrev pub MakesRequest : List ℕ → Request → Type 0
MakesRequest text request.Nothing = says_nothing text ≡ true
MakesRequest text request.Bad =
    (says_nothing text ≡ false) × (begins_with_vm text ≡ false) × AsksNothing text
MakesRequest text request.BadMake =
    (says_nothing text ≡ false) × (begins_with_vm text ≡ true) × MakesNothing text
MakesRequest text (request.Make content_type options) = (says_nothing text ≡ false)
    × (begins_with_vm text ≡ true) × MakesWith text content_type options
MakesRequest text (request.Call call) = (says_nothing text ≡ false) × (begins_with_vm text ≡ false)
    × AsksCall text call

-- what a line asks for; blanks at its ends don't count
abbrev pub IsRequestLine : List ℕ → Request → Type 0
IsRequestLine line asked = (text : List ℕ) × IsTrimAscii line text × MakesRequest text asked
