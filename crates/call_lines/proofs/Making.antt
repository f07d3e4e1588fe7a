-- Words of a `vm` line that make no VM.
use Rattle.std.proofs.Common.{◌≡◌, ◌≢◌, ◌<◌, inl, inr, ℕ, List, [], codes, length, drop, get_or, ap, sym, subst, ◌∙◌, arith, string_bytes}
use Rattle.std.specs.Borrow.{Bor}
use Rattle.plain.specs.declared.fault.Fault.{Fault}
use Rattle.plain.specs.declared.fault.Fault.TheVariants.{Malformed}
use Rattle.lines.specs.Atoms.{IsText}
use Rattle.lines.specs.Readings.{Blames}
use Rattle.vm_types.specs.declared.content_type.ContentType.{ContentType}
use Rattle.vm_types.specs.declared.content_type.ContentType.TheVariants.{Absent, Unreadable, Named}
use Rattle.call_lines.specs.Lines.{HasNoWords, HasWords, IsContentType, IsMade, MakesNothing}
use Rattle.line_parts.specs.VmOptions.{AreOptions}
use Rattle.lines.proofs.Missing.{no_text_at, none_at}
use Rattle.lines.proofs.Places.{word_at}

pub unnamed_blamed : (text : List ℕ) (fault : Fault) → text ≢ codes "-" → text ≢ codes "!" → Blames (IsText text) fault → Blames (IsContentType text) fault
unnamed_blamed text fault a b blames = record { nothing = λ bad it is. go bad it is }
  where
    go : fault ≡ Malformed → (it : ContentType) → IsContentType text it → ⊥
    go bad Absent is = a is
    go bad Unreadable is = b is
    go bad (Named name) is = blames.nothing bad (string_bytes name) is

-- too few words
pub few_make : (words : List (Bor (List ℕ))) (fault : Fault) → length words < 2 → Blames (IsMade words) fault
few_make words fault h = record { nothing = λ bad made is. go bad made.0 (subst (λ t. IsContentType t made.0) (none_at 1 words (omega arith)) is.content_type) }
  where
    empty : (name : List ℕ) → get_or name 0 0 ≢ 0 → [] ≡ name → ⊥
    empty name some e = some (ap (λ t. get_or t 0 0) (sym e))

    go : fault ≡ Malformed → (it : ContentType) → IsContentType [] it → ⊥
    go bad Absent is = empty (codes "-") (omega arith) is
    go bad Unreadable is = empty (codes "!") (omega arith) is
    go bad (Named name) is = (no_text_at 0 [] fault (omega arith)).nothing bad (string_bytes name) is

pub name_blamed : (words : List (Bor (List ℕ))) (d : Bor (List ℕ)) (fault : Fault) → 0 < length words → (get_or words 0 d).now ≢ codes "vm" → Blames (IsMade words) fault
name_blamed words d fault h other = record { nothing = λ bad made is. other (word_at words 0 d h ∙ is.name) }

pub options_blamed : (words : List (Bor (List ℕ))) (fault : Fault) → Blames (AreOptions (drop 2 words)) fault → Blames (IsMade words) fault
options_blamed words fault blames = record { nothing = λ bad made is. blames.nothing bad made.1 is.options }

pub content_type_blamed : (words : List (Bor (List ℕ))) (d : Bor (List ℕ)) (fault : Fault) → 1 < length words → Blames (IsContentType (get_or words 1 d).now) fault → Blames (IsMade words) fault
content_type_blamed words d fault h blames = record { nothing = λ bad made is. blames.nothing bad made.0 (subst (λ t. IsContentType t made.0) (sym (word_at words 1 d h)) is.content_type) }

pub wordless_makes : (text : List ℕ) → HasNoWords text → MakesNothing text
wordless_makes text none = inl none

pub words_make : (text : List ℕ) (words : List (Bor (List ℕ))) (fault : Fault) → HasWords text words → Blames (IsMade words) fault → fault ≡ Malformed → MakesNothing text
words_make text words fault are blames bad = inr (words, are, record { nothing = λ made is. blames.nothing bad made is })
