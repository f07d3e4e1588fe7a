-- Numbers and byte strings as they are written on a line.
use Rattle.std.specs.Prelude.{◌≡◌, ◌⊎◌, ◌+◌, ◌*◌, ◌/◌, ◌%◌, ◌<◌, ◌^◌, ◌==◌, ◌&&◌, ◌||◌, ℕ, Bool, nat_lt, not, if◌then◌else◌, List, [], ◌∷◌, ◌++◌, Option, Some, None}
use Rattle.std.specs.Char.{digit_value, digit_char, is_digit}
use Rattle.std.specs.List.{flat_map}
use Rattle.std.specs.Str.{IsUtf8}
use Rattle.std.specs.Str.Parse.{IsNumeral, digits_value}

-- decimal digits of a number that fits 64 bits
abbrev pub IsNumber : List ℕ → Type 0
IsNumber text = IsNumeral 10 text × (digits_value 10 text < 2 ^ 64)

-- a byte in two hex digits
abbrev pub in_hex : ℕ → List ℕ
in_hex b = digit_char (b / 16) ∷ digit_char (b % 16) ∷ []

-- the byte of two hex digits
unfoldable pub hex_byte : ℕ → ℕ → Option ℕ
hex_byte high low =
    if is_digit high 16 && is_digit low 16 then Some (digit_value high * 16 + digit_value low)
    else None

-- a byte, if there is one, and what follows it
abbrev pub before : Option ℕ → List ℕ → Option (ℕ × List ℕ)
before None rest = None
before (Some b) rest = Some (b, rest)

-- the byte of the first two hex digits, and what follows
abbrev pub first_hex : List ℕ → Option (ℕ × List ℕ)
first_hex [] = None
first_hex (high ∷ []) = None
first_hex (high ∷ low ∷ rest) = before (hex_byte high low) rest

-- the byte of an escape after its backslash, and what follows
unfoldable pub escaped : List ℕ → Option (ℕ × List ℕ)
escaped [] = None
escaped (c ∷ rest) =
    if c == 34 || c == 92 then Some (c, rest) else if c == 120 then first_hex rest else None

-- the byte of the first character between quotes, or of the first escape, and what follows
unfoldable pub first_char : List ℕ → Option (ℕ × List ℕ)
first_char [] = None
first_char (c ∷ rest) =
    if c == 34 then None else if c == 92 then escaped rest else Some (c, rest)

-- the text is these bytes, taken off its front one by one
abbrev pub Spells : (List ℕ → Option (ℕ × List ℕ)) → List ℕ → List ℕ → Type 0
Spells first text [] = text ≡ []
Spells first text (b ∷ bytes) = (rest : List ℕ) × (first text ≡ Some (b, rest))
    × Spells first rest bytes

-- bytes in quotes
abbrev pub IsQuoted : List ℕ → List ℕ → Type 0
IsQuoted text bytes =
    (inside : List ℕ) × (text ≡ 34 ∷ (inside ++ 34 ∷ [])) × Spells first_char inside bytes

-- bytes as hex digits after 0x
abbrev pub IsHex : List ℕ → List ℕ → Type 0
IsHex text bytes = (digits : List ℕ) × (text ≡ 48 ∷ 120 ∷ digits) × Spells first_hex digits bytes

-- the text is an atom of these bytes
abbrev pub IsAtom : List ℕ → List ℕ → Type 0
IsAtom text bytes = IsQuoted text bytes ⊎ IsHex text bytes

-- printable ASCII that needs no escape between quotes
abbrev pub is_plain : ℕ → Bool
is_plain b = nat_lt 31 b && nat_lt b 127 && not (b == 34) && not (b == 92)

-- a byte between quotes, as it is printed
unfoldable pub printed_byte : ℕ → List ℕ
printed_byte b = if is_plain b then b ∷ [] else 92 ∷ 120 ∷ in_hex b

-- bytes in quotes, as they are printed
abbrev pub quoted : List ℕ → List ℕ
quoted bytes = 34 ∷ (flat_map printed_byte bytes ++ 34 ∷ [])

-- bytes as hex digits, as they are printed
abbrev pub hexed : List ℕ → List ℕ
hexed bytes = 48 ∷ 120 ∷ flat_map in_hex bytes

-- the text is an atom of these bytes, and they are UTF-8
abbrev pub IsText : List ℕ → List ℕ → Type 0
IsText text bytes = IsAtom text bytes × IsUtf8 bytes
