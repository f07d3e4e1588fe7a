-- Bytes that are taken off a text one by one, and that what is printed is read back.
use Rattle.std.proofs.Common.{◌≡◌, ◌≢◌, ◌<◌, ◌+◌, ◌/◌, ◌%◌, ◌++◌, ℕ, suc, List, [], ◌∷◌, Option, Some, length, get_or, take, ap, refl, sym, ◌∙◌, append_assoc, arith}
use Rattle.std.specs.List.{flat_map}
use Rattle.std.specs.Char.{digit_char}
use Rattle.std.proofs.lemmas.Str.{digit_value-digit_char}
use Rattle.std.proofs.lemmas.List.{append-nil, take_more, flat_map_more}
use Rattle.memchr.specs.Find.{Nowhere, Passes, is_byte2}
use Rattle.lines.specs.Atoms.{Spells, first_char, first_hex, escaped, hex_byte, printed_byte, in_hex, before}

-- one byte more is taken off
pub spells_more : (first : List ℕ → Option (ℕ × List ℕ)) (text rest behind bytes more : List ℕ) (byte : ℕ) → first rest ≡ Some (byte, behind) → more ≡ bytes ++ byte ∷ []
    → ((tail : List ℕ) → Spells first rest tail → Spells first text (bytes ++ tail))
    → (tail : List ℕ) → Spells first behind tail → Spells first text (more ++ tail)
spells_more first text rest behind bytes more byte e m inv tail s =
    rw (m, append_assoc bytes (byte ∷ []) tail) (inv (byte ∷ tail) (behind, e, s))

-- nothing is left
pub spells_all : (first : List ℕ → Option (ℕ × List ℕ)) (text rest bytes : List ℕ) → length rest ≡ 0
    → ((tail : List ℕ) → Spells first rest tail → Spells first text (bytes ++ tail))
    → Spells first text bytes
spells_all first text [] bytes e inv = rw (sym (append-nil bytes)) (inv [] refl)
spells_all first text (x ∷ xs) bytes e inv = absurd (omega arith)

-- one byte more is printed
pub printed_more : (f : ℕ → List ℕ) (before line after xs : List ℕ) (i x : ℕ) → i < length xs → x ≡ get_or xs i x → line ≡ before ++ flat_map f (take i xs) → after ≡ line ++ f x
    → after ≡ before ++ flat_map f (take (i + 1) xs)
printed_more f before line after xs i x h e l a =
    a ∙ ap (λ y. y ++ f x) l ∙ flat_map_more f before (take i xs) x ∙ ap (λ y. before ++ flat_map f (take i xs ++ y ∷ [])) e ∙ ap (λ y. before ++ flat_map f y) (sym (take_more xs i x h))

-- a text without a quote and a backslash encodes itself
spelled_as_is : (text : List ℕ) → ((k : ℕ) → k < length text → (get_or text k 0 ≢ 34) × (get_or text k 0 ≢ 92)) → Spells first_char text text
unfolding first_char
spelled_as_is [] plain = refl
spelled_as_is (c ∷ text) plain =
    let here : (c ≢ 34) × (c ≢ 92) = plain 0 (omega arith) in
    (text, grind (arith, here), spelled_as_is text (λ k h. plain (suc k) (omega (arith, h))))

pub all_stand_for_themselves : (text : List ℕ) → Nowhere (Passes (is_byte2 34 92) text) 0 (length text) → Spells first_char text text
all_stand_for_themselves text nowhere = spelled_as_is text (λ k h. let not = nowhere k (omega arith) h in (λ e. not (rw e refl), λ e. not (rw e refl)))

-- two hex digits are read as their byte
pub hex_read : (b : ℕ) → b < 256 → hex_byte (digit_char (b / 16)) (digit_char (b % 16)) ≡ Some b
unfolding hex_byte
hex_read b h =
    let high = digit_value-digit_char (b / 16) (omega arith) in
    let low = digit_value-digit_char (b % 16) (omega arith) in
    rw (high, low) (grind arith)

-- a byte that is printed between quotes is read as itself
pub char_read : (b : ℕ) (rest : List ℕ) → b < 256 → first_char (printed_byte b ++ rest) ≡ Some (b, rest)
unfolding first_char printed_byte escaped
char_read b rest h = grind (arith, hex_read)

-- bytes that are printed between quotes are read as themselves
pub chars_read : (bytes : List ℕ) → ((k : ℕ) → get_or bytes k 0 < 256) → Spells first_char (flat_map printed_byte bytes) bytes
chars_read [] small = refl
chars_read (b ∷ bytes) small =
    (flat_map printed_byte bytes, char_read b (flat_map printed_byte bytes) (small 0), chars_read bytes (λ k. small (suc k)))

-- and those printed as hex digits
pub digits_read : (bytes : List ℕ) → ((k : ℕ) → get_or bytes k 0 < 256) → Spells first_hex (flat_map in_hex bytes) bytes
digits_read [] small = refl
digits_read (b ∷ bytes) small =
    (flat_map in_hex bytes, ap (λ o. before o (flat_map in_hex bytes)) (hex_read b (small 0)), digits_read bytes (λ k. small (suc k)))
