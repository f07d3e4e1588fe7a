-- What is printed of a frame or of a rest is read back from its line.
use Rattle.std.proofs.Common.{◌≡◌, ◌<◌, ◌/◌, ◌%◌, ◌^◌, ◌++◌, ℕ, true, List, [], ◌∷◌, Option, Some, None, inl, inr, ap, sym, refl, subst, ◌∙◌, arith, append_assoc}
use Rattle.std.specs.Prelude.{codes}
use Rattle.std.specs.Char.{digit_char}
use Rattle.std.specs.Fmt.{decimal}
use Rattle.std.specs.List.{AllByRecursion, flat_map}
use Rattle.std.proofs.lemmas.Bool.Decides.{nat_tests}
use Rattle.std.proofs.lemmas.Fmt.{decimal_is_IsNumeral}
use Rattle.std.proofs.lemmas.List.{append-nil}
use Rattle.lines.specs.Atoms.{IsAtom, hexed, in_hex}
use Rattle.lines.specs.Pieces.{AreWords}
use Rattle.lines.proofs.Spelling.{digits_read}
use Rattle.journal_messages.specs.Message.{IsValid, body}
use Rattle.journal_messages.proofs.Reading.{message_is}
use Rattle.journal_protocol.specs.Bodies.{message_in}
use Rattle.journal_protocol.specs.Frames.{encoding, frame, numbered_frame, type_of}
use Rattle.journal_protocol.specs.Types.{type_number}
use Rattle.journal_protocol.specs.Message.{Message}
use Rattle.journal_protocol.specs.RawMessage.{RawMessage}
use Rattle.journal_protocol.proofs.Facts.{small_number}
use Rattle.frame_lines.specs.FrameLines.{LineShows}
use Rattle.frame_lines.specs.Messages.{fields_of, message_text}
use Rattle.frame_lines.specs.Names.{type_word}
use Rattle.frame_lines.specs.Printed.{frame_text, raw_text, rest_text, text_as}
use Rattle.frame_runs.proofs.Bracketed.{put_more}
use Rattle.frame_runs.proofs.Closed.{IsWord, bytes_word, is_word_byte, plain_word}
use Rattle.frame_runs.proofs.Fitting.{AllBytes, below}
use Rattle.frame_runs.proofs.Joined.{are_words, bors, decimal_word, each_after}
use Rattle.frame_runs.proofs.Messages.{message_reads}
use Rattle.frame_runs.proofs.Named.{words_of}
use Rattle.frame_runs.proofs.TypeWords.{type_is_word}

-- ---- messages

pub message_shown : (m : Message) → IsValid m → AllBytes (body m) → LineShows (message_text m) (encoding m)
message_shown m valid small =
    let reads = message_reads m valid small in
    let name = type_word (type_of m) in
    let fields = words_of (fields_of m) in
    let line : message_text m ≡ name ++ each_after 32 fields = put_more name (fields_of m) in (
      bors (name ∷ fields),
      subst (λ text. AreWords text (bors (name ∷ fields))) (sym line) (are_words name fields (type_is_word (type_of m), reads.0)),
      inr (record { ty = type_of m; named = refl; encodes = record { message = m; typed = refl; fields = reads.1; is = refl } }),
    )

-- ---- bytes as hex digits

hex_digit : (d : ℕ) → d < 16 → is_word_byte (digit_char d) ≡ true
hex_digit d less = grind (arith, nat_tests)

hex_bytes : (bytes : List ℕ) → AllBytes bytes → AllByRecursion (λ c. is_word_byte c ≡ true) (flat_map in_hex bytes)
hex_bytes [] all = tt
hex_bytes (b ∷ bytes) all =
    let small = all.0 in
    (hex_digit (b / 16) (omega (arith, small)), (hex_digit (b % 16) (omega arith), hex_bytes bytes all.1))

hexed_word : (bytes : List ℕ) → AllBytes bytes → IsWord (hexed bytes)
hexed_word bytes all = bytes_word 48 (120 ∷ flat_map in_hex bytes) refl (refl, hex_bytes bytes all)

hexed_atom : (bytes : List ℕ) → AllBytes bytes → IsAtom (hexed bytes) bytes
hexed_atom bytes all = inr (flat_map in_hex bytes, refl, digits_read bytes (below bytes all))

-- ---- frames as they are, and rests

pub raw_shown : (raw : RawMessage) → AllBytes raw.body → LineShows (raw_text raw) (numbered_frame (type_number raw.ty) raw.body)
raw_shown raw small =
    let number = type_number raw.ty in
    let fits = small_number raw.ty in
    let wide : number < 2 ^ 64 = omega (arith, fits) in
    let numeral = decimal_is_IsNumeral number wide in
    let texts : List (List ℕ) = decimal number ∷ hexed raw.body ∷ [] in
    let line : raw_text raw ≡ codes "raw" ++ each_after 32 texts =
    append_assoc (codes "raw " ++ decimal number) (32 ∷ []) (hexed raw.body)
    ∙ append_assoc (codes "raw ") (decimal number) (32 ∷ hexed raw.body)
    ∙ ap (λ l. codes "raw " ++ (decimal number ++ (32 ∷ l))) (sym (append-nil (hexed raw.body))) in (
      bors (codes "raw" ∷ texts),
      subst (λ text. AreWords text (bors (codes "raw" ∷ texts))) (sym line)
          (are_words (codes "raw") texts (plain_word (codes "raw") (omega arith) refl, (decimal_word number wide, (hexed_word raw.body small, tt)))),
      inl (inl (
        refl,
        record {
          bytes_of = raw.body;
          numeral = (numeral.0, let value = numeral.1 in omega (arith, value, wide));
          fits = let value = numeral.1 in omega (arith, value, fits);
          is_body = hexed_atom raw.body small;
          is = ap (λ n. numbered_frame n raw.body) (sym numeral.1);
        },
      )),
    )

pub rest_shown : (rest : List ℕ) → AllBytes rest → LineShows (rest_text rest) rest
rest_shown rest small =
    let texts : List (List ℕ) = hexed rest ∷ [] in
    let line : rest_text rest ≡ codes "rest" ++ each_after 32 texts = ap (λ l. codes "rest " ++ l) (sym (append-nil (hexed rest))) in (
      bors (codes "rest" ∷ texts),
      subst (λ text. AreWords text (bors (codes "rest" ∷ texts))) (sym line)
          (are_words (codes "rest") texts (plain_word (codes "rest") (omega arith) refl, (hexed_word rest small, tt))),
      inl (inr (refl, hexed_atom rest small)),
    )

-- ---- each frame

-- one whose body is a message is shown as that message, another as it is
module _ (raw : RawMessage) (small : AllBytes raw.body) where
  as_read : (m : Message) → message_in raw.ty raw.body ≡ Some m → LineShows (message_text m) (frame raw.ty raw.body)
  as_read m read =
      let is = message_is raw.ty raw.body m read in
      let bytes : encoding m ≡ frame raw.ty raw.body = λ i. frame (is.1 i) (sym is.2 i) in
      subst (λ shown. LineShows (message_text m) shown) bytes (message_shown m is.0 (subst AllBytes is.2 small))

  shown_as : (o : Option Message) → message_in raw.ty raw.body ≡ o → LineShows (text_as raw o) (frame raw.ty raw.body)
  shown_as None read = raw_shown raw small
  shown_as (Some m) read = as_read m read

  pub frame_shown : LineShows (frame_text raw) (frame raw.ty raw.body)
  frame_shown = shown_as (message_in raw.ty raw.body) refl
