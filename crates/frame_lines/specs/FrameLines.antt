-- Which frame the words of a line show.
use Rattle.std.specs.Prelude.{◌≡◌, ◌⊎◌, ◌<◌, ◌^◌, ℕ, List, [], ◌∷◌, codes}
use Rattle.std.specs.Borrow.{Bor}
use Rattle.std.specs.Str.Parse.{digits_value}
use Rattle.journal_protocol.specs.Frames.{numbered_frame, encoding, type_of}
use Rattle.journal_protocol.specs.MessageType.{MessageType}
use Rattle.journal_protocol.specs.Message.{Message}
use Rattle.lines.specs.Atoms.{IsAtom, IsNumber}
use Rattle.lines.specs.Pieces.{AreWords}
use Rattle.frame_lines.specs.Messages.{AreFieldsOf}
use Rattle.frame_lines.specs.Names.{type_word}

-- a frame as it is: `raw`, the number of its type, and its body
pub record IsRaw (number body frame : List ℕ) : Type 0 where
  pub bytes_of : List ℕ
  pub numeral : IsNumber number
  pub fits : digits_value 10 number < 2 ^ 16
  pub is_body : IsAtom body bytes_of
  pub is : frame ≡ numbered_frame (digits_value 10 number) bytes_of

-- a frame as it is, by the words after `raw`
abbrev pub AreRaw : List (Bor (List ℕ)) → List ℕ → Type 0
AreRaw (number ∷ body ∷ []) frame = IsRaw number.now body.now frame
AreRaw others frame = ⊥

-- the rest of a stream, by the word after `rest`
abbrev pub IsRest : List (Bor (List ℕ)) → List ℕ → Type 0
IsRest (rest ∷ []) shown = IsAtom rest.now shown
IsRest others shown = ⊥

-- the bytes are a message of the type, whose fields the words are
pub record Encodes (ty : MessageType) (words : List (Bor (List ℕ))) (frame : List ℕ) : Type 0 where
  pub message : Message
  pub typed : type_of message ≡ ty
  pub fields : AreFieldsOf words message
  pub is : frame ≡ encoding message

-- the word names a type, and the bytes are a message of it, whose fields the others are
pub record IsNamed (name : List ℕ) (words : List (Bor (List ℕ))) (frame : List ℕ) : Type 0 where
  pub ty : MessageType
  pub named : name ≡ type_word ty
  pub encodes : Encodes ty words frame

-- the words show these bytes as they are: a frame of any type, or the rest of a stream
abbrev pub ShowAsIs : List (Bor (List ℕ)) → List ℕ → Type 0
ShowAsIs [] shown = ⊥
ShowAsIs (name ∷ others) shown = ((name.now ≡ codes "raw") × AreRaw others shown)
    ⊎ ((name.now ≡ codes "rest") × IsRest others shown)

-- the words show these bytes: as they are, or as a message
abbrev pub Shows : List (Bor (List ℕ)) → List ℕ → Type 0
Shows [] shown = ⊥
Shows (name ∷ others) shown = ShowAsIs (name ∷ others) shown ⊎ IsNamed name.now others shown

-- the words of a line show these bytes
abbrev pub LineShows : List ℕ → List ℕ → Type 0
LineShows line shown = (words : List (Bor (List ℕ))) × AreWords line words × Shows words shown

-- no bytes are what the line shows
abbrev pub ShowsNothing : List ℕ → Type 0
ShowsNothing line = (bytes : List ℕ) → LineShows line bytes → ⊥
