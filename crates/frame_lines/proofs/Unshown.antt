-- Which words show no bytes, and which lines show none.
use Rattle.std.proofs.Common.{◌≡◌, ◌≢◌, ◌<◌, ◌-◌, ℕ, List, [], ◌∷◌, length, take, drop, get_or, inl, inr, sym, subst, ◌∙◌, arith}
use Rattle.std.specs.Borrow.{Bor}
use Rattle.std.proofs.lemmas.List.{take_all}
use Rattle.plain.specs.declared.fault.Fault.{Fault}
use Rattle.plain.specs.declared.fault.Fault.TheVariants.{Malformed}
use Rattle.lines.specs.Readings.{Blames}
use Rattle.lines.specs.Pieces.{AreWords, outside, place}
use Rattle.lines.proofs.Closing.{words_close}
use Rattle.lines.proofs.Once.{Same, words_once}
use Rattle.journal_protocol.specs.MessageType.{MessageType}
use Rattle.frame_lines.specs.FrameLines.{Encodes, LineShows, ShowAsIs, Shows}
use Rattle.frame_lines.specs.Names.{type_word}
use Rattle.frame_lines.proofs.Naming.{no_raw, no_rest, one_type}
use Rattle.frame_lines.proofs.Showing.{same_shown}
use Rattle.frame_lines.proofs.Typing.{same_fields_of}

pub as_is_shows : (words : List (Bor (List ℕ))) (shown : List ℕ) → ShowAsIs words shown → Shows words shown
as_is_shows [] shown as_is = absurd as_is
as_is_shows (name ∷ others) shown as_is = inl as_is

-- the first word names a type, so it is neither `raw` nor `rest`, and a message that they show is of that type
pub named_blamed : (words : List (Bor (List ℕ))) (d : Bor (List ℕ)) (ty : MessageType) (fault : Fault) → 0 < length words → (get_or words 0 d).now ≡ type_word ty → Blames (Encodes ty (take (length words - 1) (drop 1 words))) fault → Blames (Shows words) fault
named_blamed [] d ty fault some named blames = absurd (omega arith)
named_blamed (name ∷ others) d ty fault some named blames = record { nothing = go }
  where
    all : take (length (name ∷ others) - 1) others ≡ others
    all = take_all (length (name ∷ others) - 1) others (omega arith)

    go : fault ≡ Malformed → (shown : List ℕ) → Shows (name ∷ others) shown → ⊥
    go bad shown (inl (inl (raw, frame))) = no_raw ty (sym named ∙ raw)
    go bad shown (inl (inr (is, rest))) = no_rest ty (sym named ∙ is)
    go bad shown (inr it) =
        let same : it.ty ≡ ty = one_type it.ty ty (sym it.named ∙ named) in
        blames.nothing bad shown (subst (λ ws. Encodes ty ws shown) (sym all) (subst (λ t. Encodes t others shown) same it.encodes))

-- the first word names none
pub unnamed_blamed : (words : List (Bor (List ℕ))) (d : Bor (List ℕ)) (fault : Fault) → 0 < length words → ((ty : MessageType) → (get_or words 0 d).now ≢ type_word ty) → Blames (ShowAsIs words) fault → Blames (Shows words) fault
unnamed_blamed [] d fault some none blames = absurd (omega arith)
unnamed_blamed (name ∷ others) d fault some none blames = record { nothing = go }
  where
    go : fault ≡ Malformed → (shown : List ℕ) → Shows (name ∷ others) shown → ⊥
    go bad shown (inl as_is) = blames.nothing bad shown as_is
    go bad shown (inr it) = none it.ty it.named

-- ---- a line

same_shows : (ws vs : List (Bor (List ℕ))) (shown : List ℕ) → Same ws vs → Shows ws shown → Shows vs shown
same_shows [] vs shown same shows = absurd shows
same_shows (w ∷ ws) [] shown same shows = absurd same
same_shows (w ∷ ws) (v ∷ vs) shown same (inl as_is) = inl (same_shown (w ∷ ws) (v ∷ vs) shown same as_is)
same_shows (w ∷ ws) (v ∷ vs) shown same (inr it) = inr record {
  ty = it.ty;
  named = sym same.0 ∙ it.named;
  encodes = record { message = it.encodes.message; typed = it.encodes.typed; fields = same_fields_of ws vs same.1 it.encodes.message it.encodes.fields; is = it.encodes.is };
}

pub line_blamed : (line : List ℕ) (words : List (Bor (List ℕ))) (fault : Fault) → AreWords line words → Blames (Shows words) fault → Blames (LineShows line) fault
line_blamed line words fault are blames = record {
  nothing = λ bad shown shows. blames.nothing bad shown (same_shows shows.0 words shown (words_once line shows.0 words shows.1 are) shows.2);
}

pub unclosed_line_blamed : (line : List ℕ) (fault : Fault) → (fault ≡ Malformed → place line ≢ outside) → Blames (LineShows line) fault
unclosed_line_blamed line fault unclosed = record { nothing = λ bad shown shows. unclosed bad (words_close line shows.0 shows.1) }
