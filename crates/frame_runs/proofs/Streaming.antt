-- A stream whose frames are printed one after another, and a text whose lines are read one after another.
use Rattle.std.proofs.Common.{◌≡◌, ◌≢◌, ◌++◌, ◌+◌, ℕ, List, [], ◌∷◌, length, refl, sym, ap, subst, ◌∙◌, append_assoc, arith}
use Rattle.std.proofs.lemmas.List.{length-append, append-nil}
use Rattle.std.proofs.lemmas.List.Concat.{flat_map-cons}
use Rattle.lines.specs.Text.{IsFirstLine}
use Rattle.journal_protocol.specs.RawMessage.{RawMessage}
use Rattle.journal_protocol.specs.Frames.{Whole, next_of}
use Rattle.frame_lines.specs.Printed.{frame_text, HasNoFrame}
use Rattle.frame_runs.specs.Runs.{ArePrinted, AreShown, AreShownBefore, IsBadLine, IsShownBy, IsUnshown, line_text, rest_lines}

-- This text, and after it what is printed of the rest, is what is printed of the whole stream.
pub record PrintsOn (stream rest text : List ℕ) : Type 0 where
  pub on : (more : List ℕ) → ArePrinted rest more → ArePrinted stream (text ++ more)

-- nothing is printed
pub none_printed : (stream text : List ℕ) → text ≡ [] → PrintsOn stream stream text
none_printed stream text none = record { on = λ more printed. subst (λ t. ArePrinted stream (t ++ more)) (sym none) printed }

-- a frame is printed more
pub frame_printed : (stream rest behind text next : List ℕ) (raw : RawMessage) → PrintsOn stream rest text → next_of rest ≡ Whole raw behind → next ≡ text ++ line_text (frame_text raw) → PrintsOn stream behind next
frame_printed stream rest behind text next raw so_far whole is = record {
  on = λ more printed.
      let line = line_text (frame_text raw) in
      let here : ArePrinted rest (line ++ more) = record {
        frames = raw ∷ printed.frames;
        rest = printed.rest;
        are_frames = (behind, whole, printed.are_frames);
        no_more = printed.no_more;
        is = ap (λ t. line ++ t) printed.is ∙ sym (append_assoc line _ (rest_lines printed.rest)) ∙ ap (λ t. t ++ rest_lines printed.rest) (sym (flat_map-cons (λ (r : RawMessage). line_text (frame_text r)) raw printed.frames));
      } in
      subst (ArePrinted stream) (sym (append_assoc text line more) ∙ ap (λ t. t ++ more) (sym is)) (so_far.on (line ++ more) here);
}

-- no whole frame is left
pub all_printed : (stream rest text printed : List ℕ) → PrintsOn stream rest text → HasNoFrame rest → printed ≡ text ++ rest_lines rest → ArePrinted stream printed
all_printed stream rest text printed so_far none is = subst (ArePrinted stream) (sym is) (so_far.on (rest_lines rest) (record { frames = []; rest = rest; are_frames = refl; no_more = none; is = refl }))

-- The first `number` lines of a text are read, and show these bytes.
pub record HasRead (text rest bytes : List ℕ) (number : ℕ) : Type 0 where
  pub lines : List (List ℕ)
  pub shown : AreShownBefore lines text rest bytes
  pub counted : number ≡ length lines

-- none is read
pub none_read : (text bytes : List ℕ) (number : ℕ) → bytes ≡ [] → number ≡ 0 → HasRead text text bytes number
none_read text bytes number none zero = record { lines = []; shown = (refl, none); counted = zero }

more_shown : (lines : List (List ℕ)) (text rest behind line first bytes : List ℕ) → AreShownBefore lines text rest bytes → rest ≢ [] → IsFirstLine rest line behind → IsShownBy line first → AreShownBefore (lines ++ line ∷ []) text behind (bytes ++ first)
more_shown [] text rest behind line first bytes (is, none) some is_line shown =
    (behind, first, [], subst (λ t. t ≢ []) (sym is) some, subst (λ t. IsFirstLine t line behind) (sym is) is_line, shown, (refl, refl), ap (λ t. t ++ first) none ∙ sym (append-nil first))
more_shown (l ∷ lines) text rest behind line first bytes (b, f, others, there, first_line, shown_first, shown_others, is) some is_line shown =
    (b, f, others ++ first, there, first_line, shown_first, more_shown lines b rest behind line first others shown_others some is_line shown, ap (λ t. t ++ first) is ∙ append_assoc f others first)

-- a line is read more
pub line_read : (text rest behind line first bytes next : List ℕ) (number more : ℕ) → HasRead text rest bytes number → rest ≢ [] → IsFirstLine rest line behind → IsShownBy line first → next ≡ bytes ++ first → more ≡ number + 1 → HasRead text behind next more
line_read text rest behind line first bytes next number more so_far some is_line shown is counted = record {
  lines = so_far.lines ++ line ∷ [];
  shown = subst (AreShownBefore (so_far.lines ++ line ∷ []) text behind) (sym is) (more_shown so_far.lines text rest behind line first bytes so_far.shown some is_line shown);
  counted = simp length-append (omega (arith, so_far.counted));
}

-- all are read
pub all_read : (text rest bytes : List ℕ) (number : ℕ) → HasRead text rest bytes number → length rest ≡ 0 → AreShown text bytes
all_read text [] bytes number so_far none = record { lines = so_far.lines; shown = so_far.shown }
all_read text (b ∷ rest) bytes number so_far none = absurd (omega arith)

-- the next line has no meaning
pub stops : (text rest line others bytes : List ℕ) (number here : ℕ) → HasRead text rest bytes number → IsFirstLine rest line others → IsUnshown line → here ≡ number + 1 → IsBadLine text here
stops text rest line others bytes number here so_far first unshown is = record {
  lines = so_far.lines;
  rest = rest;
  bytes = bytes;
  shown = so_far.shown;
  counted = omega (arith, so_far.counted);
  line = line;
  others = others;
  first = first;
  unshown = unshown;
}
