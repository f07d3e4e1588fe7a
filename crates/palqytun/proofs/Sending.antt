-- How the frames that an attempt has sent are read, and the commands among them picked.
use Rattle.std.proofs.Common.{◌≡◌, ◌⊎◌, ⊎_elim, ◌+◌, ◌<◌, ◌≤◌, ℕ, suc, Bool, true, false, cond, List, [], ◌∷◌, ◌++◌, length, map, drop, get_or, nat_eq, refl, rules, sym, ap, ◌∙◌, add-one, append_assoc, append-nil, drop-cons}
use Rattle.std.proofs.lemmas.List.{drop_all}
use Rattle.std.specs.Cmp.Lexicographic.{bytes_decides, pointwise, pointwise_decides}
use Rattle.journal_protocol.specs.RawMessage.{RawMessage}
use Rattle.journal_protocol.specs.Frames.{Malformed, Partial, Whole, next_of}
use Rattle.journal_entries.specs.Frames.{Tail, frames_from, frames_of}
use Rattle.journal_entries.proofs.Cuts.{frames_of-next}
use Rattle.journal_entries.specs.JournalFrames.{commands_among, is_command_frame}
use Rattle.journal_entries.specs.Entries.{frame_of}

-- ---- the frames

next_frames : (bytes rest : List ℕ) (raw : RawMessage) → next_of bytes ≡ Whole raw rest → (frames_of bytes).0 ≡ raw ∷ (frames_of rest).0
next_frames bytes rest raw e = ap (λ (p : List RawMessage × Tail). p.0) (frames_of-next bytes ∙ ap (λ o. frames_from o (λ r. frames_of r) bytes) e)

no_frames : (bytes : List ℕ) → (next_of bytes ≡ Partial) ⊎ (next_of bytes ≡ Malformed) → (frames_of bytes).0 ≡ []
no_frames bytes ended =
    ⊎_elim
    (λ (e : next_of bytes ≡ Partial). ap (λ (p : List RawMessage × Tail). p.0) (frames_of-next bytes ∙ ap (λ o. frames_from o (λ r. frames_of r) bytes) e))
    (λ (e : next_of bytes ≡ Malformed). ap (λ (p : List RawMessage × Tail). p.0) (frames_of-next bytes ∙ ap (λ o. frames_from o (λ r. frames_of r) bytes) e))
    ended

-- nothing was read yet
pub first_seen : (output rest : List ℕ) (seen : List RawMessage) → seen ≡ [] → rest ≡ output → (frames_of output).0 ≡ seen ++ (frames_of rest).0
first_seen output rest seen none is = ap (λ b. (frames_of b).0) (sym is) ∙ ap (λ s. s ++ (frames_of rest).0) (sym none)

-- one more was read
pub one_seen : (output rest behind : List ℕ) (seen more : List RawMessage) (raw : RawMessage) → (frames_of output).0 ≡ seen ++ (frames_of rest).0 → next_of rest ≡ Whole raw behind → more ≡ seen ++ raw ∷ []
    → (frames_of output).0 ≡ more ++ (frames_of behind).0
one_seen output rest behind seen more raw before next is =
    before ∙ ap (λ frames. seen ++ frames) (next_frames rest behind raw next) ∙ sym (append_assoc seen (raw ∷ []) (frames_of behind).0) ∙ ap (λ s. s ++ (frames_of behind).0) (sym is)

-- all were read
pub all_seen : (output rest : List ℕ) (seen : List RawMessage) → (frames_of output).0 ≡ seen ++ (frames_of rest).0 → (next_of rest ≡ Partial) ⊎ (next_of rest ≡ Malformed) → seen ≡ (frames_of output).0
all_seen output rest seen before ended = sym (before ∙ ap (λ frames. seen ++ frames) (no_frames rest ended) ∙ append-nil seen)

-- ---- the commands among them

-- the commands among some frames, as they are stored
abbrev pub stored_among : List RawMessage → List (List ℕ)
stored_among raws = map frame_of (commands_among raws)

-- with a frame before others, if it is a command's
abbrev if_command : Bool → RawMessage → List RawMessage → List (List ℕ)
if_command is raw raws = map frame_of (cond is (raw ∷ commands_among raws) (commands_among raws))

next_raw : (raws : List RawMessage) (i : ℕ) (raw : RawMessage) → raw ≡ get_or raws i raw → i < length raws → drop i raws ≡ raw ∷ drop (i + 1) raws
next_raw raws i raw is h = drop-cons raws i raw h ∙ ap (λ r. r ∷ drop (suc i) raws) (sym is) ∙ ap (λ n. raw ∷ drop n raws) (sym (add-one i))

-- those after a frame that is a command's
pub command_next : (all found more : List (List ℕ)) (raws : List RawMessage) (i : ℕ) (raw : RawMessage) → all ≡ found ++ stored_among (drop i raws) → raw ≡ get_or raws i raw → i < length raws
    → is_command_frame raw ≡ true → more ≡ found ++ frame_of raw ∷ [] → all ≡ more ++ stored_among (drop (i + 1) raws)
command_next all found more raws i raw before at within command is =
    let rest = drop (i + 1) raws in
    before ∙ ap (λ rs. found ++ stored_among rs) (next_raw raws i raw at within) ∙ ap (λ kind. found ++ if_command kind raw rest) command
    ∙ sym (append_assoc found (frame_of raw ∷ []) (stored_among rest)) ∙ ap (λ f. f ++ stored_among rest) (sym is)

-- those after a frame that is none's
pub other_next : (all found : List (List ℕ)) (raws : List RawMessage) (i : ℕ) (raw : RawMessage) → all ≡ found ++ stored_among (drop i raws) → raw ≡ get_or raws i raw → i < length raws
    → is_command_frame raw ≡ false → all ≡ found ++ stored_among (drop (i + 1) raws)
other_next all found raws i raw before at within other =
    let rest = drop (i + 1) raws in
    before ∙ ap (λ rs. found ++ stored_among rs) (next_raw raws i raw at within) ∙ ap (λ kind. found ++ if_command kind raw rest) other

-- after the last frame
pub all_stored : (all found : List (List ℕ)) (raws : List RawMessage) (i : ℕ) → all ≡ found ++ stored_among (drop i raws) → length raws ≤ i → found ≡ all
all_stored all found raws i before ended = sym (before ∙ ap (λ rs. found ++ stored_among rs) (drop_all i raws ended) ∙ append-nil found)

-- ---- rows that pass the test for equality

pub same_rows : (a b : List (List ℕ)) → pointwise (pointwise nat_eq) a b ≡ true → a ≡ b
same_rows a b h = search (rules, pointwise_decides bytes_decides a b, h)
