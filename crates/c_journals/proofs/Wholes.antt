-- What is stored of an output is stored of all its frames, and what is left of it ends as it does.
use Rattle.std.proofs.Common.{◌≡◌, ◌⊎◌, inl, inr, ◌<◌, ◌≤◌, ◌==◌, ℕ, zero, suc, List, [], ◌∷◌, ◌++◌, map, length, take, Bool, true, false, true≢false, Option, Some, None, refl, sym, ap, ◌∙◌, subst, arith, append-nil, take_all}
use Rattle.std.specs.Prelude.{is_some}
use Rattle.std.specs.List.{flat_map}
use Rattle.std.proofs.lemmas.Bool.Decides.{nat_tests}
use Rattle.std.proofs.lemmas.List.{append_cancel_left}
use Rattle.journal_protocol.specs.Version.{Version}
use Rattle.journal_protocol.specs.RawMessage.{RawMessage}
use Rattle.journal_protocol.specs.Frames.{NextFrame, Whole, Partial, Malformed, next_of}
use Rattle.journal_protocol.proofs.Facts.{whole_shorter}
use Rattle.journal_entries.specs.Frames.{Garbage, Rest, Tail, frames_by, frames_from, frames_of}
use Rattle.journal_entries.proofs.Cuts.{frames_of-next}
use Rattle.journal_entries.specs.declared.storing.Written.{Written}
use Rattle.journal_entries.specs.NextFrames.{NextWritten}
use Rattle.journal_entries.specs.Storing.{NoneFaults, Stores, stored_as, waits_behind, written_among, written_as, written_before, written_from}
use Rattle.journal_store.specs.Journals.{Holds, JournalView}
use Rattle.c_journals.specs.Journals.{EndsAs, LeavesRest, StoresAll, StoresWhole}

-- ---- an output has no more frames than bytes

frames_from_few : (n : ℕ) (o : NextFrame) (bytes : List ℕ) → ((rest : List ℕ) → length (frames_by n rest).0 ≤ n) → length (frames_from o (λ rest. frames_by n rest) bytes).0 ≤ suc n
frames_from_few n (Whole raw rest) bytes few = let h = few rest in omega arith
frames_from_few n Partial bytes few = omega arith
frames_from_few n Malformed bytes few = omega arith

frames_by_few : (n : ℕ) (bytes : List ℕ) → length (frames_by n bytes).0 ≤ n
frames_by_few zero bytes = omega arith
frames_by_few (suc n) bytes = frames_from_few n (next_of bytes) bytes (frames_by_few n)

frames_few : (bytes : List ℕ) → length (frames_of bytes).0 ≤ length bytes
unfolding frames_of
frames_few bytes = frames_by_few (length bytes) bytes

written_before_few : (o : Option Written) (raws : List RawMessage) → length (written_among raws) ≤ length raws → length (written_before o (written_among raws)) ≤ suc (length raws)
written_before_few None raws few = omega arith
written_before_few (Some w) raws few = omega arith

written_few : (raws : List RawMessage) → length (written_among raws) ≤ length raws
written_few [] = omega arith
written_few (raw ∷ raws) = written_before_few (written_as raw) raws (written_few raws)

-- so as many as it has bytes are all
all_taken : (output : List ℕ) → take (length output) (written_from output) ≡ written_from output
all_taken output =
    let few = frames_few output in
    let fewer = written_few (frames_of output).0 in
    take_all (length output) (written_from output) (omega arith)

-- ---- what is left of it

-- a next frame is taken off the front
pub taken_tail : (old new : List ℕ) (o : Option RawMessage) → NextWritten old o new → is_some o ≡ true → (frames_of new).1 ≡ (frames_of old).1
taken_tail old new (Some raw) n is = sym (ap (λ (p : List RawMessage × Tail). p.1) (frames_of-next old ∙ ap (λ o. frames_from o (λ rest. frames_of rest) old) n.1))
taken_tail old new None n is = absurd (true≢false (sym is))

pub taken_shorter : (old new : List ℕ) (o : Option RawMessage) → NextWritten old o new → is_some o ≡ true → length new < length old
taken_shorter old new (Some raw) n is = whole_shorter old raw new n.1
taken_shorter old new None n is = absurd (true≢false (sym is))

-- how long a tail is, and one more
abbrev extent : Tail → ℕ
extent (Rest bytes) = length bytes
extent Garbage = 1

none_framed : frames_of [] ≡ ([], Rest [])
unfolding frames_of
none_framed = refl

-- whether a frame is at the front
abbrev framed : NextFrame → Bool
framed (Whole raw rest) = true
framed Partial = false
framed Malformed = false

-- bytes aren't whole frames if no frame is at their front
not_whole : (b : ℕ) (bs : List ℕ) (o : NextFrame) → next_of (b ∷ bs) ≡ o → (o ≡ Partial) ⊎ (o ≡ Malformed) → (frames_of (b ∷ bs)).1 ≡ Rest [] → ⊥
not_whole b bs o is none e =
    let tail : (frames_of (b ∷ bs)).1 ≡ (frames_from o (λ rest. frames_of rest) (b ∷ bs)).1 = ap (λ (p : List RawMessage × Tail). p.1) (frames_of-next (b ∷ bs) ∙ ap (λ o. frames_from o (λ rest. frames_of rest) (b ∷ bs)) is) in
    by_kind o none (sym tail ∙ e)
  where
    by_kind : (o : NextFrame) → (o ≡ Partial) ⊎ (o ≡ Malformed) → (frames_from o (λ rest. frames_of rest) (b ∷ bs)).1 ≡ Rest [] → ⊥
    by_kind Partial none e = omega (arith, ap extent e)
    by_kind Malformed none e = omega (arith, ap extent e)
    by_kind (Whole raw rest) (inl wrong) e = absurd (true≢false (ap framed wrong))
    by_kind (Whole raw rest) (inr wrong) e = absurd (true≢false (ap framed wrong))

some_bytes : (b : ℕ) (bs : List ℕ) → (length (b ∷ bs) == 0) ≡ false
some_bytes b bs = grind (arith, nat_tests)

no_bytes : (length {A = ℕ} [] == 0) ≡ true
no_bytes = grind (arith, nat_tests)

-- no bytes are whole frames, and others aren't if no frame is at their front
ends_so : (bytes : List ℕ) → (next_of bytes ≡ Partial) ⊎ (next_of bytes ≡ Malformed) → EndsAs bytes (length bytes == 0)
ends_so [] none = subst (EndsAs []) (sym no_bytes) (ap (λ (p : List RawMessage × Tail). p.1) none_framed)
ends_so (b ∷ bs) none = subst (EndsAs (b ∷ bs)) (sym (some_bytes b bs)) (λ e. not_whole b bs (next_of (b ∷ bs)) refl none e)

-- bytes with the same tail are whole frames, or not, alike
ends_like : (a b : List ℕ) (whole : Bool) → (frames_of a).1 ≡ (frames_of b).1 → EndsAs a whole → EndsAs b whole
ends_like a b true same ends = sym same ∙ ends
ends_like a b false same ends = λ e. ends (same ∙ e)

pub ends_there : (first old new : List ℕ) (o : Option RawMessage) → NextWritten old o new → is_some o ≡ false → (frames_of old).1 ≡ (frames_of first).1 → EndsAs first (length new == 0)
ends_there first old new (Some raw) n is same = absurd (true≢false is)
ends_there first old new None n is same = subst (λ (bytes : List ℕ). EndsAs first (length bytes == 0)) (sym n.1) (ends_like old first (length old == 0) same (ends_so old n.0))

module _ (version : Version) (output rest : List ℕ) (journal rows : List (List ℕ)) (feed : List ℕ) (s : Stores version (length output) output (journal ++ []) [] (journal ++ rows) feed rest) where
  ends_alike : (frames_of output).1 ≡ (frames_of rest).1
  ends_alike = ap (λ (p : List RawMessage × Tail). p.1) s.frames

  all_written : written_among s.seen ≡ written_from output
  all_written = s.next ∙ all_taken output

  all_rows : rows ≡ map stored_as (written_from output)
  all_rows = append_cancel_left journal _ _ (s.stored ∙ (λ i. append-nil journal i ++ map stored_as (all_written i)))

  all_waits : feed ≡ flat_map (waits_behind version) (written_from output)
  all_waits = s.waits ∙ ap (λ (ws : List Written). flat_map (waits_behind version) ws) all_written

  no_fault : NoneFaults (written_from output) journal
  no_fault = subst (λ (x : List Written × List (List ℕ)). NoneFaults x.0 x.1) (λ i. (all_written i, append-nil journal i)) s.faultless

module _ (version : Version) (output : List ℕ) (whole : Bool) (old new : JournalView) (rows : List (List ℕ)) (feed : List ℕ) (all : StoresAll version output whole old [] [] new rows feed) where
  next : (journal : List (List ℕ)) → Holds old journal → Stores version (length output) output (journal ++ []) [] (journal ++ rows) feed all.rest × Holds new (journal ++ rows)
  next journal holds = all.stores journal (subst (Holds old) (sym (append-nil journal)) holds)

  -- all is stored of whole frames
  pub stores_whole : whole ≡ true → StoresWhole version output old new rows feed
  stores_whole is = record {
    each = λ journal holds.
        let t = next journal holds in (
          record {
            stored = all_rows version output all.rest journal rows feed t.0;
            answers = all_waits version output all.rest journal rows feed t.0;
            faultless = no_fault version output all.rest journal rows feed t.0;
            whole = ends_alike version output all.rest journal rows feed t.0 ∙ subst (EndsAs all.rest) is all.ends;
          },
          t.1,
        );
  }

  -- or bytes are left
  pub leaves_rest : whole ≡ false → LeavesRest output old
  leaves_rest is = λ journal holds e. subst (EndsAs all.rest) is all.ends (sym (ends_alike version output all.rest journal rows feed (next journal holds).0) ∙ e)
