-- How commands and proposals are stored, one frame after another.
use Rattle.std.proofs.Common.{◌≡◌, ◌⊎◌, ℕ, zero, suc, ◌+◌, ◌-◌, ◌<◌, ◌≤◌, ◌^◌, Bool, true, false, Option, Some, None, List, [], ◌∷◌, ◌++◌, length, take, map, inl, inr, refl, sym, ap, ◌∙◌, subst, arith, append_assoc, append-nil, length-append, ⊎_elim}
use Rattle.std.specs.Prelude.{cond, if◌then◌else◌}
use Rattle.std.specs.Option.{option_map}
use Rattle.std.specs.List.{AllByRecursion, flat_map}
use Rattle.std.proofs.lemmas.List.{take_all, map-append}
use Rattle.std.proofs.lemmas.List.Concat.{flat_map-append}
use Rattle.std.proofs.Math.Seq.{take-append_seam}
use Rattle.journal_protocol.specs.Version.{Version}
use Rattle.journal_protocol.specs.RawMessage.{RawMessage}
use Rattle.journal_protocol.specs.Frames.{Whole, Partial, Malformed, next_of}
use Rattle.journal_protocol.proofs.Facts.{whole_shorter}
use Rattle.journal_entries.specs.Frames.{Tail, frames_from, frames_of}
use Rattle.journal_entries.proofs.Cuts.{frames_of-next}
use Rattle.journal_protocol.specs.ProposeRunCompletion.{ProposeRunCompletion}
use Rattle.journal_entries.specs.JournalFrames.{is_command_frame}
use Rattle.journal_entries.specs.declared.storing.Written.{Written}
use Rattle.journal_entries.specs.declared.storing.Written.TheVariants.{Command, Proposal}
use Rattle.journal_entries.specs.declared.fault.JournalFault.{JournalFault}
use Rattle.journal_entries.specs.NextFrames.{IsWholeItem, NextFaults, StoresItem, StoresOne}
use Rattle.journal_entries.specs.Storing.{StoredCanBeRead, FirstFault, NoneFaults, Stores, proposal_of, stored_as, storing_fault, waits_behind, written_among, written_as, written_before, written_from}
use Rattle.journal_entries.proofs.Framing.{in_front, next_framed}

-- ---- lists

pub written_append : (xs ys : List RawMessage) → written_among (xs ++ ys) ≡ written_among xs ++ written_among ys
written_append [] ys = refl
written_append (x ∷ xs) ys = ap (written_before (written_as x)) (written_append xs ys) ∙ by_item (written_as x)
  where
    by_item : (o : Option Written) → written_before o (written_among xs ++ written_among ys) ≡ written_before o (written_among xs) ++ written_among ys
    by_item None = refl
    by_item (Some w) = refl

pub all_append : {A : Type 0} (P : A → Type 0) (xs ys : List A) → AllByRecursion P xs → AllByRecursion P ys → AllByRecursion P (xs ++ ys)
all_append P [] ys a b = b
all_append P (x ∷ xs) ys a b = (a.0, all_append P xs ys a.1 b)

-- the journal after one item and others
behind_one : (j : List (List ℕ)) (x : Written) (xs : List Written) → (j ++ stored_as x ∷ []) ++ map stored_as xs ≡ j ++ map stored_as (x ∷ xs)
behind_one j x xs = append_assoc j (stored_as x ∷ []) (map stored_as xs)

-- one item more has no fault
faultless_more : (ws : List Written) (w : Written) (j : List (List ℕ)) → NoneFaults ws j → storing_fault w (j ++ map stored_as ws) ≡ None → NoneFaults (ws ++ w ∷ []) j
faultless_more [] w j h e = (ap (storing_fault w) (sym (append-nil j)) ∙ e, tt)
faultless_more (x ∷ xs) w j h e = (h.0, faultless_more xs w (j ++ stored_as x ∷ []) h.1 (ap (storing_fault w) (behind_one j x xs) ∙ e))

-- the first fault is that of an item after others that have none
first_fault : (version : Version) (ws : List Written) (w : Written) (more : List Written) (j : List (List ℕ)) (f : JournalFault) → NoneFaults ws j → AllByRecursion (StoredCanBeRead version) ws → storing_fault w (j ++ map stored_as ws) ≡ Some f → FirstFault version (ws ++ w ∷ more) j f
first_fault version [] w more j f h k e = inl (ap (storing_fault w) (sym (append-nil j)) ∙ e)
first_fault version (x ∷ xs) w more j f h k e = inr (h.0, k.0, first_fault version xs w more (j ++ stored_as x ∷ []) f h.1 k.1 (ap (storing_fault w) (behind_one j x xs) ∙ e))

-- ---- what was stored so far

-- Some frames were seen, and `left` items of `n` are still to be stored.
pub record Stands (version : Version) (n : ℕ) (u : List ℕ) (j : List (List ℕ)) (w : List ℕ) (left : ℕ) (j' : List (List ℕ)) (w' u' : List ℕ) : Type 0 where
  pub seen : List RawMessage
  pub frames : frames_of u ≡ (seen ++ (frames_of u').0, (frames_of u').1)
  pub count : length (written_among seen) + left ≡ n
  pub stored : j' ≡ j ++ map stored_as (written_among seen)
  pub waits : w' ≡ w ++ flat_map (waits_behind version) (written_among seen)
  pub faultless : NoneFaults (written_among seen) j
  pub readable : AllByRecursion (StoredCanBeRead version) (written_among seen)

pub stands_first : (version : Version) (n : ℕ) (u : List ℕ) (j : List (List ℕ)) (w : List ℕ) → Stands version n u j w n j w u
stands_first version n u j w = record { seen = []; frames = refl; count = omega arith; stored = sym (append-nil j); waits = sym (append-nil w); faultless = tt; readable = tt }

one_more : (seen : List RawMessage) (raw : RawMessage) (p q : List RawMessage × Tail) → p ≡ in_front (raw ∷ []) q → in_front seen p ≡ in_front (seen ++ raw ∷ []) q
one_more seen raw p q e = ap (in_front seen) e ∙ ap (λ l. (l, q.1)) (sym (append_assoc seen (raw ∷ []) q.0))

-- a frame's item can be read, where the frame isn't too long
one_readable : (version : Version) (raw : RawMessage) (item : Written) → length raw.body < 2 ^ 64 → written_as raw ≡ Some item → IsWholeItem version item → StoredCanBeRead version item
one_readable version raw (Proposal p) fits is whole = whole
one_readable version raw (Command c) fits is whole = by_test (is_command_frame raw) (proposal_of raw) is
  where
    by_test : (b : Bool) (o : Option ProposeRunCompletion) → cond b (Some (Command raw)) (option_map Proposal o) ≡ Some (Command c) → length c.body < 2 ^ 64
    by_test true o h = let same : raw ≡ c = cc in subst (λ (x : RawMessage). length x.body < 2 ^ 64) same fits
    by_test false None h = absurd (cc)
    by_test false (Some p) h = absurd (cc)

module _ (version : Version) (n : ℕ) (u : List ℕ) (j : List (List ℕ)) (w : List ℕ) (left : ℕ) (j' : List (List ℕ)) (w' u' : List ℕ) (s : Stands version n u j w left j' w' u') where
  abbrev W : List Written
  W = written_among s.seen

  skips : (u'' : List ℕ) (raw : RawMessage) → next_of u' ≡ Whole raw u'' → written_as raw ≡ None → Stands version n u j w left j' w' u''
  skips u'' raw next none =
      let same : written_among (s.seen ++ raw ∷ []) ≡ W = written_append s.seen (raw ∷ []) ∙ ap (λ o. W ++ written_before o []) none ∙ append-nil W in
      record {
        seen = s.seen ++ raw ∷ [];
        frames = s.frames ∙ one_more s.seen raw (frames_of u') (frames_of u'') (next_framed u' u'' raw next);
        count = ap (λ l. length l + left) same ∙ s.count;
        stored = s.stored ∙ ap (λ l. j ++ map stored_as l) (sym same);
        waits = s.waits ∙ ap (λ l. w ++ flat_map (waits_behind version) l) (sym same);
        faultless = subst (λ l. NoneFaults l j) (sym same) s.faultless;
        readable = subst (AllByRecursion (StoredCanBeRead version)) (sym same) s.readable;
      }

  keeps : (u'' : List ℕ) (raw : RawMessage) (item : Written) (j'' : List (List ℕ)) (w'' : List ℕ) → next_of u' ≡ Whole raw u'' → length raw.body < 2 ^ 64 → written_as raw ≡ Some item → StoresItem version item j' w' j'' w'' → 0 < left → Stands version n u j w (left - 1) j'' w'' u''
  keeps u'' raw item j'' w'' next fits is one some =
      let more : written_among (s.seen ++ raw ∷ []) ≡ W ++ item ∷ [] = written_append s.seen (raw ∷ []) ∙ ap (λ o. W ++ written_before o []) is in
      record {
        seen = s.seen ++ raw ∷ [];
        frames = s.frames ∙ one_more s.seen raw (frames_of u') (frames_of u'') (next_framed u' u'' raw next);
        count = omega (arith, ap length more, length-append W (item ∷ []), s.count, some);
        stored = one.stored ∙ ap (λ l. l ++ stored_as item ∷ []) s.stored ∙ append_assoc j (map stored_as W) (stored_as item ∷ []) ∙ ap (λ l. j ++ l) (sym (map-append stored_as W (item ∷ []))) ∙ ap (λ l. j ++ map stored_as l) (sym more);
        waits = one.waits ∙ ap (λ l. l ++ waits_behind version item) s.waits ∙ append_assoc w (flat_map (waits_behind version) W) (waits_behind version item)
            ∙ ap (λ l. w ++ (flat_map (waits_behind version) W ++ l)) (sym (append-nil (waits_behind version item))) ∙ ap (λ l. w ++ l) (sym (flat_map-append (waits_behind version) W (item ∷ []))) ∙ ap (λ l. w ++ flat_map (waits_behind version) l) (sym more);
        faultless = subst (λ l. NoneFaults l j) (sym more) (faultless_more W item j s.faultless (ap (storing_fault item) (sym s.stored) ∙ one.faultless));
        readable = subst (AllByRecursion (StoredCanBeRead version)) (sym more) (all_append (StoredCanBeRead version) W (item ∷ []) s.readable (one_readable version raw item fits is one.whole, tt));
      }

  whole_of : written_from u ≡ W ++ written_from u'
  whole_of = ap (λ p. written_among p.0) s.frames ∙ written_append s.seen (frames_of u').0

  pub stands_done : left ≤ 0 → Stores version n u j w j' w' u'
  stands_done none = record {
    seen = s.seen;
    frames = s.frames;
    next = sym (ap (take n) whole_of ∙ subst (λ k. take k (W ++ written_from u') ≡ W) (let h = s.count in omega arith) (take-append_seam W (written_from u')));
    stored = s.stored;
    waits = s.waits;
    faultless = s.faultless;
    readable = s.readable;
  }

nothing_next : (u : List ℕ) → (next_of u ≡ Partial) ⊎ (next_of u ≡ Malformed) → written_from u ≡ []
nothing_next u =
    ⊎_elim
    (λ (e : next_of u ≡ Partial). ap (λ p. written_among p.0) (frames_of-next u ∙ ap (λ o. frames_from o (λ rest. frames_of rest) u) e))
    (λ (e : next_of u ≡ Malformed). ap (λ p. written_among p.0) (frames_of-next u ∙ ap (λ o. frames_from o (λ rest. frames_of rest) u) e))

take_some : (n : ℕ) (xs : List Written) (y : Written) (ys : List Written) → length xs < n → (zs : List Written) × (take n (xs ++ y ∷ ys) ≡ xs ++ y ∷ zs)
take_some zero xs y ys l = absurd (omega (arith, l))
take_some (suc n) [] y ys l = (take n ys, refl)
take_some (suc n) (x ∷ xs) y ys l = let h = take_some n xs y ys (omega (arith, l)) in (h.0, ap (λ l. x ∷ l) h.1)

shorter : (u u' : List ℕ) (raw : RawMessage) → next_of u ≡ Whole raw u' → length u' < length u
shorter u u' raw e = omega (arith, whole_shorter u raw u' e)

module _ (version : Version) (n : ℕ) (u : List ℕ) (j : List (List ℕ)) (w : List ℕ) (left : ℕ) (j' : List (List ℕ)) (w' u' : List ℕ) (s : Stands version n u j w left j' w' u') where
  -- no frame is whole
  pub stands_over : (o : Option Bool) (j'' : List (List ℕ)) (w'' u'' : List ℕ) → o ≡ None → StoresOne version j' w' u' o j'' w'' u'' → Stores version n u j w j'' w'' u''
  stands_over (Some b) j'' w'' u'' is h = absurd (cc)
  stands_over None j'' w'' u'' is (ends, same, journal, waits) = record {
    seen = s.seen;
    frames = subst (λ v. frames_of u ≡ (s.seen ++ (frames_of v).0, (frames_of v).1)) (sym same) s.frames;
    next = sym (ap (take n) (whole_of version n u j w left j' w' u' s ∙ ap (λ l. written_among s.seen ++ l) (nothing_next u' ends) ∙ append-nil (written_among s.seen)) ∙ take_all n (written_among s.seen) (omega (arith, s.count)));
    stored = journal ∙ s.stored;
    waits = waits ∙ s.waits;
    faultless = s.faultless;
    readable = s.readable;
  }

  -- one frame more was looked at
  stands_next : (b : Bool) (j'' : List (List ℕ)) (w'' u'' : List ℕ) → StoresOne version j' w' u' (Some b) j'' w'' u'' → 0 < left → Stands version n u j w (if b then left - 1 else left) j'' w'' u''
  stands_next false j'' w'' u'' (raw, next, fits, (none, journal, waits)) some =
      subst (λ (x : List (List ℕ) × List ℕ). Stands version n u j w left x.0 x.1 u'') (λ i. (sym journal i, sym waits i)) (skips version n u j w left j' w' u' s u'' raw next none)
  stands_next true j'' w'' u'' (raw, next, fits, (item, is, one)) some = keeps version n u j w left j' w' u' s u'' raw item j'' w'' next fits is one some

  pub then_next : (o : Option Bool) (stored b : Bool) (j'' : List (List ℕ)) (w'' u'' : List ℕ) → o ≡ Some stored → stored ≡ b → StoresOne version j' w' u' o j'' w'' u'' → 0 < left → Stands version n u j w (if b then left - 1 else left) j'' w'' u''
  then_next o stored b j'' w'' u'' is is' h some = stands_next b j'' w'' u'' (subst (λ t. StoresOne version j' w' u' t j'' w'' u'') (is ∙ ap Some is') h) some

  -- what is stored of the next frame has a fault
  pub stands_fault : (f : JournalFault) → NextFaults u' j' f → 0 < left → FirstFault version (take n (written_from u)) j f
  stands_fault f h some =
      let W = written_among s.seen in
      let item = h.has.item in
      let next : written_from u' ≡ item ∷ written_from h.rest = ap (λ p. written_among p.0) (next_framed u' h.rest h.raw h.next) ∙ ap (λ o. written_before o (written_from h.rest)) h.has.is in
      let all : written_from u ≡ W ++ item ∷ written_from h.rest = whole_of version n u j w left j' w' u' s ∙ ap (λ l. W ++ l) next in
      let t = take_some n W item (written_from h.rest) (omega (arith, s.count, some)) in
      subst (λ l. FirstFault version l j f) (sym (ap (take n) all ∙ t.1)) (first_fault version W item t.0 j f s.faultless s.readable (ap (storing_fault item) (sym s.stored) ∙ h.has.fault))

-- the bytes that weren't looked at are fewer
pub then_shorter : (version : Version) (j : List (List ℕ)) (w u : List ℕ) (o : Option Bool) (b : Bool) (j' : List (List ℕ)) (w' u' : List ℕ) → o ≡ Some b → StoresOne version j w u o j' w' u' → length u' < length u
then_shorter version j w u None b j' w' u' is h = absurd (cc)
then_shorter version j w u (Some c) b j' w' u' is (raw, next, fits, stores) = shorter u u' raw next
