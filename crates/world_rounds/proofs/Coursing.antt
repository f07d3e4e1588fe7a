-- The course of a round's attempt is what was delivered to it and what it wrote; each stored command stands after what was delivered
-- before it was written.
use Rattle.std.proofs.Common.{◌≡◌, ◌<◌, ◌≤◌, ◌+◌, ◌⊎◌, inl, inr, ⊎_elim, ℕ, zero, suc, Bool, true, false, List, [], ◌∷◌, ◌++◌, length, take, drop, map, refl, sym, ap, ◌∙◌, subst, arith, append_assoc, append-nil, length-append}
use Rattle.std.specs.List.{concat}
use Rattle.std.proofs.lemmas.List.Folds.{concat-append}
use Rattle.std.proofs.lemmas.Bool.{cases_lt}
use Rattle.journal_protocol.specs.RawMessage.{RawMessage}
use Rattle.journal_protocol.specs.Notification.{Notification}
use Rattle.journal_entries.specs.Frames.{Tail, frames_of}
use Rattle.journal_entries.proofs.Cuts.{frames_of-append}
use Rattle.vm_model.specs.Calls.{Meaning}
use Rattle.vm_model.specs.Histories.{IsPrefix, after_head}
use Rattle.vm_model.specs.HonestRounds.{ahead_of}
use Rattle.journal_entries.specs.Journal.{Entry, Recorded, Notified, commands_in, notifications_in}
use Rattle.vm_model.proofs.Lasting.{commands-append, notifications-append}
use Rattle.journal_protocol.specs.Version.{Version}
use Rattle.journal_protocol.specs.ProposeRunCompletion.{ProposeRunCompletion}
use Rattle.vm_attempt.specs.Arrivals.{AllFound, arriving, kept_after, kept_behind}
use Rattle.vm_attempt.specs.Heard.{acknowledged_from, proposals_among}
use Rattle.journal_entries.specs.JournalFrames.{commands_among}
use Rattle.vm_attempt.specs.Record.{Record, bytes_written, heard}
use Rattle.vm_attempt.specs.Stepping.{output_taken}
use Rattle.vm_attempt.specs.Told.{arrivals_of, bytes_in, frames_fed, written_by}
use Rattle.vm_attempt.proofs.Finishing.{acknowledged_more}
use Rattle.vm_attempt.proofs.Pieces.{commands_append, more_frames}
use Rattle.vm_attempt.proofs.Proposed.{arriving_append, arriving_more, arriving_notified, found_append, kept_all, none_found}
use Rattle.vm_attempt.proofs.Replayed.{commands_same, notes_same}
use Rattle.world_rounds.specs.declared.types.Event.{Event}
use Rattle.world_rounds.specs.declared.types.Event.TheVariants as event
use Rattle.world_rounds.specs.Courses.{brought_by, course_of, delivered, new_in}
use Rattle.journal_entries.specs.Entries.{journal_entries, journal_frames, notes_in}
use Rattle.world_rounds.specs.Rounds.{Happen, Happens, Now, Pieces, StepHappens, StepsHappen}
use Rattle.world_rounds.specs.Worlds.{IsJournal}
use Rattle.journal_entries.proofs.Framing.{AreFrames, entries_append, join, journal_acknowledges, journal_framed, notes_are}
use Rattle.world_rounds.proofs.Going.{IsOpen, Stepped, Takes, closes, fed, finishes, prefix_then, same_prefix, stepped}
use Rattle.world_rounds.proofs.Keeping.{Going, event_keeps, one_note}
use Rattle.world_rounds.proofs.Once.{is_new}
use Rattle.world_rounds.proofs.Repeating.{steps_keep}
use Rattle.world_rounds.proofs.Settled.{brings_still}
use Rattle.world_rounds.proofs.Writing.{bytes_grow, close_wrote, feed_wrote, finish_wrote, step_wrote}

-- ---- lists that grow

pub new_behind : {A : Type 0} (xs rest : List A) → drop (length xs) (xs ++ rest) ≡ rest
new_behind [] rest = refl
new_behind (x ∷ xs) rest = new_behind xs rest

-- what has grown is what was and what is new
grown : {A : Type 0} (old new : List A) → IsPrefix old new → new ≡ old ++ new_in old new
grown old new (rest, e) = e ∙ ap (λ l. old ++ l) (sym (ap (drop (length old)) e ∙ new_behind old rest))

drop_grows : {A : Type 0} (k : ℕ) (xs rest : List A) → IsPrefix (drop k xs) (drop k (xs ++ rest))
drop_grows zero xs rest = (rest, refl)
drop_grows (suc k) [] rest = (drop (suc k) rest, refl)
drop_grows (suc k) (x ∷ xs) rest = drop_grows k xs rest

dropped : {A : Type 0} (k : ℕ) (old new : List A) → IsPrefix old new → IsPrefix (drop k old) (drop k new)
dropped k old new (rest, e) = subst (λ l. IsPrefix (drop k old) (drop k l)) (sym e) (drop_grows k old rest)

behind_grows : {A : Type 0} (old new : List A) → IsPrefix old new → IsPrefix (after_head old) (after_head new)
behind_grows [] new h = (after_head new, refl)
behind_grows (x ∷ xs) new (rest, e) = (rest, ap after_head e)

-- ---- what grows as an event happens

frames_grow : (old new : List ℕ) → IsPrefix old new → IsPrefix (frames_of old).0 (frames_of new).0
frames_grow old new (rest, e) =
    let more = more_frames (frames_of old) rest in
    (more.0, ap (λ b. (frames_of b).0) e ∙ ap (λ (p : List RawMessage × Tail). p.0) (frames_of-append old rest) ∙ more.1)

commands_grow : (old new : List RawMessage) → IsPrefix old new → IsPrefix (commands_among old) (commands_among new)
commands_grow old new (rest, e) = (commands_among rest, ap commands_among e ∙ commands_append old rest)

written_grows : (old new : Record) → IsPrefix (bytes_written old) (bytes_written new) → IsPrefix (written_by old) (written_by new)
written_grows old new h = commands_grow (frames_of (bytes_written old)).0 (frames_of (bytes_written new)).0 (frames_grow (bytes_written old) (bytes_written new) h)

-- What an event adds to the journal, to what was written and proposed, and to what was fed. It stores no command, or the attempt writes none by it.
record Adds (now mid : Now) : Type 0 where
  stored : IsPrefix now.journal mid.journal
  wrote : IsPrefix (bytes_written now.attempt) (bytes_written mid.attempt)
  fed : IsPrefix (bytes_in now.attempt.fed) (bytes_in mid.attempt.fed)
  proposed : IsPrefix now.attempt.proposed mid.attempt.proposed
  apart : (commands_among (journal_frames stored.0) ≡ []) ⊎ (bytes_written mid.attempt ≡ bytes_written now.attempt)

takes : (piece : List ℕ) (r new : Record) → Takes piece r new → IsPrefix (bytes_in r.fed) (bytes_in new.fed)
takes piece r new t =
    ⊎_elim
    (λ (x : (bytes_in new.fed ≡ bytes_in r.fed) × (IsOpen new → ⊥)). same_prefix (bytes_in r.fed) (bytes_in new.fed) x.0)
    (λ (x : IsOpen r × (bytes_in new.fed ≡ bytes_in r.fed ++ piece)). (piece, x.1))
    t

-- the attempt alone has changed
by_attempt : (now mid : Now) (r : Record) → mid.journal ≡ now.journal → mid.attempt ≡ r → IsPrefix (bytes_written now.attempt) (bytes_written r) → IsPrefix (bytes_in now.attempt.fed) (bytes_in r.fed) → IsPrefix now.attempt.proposed r.proposed → Adds now mid
by_attempt now mid r same is wrote came proposed = record {
  stored = ([], same ∙ sym (append-nil now.journal));
  wrote = subst (λ (x : Record). IsPrefix (bytes_written now.attempt) (bytes_written x)) (sym is) wrote;
  fed = subst (λ (x : Record). IsPrefix (bytes_in now.attempt.fed) (bytes_in x.fed)) (sym is) came;
  proposed = subst (λ (x : Record). IsPrefix now.attempt.proposed x.proposed) (sym is) proposed;
  apart = inl refl;
}

-- the attempt has made a step, or the like
by_stepped : (now mid : Now) (r : Record) → mid.journal ≡ now.journal → mid.attempt ≡ r → IsPrefix (bytes_written now.attempt) (bytes_written r) → Stepped now.attempt r → Adds now mid
by_stepped now mid r same is wrote s = by_attempt now mid r same is wrote (same_prefix (bytes_in now.attempt.fed) (bytes_in r.fed) (ap bytes_in s.fed)) s.proposed

pieces_add : (closed : Bool) (n : ℕ) (now mid : Now) → Pieces closed n now mid → Adds now mid
pieces_add true n now mid d = by_attempt now mid now.attempt (ap (λ x. x.journal) d) (ap (λ x. x.attempt) d) ([], sym (append-nil (bytes_written now.attempt))) ([], sym (append-nil (bytes_in now.attempt.fed))) ([], sym (append-nil now.attempt.proposed))
pieces_add false n now mid (result, r, d, is) =
    let piece = take n now.waiting in
    let t = fed piece now.attempt result r d in
    by_attempt now mid r (ap (λ x. x.journal) is) (ap (λ x. x.attempt) is) (bytes_grow now.attempt r (feed_wrote piece now.attempt result r d)) (takes piece now.attempt r t.0) (same_prefix now.attempt.proposed r.proposed t.2)

taken_same : (r : Record) → bytes_written (output_taken r) ≡ bytes_written r
taken_same r =
    let out = concat r.vm.machine.output in
    append-nil (concat (r.taken ++ out ∷ [])) ∙ concat-append r.taken (out ∷ []) ∙ ap (λ l. concat r.taken ++ l) (append-nil out)

-- what steps add: no entry, and nothing that was fed
record StepsAdd (now mid : Now) : Type 0 where
  stored : mid.journal ≡ now.journal
  wrote : IsPrefix (bytes_written now.attempt) (bytes_written mid.attempt)
  fed : bytes_in mid.attempt.fed ≡ bytes_in now.attempt.fed
  proposed : IsPrefix now.attempt.proposed mid.attempt.proposed

no_steps_add : (now : Now) → StepsAdd now now
no_steps_add now = record {
  stored = refl;
  wrote = same_prefix (bytes_written now.attempt) (bytes_written now.attempt) refl;
  fed = refl;
  proposed = same_prefix now.attempt.proposed now.attempt.proposed refl;
}

step_adds : (m : Meaning) (now mid next : Now) → StepHappens m mid next → StepsAdd now mid → StepsAdd now next
step_adds m now mid next (result, r, d, is) a =
    let s = stepped m mid.attempt result r d in
    record {
      stored = ap (λ x. x.journal) is ∙ a.stored;
      wrote = subst (λ (x : Now). IsPrefix (bytes_written now.attempt) (bytes_written x.attempt)) (sym is)
          (prefix_then (bytes_written now.attempt) (bytes_written mid.attempt) (bytes_written r) a.wrote (bytes_grow mid.attempt r (step_wrote m mid.attempt result r d)));
      fed = ap (λ x. bytes_in x.attempt.fed) is ∙ ap bytes_in s.fed ∙ a.fed;
      proposed = subst (λ (x : Now). IsPrefix now.attempt.proposed x.attempt.proposed) (sym is) (prefix_then now.attempt.proposed mid.attempt.proposed r.proposed a.proposed s.proposed);
    }

steps_add : (m : Meaning) (n : ℕ) (now mid : Now) → StepsHappen m n now mid → Adds now mid
steps_add m n now mid d =
    let a = steps_keep m (StepsAdd now) (step_adds m now) n now mid d (no_steps_add now) in
    by_attempt now mid mid.attempt a.stored refl a.wrote (same_prefix (bytes_in now.attempt.fed) (bytes_in mid.attempt.fed) a.fed) a.proposed

event_adds : (m : Meaning) (e : Event) (now mid : Now) → Happens m e now mid → Adds now mid
event_adds m (event.Piece n) now mid d = pieces_add now.closed n now mid d
event_adds m event.Close now mid (result, r, d, is) = by_stepped now mid r (ap (λ x. x.journal) is) (ap (λ x. x.attempt) is) (bytes_grow now.attempt r (close_wrote now.attempt result r d)) (closes now.attempt result r d)
event_adds m event.Step now mid (result, r, d, is) = by_stepped now mid r (ap (λ x. x.journal) is) (ap (λ x. x.attempt) is) (bytes_grow now.attempt r (step_wrote m now.attempt result r d)) (stepped m now.attempt result r d)
event_adds m (event.Steps n) now mid d = steps_add m n now mid d
event_adds m (event.RunResult handle exit policy) now mid (result, r, d, is) =
    by_stepped now mid r (ap (λ x. x.journal) is) (ap (λ x. x.attempt) is) (bytes_grow now.attempt r (finish_wrote handle exit policy now.attempt result r d)) (finishes handle exit policy now.attempt result r d)
event_adds m (event.Arrive x) now mid (none, is) =
    let note = is_new x now.journal none in
    record {
      stored = (x ∷ [], ap (λ s. s.journal) is);
      wrote = same_prefix (bytes_written now.attempt) (bytes_written mid.attempt) (ap (λ s. bytes_written s.attempt) is);
      fed = same_prefix (bytes_in now.attempt.fed) (bytes_in mid.attempt.fed) (ap (λ s. bytes_in s.attempt.fed) is);
      proposed = same_prefix now.attempt.proposed mid.attempt.proposed (ap (λ s. s.attempt.proposed) is);
      apart = inl (one_note x note.note note.reads).none;
    }
event_adds m (event.Store n) now mid (journal, waiting, unstored, s, is, whole, proposed) =
    let same : bytes_written mid.attempt ≡ bytes_written now.attempt = ap (λ x. bytes_written x.attempt) is ∙ taken_same now.attempt in
    record {
      stored = (_, ap (λ x. x.journal) is ∙ s.stored);
      wrote = same_prefix (bytes_written now.attempt) (bytes_written mid.attempt) same;
      fed = same_prefix (bytes_in now.attempt.fed) (bytes_in mid.attempt.fed) (ap (λ x. bytes_in x.attempt.fed) is);
      proposed = same_prefix now.attempt.proposed mid.attempt.proposed (ap (λ x. x.attempt.proposed) is);
      apart = inr same;
    }

-- ---- courses

notes_brought : (ns : List Notification) (cs : List RawMessage) → (commands_in (map Notified ns ++ map Recorded cs) ≡ cs) × (notifications_in (map Notified ns ++ map Recorded cs) ≡ ns)
notes_brought [] [] = (refl, refl)
notes_brought [] (c ∷ cs) = let h = notes_brought [] cs in (ap (λ l. c ∷ l) h.0, h.1)
notes_brought (n ∷ ns) cs = let h = notes_brought ns cs in (h.0, ap (λ l. n ∷ l) h.1)

-- ---- the order of commands among what was delivered

-- each command of these entries stands after all that was delivered before it was written
abbrev pub Ordered : List Entry → List Entry → Type 0
Ordered course es = (n : ℕ) → n < length (commands_in es) → IsPrefix (ahead_of n course) (ahead_of n es)

ahead_within : (n : ℕ) (es more : List Entry) → n < length (commands_in es) → ahead_of n (es ++ more) ≡ ahead_of n es
ahead_within n [] more h = absurd (omega (arith, h))
ahead_within n (Notified x ∷ es) more h = ap (λ l. x ∷ l) (ahead_within n es more h)
ahead_within zero (Recorded c ∷ es) more h = refl
ahead_within (suc n) (Recorded c ∷ es) more h = ahead_within n es more (omega (arith, h))

-- what stands in front of a command is a beginning of all
ahead_begins : (n : ℕ) (es : List Entry) → IsPrefix (ahead_of n es) (notifications_in es)
ahead_begins n [] = ([], refl)
ahead_begins n (Notified x ∷ es) = let h = ahead_begins n es in (h.0, ap (λ l. x ∷ l) h.1)
ahead_begins zero (Recorded c ∷ es) = (notifications_in es, refl)
ahead_begins (suc n) (Recorded c ∷ es) = ahead_begins n es

-- in front of a later command stands all of these entries
ahead_behind : (n : ℕ) (es more : List Entry) → length (commands_in es) ≤ n → IsPrefix (notifications_in es) (ahead_of n (es ++ more))
ahead_behind n [] more h = (ahead_of n more, refl)
ahead_behind n (Notified x ∷ es) more h = let t = ahead_behind n es more h in (t.0, ap (λ l. x ∷ l) t.1)
ahead_behind zero (Recorded c ∷ es) more h = absurd (omega (arith, h))
ahead_behind (suc n) (Recorded c ∷ es) more h = ahead_behind n es more (omega (arith, h))

after_front : {A : Type 0} (xs ys zs : List A) → xs ++ ys ≡ xs ++ zs → ys ≡ zs
after_front [] ys zs e = e
after_front (x ∷ xs) ys zs e = after_front xs ys zs (let t : xs ++ ys ≡ xs ++ zs = cc in t)

-- more entries are added, where all that was delivered stands among those before
order_kept : (course es more : List Entry) → Ordered course es → IsPrefix (notifications_in course) (notifications_in es) → Ordered course (es ++ more)
order_kept course es more o p n h = by_test (cases_lt n (length (commands_in es)))
  where
    by_test : (n < length (commands_in es)) ⊎ (length (commands_in es) ≤ n) → IsPrefix (ahead_of n course) (ahead_of n (es ++ more))
    by_test (inl t) = subst (IsPrefix (ahead_of n course)) (sym (ahead_within n es more t)) (o n t)
    by_test (inr t) =
        prefix_then (ahead_of n course) (notifications_in course) (ahead_of n (es ++ more)) (ahead_begins n course)
        (prefix_then (notifications_in course) (notifications_in es) (ahead_of n (es ++ more)) p (ahead_behind n es more t))

-- the course goes on, and its commands were stored before
order_longer : (course more es : List Entry) → Ordered course es → length (commands_in es) ≤ length (commands_in course) → Ordered (course ++ more) es
order_longer course more es o short n h = subst (λ l. IsPrefix l (ahead_of n es)) (sym (ahead_within n course more (omega (arith, h, short)))) (o n h)

-- ---- a round on its way

-- the stored commands are among those that were written
pub stored_among : (version : Version) (start : List ℕ) (first : List (List ℕ)) (now : Now) (g : Going version start first now) → (rest : List RawMessage) × (written_by now.attempt ≡ commands_among g.scanned ++ rest)
stored_among version start first now g =
    let W = concat now.attempt.vm.machine.output in
    let more = more_frames (frames_of now.output) W in
    let same : (frames_of (now.output ++ W)).0 ≡ (g.scanned ++ (frames_of now.unstored).0) ++ more.0 = ap (λ (p : List RawMessage × Tail). p.0) (frames_of-append now.output W) ∙ more.1 ∙ ap (λ (p : List RawMessage × Tail). p.0 ++ more.0) g.output_frames in (
      commands_among ((frames_of now.unstored).0 ++ more.0),
      ap (λ b. commands_among (frames_of (b ++ W)).0) g.output_is
          ∙ ap commands_among (same ∙ append_assoc g.scanned (frames_of now.unstored).0 more.0)
          ∙ commands_append g.scanned ((frames_of now.unstored).0 ++ more.0),
    )

-- the entries that came after the first journal
abbrev pub behind_first : {version : Version} {start : List ℕ} {first : List (List ℕ)} {now : Now} → Going version start first now → List Entry
behind_first g = journal_entries g.added

-- its commands are those that were looked at
pub behind_commands : (version : Version) (start : List ℕ) (first : List (List ℕ)) (now : Now) (g : Going version start first now) → commands_in (behind_first g) ≡ commands_among g.scanned
behind_commands version start first now g = commands_same (journal_frames g.added) ∙ g.commands

pub behind_notes : (version : Version) (start : List ℕ) (first : List (List ℕ)) (now : Now) (g : Going version start first now) → notifications_in (behind_first g) ≡ notes_in g.added
behind_notes version start first now g = notes_same (journal_frames g.added) ∙ sym (notes_are g.added)

-- frames that are a beginning of others bring a beginning of their arrivals, where those find their proposals
found_front : (kept : List ProposeRunCompletion) (raws more : List RawMessage) → AllFound kept (raws ++ more) → AllFound kept raws
found_front kept [] more h = tt
found_front kept (raw ∷ raws) more h = (h.0, found_front (kept_behind kept raw) raws more h.1)

arrivals_front : (kept : List ProposeRunCompletion) (raws all : List RawMessage) → IsPrefix raws all → IsPrefix (arriving kept raws) (arriving kept all)
arrivals_front kept raws all (more, e) = (arriving (kept_after kept raws) more, ap (arriving kept) e ∙ arriving_append kept raws more)

-- more frames came, and more was proposed
arrivals_grow : (version : Version) (old new : List ProposeRunCompletion) (raws all : List RawMessage) → IsPrefix old new → IsPrefix raws all → AllFound (acknowledged_from version old) raws → IsPrefix (arriving (acknowledged_from version old) raws) (arriving (acknowledged_from version new) all)
arrivals_grow version old new raws all (more, e) longer found =
    let kept = acknowledged_from version old in
    let also = acknowledged_from version more in
    let is : acknowledged_from version new ≡ kept ++ also = ap (acknowledged_from version) e ∙ acknowledged_more version old more in
    subst (λ l. IsPrefix (arriving kept raws) (arriving l all)) (sym is)
    (subst (λ l. IsPrefix l (arriving (kept ++ also) all)) (arriving_more kept also raws found) (arrivals_front (kept ++ also) raws all longer))

module _ (m : Meaning) (version : Version) (start : List ℕ) (raw : RawMessage) (first : List (List ℕ)) (j : IsJournal first) (framed : AreFrames start (raw ∷ [])) where
  -- all bytes that are to be fed, as frames
  all_frames : (now : Now) (g : Going version start first now) → AreFrames (start ++ (concat first ++ g.bytes)) (raw ∷ (journal_frames first ++ g.came))
  all_frames now g = join start (concat first ++ g.bytes) (raw ∷ []) (journal_frames first ++ g.came) framed (join (concat first) g.bytes (journal_frames first) g.came (journal_framed first j.entries) g.framed)

  -- the frames that were fed are a beginning of them
  pub fed_frames : (now : Now) (g : Going version start first now) → (G : List RawMessage) × (raw ∷ (journal_frames first ++ g.came) ≡ frames_fed (heard version now.attempt) ++ G)
  fed_frames now g =
      let F = bytes_in now.attempt.fed in
      let unfed = g.fed_front.0 ++ now.waiting in
      let bytes : start ++ (concat first ++ g.bytes) ≡ F ++ unfed = sym g.all ∙ ap (λ l. l ++ now.waiting) g.fed_front.1 ∙ append_assoc F g.fed_front.0 now.waiting in
      let more = more_frames (frames_of F) unfed in
      (more.0, sym (ap (λ (p : List RawMessage × Tail). p.0) (all_frames now g)) ∙ ap (λ b. (frames_of b).0) bytes ∙ ap (λ (p : List RawMessage × Tail). p.0) (frames_of-append F unfed) ∙ more.1)

  -- what has come after Start is a beginning of the journal and of what came after it
  fed_behind : (now : Now) (g : Going version start first now) → IsPrefix (after_head (frames_fed (heard version now.attempt))) (journal_frames first ++ g.came)
  fed_behind now g = behind_grows (frames_fed (heard version now.attempt)) (raw ∷ (journal_frames first ++ g.came)) (fed_frames now g)

  -- what was proposed can be acknowledged
  abbrev proposed_to : Now → List ProposeRunCompletion
  proposed_to now = acknowledged_from version now.attempt.proposed

  -- all that came finds its proposals, and brings the notifications of the journal
  all_brought : (now : Now) (g : Going version start first now) → AllFound (proposed_to now) (journal_frames first ++ g.came) × (arriving (proposed_to now) (journal_frames first ++ g.came) ≡ notes_in first ++ notes_in g.added)
  all_brought now g =
      let none = journal_acknowledges first j.entries in
      let stored = proposals_among g.scanned in
      let still = brings_still version stored g.proposed.0 g.came (notes_in g.added) g.brings in
      let kept : kept_after (proposed_to now) (journal_frames first) ≡ proposed_to now = kept_all (proposed_to now) (journal_frames first) none in
      let is : acknowledged_from version (stored ++ g.proposed.0) ≡ proposed_to now = ap (acknowledged_from version) (sym g.proposed.1) in (
        found_append (proposed_to now) (journal_frames first) g.came (none_found (proposed_to now) (journal_frames first) none) (subst (λ l. AllFound l g.came) (is ∙ sym kept) still.0),
        arriving_append (proposed_to now) (journal_frames first) g.came
            ∙ (λ i. (arriving_notified (proposed_to now) (journal_frames first) none ∙ sym (notes_are first)) i ++ (ap (λ l. arriving l g.came) (kept ∙ sym is) ∙ still.1) i),
      )

  -- what was fed finds its proposals
  fed_found : (now : Now) (g : Going version start first now) → AllFound (proposed_to now) (after_head (frames_fed (heard version now.attempt)))
  fed_found now g =
      let p = fed_behind now g in
      found_front (proposed_to now) (after_head (frames_fed (heard version now.attempt))) p.0 (subst (AllFound (proposed_to now)) p.1 (all_brought now g).0)

  -- what was delivered after the first journal begins what came after it
  pub delivered_arrived : (now : Now) (g : Going version start first now) → IsPrefix (delivered version first now.attempt) (notifications_in (behind_first g))
  delivered_arrived now g =
      let k = length (notes_in first) in
      let came = arrivals_front (proposed_to now) (after_head (frames_fed (heard version now.attempt))) (journal_frames first ++ g.came) (fed_behind now g) in
      subst (IsPrefix (delivered version first now.attempt))
      (ap (drop k) (all_brought now g).1 ∙ new_behind (notes_in first) (notes_in g.added) ∙ sym (behind_notes version start first now g))
      (dropped k (arrivals_of (heard version now.attempt)) (arriving (proposed_to now) (journal_frames first ++ g.came)) came)

  -- what is delivered stays, as an event happens
  delivers : (now mid : Now) (g : Going version start first now) → Adds now mid → IsPrefix (delivered version first now.attempt) (delivered version first mid.attempt)
  delivers now mid g b =
      let frames = behind_grows (frames_fed (heard version now.attempt)) (frames_fed (heard version mid.attempt)) (frames_grow (bytes_in now.attempt.fed) (bytes_in mid.attempt.fed) b.fed) in
      dropped (length (notes_in first)) (arrivals_of (heard version now.attempt)) (arrivals_of (heard version mid.attempt))
      (arrivals_grow version now.attempt.proposed mid.attempt.proposed (after_head (frames_fed (heard version now.attempt))) (after_head (frames_fed (heard version mid.attempt))) b.proposed frames (fed_found now g))

  -- The course so far: what was written and delivered, and where the stored commands stand.
  pub record Along (course : List Entry) (now : Now) : Type 0 where
    pub going : Going version start first now
    pub written : commands_in course ≡ written_by now.attempt
    pub came : notifications_in course ≡ delivered version first now.attempt
    pub order : Ordered course (behind_first going)

  goes_along : (e : Event) (now mid : Now) (course : List Entry) → Happens m e now mid → Along course now → Along (course ++ brought_by version first now.attempt mid.attempt) mid
  goes_along e now mid course d a =
      let g = a.going in
      let g' = event_keeps m version start first e now mid d g in
      let b = event_adds m e now mid d in
      let ns = new_in (delivered version first now.attempt) (delivered version first mid.attempt) in
      let cs = new_in (written_by now.attempt) (written_by mid.attempt) in
      let new = map Notified ns ++ map Recorded cs in
      let x = notes_brought ns cs in
      let more = journal_entries b.stored.0 in
      let writes = written_grows now.attempt mid.attempt b.wrote in
      let added : g'.added ≡ g.added ++ b.stored.0 = after_front first g'.added (g.added ++ b.stored.0) (sym g'.extends ∙ b.stored.1 ∙ ap (λ l. l ++ b.stored.0) g.extends ∙ append_assoc first g.added b.stored.0) in
      let entries : behind_first g' ≡ behind_first g ++ more = ap journal_entries added ∙ entries_append g.added b.stored.0 in
      let kept : Ordered course (behind_first g ++ more) = order_kept course (behind_first g) more a.order (subst (λ l. IsPrefix l (notifications_in (behind_first g))) (sym a.came) (delivered_arrived now g)) in
      record {
        going = g';
        written = commands-append course new ∙ (λ i. a.written i ++ x.0 i) ∙ sym (grown (written_by now.attempt) (written_by mid.attempt) writes);
        came = notifications-append course new ∙ (λ i. a.came i ++ x.1 i) ∙ sym (grown (delivered version first now.attempt) (delivered version first mid.attempt) (delivers now mid g b));
        order = subst (Ordered (course ++ new)) (sym entries) (order_longer course new (behind_first g ++ more) kept (within a b g' entries));
      }
    where
      within : (a : Along course now) (b : Adds now mid) (g' : Going version start first mid) → behind_first g' ≡ behind_first a.going ++ journal_entries b.stored.0 → length (commands_in (behind_first a.going ++ journal_entries b.stored.0)) ≤ length (commands_in course)
      within a b g' is =
          ⊎_elim
          (λ (none : commands_among (journal_frames b.stored.0) ≡ []).
          let s = stored_among version start first now a.going in
          let here : length (commands_in (behind_first a.going ++ journal_entries b.stored.0)) ≡ length (commands_among a.going.scanned) =
          ap length (commands-append (behind_first a.going) (journal_entries b.stored.0) ∙ (λ i. behind_commands version start first now a.going i ++ (commands_same (journal_frames b.stored.0) ∙ none) i) ∙ append-nil (commands_among a.going.scanned)) in
          let all : length (commands_in course) ≡ length (commands_among a.going.scanned) + length s.0 = ap length (a.written ∙ s.1) ∙ length-append (commands_among a.going.scanned) s.0 in
          omega (arith, here, all))
          (λ (same : bytes_written mid.attempt ≡ bytes_written now.attempt).
          let s = stored_among version start first mid g' in
          let here : length (commands_in (behind_first a.going ++ journal_entries b.stored.0)) ≡ length (commands_among g'.scanned) = ap (λ l. length (commands_in l)) (sym is) ∙ ap length (behind_commands version start first mid g') in
          let all : length (commands_in course) ≡ length (commands_among g'.scanned) + length s.0 = ap length (a.written ∙ sym (ap (λ l. commands_among (frames_of l).0) same) ∙ s.1) ∙ length-append (commands_among g'.scanned) s.0 in
          omega (arith, here, all))
          b.apart

  event_goes_along : (e : Event) (now mid : Now) (course : List Entry) → Happens m e now mid → Along course now → Along (course ++ brought_by now.version first now.attempt mid.attempt) mid
  event_goes_along e now mid course d a = subst (λ v. Along (course ++ brought_by v first now.attempt mid.attempt) mid) (sym a.going.made_for) (goes_along e now mid course d a)

  pub events_go_along : (es : List Event) (now end : Now) (course : List Entry) (h : Happen m es now end) → Along course now → Along (course ++ course_of m first es now end h) end
  events_go_along [] now end course h a = subst (Along (course ++ [])) (sym h) (subst (λ l. Along l now) (sym (append-nil course)) a)
  events_go_along (e ∷ es) now end course (mid, d, others) a =
      let new = brought_by now.version first now.attempt mid.attempt in
      subst (λ l. Along l end) (append_assoc course new (course_of m first es mid end others)) (events_go_along es mid end (course ++ new) others (event_goes_along e now mid course d a))
