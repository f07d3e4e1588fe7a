-- Where the entries come from that rounds add to a journal.
use Rattle.std.proofs.Common.{◌≡◌, ◌⊎◌, inl, inr, ⊎_elim, ℕ, Bool, true, false, List, [], ◌∷◌, ◌++◌, map, Option, Some, None, refl, sym, ap, ◌∙◌, subst, append_assoc, append-nil, zero, suc}
use Rattle.std.specs.List.{AllByRecursion, concat}
use Rattle.journal_protocol.specs.RawMessage.{RawMessage}
use Rattle.journal_protocol.specs.Notification.{Notification}
use Rattle.journal_entries.specs.Frames.{Tail, frames_of}
use Rattle.journal_protocol.specs.ProposeRunCompletion.{ProposeRunCompletion}
use Rattle.vm_model.specs.Calls.{Meaning}
use Rattle.journal_entries.specs.JournalFrames.{notified_by}
use Rattle.vm_attempt.specs.Heard.{proposals_among, proposals_in}
use Rattle.vm_attempt.proofs.Quiet.{proposals_append}
use Rattle.journal_entries.specs.declared.storing.Written.{Written}
use Rattle.world_rounds.specs.declared.types.Event.{Event}
use Rattle.world_rounds.specs.declared.types.Event.TheVariants as event
use Rattle.world_rounds.specs.declared.types.Round.{Round}
use Rattle.world_rounds.specs.declared.types.Setting.{Setting}
use Rattle.journal_entries.specs.Entries.{note_in, notes_in}
use Rattle.journal_entries.specs.Storing.{Stores, stored_as, written_among, written_from}
use Rattle.journal_entries.proofs.Framing.{front_grows, in_front, notes_append}
use Rattle.journal_entries.proofs.Scanned.{written_append}
use Rattle.world_rounds.specs.Families.{Played, PlayedDo}
use Rattle.world_rounds.specs.Origins.{ArrivedAs, HasArrived, IsAmong, NothingIsInvented, WasProposed, WasWritten}
use Rattle.world_rounds.specs.Rounds.{ArrivalsDo, Happen, Happens, Now, Pieces, ReportView, RoundDoes, RoundsDo, StepHappens, StepsHappen, begin}
use Rattle.world_rounds.proofs.Settled.{are_items, completion, items_enter, proposals_are}

-- ---- lists

among_behind : {A : Type 0} (x : A) (xs ys : List A) → IsAmong x xs → IsAmong x (xs ++ ys)
among_behind x xs ys (b, a, is) = (b, a ++ ys, ap (λ l. l ++ ys) is ∙ append_assoc b (x ∷ a) ys)

among_ahead : {A : Type 0} (x : A) (xs ys : List A) → IsAmong x ys → IsAmong x (xs ++ ys)
among_ahead x xs ys (b, a, is) = (xs ++ b, a, ap (λ l. xs ++ l) is ∙ sym (append_assoc xs b (x ∷ a)))

all_map : {A : Type 0} (P Q : A → Type 0) → ((x : A) → P x → Q x) → (xs : List A) → AllByRecursion P xs → AllByRecursion Q xs
all_map P Q f [] h = tt
all_map P Q f (x ∷ xs) h = (f x h.0, all_map P Q f xs h.1)

all_append : {A : Type 0} (P : A → Type 0) (xs ys : List A) → AllByRecursion P xs → AllByRecursion P ys → AllByRecursion P (xs ++ ys)
all_append P [] ys h k = k
all_append P (x ∷ xs) ys h k = (h.0, all_append P xs ys h.1 k)

-- each item of a list that is mapped comes from one of the list
all_images : {A B : Type 0} (f : A → B) (front xs : List A) → AllByRecursion (λ (y : B). (x : A) × IsAmong x (front ++ xs) × (y ≡ f x)) (map f xs)
all_images f front [] = tt
all_images {A} {B} f front (x ∷ xs) = (
  (x, (front, xs, refl), refl),
  subst (λ l. AllByRecursion (λ (y : B). (z : A) × IsAmong z l × (y ≡ f z)) (map f xs)) (append_assoc front (x ∷ []) xs) (all_images f (front ++ x ∷ []) xs),
)

-- ---- events

-- an entry arrived by one of the events, or is what is stored of one of the frames
abbrev From : List Event → List RawMessage → List ℕ → Type 0
From es more x = IsAmong (event.Arrive x) es ⊎ ((w : Written) × IsAmong w (written_among more) × (x ≡ stored_as w))

-- the same of a notification
abbrev NoteFrom : List Event → List RawMessage → Notification → Type 0
NoteFrom es more n = ((x : List ℕ) × IsAmong (event.Arrive x) es × (note_in x ≡ Some n)) ⊎ ((p : ProposeRunCompletion) × IsAmong p (proposals_among more) × (n ≡ completion p))

from_behind : (es fs : List Event) (more k : List RawMessage) (x : List ℕ) → From es more x → From (es ++ fs) (more ++ k) x
from_behind es fs more k x (inl h) = inl (among_behind (event.Arrive x) es fs h)
from_behind es fs more k x (inr (w, h, is)) = inr (w, subst (IsAmong w) (sym (written_append more k)) (among_behind w (written_among more) (written_among k) h), is)

from_ahead : (es fs : List Event) (more k : List RawMessage) (x : List ℕ) → From fs k x → From (es ++ fs) (more ++ k) x
from_ahead es fs more k x (inl h) = inl (among_ahead (event.Arrive x) es fs h)
from_ahead es fs more k x (inr (w, h, is)) = inr (w, subst (IsAmong w) (sym (written_append more k)) (among_ahead w (written_among more) (written_among k) h), is)

note_behind : (es fs : List Event) (more k : List RawMessage) (n : Notification) → NoteFrom es more n → NoteFrom (es ++ fs) (more ++ k) n
note_behind es fs more k n (inl (x, h, is)) = inl (x, among_behind (event.Arrive x) es fs h, is)
note_behind es fs more k n (inr (p, h, is)) = inr (p, subst (IsAmong p) (sym (proposals_append more k)) (among_behind p (proposals_among more) (proposals_among k) h), is)

note_ahead : (es fs : List Event) (more k : List RawMessage) (n : Notification) → NoteFrom fs k n → NoteFrom (es ++ fs) (more ++ k) n
note_ahead es fs more k n (inl (x, h, is)) = inl (x, among_ahead (event.Arrive x) es fs h, is)
note_ahead es fs more k n (inr (p, h, is)) = inr (p, subst (IsAmong p) (sym (proposals_append more k)) (among_ahead p (proposals_among more) (proposals_among k) h), is)

-- these events have added entries, each of which came by one of them or is stored of frames that were looked at meanwhile
record Traced (es : List Event) (now end : Now) (scanned : List RawMessage) : Type 0 where
  added : List (List ℕ)
  extends : end.journal ≡ now.journal ++ added
  more : List RawMessage
  frames : frames_of end.output ≡ in_front (scanned ++ more) (frames_of end.unstored)
  entries : AllByRecursion (From es more) added
  notes : AllByRecursion (NoteFrom es more) (notes_in added)

-- the output's frames, of which these were looked at
abbrev Scans : List RawMessage → Now → Type 0
Scans scanned now = frames_of now.output ≡ in_front scanned (frames_of now.unstored)

-- nothing has changed of the journal, the output and what wasn't looked at
abbrev Stays : Now → Now → Type 0
Stays now new = (new.journal ≡ now.journal) × (new.output ≡ now.output) × (new.unstored ≡ now.unstored)

stays_traced : (es : List Event) (now new : Now) (scanned : List RawMessage) → Scans scanned now → Stays now new → Traced es now new scanned
stays_traced es now new scanned scans s = record {
  added = [];
  extends = s.0 ∙ sym (append-nil now.journal);
  more = [];
  frames = ap frames_of s.1 ∙ scans ∙ (λ i. in_front (sym (append-nil scanned) i) (frames_of (sym s.2 i)));
  entries = tt;
  notes = tt;
}

pieces_stay : (closed : Bool) (n : ℕ) (now new : Now) → Pieces closed n now new → Stays now new
pieces_stay true n now new d = (ap (λ (z : Now). z.journal) d, ap (λ (z : Now). z.output) d, ap (λ (z : Now). z.unstored) d)
pieces_stay false n now new (result, r, d, is) = (ap (λ (z : Now). z.journal) is, ap (λ (z : Now). z.output) is, ap (λ (z : Now). z.unstored) is)

step_stays : (m : Meaning) (now new : Now) → StepHappens m now new → Stays now new
step_stays m now new (result, r, d, is) = (ap (λ (z : Now). z.journal) is, ap (λ (z : Now). z.output) is, ap (λ (z : Now). z.unstored) is)

steps_stay : (m : Meaning) (n : ℕ) (now new : Now) → StepsHappen m n now new → Stays now new
steps_stay m zero now new d = (ap (λ (z : Now). z.journal) d, ap (λ (z : Now). z.output) d, ap (λ (z : Now). z.unstored) d)
steps_stay m (suc n) now new (mid, d, others) =
    let a = step_stays m now mid d in
    let b = steps_stay m n mid new others in
    (b.0 ∙ a.0, b.1 ∙ a.1, b.2 ∙ a.2)

-- an entry that arrives, as a notification
arrived_notes : (x : List ℕ) (more : List RawMessage) (o : Option Notification) → note_in x ≡ o → AllByRecursion (NoteFrom (event.Arrive x ∷ []) more) (notified_by o [])
arrived_notes x more None is = tt
arrived_notes x more (Some n) is = (inl (x, ([], [], refl), is), tt)

stores_traced : (n : ℕ) (now new : Now) (scanned : List RawMessage) (journal : List (List ℕ)) (waiting unstored : List ℕ) → Scans scanned now → Stores now.version n (now.unstored ++ concat now.attempt.vm.machine.output) now.journal now.waiting journal waiting unstored
    → new.journal ≡ journal → new.output ≡ now.output ++ concat now.attempt.vm.machine.output → new.unstored ≡ unstored → Traced (event.Store n ∷ []) now new scanned
stores_traced n now new scanned journal waiting unstored scans s is_journal is_output is_unstored =
    let W = written_among s.seen in
    let bytes = concat now.attempt.vm.machine.output in
    let grown : frames_of (now.output ++ bytes) ≡ in_front (scanned ++ s.seen) (frames_of unstored) = front_grows now.output now.unstored bytes scanned scans ∙ ap (in_front scanned) s.frames ∙ ap (λ l. (l, (frames_of unstored).1)) (sym (append_assoc scanned s.seen (frames_of unstored).0)) in
    let enter = items_enter now.version W (are_items now.version s.seen s.readable) in
    let notes : notes_in (map stored_as W) ≡ map completion (proposals_among s.seen) = enter.1 ∙ ap (map completion) (proposals_are s.seen) in
    record {
      added = map stored_as W;
      extends = is_journal ∙ s.stored;
      more = s.seen;
      frames = ap frames_of is_output ∙ grown ∙ ap (λ b. in_front (scanned ++ s.seen) (frames_of b)) (sym is_unstored);
      entries = all_map (λ (x : List ℕ). (w : Written) × IsAmong w W × (x ≡ stored_as w)) (From (event.Store n ∷ []) s.seen) (λ x h. inr h) (map stored_as W) (all_images stored_as [] W);
      notes = subst (AllByRecursion (NoteFrom (event.Store n ∷ []) s.seen)) (sym notes)
          (all_map (λ (k : Notification). (p : ProposeRunCompletion) × IsAmong p (proposals_among s.seen) × (k ≡ completion p)) (NoteFrom (event.Store n ∷ []) s.seen) (λ k h. inr h) (map completion (proposals_among s.seen)) (all_images completion [] (proposals_among s.seen)));
    }

event_traced : (m : Meaning) (e : Event) (now new : Now) (scanned : List RawMessage) → Scans scanned now → Happens m e now new → Traced (e ∷ []) now new scanned
event_traced m (event.Piece n) now new scanned scans d = stays_traced (event.Piece n ∷ []) now new scanned scans (pieces_stay now.closed n now new d)
event_traced m event.Close now new scanned scans (result, r, d, is) = stays_traced (event.Close ∷ []) now new scanned scans (ap (λ (z : Now). z.journal) is, ap (λ (z : Now). z.output) is, ap (λ (z : Now). z.unstored) is)
event_traced m event.Step now new scanned scans d = stays_traced (event.Step ∷ []) now new scanned scans (step_stays m now new d)
event_traced m (event.Steps n) now new scanned scans d = stays_traced (event.Steps n ∷ []) now new scanned scans (steps_stay m n now new d)
event_traced m (event.RunResult handle exit policy) now new scanned scans (result, r, d, is) = stays_traced (event.RunResult handle exit policy ∷ []) now new scanned scans (ap (λ (z : Now). z.journal) is, ap (λ (z : Now). z.output) is, ap (λ (z : Now). z.unstored) is)
event_traced m (event.Arrive x) now new scanned scans (none, is) = record {
  added = x ∷ [];
  extends = ap (λ (z : Now). z.journal) is;
  more = [];
  frames = ap (λ (z : Now). frames_of z.output) is ∙ scans ∙ (λ i. in_front (sym (append-nil scanned) i) (frames_of (sym (ap (λ (z : Now). z.unstored) is) i)));
  entries = (inl ([], [], refl), tt);
  notes = arrived_notes x [] (note_in x) refl;
}
event_traced m (event.Store n) now new scanned scans (journal, waiting, unstored, s, is, whole, proposed) =
    stores_traced n now new scanned journal waiting unstored scans s (ap (λ (z : Now). z.journal) is) (ap (λ (z : Now). z.output) is) (ap (λ (z : Now). z.unstored) is)

traced_on : (es fs : List Event) (now mid end : Now) (scanned : List RawMessage) → (a : Traced es now mid scanned) → Traced fs mid end (scanned ++ a.more) → Traced (es ++ fs) now end scanned
traced_on es fs now mid end scanned a b = record {
  added = a.added ++ b.added;
  extends = b.extends ∙ ap (λ l. l ++ b.added) a.extends ∙ append_assoc now.journal a.added b.added;
  more = a.more ++ b.more;
  frames = b.frames ∙ ap (λ l. in_front l (frames_of end.unstored)) (append_assoc scanned a.more b.more);
  entries = all_append (From (es ++ fs) (a.more ++ b.more)) a.added b.added (all_map (From es a.more) (From (es ++ fs) (a.more ++ b.more)) (from_behind es fs a.more b.more) a.added a.entries) (all_map (From fs b.more) (From (es ++ fs) (a.more ++ b.more)) (from_ahead es fs a.more b.more) b.added b.entries);
  notes = subst (AllByRecursion (NoteFrom (es ++ fs) (a.more ++ b.more))) (sym (notes_append a.added b.added)) (all_append (NoteFrom (es ++ fs) (a.more ++ b.more)) (notes_in a.added) (notes_in b.added)
      (all_map (NoteFrom es a.more) (NoteFrom (es ++ fs) (a.more ++ b.more)) (note_behind es fs a.more b.more) (notes_in a.added) a.notes)
      (all_map (NoteFrom fs b.more) (NoteFrom (es ++ fs) (a.more ++ b.more)) (note_ahead es fs a.more b.more) (notes_in b.added) b.notes));
}

events_traced : (m : Meaning) (es : List Event) (now end : Now) (scanned : List RawMessage) → Scans scanned now → Happen m es now end → Traced es now end scanned
events_traced m [] now end scanned scans d = stays_traced [] now end scanned scans (ap (λ (z : Now). z.journal) d, ap (λ (z : Now). z.output) d, ap (λ (z : Now). z.unstored) d)
events_traced m (e ∷ es) now end scanned scans (mid, d, others) =
    let a = event_traced m e now mid scanned scans d in
    traced_on (e ∷ []) es now mid end scanned a (events_traced m es mid end (scanned ++ a.more) a.frames others)

-- ---- rounds

-- an entry of a round
abbrev RoundFrom : Round → ReportView → List ℕ → Type 0
RoundFrom round report x = HasArrived x (round ∷ []) ⊎ WasWritten x (report ∷ [])

abbrev RoundNotes : Round → ReportView → Notification → Type 0
RoundNotes round report n = ArrivedAs n (round ∷ []) ⊎ WasProposed n (report ∷ [])

-- entries that arrive, and nothing else
record Came (es : List Event) (old new : List (List ℕ)) : Type 0 where
  added : List (List ℕ)
  extends : new ≡ old ++ added
  entries : AllByRecursion (λ (x : List ℕ). IsAmong (event.Arrive x) es) added
  notes : AllByRecursion (λ (n : Notification). (x : List ℕ) × IsAmong (event.Arrive x) es × (note_in x ≡ Some n)) (notes_in added)

came_later : (e : Event) (es : List Event) (old new : List (List ℕ)) → Came es old new → Came (e ∷ es) old new
came_later e es old new c = record {
  added = c.added;
  extends = c.extends;
  entries = all_map (λ (x : List ℕ). IsAmong (event.Arrive x) es) (λ (x : List ℕ). IsAmong (event.Arrive x) (e ∷ es)) (λ x. among_ahead (event.Arrive x) (e ∷ []) es) c.added c.entries;
  notes = all_map (λ (n : Notification). (x : List ℕ) × IsAmong (event.Arrive x) es × (note_in x ≡ Some n)) (λ (n : Notification). (x : List ℕ) × IsAmong (event.Arrive x) (e ∷ es) × (note_in x ≡ Some n)) (λ n h. (h.0, among_ahead (event.Arrive h.0) (e ∷ []) es h.1, h.2)) (notes_in c.added) c.notes;
}

arrived_first : (x : List ℕ) (es : List Event) (o : Option Notification) → note_in x ≡ o → (ns : List Notification) → AllByRecursion (λ (n : Notification). (y : List ℕ) × IsAmong (event.Arrive y) (event.Arrive x ∷ es) × (note_in y ≡ Some n)) ns
    → AllByRecursion (λ (n : Notification). (y : List ℕ) × IsAmong (event.Arrive y) (event.Arrive x ∷ es) × (note_in y ≡ Some n)) (notified_by o ns)
arrived_first x es None is ns h = h
arrived_first x es (Some n) is ns h = ((x, ([], es, refl), is), h)

arrivals_came : (es : List Event) (old new : List (List ℕ)) → ArrivalsDo es old new → Came es old new
arrivals_came [] old new d = record { added = []; extends = d ∙ sym (append-nil old); entries = tt; notes = tt }
arrivals_came (event.Arrive x ∷ es) old new d =
    let c = came_later (event.Arrive x) es (old ++ x ∷ []) new (arrivals_came es (old ++ x ∷ []) new d.1) in
    record {
      added = x ∷ c.added;
      extends = c.extends ∙ append_assoc old (x ∷ []) c.added;
      entries = (([], es, refl), c.entries);
      notes = arrived_first x es (note_in x) refl (notes_in c.added) c.notes;
    }
arrivals_came (event.Piece n ∷ es) old new d = came_later (event.Piece n) es old new (arrivals_came es old new d)
arrivals_came (event.Close ∷ es) old new d = came_later event.Close es old new (arrivals_came es old new d)
arrivals_came (event.Step ∷ es) old new d = came_later event.Step es old new (arrivals_came es old new d)
arrivals_came (event.Steps n ∷ es) old new d = came_later (event.Steps n) es old new (arrivals_came es old new d)
arrivals_came (event.RunResult handle exit policy ∷ es) old new d = came_later (event.RunResult handle exit policy) es old new (arrivals_came es old new d)
arrivals_came (event.Store n ∷ es) old new d = came_later (event.Store n) es old new (arrivals_came es old new d)

round_invents_nothing : (m : Meaning) (w : Setting) (round : Round) (old : List (List ℕ)) (report : ReportView) (new : List (List ℕ)) → RoundDoes m w round old report new → NothingIsInvented (round ∷ []) old (report ∷ []) new
round_invents_nothing m w round old report new (inl d) =
    let now = d.ran.now in
    let t = events_traced m round.events (begin d.alloc w round old) now [] refl d.ran.happen in
    let bytes = concat now.attempt.vm.machine.output in
    let rest = (frames_of (now.unstored ++ bytes)).0 in
    let output : report.output ≡ now.output ++ bytes = ap (λ (v : ReportView). v.output) d.ran.told in
    let frames : (frames_of report.output).0 ≡ t.more ++ rest = ap (λ b. (frames_of b).0) output ∙ ap (λ (p : List RawMessage × Tail). p.0) (front_grows now.output now.unstored bytes t.more t.frames) in
    let wrote : written_from report.output ≡ written_among t.more ++ written_among rest = ap written_among frames ∙ written_append t.more rest in
    let proposed : proposals_in report.output ≡ proposals_among t.more ++ proposals_among rest = ap proposals_among frames ∙ proposals_append t.more rest in
    record {
      added = t.added;
      extends = d.ran.left ∙ t.extends;
      entries = all_map (From round.events t.more) (RoundFrom round report) (λ x h.
          ⊎_elim
          (λ (a : IsAmong (event.Arrive x) round.events). inl (round, ([], [], refl), a))
          (λ (b : (w : Written) × IsAmong w (written_among t.more) × (x ≡ stored_as w)). inr (report, b.0, ([], [], refl), subst (IsAmong b.0) (sym wrote) (among_behind b.0 (written_among t.more) (written_among rest) b.1), b.2))
          h) t.added t.entries;
      notes = all_map (NoteFrom round.events t.more) (RoundNotes round report) (λ n h.
          ⊎_elim
          (λ (a : (x : List ℕ) × IsAmong (event.Arrive x) round.events × (note_in x ≡ Some n)). inl (a.0, (round, ([], [], refl), a.1), a.2))
          (λ (b : (p : ProposeRunCompletion) × IsAmong p (proposals_among t.more) × (n ≡ completion p)). inr (report, b.0, ([], [], refl), subst (IsAmong b.0) (sym proposed) (among_behind b.0 (proposals_among t.more) (proposals_among rest) b.1), b.2))
          h) (notes_in t.added) t.notes;
    }
round_invents_nothing m w round old report new (inr d) =
    let c = arrivals_came round.events old new d.arrivals in
    record {
      added = c.added;
      extends = c.extends;
      entries = all_map (λ (x : List ℕ). IsAmong (event.Arrive x) round.events) (RoundFrom round report) (λ x h. inl (round, ([], [], refl), h)) c.added c.entries;
      notes = all_map (λ (n : Notification). (x : List ℕ) × IsAmong (event.Arrive x) round.events × (note_in x ≡ Some n)) (RoundNotes round report) (λ n h. inl (h.0, (round, ([], [], refl), h.1), h.2)) (notes_in c.added) c.notes;
    }

-- what holds of some rounds holds of more
abbrev EntryOf : List Round → List ReportView → List ℕ → Type 0
EntryOf rounds reports x = HasArrived x rounds ⊎ WasWritten x reports

abbrev NoteOf : List Round → List ReportView → Notification → Type 0
NoteOf rounds reports n = ArrivedAs n rounds ⊎ WasProposed n reports

entry_behind : (rs qs : List Round) (vs us : List ReportView) (x : List ℕ) → EntryOf rs vs x → EntryOf (rs ++ qs) (vs ++ us) x
entry_behind rs qs vs us x (inl (round, a, h)) = inl (round, among_behind round rs qs a, h)
entry_behind rs qs vs us x (inr (report, w, a, h, is)) = inr (report, w, among_behind report vs us a, h, is)

entry_ahead : (rs qs : List Round) (vs us : List ReportView) (x : List ℕ) → EntryOf qs us x → EntryOf (rs ++ qs) (vs ++ us) x
entry_ahead rs qs vs us x (inl (round, a, h)) = inl (round, among_ahead round rs qs a, h)
entry_ahead rs qs vs us x (inr (report, w, a, h, is)) = inr (report, w, among_ahead report vs us a, h, is)

noted_behind : (rs qs : List Round) (vs us : List ReportView) (n : Notification) → NoteOf rs vs n → NoteOf (rs ++ qs) (vs ++ us) n
noted_behind rs qs vs us n (inl (x, (round, a, h), is)) = inl (x, (round, among_behind round rs qs a, h), is)
noted_behind rs qs vs us n (inr (report, p, a, h, is)) = inr (report, p, among_behind report vs us a, h, is)

noted_ahead : (rs qs : List Round) (vs us : List ReportView) (n : Notification) → NoteOf qs us n → NoteOf (rs ++ qs) (vs ++ us) n
noted_ahead rs qs vs us n (inl (x, (round, a, h), is)) = inl (x, (round, among_ahead round rs qs a, h), is)
noted_ahead rs qs vs us n (inr (report, p, a, h, is)) = inr (report, p, among_ahead report vs us a, h, is)

joined : (rs qs : List Round) (vs us : List ReportView) (old mid new : List (List ℕ)) → NothingIsInvented rs old vs mid → NothingIsInvented qs mid us new → NothingIsInvented (rs ++ qs) old (vs ++ us) new
joined rs qs vs us old mid new a b = record {
  added = a.added ++ b.added;
  extends = b.extends ∙ ap (λ l. l ++ b.added) a.extends ∙ append_assoc old a.added b.added;
  entries = all_append (EntryOf (rs ++ qs) (vs ++ us)) a.added b.added (all_map (EntryOf rs vs) (EntryOf (rs ++ qs) (vs ++ us)) (entry_behind rs qs vs us) a.added a.entries) (all_map (EntryOf qs us) (EntryOf (rs ++ qs) (vs ++ us)) (entry_ahead rs qs vs us) b.added b.entries);
  notes = subst (AllByRecursion (NoteOf (rs ++ qs) (vs ++ us))) (sym (notes_append a.added b.added)) (all_append (NoteOf (rs ++ qs) (vs ++ us)) (notes_in a.added) (notes_in b.added)
      (all_map (NoteOf rs vs) (NoteOf (rs ++ qs) (vs ++ us)) (noted_behind rs qs vs us) (notes_in a.added) a.notes)
      (all_map (NoteOf qs us) (NoteOf (rs ++ qs) (vs ++ us)) (noted_ahead rs qs vs us) (notes_in b.added) b.notes));
}

abbrev round_in : Played → Round
round_in p = p.round

pub played_invent_nothing : (w : Setting) (played : List Played) (old : List (List ℕ)) (reports : List ReportView) (new : List (List ℕ)) → PlayedDo w played old reports new → NothingIsInvented (map (λ p. p.round) played) old reports new
played_invent_nothing w [] old reports new d = record { added = []; extends = d.1 ∙ sym (append-nil old); entries = tt; notes = tt }
played_invent_nothing w (p ∷ ps) old reports new (mid, report, more, is, one, others) =
    subst (λ vs. NothingIsInvented (map (λ (q : Played). q.round) (p ∷ ps)) old vs new) (sym is) (joined (p.round ∷ []) (map (λ (q : Played). q.round) ps) (report ∷ []) more old mid new (round_invents_nothing p.handler w p.round old report mid one) (played_invent_nothing w ps mid more new others))

pub rounds_invent_nothing : (m : Meaning) (w : Setting) (rounds : List Round) (old : List (List ℕ)) (reports : List ReportView) (new : List (List ℕ)) → RoundsDo m w rounds old reports new → NothingIsInvented rounds old reports new
rounds_invent_nothing m w [] old reports new d = record { added = []; extends = d.1 ∙ sym (append-nil old); entries = tt; notes = tt }
rounds_invent_nothing m w (r ∷ rs) old reports new (mid, report, more, is, one, others) =
    subst (λ vs. NothingIsInvented (r ∷ rs) old vs new) (sym is) (joined (r ∷ []) rs (report ∷ []) more old mid new (round_invents_nothing m w r old report mid one) (rounds_invent_nothing m w rs mid more new others))
