-- Frames of bytes that are put together, and the entries of journals.
use Rattle.std.proofs.Common.{◌≡◌, ℕ, ◌+◌, ◌<◌, ◌^◌, ◌&&◌, Bool, true, false, cond, List, [], ◌∷◌, ◌++◌, length, Option, Some, None, refl, sym, ap, ◌∙◌, subst, arith, append_assoc, append-nil}
use Rattle.std.specs.Prelude.{◌==◌, ◌||◌, is_some, nat_le, nat_lt}
use Rattle.std.specs.List.{AllByRecursion, concat}
use Rattle.std.proofs.lemmas.Bool.Decides.{nat_tests}
use Rattle.journal_protocol.specs.Message.{Message}
use Rattle.journal_protocol.specs.RawMessage.{RawMessage}
use Rattle.journal_protocol.specs.Notification.{Notification}
use Rattle.journal_protocol.specs.Frames.{NextFrame, Whole, Partial, Malformed, next_of}
use Rattle.journal_protocol.specs.Bodies.{message_in, notification_in}
use Rattle.journal_protocol.specs.Types.{type_number}
use Rattle.journal_protocol.proofs.Facts.{whole_spelled}
use Rattle.journal_entries.specs.Frames.{Tail, Rest, Garbage, frames_from, frames_of, frames_joined}
use Rattle.journal_entries.proofs.Cuts.{frames_of-append, frames_of-next}
use Rattle.journal_entries.specs.Journal.{Entry, messages_in, read_before}
use Rattle.journal_entries.specs.JournalFrames.{AcknowledgesNothing, as_entries, commands_among, is_acknowledgement, is_command_frame, is_notification, notifications_among, notified_by, recorded_by, told_by}
use Rattle.journal_entries.specs.Entries.{AreEntries, only_frame, journal_entries, frame_in, frame_of, framed_by, journal_frames, may_stand, note_in, note_of, notes_in, read_from, said_by, said_in}

-- ---- frames of bytes

-- these are the frames of some bytes, and nothing follows them
abbrev pub AreFrames : List ℕ → List RawMessage → Type 0
AreFrames bytes raws = frames_of bytes ≡ (raws, Rest [])

-- frames after frames
pub join : (a b : List ℕ) (ra rb : List RawMessage) → AreFrames a ra → AreFrames b rb → AreFrames (a ++ b) (ra ++ rb)
join a b ra rb ea eb = frames_of-append a b ∙ ap (λ (p : List RawMessage × Tail). frames_joined p b) ea ∙ ap (λ (p : List RawMessage × Tail). (ra ++ p.0, p.1)) eb

abbrev pub in_front : List RawMessage → List RawMessage × Tail → List RawMessage × Tail
in_front seen p = (seen ++ p.0, p.1)

joined_front : (seen : List RawMessage) (p : List RawMessage × Tail) (more : List ℕ) → frames_joined (in_front seen p) more ≡ in_front seen (frames_joined p more)
joined_front seen (fs, Rest bytes) more = ap (λ l. (l, (frames_of (bytes ++ more)).1)) (append_assoc seen fs (frames_of (bytes ++ more)).0)
joined_front seen (fs, Garbage) more = refl

-- what was seen stays in front as the output grows
pub front_grows : (whole rest more : List ℕ) (seen : List RawMessage) → frames_of whole ≡ in_front seen (frames_of rest) → frames_of (whole ++ more) ≡ in_front seen (frames_of (rest ++ more))
front_grows whole rest more seen e =
    frames_of-append whole more ∙ ap (λ (p : List RawMessage × Tail). frames_joined p more) e ∙ joined_front seen (frames_of rest) more ∙ ap (in_front seen) (sym (frames_of-append rest more))

-- one frame
pub next_framed : (a rest : List ℕ) (raw : RawMessage) → next_of a ≡ Whole raw rest → frames_of a ≡ in_front (raw ∷ []) (frames_of rest)
next_framed a rest raw e = frames_of-next a ∙ ap (λ o. frames_from o (λ r. frames_of r) a) e

pub none_framed : AreFrames [] []
unfolding frames_of
none_framed = refl

-- a frame's bytes have that frame in front
frame_next : (raw : RawMessage) → length raw.body < 2 ^ 64 → next_of (frame_of raw) ≡ Whole raw []
frame_next raw l = ap next_of (sym (append-nil (frame_of raw))) ∙ whole_spelled raw.ty raw.body [] l

pub one_framed : (raw : RawMessage) → length raw.body < 2 ^ 64 → AreFrames (frame_of raw) (raw ∷ [])
one_framed raw l = next_framed (frame_of raw) [] raw (frame_next raw l) ∙ ap (in_front (raw ∷ [])) none_framed

-- a frame's bytes, as an entry, are that frame
pub frame_back : (raw : RawMessage) → length raw.body < 2 ^ 64 → frame_in (frame_of raw) ≡ Some raw
frame_back raw l = ap only_frame (frame_next raw l)

-- ---- the frames of a journal

alone_next : (o : NextFrame) (raw : RawMessage) → only_frame o ≡ Some raw → o ≡ Whole raw []
alone_next (Whole r []) raw e = let is : r ≡ raw = cc in ap (λ x. Whole x []) is
alone_next (Whole r (b ∷ bytes)) raw e = absurd (cc)
alone_next Partial raw e = absurd (cc)
alone_next Malformed raw e = absurd (cc)

-- an entry is one frame
pub entry_framed : (x : List ℕ) (raw : RawMessage) → frame_in x ≡ Some raw → AreFrames x (raw ∷ [])
entry_framed x raw e = next_framed x [] raw (alone_next (next_of x) raw e) ∙ ap (in_front (raw ∷ [])) none_framed

entry_by : (x : List ℕ) (o : Option RawMessage) → frame_in x ≡ o → may_stand o ≡ true → AreFrames x (framed_by o [])
entry_by x None e h = absurd (cc)
entry_by x (Some raw) e h = entry_framed x raw e

front_framed : (o : Option RawMessage) (raws : List RawMessage) → framed_by o [] ++ raws ≡ framed_by o raws
front_framed None raws = refl
front_framed (Some raw) raws = refl

-- entries one after another are their frames
pub journal_framed : (journal : List (List ℕ)) → AreEntries journal → AreFrames (concat journal) (journal_frames journal)
journal_framed [] h = none_framed
journal_framed (x ∷ xs) h = subst (AreFrames (x ++ concat xs)) (front_framed (frame_in x) (journal_frames xs)) (join x (concat xs) (framed_by (frame_in x) []) (journal_frames xs) (entry_by x (frame_in x) refl h.0) (journal_framed xs h.1))

one_long : (o : Option RawMessage) (raws : List RawMessage) (n : ℕ) → may_stand o ≡ true → length raws ≡ n → length (framed_by o raws) ≡ length raws + 1
one_long None raws n h e = absurd (cc)
one_long (Some raw) raws n h e = omega arith

-- one frame an entry
pub journal_length : (journal : List (List ℕ)) → AreEntries journal → length (journal_frames journal) ≡ length journal
journal_length [] h = refl
journal_length (x ∷ xs) h = let e = journal_length xs h.1 in omega (arith, one_long (frame_in x) (journal_frames xs) (length xs) h.0 e, e)

pub frames_append : (xs ys : List (List ℕ)) → journal_frames (xs ++ ys) ≡ journal_frames xs ++ journal_frames ys
frames_append [] ys = refl
frames_append (x ∷ xs) ys = ap (framed_by (frame_in x)) (frames_append xs ys) ∙ by_frame (frame_in x)
  where
    by_frame : (o : Option RawMessage) → framed_by o (journal_frames xs ++ journal_frames ys) ≡ framed_by o (journal_frames xs) ++ journal_frames ys
    by_frame None = refl
    by_frame (Some raw) = refl

pub entries_join : (xs ys : List (List ℕ)) → AreEntries xs → AreEntries ys → AreEntries (xs ++ ys)
entries_join [] ys a b = b
entries_join (x ∷ xs) ys a b = (a.0, entries_join xs ys a.1 b)

-- ---- notifications and messages, entry by entry

noted_by : (b : Bool) (o : Option Notification) (ns : List Notification) → notified_by (cond b o None) ns ≡ cond b (notified_by o ns) ns
noted_by true o ns = refl
noted_by false o ns = refl

note_before : (o : Option RawMessage) (raws : List RawMessage) (ns : List Notification) → ns ≡ notifications_among raws → notified_by (read_from note_of o) ns ≡ notifications_among (framed_by o raws)
note_before None raws ns e = e
note_before (Some raw) raws ns e = noted_by (is_notification raw) (notification_in raw.body) ns ∙ ap (λ ns. cond (is_notification raw) (notified_by (notification_in raw.body) ns) ns) e

pub notes_are : (journal : List (List ℕ)) → notes_in journal ≡ notifications_among (journal_frames journal)
notes_are [] = refl
notes_are (x ∷ xs) = note_before (frame_in x) (journal_frames xs) (notes_in xs) (notes_are xs)

said_before : (b : Bool) (o : Option Message) (raw : RawMessage) (raws : List RawMessage) → message_in raw.ty raw.body ≡ o → read_before (cond b o None) (messages_in raws) ≡ messages_in (cond b (raw ∷ raws) raws)
said_before true o raw raws e = ap (λ x. read_before x (messages_in raws)) (sym e)
said_before false o raw raws e = refl

message_before : (o : Option RawMessage) (raws : List RawMessage) (ms : List Message) → ms ≡ messages_in (commands_among raws) → read_before (read_from said_by o) ms ≡ messages_in (commands_among (framed_by o raws))
message_before None raws ms e = e
message_before (Some raw) raws ms e = ap (read_before (said_by raw)) e ∙ said_before (is_command_frame raw) (message_in raw.ty raw.body) raw (commands_among raws) refl

pub said_are : (journal : List (List ℕ)) → said_in journal ≡ messages_in (commands_among (journal_frames journal))
said_are [] = refl
said_are (x ∷ xs) = message_before (frame_in x) (journal_frames xs) (said_in xs) (said_are xs)

pub notes_append : (xs ys : List (List ℕ)) → notes_in (xs ++ ys) ≡ notes_in xs ++ notes_in ys
notes_append [] ys = refl
notes_append (x ∷ xs) ys = ap (notified_by (note_in x)) (notes_append xs ys) ∙ by_note (note_in x)
  where
    by_note : (o : Option Notification) → notified_by o (notes_in xs ++ notes_in ys) ≡ notified_by o (notes_in xs) ++ notes_in ys
    by_note None = refl
    by_note (Some n) = refl

-- ---- commands are no notifications

thirty : (n : ℕ) → (n == 30) ≡ true → n ≡ 30
thirty n h = grind (arith, nat_tests)

pub note_no_command : (raw : RawMessage) → is_notification raw ≡ true → is_command_frame raw ≡ false
note_no_command raw h = ap (λ k. nat_le 10 k && nat_lt k 30) (thirty (type_number raw.ty) h)

pub command_no_note : (raw : RawMessage) → is_command_frame raw ≡ true → is_notification raw ≡ false
command_no_note raw h = by_test (is_notification raw) refl
  where
    by_test : (b : Bool) → is_notification raw ≡ b → is_notification raw ≡ false
    by_test false e = e
    by_test true e = absurd (let z : false ≡ true = sym (note_no_command raw e) ∙ h in cc)

-- ---- entries acknowledge nothing

six : (n : ℕ) → (n == 6) ≡ true → n ≡ 6
six n h = grind (arith, nat_tests)

pub note_acknowledges_nothing : (raw : RawMessage) → is_notification raw ≡ true → is_acknowledgement raw ≡ false
note_acknowledges_nothing raw h = ap (λ k. k == 6) (thirty (type_number raw.ty) h)

stands_not : (a b c : Bool) (o : Option Notification) → (c ≡ true → (a ≡ false) × (b ≡ false)) → (a || is_some (cond b o None)) ≡ true → c ≡ false
stands_not a b false o apart h = refl
stands_not true b true o apart h = absurd (let z : true ≡ false = (apart refl).0 in cc)
stands_not false true true o apart h = absurd (let z : true ≡ false = (apart refl).1 in cc)
stands_not false false true o apart h = absurd (cc)

entry_acknowledges : (o : Option RawMessage) → may_stand o ≡ true → (raws : List RawMessage) → AllByRecursion AcknowledgesNothing raws → AllByRecursion AcknowledgesNothing (framed_by o raws)
entry_acknowledges None h raws all = all
entry_acknowledges (Some raw) h raws all = (stands_not (is_command_frame raw) (is_notification raw) (is_acknowledgement raw) (notification_in raw.body) (λ is. let n = six (type_number raw.ty) is in (ap (λ k. nat_le 10 k && nat_lt k 30) n, ap (λ k. k == 30) n)) h, all)

pub journal_acknowledges : (journal : List (List ℕ)) → AreEntries journal → AllByRecursion AcknowledgesNothing (journal_frames journal)
journal_acknowledges [] h = tt
journal_acknowledges (x ∷ xs) h = entry_acknowledges (frame_in x) h.0 (journal_frames xs) (journal_acknowledges xs h.1)

-- ---- entries

recorded_append : (b : Bool) (raw : RawMessage) (xs ys : List Entry) → recorded_by b raw (xs ++ ys) ≡ recorded_by b raw xs ++ ys
recorded_append true raw xs ys = refl
recorded_append false raw xs ys = refl

told_append : (o : Option Notification) (xs ys : List Entry) → told_by o (xs ++ ys) ≡ told_by o xs ++ ys
told_append None xs ys = refl
told_append (Some n) xs ys = refl

noted_append : (b : Bool) (o : Option Notification) (xs ys : List Entry) → cond b (told_by o (xs ++ ys)) (xs ++ ys) ≡ cond b (told_by o xs) xs ++ ys
noted_append true o xs ys = told_append o xs ys
noted_append false o xs ys = refl

as_entries_append : (xs ys : List RawMessage) → as_entries (xs ++ ys) ≡ as_entries xs ++ as_entries ys
as_entries_append [] ys = refl
as_entries_append (x ∷ xs) ys =
    ap (λ es. recorded_by (is_command_frame x) x (cond (is_notification x) (told_by (notification_in x.body) es) es)) (as_entries_append xs ys)
    ∙ ap (recorded_by (is_command_frame x) x) (noted_append (is_notification x) (notification_in x.body) (as_entries xs) (as_entries ys))
    ∙ recorded_append (is_command_frame x) x (cond (is_notification x) (told_by (notification_in x.body) (as_entries xs)) (as_entries xs)) (as_entries ys)

pub entries_append : (xs ys : List (List ℕ)) → journal_entries (xs ++ ys) ≡ journal_entries xs ++ journal_entries ys
entries_append xs ys = ap as_entries (frames_append xs ys) ∙ as_entries_append (journal_frames xs) (journal_frames ys)

-- ---- lists

pub same_front : {A : Type 0} (xs ys us vs : List A) → length xs ≡ length ys → xs ++ us ≡ ys ++ vs → (xs ≡ ys) × (us ≡ vs)
same_front [] [] us vs l e = (refl, e)
same_front [] (y ∷ ys) us vs l e = absurd (omega (arith, l))
same_front (x ∷ xs) [] us vs l e = absurd (omega (arith, l))
same_front (x ∷ xs) (y ∷ ys) us vs l e =
    let tails : xs ++ us ≡ ys ++ vs = cc in
    let heads : x ≡ y = cc in
    let h = same_front xs ys us vs (omega (arith, l)) tails in
    ((λ i. heads i ∷ h.0 i), h.1)
