-- What is known of a journal, as an entry is appended.
use Rattle.std.proofs.Common.{◌≡◌, ℕ, ◌+◌, ◌<◌, ◌≤◌, Bool, true, false, cond, List, [], ◌∷◌, ◌++◌, length, Option, Some, None, refl, sym, ap, ◌∙◌, subst, arith, append-nil, length-append}
use Rattle.std.specs.Prelude.{◌==◌, ◌||◌, if◌then◌else◌, is_some}
use Rattle.std.specs.Option.{option_or}
use Rattle.std.proofs.lemmas.Bool.Decides.{nat_tests}
use Rattle.journal_protocol.specs.Message.{Message}
use Rattle.journal_protocol.specs.RawMessage.{RawMessage}
use Rattle.journal_protocol.specs.Bodies.{message_in, notification_in}
use Rattle.journal_protocol.specs.Notification.{Notification}
use Rattle.journal_protocol.specs.NotificationId.{NotificationId}
use Rattle.journal_protocol.specs.NotificationId.TheVariants.{CompletionId, SignalId, SignalName}
use Rattle.journal_protocol.specs.NotificationResult.{NotificationResult}
use Rattle.journal_entries.specs.Journal.{read_before}
use Rattle.journal_entries.specs.JournalFrames.{is_notification, notified_by}
use Rattle.journal_entries.specs.declared.completions.Completes.{Completes}
use Rattle.journal_entries.specs.declared.completions.Completes.TheVariants as completes
use Rattle.journal_entries.specs.declared.fault.JournalFault.{JournalFault}
use Rattle.journal_entries.specs.declared.fault.JournalFault.TheVariants as journal_fault
use Rattle.journal_entries.specs.Arrivals.{arrival_fault, completes_among, completes_by, completion_fault, completes_id, is_invocation_id, is_of, most_entries, note_fault, stored_proposal_fault, proposed_fault, read_fault, room_fault}
use Rattle.journal_entries.specs.Entries.{frame_in, note_in, note_of as note_by, notes_in, read_from, said_at, said_by, said_in}
use Rattle.journal_entries.specs.Given.{as_given, frame_fault, framed_fault, given_fault as fault_given, given_note_fault as note_given, noted_fault as noted_given, place_fault}
use Rattle.journal_entries.proofs.Framing.{note_no_command, notes_append}
use Rattle.journal_store.specs.declared.frames.Part.{Part}
use Rattle.journal_store.specs.Ids.{Seen, known_now}
use Rattle.journal_store.specs.Journals.{Appends, Holds, JournalView, arriving_fault, completes_read, done_read, loaded_fault, loaded_note_fault, known_fault, known_given, note_of_part, optional_note_fault, proposing_fault, room_at, command_of_part}
use Rattle.journal_store.specs.Journals as by
use Rattle.journal_store.specs.Known.{IsKnownAs, with_called, with_result_id}

-- ---- one entry more

said_append : (xs ys : List (List ℕ)) → said_in (xs ++ ys) ≡ said_in xs ++ said_in ys
said_append [] ys = refl
said_append (x ∷ xs) ys = ap (read_before (said_at x)) (said_append xs ys) ∙ by_said (said_at x)
  where
    by_said : (o : Option Message) → read_before o (said_in xs ++ said_in ys) ≡ read_before o (said_in xs) ++ said_in ys
    by_said None = refl
    by_said (Some m) = refl

among_more : (id : ℕ) (ms : List Message) (m : Message) (before : Option Completes) → completes_among id (ms ++ m ∷ []) before ≡ completes_by id m (completes_among id ms before)
among_more id [] m before = refl
among_more id (x ∷ xs) m before = among_more id xs m (completes_by id x before)

among_read : (id : ℕ) (ms : List Message) (o : Option Message) (before : Option Completes) → completes_among id (ms ++ read_before o []) before ≡ completes_read id o (completes_among id ms before)
among_read id ms None before = ap (λ l. completes_among id l before) (append-nil ms)
among_read id ms (Some m) before = among_more id ms m before

or_nothing : (b : Bool) → (b || false) ≡ b
or_nothing true = refl
or_nothing false = refl

or_more : (b c d : Bool) (e : Bool) → c ≡ (d || e) → (b || c) ≡ ((b || d) || e)
or_more true c d e h = refl
or_more false c d e h = h

completed_more : (id : ℕ) (ns : List Notification) (n : Notification) → completes_id id (ns ++ n ∷ []) ≡ (completes_id id ns || is_of id n.id)
completed_more id [] n = or_nothing (is_of id n.id)
completed_more id (x ∷ xs) n = or_more (is_of id x.id) (completes_id id (xs ++ n ∷ [])) (completes_id id xs) (is_of id n.id) (completed_more id xs n)

completed_read : (id : ℕ) (ns : List Notification) (o : Option Notification) → completes_id id (ns ++ notified_by o []) ≡ done_read id o (completes_id id ns)
completed_read id ns None = ap (completes_id id) (append-nil ns)
completed_read id ns (Some n) = completed_more id ns n

-- an entry is appended to the journal and to what is known of it
pub appended : (journal : List (List ℕ)) (x : List ℕ) (old new : JournalView) → Holds old journal → Appends (said_at x) (note_in x) old new → Holds new (journal ++ x ∷ [])
appended journal x old new h a = record {
  ids = λ id.
      let kind : completes_among id (said_in (journal ++ x ∷ [])) None ≡ completes_read id (said_at x) (completes_among id (said_in journal) None)
      = ap (λ l. completes_among id l None) (said_append journal (x ∷ [])) ∙ among_read id (said_in journal) (said_at x) None in
      let done : completes_id id (notes_in (journal ++ x ∷ [])) ≡ done_read id (note_in x) (completes_id id (notes_in journal))
      = ap (completes_id id) (notes_append journal (x ∷ [])) ∙ completed_read id (notes_in journal) (note_in x) in
      let s = a.ids id (completes_among id (said_in journal) None) (completes_id id (notes_in journal)) (h.ids id) in
      record { kind = s.kind ∙ sym kind; done = s.done ∙ sym done };
  count = omega (arith, a.count, h.count, length-append journal (x ∷ []));
}

-- a command is appended to what is known
pub commanded : (m : Message) (called : Option ℕ) (result : Option (ℕ × Completes)) (a b c : Seen) (n k : ℕ) (old : JournalView) → record { ids = a; entries = n; kept = k } ≡ old
    → ((id : ℕ) (before : Option Completes) → completes_by id m before ≡ with_result_id id result (with_called id called before))
    → ((id : ℕ) (before : Option Completes) (done : Bool) → IsKnownAs before done (known_now a id) → IsKnownAs (with_called id called before) done (known_now b id))
    → ((id : ℕ) (before : Option Completes) (done : Bool) → IsKnownAs before done (known_now b id) → IsKnownAs (with_result_id id result before) done (known_now c id))
    → Appends (Some m) None old (record { ids = c; entries = n + 1; kept = k })
commanded m called result a b c n k old is carries first second =
    subst (λ (v : JournalView). Appends (Some m) None v (record { ids = c; entries = n + 1; kept = k })) is
    (record {
      ids = λ id before done s. subst (λ (o : Option Completes). IsKnownAs o done (known_now c id)) (sym (carries id before)) (second id (with_called id called before) done (first id before done s));
      count = refl;
    })

-- a notification is
pub noted : (note : Notification) (a b : Seen) (n k : ℕ) (old : JournalView) → record { ids = a; entries = n; kept = k } ≡ old
    → ((id : ℕ) (before : Option Completes) (done : Bool) → IsKnownAs before done (known_now a id) → IsKnownAs before (done || is_of id note.id) (known_now b id))
    → Appends None (Some note) old (record { ids = b; entries = n + 1; kept = k })
noted note a b n k old is first = subst (λ (v : JournalView). Appends None (Some note) v (record { ids = b; entries = n + 1; kept = k })) is (record { ids = first; count = refl })

-- ---- faults

module _ (view : JournalView) (journal : List (List ℕ)) (h : Holds view journal) where
  pub room_is : room_at view.entries ≡ room_fault journal
  room_is = ap room_at h.count

  pub arriving_is : (id : NotificationId) (brings : NotificationResult) → arriving_fault id brings view ≡ note_fault id brings journal
  arriving_is (CompletionId id) brings = λ i. completion_fault ((h.ids id).kind i) ((h.ids id).done i) brings (room_is i)
  arriving_is (SignalId id) brings = room_is
  arriving_is (SignalName name) brings = room_is

  given_note_is : (id : NotificationId) (brings : NotificationResult) → loaded_note_fault id brings view ≡ note_given id brings journal
  given_note_is (CompletionId id) brings = λ i. completion_fault (as_given ((h.ids id).kind i)) ((h.ids id).done i) brings (room_is i)
  given_note_is (SignalId id) brings = room_is
  given_note_is (SignalName name) brings = room_is

  noted_is : (o : Option Notification) → optional_note_fault o view ≡ noted_given o journal
  noted_is None = refl
  noted_is (Some n) = given_note_is n.id n.result

  pub proposing_is : (id : ℕ) → proposing_fault id view ≡ stored_proposal_fault id journal
  proposing_is id = λ i. proposed_fault ((h.ids id).kind i) ((h.ids id).done i) (room_is i)

  may_is : (b : Bool) (raw : RawMessage) (read : Part) → command_of_part read ≡ said_by raw → note_of_part read ≡ note_by raw → by.may_be_loaded b raw read ≡ Rattle.journal_entries.specs.Given.may_be_given b raw
  may_is true raw read said note = refl
  may_is false raw read said note = λ i. is_some (said i) || is_some (note i)

  pub given_is : (raw : RawMessage) (read : Part) → command_of_part read ≡ said_by raw → note_of_part read ≡ note_by raw → loaded_fault raw read view ≡ frame_fault raw journal
  given_is raw read said note =
      (λ i. option_or (optional_note_fault (note i) view) (option_or (room_at view.entries) (place_fault (by.may_be_loaded (view.entries == 0) raw read))))
      ∙ (λ i. option_or (noted_is (note_by raw) i) (option_or (room_is i) (place_fault (by.may_be_loaded (h.count i == 0) raw read))))
      ∙ (λ i. option_or (noted_given (note_by raw) journal) (option_or (room_fault journal) (place_fault (may_is (length journal == 0) raw read said note i))))

-- ---- room

pub not_full : (n : ℕ) → n ≤ most_entries → room_at n ≡ None → n < most_entries
not_full n l e = by_test (n == most_entries) refl
  where
    by_test : (b : Bool) → (n == most_entries) ≡ b → n < most_entries
    by_test true t = absurd (let z : Some journal_fault.JournalFull ≡ None = sym (ap (λ (b : Bool). if b then Some journal_fault.JournalFull else None) t) ∙ e in cc)
    by_test false t = grind (arith, nat_tests)

kind_room : (b : Bool) (room : Option JournalFault) → (if b then room else Some journal_fault.WrongKind) ≡ None → room ≡ None
kind_room true room e = e
kind_room false room e = absurd (cc)

completion_room : (kind : Option Completes) (done : Bool) (brings : NotificationResult) (room : Option JournalFault) → completion_fault kind done brings room ≡ None → room ≡ None
completion_room None done brings room e = absurd (cc)
completion_room (Some kind) true brings room e = absurd (cc)
completion_room (Some completes.InvocationId) false brings room e = kind_room (is_invocation_id brings) room e
completion_room (Some completes.Proposal) false brings room e = absurd (cc)
completion_room (Some completes.AnyResult) false brings room e = e

pub arriving_room : (id : NotificationId) (brings : NotificationResult) (view : JournalView) → view.entries ≤ most_entries → arriving_fault id brings view ≡ None → view.entries < most_entries
arriving_room (CompletionId id) brings view l e = not_full view.entries l (completion_room (known_now view.ids id).kind (known_now view.ids id).done brings (room_at view.entries) e)
arriving_room (SignalId id) brings view l e = not_full view.entries l e
arriving_room (SignalName name) brings view l e = not_full view.entries l e

neither : {A : Type 0} (x y : Option A) → option_or x y ≡ None → (x ≡ None) × (y ≡ None)
neither None y h = (refl, h)
neither (Some x) y h = absurd (cc)

pub given_room : (raw : RawMessage) (read : Part) (view : JournalView) → view.entries ≤ most_entries → loaded_fault raw read view ≡ None → view.entries < most_entries
given_room raw read view l e =
    let place = place_fault (by.may_be_loaded (view.entries == 0) raw read) in
    not_full view.entries l (neither (room_at view.entries) place (neither (optional_note_fault (note_of_part read) view) (option_or (room_at view.entries) place) e).1).0

proposed_room : (kind : Option Completes) (done : Bool) (room : Option JournalFault) → proposed_fault kind done room ≡ None → room ≡ None
proposed_room None done room e = absurd (cc)
proposed_room (Some kind) true room e = absurd (cc)
proposed_room (Some completes.InvocationId) false room e = absurd (cc)
proposed_room (Some completes.Proposal) false room e = e
proposed_room (Some completes.AnyResult) false room e = e

pub proposing_room : (id : ℕ) (view : JournalView) → view.entries ≤ most_entries → proposing_fault id view ≡ None → view.entries < most_entries
proposing_room id view l e = not_full view.entries l (proposed_room (known_now view.ids id).kind (known_now view.ids id).done (room_at view.entries) e)

-- ---- an entry that has no fault

-- a notification is no command
note_says_nothing : (o : Option RawMessage) (n : Notification) → read_from note_by o ≡ Some n → read_from said_by o ≡ None
note_says_nothing None n e = refl
note_says_nothing (Some raw) n e = by_test (is_notification raw) refl e
  where
    by_test : (b : Bool) → is_notification raw ≡ b → cond b (notification_in raw.body) None ≡ Some n → said_by raw ≡ None
    by_test true t h = ap (λ c. cond c (message_in raw.ty raw.body) None) (note_no_command raw t)
    by_test false t h = absurd (cc)

pub arrived : (x : List ℕ) (n : Notification) (old new : JournalView) → note_in x ≡ Some n → arriving_fault n.id n.result old ≡ None → Appends None (Some n) old new
    → (journal : List (List ℕ)) → Holds old journal → (arrival_fault x journal ≡ None) × Holds new (journal ++ x ∷ [])
arrived x n old new is none a journal h =
    let said : said_at x ≡ None = note_says_nothing (frame_in x) n is in (
      ap (λ o. read_fault o journal) is ∙ sym (arriving_is old journal h n.id n.result) ∙ none,
      appended journal x old new h (subst (λ (p : Option Message × Option Notification). Appends p.0 p.1 old new) (λ i. (sym said i, sym is i)) a),
    )

pub entered : (x : List ℕ) (raw : RawMessage) (old new : JournalView) → frame_in x ≡ Some raw
    → ((journal : List (List ℕ)) → Holds old journal → (frame_fault raw journal ≡ None) × Appends (said_by raw) (note_by raw) old new)
    → (journal : List (List ℕ)) → Holds old journal → (fault_given x journal ≡ None) × Holds new (journal ++ x ∷ [])
entered x raw old new is all journal h =
    let one = all journal h in (
      ap (λ o. framed_fault o journal) is ∙ one.0,
      appended journal x old new h (subst (λ (p : Option Message × Option Notification). Appends p.0 p.1 old new) (λ i. (read_from said_by (sym is i), read_from note_by (sym is i))) one.1),
    )
