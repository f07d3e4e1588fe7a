-- No completion comes to have two results, and each that comes is of an id that a command carries.
use Rattle.std.proofs.Common.{◌≡◌, ◌≢◌, ◌≤◌, ℕ, Bool, true, false, cond, ◌||◌, List, [], ◌∷◌, ◌++◌, refl, sym, ap, ◌∙◌, subst, arith, append_assoc, append-nil}
use Rattle.std.specs.Prelude.{◌==◌, Option, Some, None, length, if◌then◌else◌}
use Rattle.std.proofs.lemmas.Bool.Decides.{nat_tests}
use Rattle.await_arrivals.specs.Ids.{same_id}
use Rattle.await_arrivals.specs.Results.{results_of}
use Rattle.journal_protocol.specs.Message.{Message}
use Rattle.journal_protocol.specs.Message.TheVariants as message
use Rattle.journal_protocol.specs.RawMessage.{RawMessage}
use Rattle.journal_protocol.specs.Bodies.{message_in}
use Rattle.journal_protocol.specs.Notification.{Notification}
use Rattle.journal_protocol.specs.NotificationId.{NotificationId}
use Rattle.journal_protocol.specs.NotificationId.TheVariants.{CompletionId, SignalId, SignalName}
use Rattle.journal_protocol.specs.NotificationResult.{NotificationResult}
use Rattle.vm_asks.specs.Carried.{carried}
use Rattle.vm_model.specs.Carried.{AreCarried, ComeOnce, is_id_among, is_carried, read_carries}
use Rattle.journal_entries.specs.Journal.{messages_in, read_before}
use Rattle.vm_model.proofs.Results.{results_behind, same_is}
use Rattle.journal_entries.specs.JournalFrames.{commands_among}
use Rattle.journal_entries.specs.Completions.{CompleteOnce, EachOfItsKind, HasNoOther, CompletesNone, IsOfItsKind, IsOfKind, NoteIsOfItsKind}
use Rattle.journal_entries.specs.declared.completions.Completes.{Completes}
use Rattle.journal_entries.specs.declared.completions.Completes.TheVariants as completes
use Rattle.journal_entries.specs.declared.fault.JournalFault.{JournalFault}
use Rattle.journal_entries.specs.declared.fault.JournalFault.TheVariants as journal_fault
use Rattle.journal_entries.specs.Arrivals.{arrival_fault, completes_among, completes_by, completion_fault, if_same, completes_id, is_invocation_id, is_of, most_entries, note_fault, read_fault, room_fault}
use Rattle.journal_entries.specs.Entries.{journal_frames, note_in, notes_in, said_in}
use Rattle.journal_entries.proofs.Framing.{said_are}

-- ---- one notification more

absent_more : (id : NotificationId) (ns : List Notification) (n : Notification) → CompletesNone id ns → (n.id ≡ id → ⊥) → CompletesNone id (ns ++ n ∷ [])
absent_more id [] n h d = (d, tt)
absent_more id (m ∷ ns) n h d = (h.0, absent_more id ns n h.1 d)

no_other_more : (id : NotificationId) (ns : List Notification) (n : Notification) → HasNoOther id ns → ((i : ℕ) → id ≡ CompletionId i → n.id ≡ CompletionId i → ⊥) → HasNoOther id (ns ++ n ∷ [])
no_other_more (CompletionId i) ns n h d = absent_more (CompletionId i) ns n h (d i refl)
no_other_more (SignalId i) ns n h d = tt
no_other_more (SignalName name) ns n h d = tt

differs : (id : NotificationId) (m : Notification) (ns : List Notification) → HasNoOther id (m ∷ ns) → (i : ℕ) → m.id ≡ CompletionId i → id ≡ CompletionId i → ⊥
differs (CompletionId j) m ns h i a b = h.0 (a ∙ sym b)
differs (SignalId j) m ns h i a b = absurd (cc)
differs (SignalName name) m ns h i a b = absurd (cc)

none_other : (id : NotificationId) → HasNoOther id []
none_other (CompletionId id) = tt
none_other (SignalId id) = tt
none_other (SignalName name) = tt

no_other_behind : (id : NotificationId) (m : Notification) (ns : List Notification) → HasNoOther id (m ∷ ns) → HasNoOther id ns
no_other_behind (CompletionId id) m ns h = h.1
no_other_behind (SignalId id) m ns h = tt
no_other_behind (SignalName name) m ns h = tt

pub once_more : (ns : List Notification) (n : Notification) → CompleteOnce ns → HasNoOther n.id ns → CompleteOnce (ns ++ n ∷ [])
once_more [] n once h = (none_other n.id, tt)
once_more (m ∷ ns) n once h = (no_other_more m.id ns n once.0 (differs n.id m ns h), once_more ns n once.1 (no_other_behind n.id m ns h))

pub none_true : (a b : Bool) → (a || b) ≡ false → (a ≡ false) × (b ≡ false)
none_true true b e = absurd (cc)
none_true false b e = (refl, e)

-- ---- each completion that came is of an id that a command carries

pub carried_more : (ns : List Notification) (n : Notification) (cs : List RawMessage) → AreCarried ns cs → ((id : ℕ) → n.id ≡ CompletionId id → is_carried id cs ≡ true) → AreCarried (ns ++ n ∷ []) cs
carried_more ns n cs h new id none = results_behind (CompletionId id) ns n ∙ by_test (same_id n.id (CompletionId id)) refl
  where
    by_test : (b : Bool) → same_id n.id (CompletionId id) ≡ b → cond b (results_of (CompletionId id) ns ++ n.result ∷ []) (results_of (CompletionId id) ns) ≡ []
    by_test true e = absurd (let t : true ≡ false = sym (new id (same_is n.id (CompletionId id) e)) ∙ none in cc)
    by_test false e = h id none

by_one : (b : Bool) (kind : Completes) (before : Option Completes) → (b || false) ≡ false → if_same b kind before ≡ before
by_one true kind before e = absurd (cc)
by_one false kind before e = refl

by_two : (a b : Bool) (one other : Completes) (before : Option Completes) → (a || (b || false)) ≡ false → if_same b other (if_same a one before) ≡ before
by_two true b one other before e = absurd (cc)
by_two false b one other before e = by_one b other before e

-- a command that doesn't carry the id leaves what completes it
pub completes_not : (id : ℕ) (m : Message) (before : Option Completes) → is_id_among id (carried m) ≡ false → completes_by id m before ≡ before
completes_not id (message.Sleep c) before e = by_one (c.result_completion_id == id) completes.AnyResult before e
completes_not id (message.GetLazyState c) before e = by_one (c.result_completion_id == id) completes.AnyResult before e
completes_not id (message.GetLazyStateKeys c) before e = by_one (c.result_completion_id == id) completes.AnyResult before e
completes_not id (message.GetPromise c) before e = by_one (c.result_completion_id == id) completes.AnyResult before e
completes_not id (message.PeekPromise c) before e = by_one (c.result_completion_id == id) completes.AnyResult before e
completes_not id (message.CompletePromise c) before e = by_one (c.result_completion_id == id) completes.AnyResult before e
completes_not id (message.AttachInvocation c) before e = by_one (c.result_completion_id == id) completes.AnyResult before e
completes_not id (message.GetInvocationOutput c) before e = by_one (c.result_completion_id == id) completes.AnyResult before e
completes_not id (message.Call c) before e = by_two (c.request.invocation_id_notification_idx == id) (c.result_completion_id == id) completes.InvocationId completes.AnyResult before e
completes_not id (message.OneWayCall c) before e = by_one (c.request.invocation_id_notification_idx == id) completes.InvocationId before e
completes_not id (message.Run c) before e = by_one (c.result_completion_id == id) completes.Proposal before e
completes_not id m before e = refl

pub completes_none : (id : ℕ) (cs : List RawMessage) (before : Option Completes) → is_carried id cs ≡ false → completes_among id (messages_in cs) before ≡ before
completes_none id [] before e = refl
completes_none id (c ∷ cs) before e = by_read (message_in c.ty c.body) e (completes_none id cs before)
  where
    by_read : (o : Option Message) → (read_carries id o || is_carried id cs) ≡ false → (is_carried id cs ≡ false → completes_among id (messages_in cs) before ≡ before) → completes_among id (read_before o (messages_in cs)) before ≡ before
    by_read None h ih = ih h
    by_read (Some m) h ih =
        let x = none_true (is_id_among id (carried m)) (is_carried id cs) h in
        ap (completes_among id (messages_in cs)) (completes_not id m before x.0) ∙ ih x.1

-- what a stored command completes, it carries
pub completed_carried : (id : ℕ) (journal : List (List ℕ)) → (completes_among id (said_in journal) None ≡ None → ⊥) → is_carried id (commands_among (journal_frames journal)) ≡ true
completed_carried id journal some = by_test (is_carried id (commands_among (journal_frames journal))) refl
  where
    by_test : (b : Bool) → is_carried id (commands_among (journal_frames journal)) ≡ b → b ≡ true
    by_test true e = refl
    by_test false e = absurd (some (ap (λ ms. completes_among id ms None) (said_are journal) ∙ completes_none id (commands_among (journal_frames journal)) None e))

-- ---- an arrival without a fault

same_number : (i : ℕ) → (i == i) ≡ true
same_number i = grind (arith, nat_tests)

not_of : (id : ℕ) (other : NotificationId) → is_of id other ≡ false → other ≡ CompletionId id → ⊥
not_of id other h e = let t : true ≡ false = sym (ap (is_of id) e ∙ same_number id) ∙ h in absurd (cc)

pub absent : (id : ℕ) (ns : List Notification) → completes_id id ns ≡ false → CompletesNone (CompletionId id) ns
absent id [] h = tt
absent id (n ∷ ns) h = let x = none_true (is_of id n.id) (completes_id id ns) h in (not_of id n.id x.0, absent id ns x.1)

pub not_done : (kind : Option Completes) (done : Bool) (brings : NotificationResult) (room : Option JournalFault) → completion_fault kind done brings room ≡ None → done ≡ false
not_done None done brings room e = absurd (cc)
not_done (Some kind) true brings room e = absurd (cc)
not_done (Some kind) false brings room e = refl

pub not_nothing : (kind : Option Completes) (done : Bool) (brings : NotificationResult) (room : Option JournalFault) → completion_fault kind done brings room ≡ None → kind ≡ None → ⊥
not_nothing None done brings room e is = absurd (cc)
not_nothing (Some kind) done brings room e is = absurd (cc)

-- a completion without a fault is of the kind of its id
pub kind_of : (kind : Option Completes) (done : Bool) (brings : NotificationResult) (room : Option JournalFault) → completion_fault kind done brings room ≡ None → IsOfKind kind brings
kind_of None done brings room e = absurd (cc)
kind_of (Some kind) true brings room e = absurd (cc)
kind_of (Some completes.InvocationId) false brings room e = by_test (is_invocation_id brings) e
  where
    by_test : (b : Bool) → (if b then room else Some journal_fault.WrongKind) ≡ None → b ≡ true
    by_test true h = refl
    by_test false h = absurd (cc)
kind_of (Some completes.Proposal) false brings room e = tt
kind_of (Some completes.AnyResult) false brings room e = tt

-- one entry more is of the kind of its id
pub each_more : (before xs : List (List ℕ)) (x : List ℕ) → EachOfItsKind before xs → NoteIsOfItsKind (note_in x) (before ++ xs) → EachOfItsKind before (xs ++ x ∷ [])
each_more before [] x all one = (subst (NoteIsOfItsKind (note_in x)) (append-nil before) one, tt)
each_more before (y ∷ ys) x all one = (all.0, each_more (before ++ y ∷ []) ys x all.1 (subst (NoteIsOfItsKind (note_in x)) (sym (append_assoc before (y ∷ []) ys)) one))

-- The notification of an arrival without a fault: there is no other of its completion among those of the journal, a command carries its
-- id, and it is of its kind.
pub record IsNew (bytes : List ℕ) (journal : List (List ℕ)) : Type 0 where
  pub note : Notification
  pub reads : note_in bytes ≡ Some note
  pub no_other : HasNoOther note.id (notes_in journal)
  pub carried : (id : ℕ) → note.id ≡ CompletionId id → is_carried id (commands_among (journal_frames journal)) ≡ true
  pub kind : IsOfItsKind note.id note.result journal

note_kind : (id : NotificationId) (brings : NotificationResult) (journal : List (List ℕ)) → note_fault id brings journal ≡ None → IsOfItsKind id brings journal
note_kind (CompletionId id) brings journal e = kind_of (completes_among id (said_in journal) None) (completes_id id (notes_in journal)) brings (room_fault journal) e
note_kind (SignalId id) brings journal e = tt
note_kind (SignalName name) brings journal e = tt

note_new : (id : NotificationId) (brings : NotificationResult) (journal : List (List ℕ)) → note_fault id brings journal ≡ None → HasNoOther id (notes_in journal)
note_new (CompletionId id) brings journal e = absent id (notes_in journal) (not_done (completes_among id (said_in journal) None) (completes_id id (notes_in journal)) brings (room_fault journal) e)
note_new (SignalId id) brings journal e = tt
note_new (SignalName name) brings journal e = tt

note_carried : (id : NotificationId) (brings : NotificationResult) (journal : List (List ℕ)) → note_fault id brings journal ≡ None → (i : ℕ) → id ≡ CompletionId i → is_carried i (commands_among (journal_frames journal)) ≡ true
note_carried (CompletionId id) brings journal e i is =
    let same : id ≡ i = cc in
    subst (λ j. is_carried j (commands_among (journal_frames journal)) ≡ true) same (completed_carried id journal (not_nothing (completes_among id (said_in journal) None) (completes_id id (notes_in journal)) brings (room_fault journal) e))
note_carried (SignalId id) brings journal e i is = absurd (cc)
note_carried (SignalName name) brings journal e i is = absurd (cc)

pub is_new : (bytes : List ℕ) (journal : List (List ℕ)) → arrival_fault bytes journal ≡ None → IsNew bytes journal
is_new bytes journal e = by_note (note_in bytes) refl e
  where
    by_note : (o : Option Notification) → note_in bytes ≡ o → read_fault o journal ≡ None → IsNew bytes journal
    by_note None is e = absurd (cc)
    by_note (Some n) is e = record { note = n; reads = is; no_other = note_new n.id n.result journal e; carried = note_carried n.id n.result journal e; kind = note_kind n.id n.result journal e }

-- ---- one result at most

absent_none : (id : ℕ) (ns : List Notification) → CompletesNone (CompletionId id) ns → results_of (CompletionId id) ns ≡ []
absent_none id [] h = refl
absent_none id (n ∷ ns) h = by_test (same_id n.id (CompletionId id)) refl (absent_none id ns h.1)
  where
    by_test : (b : Bool) → same_id n.id (CompletionId id) ≡ b → results_of (CompletionId id) ns ≡ [] → cond b (n.result ∷ results_of (CompletionId id) ns) (results_of (CompletionId id) ns) ≡ []
    by_test true e ih = absurd (h.0 (same_is n.id (CompletionId id) e))
    by_test false e ih = ih

pub come_once : (ns : List Notification) → CompleteOnce ns → ComeOnce ns
come_once [] once id = omega arith
come_once (n ∷ ns) once id = by_test (same_id n.id (CompletionId id)) refl (come_once ns once.1 id)
  where
    by_test : (b : Bool) → same_id n.id (CompletionId id) ≡ b → length (results_of (CompletionId id) ns) ≤ 1 → length (cond b (n.result ∷ results_of (CompletionId id) ns) (results_of (CompletionId id) ns)) ≤ 1
    by_test true e h = let none = absent_none id ns (subst (λ i. HasNoOther i ns) (same_is n.id (CompletionId id) e) once.0) in rw none (omega arith)
    by_test false e h = h

-- ---- room

pub not_most : (n : ℕ) → (if n == most_entries then Some journal_fault.JournalFull else None) ≡ None → n ≢ most_entries
not_most n h e = let t : Some journal_fault.JournalFull ≡ None = sym (ap (λ (k : ℕ). if k == most_entries then Some journal_fault.JournalFull else None) e) ∙ h in absurd (cc)

room_by : (b : Bool) (room : Option JournalFault) → (if b then room else Some journal_fault.WrongKind) ≡ None → room ≡ None
room_by true room e = e
room_by false room e = absurd (cc)

completion_room : (kind : Option Completes) (done : Bool) (brings : NotificationResult) (room : Option JournalFault) → completion_fault kind done brings room ≡ None → room ≡ None
completion_room None done brings room e = absurd (cc)
completion_room (Some kind) true brings room e = absurd (cc)
completion_room (Some completes.InvocationId) false brings room e = room_by (is_invocation_id brings) room e
completion_room (Some completes.Proposal) false brings room e = absurd (cc)
completion_room (Some completes.AnyResult) false brings room e = e

note_room : (id : NotificationId) (brings : NotificationResult) (journal : List (List ℕ)) → note_fault id brings journal ≡ None → room_fault journal ≡ None
note_room (CompletionId id) brings journal e = completion_room (completes_among id (said_in journal) None) (completes_id id (notes_in journal)) brings (room_fault journal) e
note_room (SignalId id) brings journal e = e
note_room (SignalName name) brings journal e = e

-- an arrival without a fault has room
pub has_room : (bytes : List ℕ) (journal : List (List ℕ)) → arrival_fault bytes journal ≡ None → length journal ≢ most_entries
has_room bytes journal e = by_note (note_in bytes) e
  where
    by_note : (o : Option Notification) → read_fault o journal ≡ None → length journal ≢ most_entries
    by_note None e = absurd (cc)
    by_note (Some n) e = not_most (length journal) (note_room n.id n.result journal e)
