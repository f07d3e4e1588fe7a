-- A journal that is given is one, if none of its entries has a fault.
use Rattle.std.proofs.Common.{◌≡◌, ◌≢◌, ℕ, Bool, true, false, cond, List, [], ◌∷◌, ◌++◌, length, Option, Some, None, refl, sym, ap, ◌∙◌, subst, append_assoc, append-nil, length-append, arith}
use Rattle.std.specs.Prelude.{◌||◌, ◌&&◌, ◌==◌, if◌then◌else◌, is_some, nat_le, nat_lt}
use Rattle.std.proofs.lemmas.Bool.{eqb-true}
use Rattle.std.specs.Option.{option_or}
use Rattle.journal_protocol.specs.MessageType.TheVariants as type
use Rattle.journal_protocol.specs.Types.{type_number}
use Rattle.journal_protocol.specs.RawMessage.{RawMessage}
use Rattle.journal_protocol.specs.Bodies.{input_in, message_in, notification_in}
use Rattle.journal_protocol.specs.Notification.{Notification}
use Rattle.journal_protocol.specs.NotificationId.{NotificationId}
use Rattle.journal_protocol.specs.NotificationId.TheVariants.{CompletionId, SignalId, SignalName}
use Rattle.journal_protocol.specs.NotificationResult.{NotificationResult}
use Rattle.vm_model.specs.Carried.{AreCarried, is_carried}
use Rattle.journal_entries.specs.JournalFrames.{commands_among, is_command_frame, notifications_among, notified_by}
use Rattle.vm_attempt.proofs.Pieces.{commands_append}
use Rattle.vm_model.proofs.Once.{still_carried}
use Rattle.journal_entries.specs.declared.completions.Completes.{Completes}
use Rattle.journal_entries.specs.declared.completions.Completes.TheVariants as completes
use Rattle.journal_entries.specs.declared.fault.JournalFault.TheVariants as journal_fault
use Rattle.journal_entries.specs.Arrivals.{completes_among, completes_id, most_entries, room_fault}
use Rattle.journal_entries.specs.Completions.{CompleteOnce, HasNoOther, IsOfItsKind, IsOfKind, NoteIsOfItsKind}
use Rattle.journal_entries.specs.Entries.{frame_in, framed_by, journal_frames, may_stand, note_in, note_of, notes_in, read_from, said_by, said_in}
use Rattle.journal_entries.specs.Given.{AreGiven, as_given, framed_fault, given_fault, given_note_fault, may_be_given, noted_fault, place_fault}
use Rattle.world_rounds.specs.Worlds.{IsJournal}
use Rattle.journal_entries.proofs.Framing.{command_no_note, entries_join, frames_append, notes_append, notes_are}
use Rattle.world_rounds.proofs.Keeping.{one_note}
use Rattle.world_rounds.proofs.Once.{absent, completed_carried, each_more, kind_of, not_done, not_most, not_nothing}
use Rattle.world_rounds.proofs.Settled.{note_keeps}

-- ---- no fault

neither : {A : Type 0} (x y : Option A) → option_or x y ≡ None → (x ≡ None) × (y ≡ None)
neither None y h = (refl, h)
neither (Some x) y h = absurd (cc)

placed : (b : Bool) → place_fault b ≡ None → b ≡ true
placed true h = refl
placed false h = absurd (cc)

given_none : (kind : Option Completes) → kind ≡ None → as_given kind ≡ None
given_none kind h = ap as_given h

-- ---- a notification

note_new : (id : NotificationId) (brings : NotificationResult) (journal : List (List ℕ)) → given_note_fault id brings journal ≡ None → HasNoOther id (notes_in journal)
note_new (CompletionId id) brings journal e = absent id (notes_in journal) (not_done (as_given (completes_among id (said_in journal) None)) (completes_id id (notes_in journal)) brings (room_fault journal) e)
note_new (SignalId id) brings journal e = tt
note_new (SignalName name) brings journal e = tt

note_carried : (id : NotificationId) (brings : NotificationResult) (journal : List (List ℕ)) → given_note_fault id brings journal ≡ None → (i : ℕ) → id ≡ CompletionId i → is_carried i (commands_among (journal_frames journal)) ≡ true
note_carried (CompletionId id) brings journal e i is =
    let same : id ≡ i = cc in
    let kind = completes_among id (said_in journal) None in
    subst (λ j. is_carried j (commands_among (journal_frames journal)) ≡ true) same (completed_carried id journal (λ none. not_nothing (as_given kind) (completes_id id (notes_in journal)) brings (room_fault journal) e (given_none kind none)))
note_carried (SignalId id) brings journal e i is = absurd (cc)
note_carried (SignalName name) brings journal e i is = absurd (cc)

kind_given : (kind : Option Completes) (brings : NotificationResult) → IsOfKind (as_given kind) brings → IsOfKind kind brings
kind_given None brings h = h
kind_given (Some completes.InvocationId) brings h = h
kind_given (Some completes.Proposal) brings h = tt
kind_given (Some completes.AnyResult) brings h = tt

note_kind : (id : NotificationId) (brings : NotificationResult) (journal : List (List ℕ)) → given_note_fault id brings journal ≡ None → IsOfItsKind id brings journal
note_kind (CompletionId id) brings journal e =
    let kind = completes_among id (said_in journal) None in
    kind_given kind brings (kind_of (as_given kind) (completes_id id (notes_in journal)) brings (room_fault journal) e)
note_kind (SignalId id) brings journal e = tt
note_kind (SignalName name) brings journal e = tt

-- ---- a command

command_stands : (journal : List (List ℕ)) (x : List ℕ) (raw : RawMessage) → frame_in x ≡ Some raw → is_command_frame raw ≡ true → length journal ≢ most_entries → IsJournal journal → IsJournal (journal ++ x ∷ [])
command_stands journal x raw is command room j =
    let one : commands_among (journal_frames (x ∷ [])) ≡ raw ∷ [] = ap (λ o. commands_among (framed_by o [])) is ∙ ap (λ b. cond b (raw ∷ []) []) command in
    let none : notes_in (x ∷ []) ≡ [] = notes_are (x ∷ []) ∙ ap (λ o. notifications_among (framed_by o [])) is ∙ ap (λ b. cond b (notified_by (notification_in raw.body) []) []) (command_no_note raw command) in
    let unread : note_in x ≡ None = ap (read_from note_of) is ∙ ap (λ b. cond b (notification_in raw.body) None) (command_no_note raw command) in
    let same_notes : notes_in (journal ++ x ∷ []) ≡ notes_in journal = notes_append journal (x ∷ []) ∙ ap (λ l. notes_in journal ++ l) none ∙ append-nil (notes_in journal) in
    let more : commands_among (journal_frames (journal ++ x ∷ [])) ≡ commands_among (journal_frames journal) ++ raw ∷ [] =
    ap commands_among (frames_append journal (x ∷ [])) ∙ commands_append (journal_frames journal) (journal_frames (x ∷ [])) ∙ ap (λ l. commands_among (journal_frames journal) ++ l) one in
    record {
      entries = entries_join journal (x ∷ []) j.entries (ap may_stand is ∙ ap (λ b. b || is_some (note_of raw)) command, tt);
      short = omega (arith, j.short, room, length-append journal (x ∷ []));
      once = subst CompleteOnce (sym same_notes) j.once;
      carried = subst (λ (y : List Notification × List RawMessage). AreCarried y.0 y.1) (λ i. (sym same_notes i, sym more i)) (still_carried (notes_in journal) (commands_among (journal_frames journal)) (raw ∷ []) j.carried);
      kinds = each_more [] journal x j.kinds (subst (λ o. NoteIsOfItsKind o journal) (sym unread) tt);
    }

-- an input is a command
typed_command : (raw : RawMessage) → (type_number raw.ty == type_number type.InputCommand) ≡ true → is_command_frame raw ≡ true
typed_command raw typed = ap (λ n. nat_le 10 n && nat_lt n 30) (eqb-true (type_number raw.ty) 10 typed)

-- what may stand and is no notification is a command
given_command : (first : Bool) (raw : RawMessage) → may_be_given first raw ≡ true → note_of raw ≡ None → is_command_frame raw ≡ true
given_command true raw may none = by_type (type_number raw.ty == type_number type.InputCommand) refl may
  where
    by_type : (b : Bool) → (type_number raw.ty == type_number type.InputCommand) ≡ b → is_some (if b then input_in raw.body else None) ≡ true → is_command_frame raw ≡ true
    by_type true typed h = typed_command raw typed
    by_type false typed h = absurd (cc)
given_command false raw may none = by_command (is_command_frame raw) refl (subst (λ o. (is_some (said_by raw) || is_some o) ≡ true) none may)
  where
    by_command : (b : Bool) → is_command_frame raw ≡ b → (is_some (cond b (message_in raw.ty raw.body) None) || false) ≡ true → is_command_frame raw ≡ true
    by_command true is h = is
    by_command false is h = absurd (cc)

-- ---- entries

-- a journal, and an entry without a fault
given_keeps : (journal : List (List ℕ)) (x : List ℕ) → given_fault x journal ≡ None → IsJournal journal → IsJournal (journal ++ x ∷ [])
given_keeps journal x e j = by_frame (frame_in x) refl e
  where
    by_note : (raw : RawMessage) → frame_in x ≡ Some raw → length journal ≢ most_entries → may_be_given (length journal == 0) raw ≡ true → (o : Option Notification) → note_of raw ≡ o → noted_fault o journal ≡ None → IsJournal (journal ++ x ∷ [])
    by_note raw is room may (Some n) note h =
        let reads : note_in x ≡ Some n = ap (read_from note_of) is ∙ note in
        let one = one_note x n reads in
        note_keeps journal x (record { note = n; reads = reads; no_other = note_new n.id n.result journal h; carried = note_carried n.id n.result journal h; kind = note_kind n.id n.result journal h }) room one.stands one.none j
    by_note raw is room may None note h = command_stands journal x raw is (given_command (length journal == 0) raw may note) room j

    by_frame : (o : Option RawMessage) → frame_in x ≡ o → framed_fault o journal ≡ None → IsJournal (journal ++ x ∷ [])
    by_frame None is h = absurd (let z : Some journal_fault.BadJournal ≡ None = (neither (room_fault journal) (Some journal_fault.BadJournal) h).1 in cc)
    by_frame (Some raw) is h =
        let may = may_be_given (length journal == 0) raw in
        let n = neither (noted_fault (note_of raw) journal) (option_or (room_fault journal) (place_fault may)) h in
        let r = neither (room_fault journal) (place_fault may) n.1 in
        by_note raw is (not_most (length journal) r.0) (placed may r.1) (note_of raw) refl n.0

all_given : (journal entries : List (List ℕ)) → IsJournal journal → AreGiven journal entries → IsJournal (journal ++ entries)
all_given journal [] j h = subst IsJournal (sym (append-nil journal)) j
all_given journal (x ∷ xs) j h = subst IsJournal (append_assoc journal (x ∷ []) xs) (all_given (journal ++ x ∷ []) xs (given_keeps journal x h.0 j) h.1)

pub given_is : (entries : List (List ℕ)) → AreGiven [] entries → IsJournal entries
given_is entries h = all_given [] entries (record { entries = tt; short = omega arith; once = tt; carried = λ id none. refl; kinds = tt }) h
