-- What was stored of what an attempt wrote: entries of commands and of completions, and the frames that answer proposals.
use Rattle.std.proofs.Common.{◌≡◌, ◌≢◌, ◌<◌, ◌^◌, ◌||◌, ℕ, Bool, true, false, cond, List, [], ◌∷◌, ◌++◌, length, map, Option, Some, None, inl, inr, refl, sym, ap, ◌∙◌, subst, arith, append_assoc, append-nil, length-append}
use Rattle.std.specs.Prelude.{◌==◌, ◌&&◌, ◌⊎◌, if◌then◌else◌, is_some, nat_le, nat_lt, IsSome}
use Rattle.std.specs.List.{AllByRecursion, find, flat_map}
use Rattle.std.specs.Option.{option_map}
use Rattle.std.proofs.lemmas.Bool.Decides.{nat_tests}
use Rattle.std.proofs.lemmas.List.{map-append}
use Rattle.journal_protocol.specs.ProposeRunCompletion.{ProposeRunCompletion}
use Rattle.journal_protocol.specs.ProposeRunCompletionAck.{ProposeRunCompletionAck}
use Rattle.journal_protocol.specs.Version.{Version}
use Rattle.journal_protocol.specs.Types.{type_number}
use Rattle.journal_protocol.specs.Message.TheVariants as message
use Rattle.journal_protocol.specs.RawMessage.{RawMessage}
use Rattle.journal_protocol.specs.Frames.{IsWhole, encoding}
use Rattle.journal_protocol.specs.Bodies.{acknowledgement_in, message_in, notification_in, proposal_in}
use Rattle.journal_protocol.proofs.Facts.{read_back}
use Rattle.journal_protocol.specs.Notification.{Notification}
use Rattle.vm_runs.specs.Kept.{is_for}
use Rattle.journal_entries.specs.Proposals.{acknowledged_completion}
use Rattle.journal_protocol.specs.Versions.{is_from_v7}
use Rattle.vm_model.specs.Carried.{AreCarried, is_carried}
use Rattle.journal_entries.specs.Journal.{stored_form}
use Rattle.vm_model.proofs.Once.{still_carried}
use Rattle.vm_attempt.specs.Arrivals.{AllFound, FindsProposal, IsOfKept, arriving, kept_after, acknowledged_as, unacknowledged}
use Rattle.vm_attempt.specs.Heard.{acknowledged_from, proposals_among, proposed_by}
use Rattle.journal_entries.specs.JournalFrames.{commands_among, is_acknowledgement, is_command_frame, is_notification, notifications_among, notified_by, is_proposal}
use Rattle.vm_attempt.proofs.Advanced.{nothing_acknowledged}
use Rattle.vm_attempt.proofs.Arriving.{arriving_alone, kept_none}
use Rattle.vm_attempt.proofs.Finishing.{acknowledged_more}
use Rattle.vm_attempt.proofs.Pieces.{commands_append}
use Rattle.vm_attempt.proofs.Proposed.{arriving_append, arriving_more, found_append, found_more, kept_append, kept_more}
use Rattle.journal_protocol.specs.NotificationResult.{NotificationResult}
use Rattle.journal_entries.specs.declared.completions.Completes.{Completes}
use Rattle.journal_entries.specs.declared.completions.Completes.TheVariants as completes
use Rattle.journal_entries.specs.declared.storing.Written.{Written}
use Rattle.journal_entries.specs.declared.storing.Written.TheVariants.{Command, Proposal}
use Rattle.journal_entries.specs.declared.fault.JournalFault.{JournalFault}
use Rattle.journal_entries.specs.Arrivals.{completes_among, completes_id, most_entries, stored_proposal_fault, proposed_fault, room_fault}
use Rattle.journal_entries.specs.Completions.{CompleteOnce, IsOfKind, NoteIsOfItsKind}
use Rattle.journal_entries.specs.Entries.{AreEntries, frame_in, frame_of, framed_by, journal_frames, may_stand, note_in, note_of, notes_in, read_from, said_in}
use Rattle.journal_entries.specs.Storing.{StoredCanBeRead, NoneFaults, acknowledgement, answer_to, completion_message, proposal_of, stored_as, storing_fault, waits_behind, written_among, written_before}
use Rattle.world_rounds.specs.Worlds.{IsJournal}
use Rattle.journal_entries.proofs.Framing.{AreFrames, command_no_note, entries_join, frame_back, frames_append, join, none_framed, note_acknowledges_nothing, notes_append, notes_are, one_framed}
use Rattle.world_rounds.proofs.Once.{IsNew, absent, carried_more, completed_carried, each_more, not_most, once_more}

-- ---- the commands and proposals that were stored

-- the command that an item is
abbrev pub command_in : Written → List RawMessage
command_in (Command raw) = raw ∷ []
command_in (Proposal p) = []

-- the proposal that it is
abbrev pub proposal_in_item : Written → List ProposeRunCompletion
proposal_in_item (Command raw) = []
proposal_in_item (Proposal p) = p ∷ []

-- the completion of a proposal
abbrev pub completion : ProposeRunCompletion → Notification
completion p = acknowledged_completion p.id p

five : (n : ℕ) → (n == 5) ≡ true → n ≡ 5
five n h = grind (arith, nat_tests)

proposal_no_command : (raw : RawMessage) → is_proposal raw ≡ true → is_command_frame raw ≡ false
proposal_no_command raw h = ap (λ k. nat_le 10 k && nat_lt k 30) (five (type_number raw.ty) h)

-- the commands and the proposals among frames are those of their items
commands_by : (b : Bool) (raw : RawMessage) (o : Option ProposeRunCompletion) (ws : List Written) (cs : List RawMessage) → flat_map command_in ws ≡ cs
    → flat_map command_in (written_before (cond b (Some (Command raw)) (option_map Proposal o)) ws) ≡ cond b (raw ∷ cs) cs
commands_by true raw o ws cs h = ap (λ l. raw ∷ l) h
commands_by false raw None ws cs h = h
commands_by false raw (Some p) ws cs h = h

pub commands_are : (raws : List RawMessage) → flat_map command_in (written_among raws) ≡ commands_among raws
commands_are [] = refl
commands_are (raw ∷ raws) = commands_by (is_command_frame raw) raw (proposal_of raw) (written_among raws) (commands_among raws) (commands_are raws)

proposals_by : (a b : Bool) (raw : RawMessage) (o : Option ProposeRunCompletion) (ws : List Written) (ps : List ProposeRunCompletion) → (b ≡ true → a ≡ false) → flat_map proposal_in_item ws ≡ ps
    → flat_map proposal_in_item (written_before (cond a (Some (Command raw)) (option_map Proposal (cond b o None))) ws) ≡ cond b (proposed_by o ps) ps
proposals_by true true raw o ws ps apart h = absurd (let z : true ≡ false = apart refl in cc)
proposals_by true false raw o ws ps apart h = h
proposals_by false true raw None ws ps apart h = h
proposals_by false true raw (Some p) ws ps apart h = ap (λ l. p ∷ l) h
proposals_by false false raw o ws ps apart h = h

pub proposals_are : (raws : List RawMessage) → flat_map proposal_in_item (written_among raws) ≡ proposals_among raws
proposals_are [] = refl
proposals_are (raw ∷ raws) = proposals_by (is_command_frame raw) (is_proposal raw) raw (proposal_in raw.body) (written_among raws) (proposals_among raws) (proposal_no_command raw) (proposals_are raws)

-- ---- an item, as an entry

-- a command, or a run's result, that can be read back
abbrev pub IsItem : Version → Written → Type 0
IsItem version (Command raw) = (is_command_frame raw ≡ true) × (length raw.body < 2 ^ 64)
IsItem version (Proposal p) = StoredCanBeRead version (Proposal p)

items_by : (version : Version) (b : Bool) (raw : RawMessage) (o : Option ProposeRunCompletion) (ws : List Written) → is_command_frame raw ≡ b → (AllByRecursion (StoredCanBeRead version) ws → AllByRecursion (IsItem version) ws)
    → AllByRecursion (StoredCanBeRead version) (written_before (cond b (Some (Command raw)) (option_map Proposal o)) ws) → AllByRecursion (IsItem version) (written_before (cond b (Some (Command raw)) (option_map Proposal o)) ws)
items_by version true raw o ws is more h = ((is, h.0), more h.1)
items_by version false raw None ws is more h = more h
items_by version false raw (Some p) ws is more h = (h.0, more h.1)

pub are_items : (version : Version) (raws : List RawMessage) → AllByRecursion (StoredCanBeRead version) (written_among raws) → AllByRecursion (IsItem version) (written_among raws)
are_items version [] h = tt
are_items version (raw ∷ raws) h = items_by version (is_command_frame raw) raw (proposal_of raw) (written_among raws) refl (are_items version raws) h

-- a notification that is written can be read back
pub notification_back : (n : Notification) → IsWhole (message.Notification n) → notification_in (stored_form (message.Notification n)).body ≡ Some n
unfolding message_in
notification_back n whole = by_read (notification_in (stored_form (message.Notification n)).body) (read_back (message.Notification n) whole)
  where
    by_read : (o : Option Notification) → option_map message.Notification o ≡ Some (message.Notification n) → o ≡ Some n
    by_read None h = absurd (cc)
    by_read (Some x) h = let e : x ≡ n = cc in ap Some e

acknowledgement_back : (ack : ProposeRunCompletionAck) → IsWhole (message.ProposeRunCompletionAck ack) → acknowledgement_in (stored_form (message.ProposeRunCompletionAck ack)).body ≡ Some ack
unfolding message_in
acknowledgement_back ack whole = by_read (acknowledgement_in (stored_form (message.ProposeRunCompletionAck ack)).body) (read_back (message.ProposeRunCompletionAck ack) whole)
  where
    by_read : (o : Option ProposeRunCompletionAck) → option_map message.ProposeRunCompletionAck o ≡ Some (message.ProposeRunCompletionAck ack) → o ≡ Some ack
    by_read None h = absurd (cc)
    by_read (Some x) h = let e : x ≡ ack = cc in ap Some e

-- What an item is as an entry: it may stand, and brings its command and its completion.
record Entered (w : Written) : Type 0 where
  stands : may_stand (frame_in (stored_as w)) ≡ true
  commands : commands_among (journal_frames (stored_as w ∷ [])) ≡ command_in w
  notes : notes_in (stored_as w ∷ []) ≡ map completion (proposal_in_item w)

command_entered : (raw : RawMessage) → is_command_frame raw ≡ true → length raw.body < 2 ^ 64 → Entered (Command raw)
command_entered raw is fits = record {
  stands = ap may_stand (frame_back raw fits) ∙ ap (λ b. b || is_some (note_of raw)) is;
  commands = ap (λ o. commands_among (framed_by o [])) (frame_back raw fits) ∙ ap (λ b. cond b (raw ∷ []) []) is;
  notes = notes_are (frame_of raw ∷ []) ∙ ap (λ o. notifications_among (framed_by o [])) (frame_back raw fits) ∙ ap (λ b. cond b (notified_by (notification_in raw.body) []) []) (command_no_note raw is);
}

-- no notification is read from the entry of a command
pub command_unread : (raw : RawMessage) → is_command_frame raw ≡ true → length raw.body < 2 ^ 64 → note_in (frame_of raw) ≡ None
command_unread raw is fits = ap (read_from note_of) (frame_back raw fits) ∙ ap (λ b. cond b (notification_in raw.body) None) (command_no_note raw is)

-- the completion of a proposal can be read from its entry
pub completion_read : (p : ProposeRunCompletion) → IsWhole (completion_message p) → note_in (encoding (completion_message p)) ≡ Some (completion p)
completion_read p whole = ap (λ o. read_from note_of o) (frame_back (stored_form (completion_message p)) whole.1) ∙ notification_back (completion p) whole

completion_entered : (p : ProposeRunCompletion) → IsWhole (completion_message p) → Entered (Proposal p)
completion_entered p whole =
    let raw = stored_form (completion_message p) in
    let back : frame_in (encoding (completion_message p)) ≡ Some raw = frame_back raw whole.1 in
    record {
      stands = ap may_stand back ∙ ap (λ o. is_some o) (notification_back (completion p) whole);
      commands = ap (λ o. commands_among (framed_by o [])) back;
      notes = ap (λ o. notified_by o []) (completion_read p whole);
    }

entered : (version : Version) (w : Written) → IsItem version w → Entered w
entered version (Command raw) h = command_entered raw h.0 h.1
entered version (Proposal p) h = completion_entered p h.0

-- ---- the journal

done_by : (kind : Option Completes) (done : Bool) (room : Option JournalFault) → proposed_fault kind done room ≡ None → done ≡ false
done_by None done room e = absurd (cc)
done_by (Some kind) true room e = absurd (cc)
done_by (Some kind) false room e = refl

kind_by : (kind : Option Completes) (done : Bool) (room : Option JournalFault) → proposed_fault kind done room ≡ None → kind ≡ None → ⊥
kind_by None done room e is = absurd (cc)
kind_by (Some kind) done room e is = absurd (cc)

room_of : (kind : Option Completes) (done : Bool) (room : Option JournalFault) → proposed_fault kind done room ≡ None → room ≡ None
room_of None done room e = absurd (cc)
room_of (Some kind) true room e = absurd (cc)
room_of (Some completes.InvocationId) false room e = absurd (cc)
room_of (Some completes.Proposal) false room e = e
room_of (Some completes.AnyResult) false room e = e

kind_by_proposal : (kind : Option Completes) (done : Bool) (room : Option JournalFault) (result : NotificationResult) → proposed_fault kind done room ≡ None → IsOfKind kind result
kind_by_proposal None done room result e = absurd (cc)
kind_by_proposal (Some kind) true room result e = absurd (cc)
kind_by_proposal (Some completes.InvocationId) false room result e = absurd (cc)
kind_by_proposal (Some completes.Proposal) false room result e = tt
kind_by_proposal (Some completes.AnyResult) false room result e = tt

-- a notification that is new, and for which there is room, makes of a journal one again
pub note_keeps : (journal : List (List ℕ)) (x : List ℕ) → IsNew x journal → length journal ≢ most_entries → AreEntries (x ∷ []) → commands_among (journal_frames (x ∷ [])) ≡ [] → IsJournal journal → IsJournal (journal ++ x ∷ [])
note_keeps journal x new room stands none j =
    let same : commands_among (journal_frames (journal ++ x ∷ [])) ≡ commands_among (journal_frames journal) =
    ap commands_among (frames_append journal (x ∷ [])) ∙ commands_append (journal_frames journal) (journal_frames (x ∷ [])) ∙ ap (λ l. commands_among (journal_frames journal) ++ l) none ∙ append-nil (commands_among (journal_frames journal)) in
    record {
      entries = entries_join journal (x ∷ []) j.entries stands;
      short = omega (arith, j.short, room, length-append journal (x ∷ []));
      once = rw (notes_append journal (x ∷ []), new.reads) (once_more (notes_in journal) new.note j.once new.no_other);
      carried = rw (notes_append journal (x ∷ []), new.reads, same) (carried_more (notes_in journal) new.note (commands_among (journal_frames journal)) j.carried new.carried);
      kinds = each_more [] journal x j.kinds (subst (λ o. NoteIsOfItsKind o journal) (sym new.reads) new.kind);
    }

completion_new : (p : ProposeRunCompletion) (journal : List (List ℕ)) → IsWhole (completion_message p) → stored_proposal_fault p.id journal ≡ None → IsNew (encoding (completion_message p)) journal
completion_new p journal whole e =
    let id = p.id in
    let kind = completes_among id (said_in journal) None in
    let done = completes_id id (notes_in journal) in
    record {
      note = completion p;
      reads = completion_read p whole;
      no_other = absent id (notes_in journal) (done_by kind done (room_fault journal) e);
      carried = λ i is. let same : id ≡ i = cc in subst (λ k. is_carried k (commands_among (journal_frames journal)) ≡ true) same (completed_carried id journal (kind_by kind done (room_fault journal) e));
      kind = kind_by_proposal kind done (room_fault journal) (completion p).result e;
    }

command_keeps : (raw : RawMessage) (journal : List (List ℕ)) → is_command_frame raw ≡ true → length raw.body < 2 ^ 64 → room_fault journal ≡ None → IsJournal journal → IsJournal (journal ++ frame_of raw ∷ [])
command_keeps raw journal is fits room j =
    let one = command_entered raw is fits in
    let same_notes : notes_in (journal ++ frame_of raw ∷ []) ≡ notes_in journal = notes_append journal (frame_of raw ∷ []) ∙ ap (λ l. notes_in journal ++ l) one.notes ∙ append-nil (notes_in journal) in
    let more : commands_among (journal_frames (journal ++ frame_of raw ∷ [])) ≡ commands_among (journal_frames journal) ++ raw ∷ [] =
    ap commands_among (frames_append journal (frame_of raw ∷ [])) ∙ commands_append (journal_frames journal) (journal_frames (frame_of raw ∷ [])) ∙ ap (λ l. commands_among (journal_frames journal) ++ l) one.commands in
    record {
      entries = entries_join journal (frame_of raw ∷ []) j.entries (one.stands, tt);
      short = omega (arith, j.short, not_most (length journal) room, length-append journal (frame_of raw ∷ []));
      once = subst CompleteOnce (sym same_notes) j.once;
      carried = subst (λ (x : List Notification × List RawMessage). AreCarried x.0 x.1) (λ i. (sym same_notes i, sym more i)) (still_carried (notes_in journal) (commands_among (journal_frames journal)) (raw ∷ []) j.carried);
      kinds = each_more [] journal (frame_of raw) j.kinds (subst (λ o. NoteIsOfItsKind o journal) (sym (command_unread raw is fits)) tt);
    }

item_keeps : (version : Version) (w : Written) (journal : List (List ℕ)) → IsItem version w → storing_fault w journal ≡ None → IsJournal journal → IsJournal (journal ++ stored_as w ∷ [])
item_keeps version (Command raw) journal h e j = command_keeps raw journal h.0 h.1 e j
item_keeps version (Proposal p) journal h e j =
    let one = completion_entered p h.0 in
    let id = p.id in
    note_keeps journal (encoding (completion_message p)) (completion_new p journal h.0 e) (not_most (length journal) (room_of (completes_among id (said_in journal) None) (completes_id id (notes_in journal)) (room_fault journal) e)) (one.stands, tt) one.commands j

-- a journal stays one as items are stored that have no fault
pub items_keep : (version : Version) (ws : List Written) (journal : List (List ℕ)) → AllByRecursion (IsItem version) ws → NoneFaults ws journal → IsJournal journal → IsJournal (journal ++ map stored_as ws)
items_keep version [] journal all none j = subst IsJournal (sym (append-nil journal)) j
items_keep version (w ∷ ws) journal all none j = subst IsJournal (append_assoc journal (stored_as w ∷ []) (map stored_as ws)) (items_keep version ws (journal ++ stored_as w ∷ []) all.1 none.1 (item_keeps version w journal all.0 none.0 j))

-- the commands and the completions that items are, as entries
pub items_enter : (version : Version) (ws : List Written) → AllByRecursion (IsItem version) ws
    → (commands_among (journal_frames (map stored_as ws)) ≡ flat_map command_in ws) × (notes_in (map stored_as ws) ≡ map completion (flat_map proposal_in_item ws))
items_enter version [] all = (refl, refl)
items_enter version (w ∷ ws) all =
    let one = entered version w all.0 in
    let more = items_enter version ws all.1 in
    let x = stored_as w in
    let xs = map stored_as ws in (
      ap commands_among (frames_append (x ∷ []) xs) ∙ commands_append (journal_frames (x ∷ [])) (journal_frames xs) ∙ (λ i. one.commands i ++ more.0 i),
      notes_append (x ∷ []) xs ∙ (λ i. one.notes i ++ more.1 i) ∙ sym (map-append completion (proposal_in_item w) (flat_map proposal_in_item ws)),
    )

-- ---- what answers proposals

-- what answers a proposal, as a frame
abbrev pub answer_frame : Version → ProposeRunCompletion → RawMessage
answer_frame version p = if is_from_v7 version then stored_form (acknowledgement p.id) else stored_form (completion_message p)

-- what answers proposals, as frames
abbrev pub answers : Version → List ProposeRunCompletion → List RawMessage
answers version ps = map (answer_frame version) ps

-- what answers a proposal can be read
abbrev pub IsAnswered : Version → ProposeRunCompletion → Type 0
IsAnswered version p = StoredCanBeRead version (Proposal p)

pub proposals_answered : (version : Version) (ws : List Written) → AllByRecursion (StoredCanBeRead version) ws → AllByRecursion (IsAnswered version) (flat_map proposal_in_item ws)
proposals_answered version [] all = tt
proposals_answered version (Command raw ∷ ws) all = proposals_answered version ws all.1
proposals_answered version (Proposal p ∷ ws) all = (all.0, proposals_answered version ws all.1)

-- only proposals are answered
waits_answer : (version : Version) (ws : List Written) → flat_map (waits_behind version) ws ≡ flat_map (answer_to version) (flat_map proposal_in_item ws)
waits_answer version [] = refl
waits_answer version (Command raw ∷ ws) = waits_answer version ws
waits_answer version (Proposal p ∷ ws) = ap (λ l. answer_to version p ++ l) (waits_answer version ws)

answer_framed : (version : Version) (p : ProposeRunCompletion) → IsAnswered version p → AreFrames (answer_to version p) (answer_frame version p ∷ [])
answer_framed version p h = by_test (is_from_v7 version) h.1
  where
    by_test : (b : Bool) → (b ≡ true → IsWhole (acknowledgement p.id)) → AreFrames (if b then encoding (acknowledgement p.id) else encoding (completion_message p)) ((if b then stored_form (acknowledgement p.id) else stored_form (completion_message p)) ∷ [])
    by_test true whole = one_framed (stored_form (acknowledgement p.id)) (whole refl).1
    by_test false whole = one_framed (stored_form (completion_message p)) h.0.1

answers_framed : (version : Version) (ps : List ProposeRunCompletion) → AllByRecursion (IsAnswered version) ps → AreFrames (flat_map (answer_to version) ps) (answers version ps)
answers_framed version [] all = none_framed
answers_framed version (p ∷ ps) all = join (answer_to version p) (flat_map (answer_to version) ps) (answer_frame version p ∷ []) (answers version ps) (answer_framed version p all.0) (answers_framed version ps all.1)

pub waits_framed : (version : Version) (ws : List Written) → AllByRecursion (StoredCanBeRead version) ws → AreFrames (flat_map (waits_behind version) ws) (answers version (flat_map proposal_in_item ws))
waits_framed version ws all = subst (λ b. AreFrames b (answers version (flat_map proposal_in_item ws))) (sym (waits_answer version ws)) (answers_framed version (flat_map proposal_in_item ws) (proposals_answered version ws all))

-- a frame that comes after a journal: a notification or an acknowledgement, which can be read
abbrev pub IsTaken : RawMessage → Type 0
IsTaken raw = ((is_notification raw ≡ true) × IsSome (notification_in raw.body)) ⊎ ((is_acknowledgement raw ≡ true) × IsSome (acknowledgement_in raw.body))

answer_taken : (version : Version) (p : ProposeRunCompletion) → IsAnswered version p → IsTaken (answer_frame version p)
answer_taken version p h = by_test (is_from_v7 version) h.1
  where
    by_test : (b : Bool) → (b ≡ true → IsWhole (acknowledgement p.id)) → IsTaken (if b then stored_form (acknowledgement p.id) else stored_form (completion_message p))
    by_test true whole = inr (refl, ap is_some (acknowledgement_back (record { id = p.id }) (whole refl)))
    by_test false whole = inl (refl, ap is_some (notification_back (completion p) h.0))

pub answers_taken : (version : Version) (ps : List ProposeRunCompletion) → AllByRecursion (IsAnswered version) ps → AllByRecursion IsTaken (answers version ps)
answers_taken version [] all = tt
answers_taken version (p ∷ ps) all = (answer_taken version p all.0, answers_taken version ps all.1)

pub taken_append : (xs ys : List RawMessage) → AllByRecursion IsTaken xs → AllByRecursion IsTaken ys → AllByRecursion IsTaken (xs ++ ys)
taken_append [] ys a b = b
taken_append (x ∷ xs) ys a b = (a.0, taken_append xs ys a.1 b)

-- ---- arrivals

-- Frames bring these arrivals, by the proposals that were stored: each acknowledgement found its own, and none is left.
pub record Brings (version : Version) (stored : List ProposeRunCompletion) (raws : List RawMessage) (notes : List Notification) : Type 0 where
  pub found : AllFound (acknowledged_from version stored) raws
  pub none_left : kept_after (acknowledged_from version stored) raws ≡ []
  pub arrive : arriving (acknowledged_from version stored) raws ≡ notes

pub brings_nothing : (version : Version) → Brings version [] [] []
brings_nothing version = record { found = tt; none_left = nothing_acknowledged version; arrive = refl }

-- further proposals change no arrival
pub brings_still : (version : Version) (stored more : List ProposeRunCompletion) (raws : List RawMessage) (notes : List Notification) → Brings version stored raws notes → AllFound (acknowledged_from version (stored ++ more)) raws × (arriving (acknowledged_from version (stored ++ more)) raws ≡ notes)
brings_still version stored more raws notes b =
    let kept = acknowledged_from version stored in
    let also = acknowledged_from version more in (
      subst (λ l. AllFound l raws) (sym (acknowledged_more version stored more)) (found_more kept also raws b.found),
      ap (λ l. arriving l raws) (acknowledged_more version stored more) ∙ arriving_more kept also raws b.found ∙ b.arrive,
    )

-- frames after frames, with further proposals stored
brings_then : (version : Version) (stored more : List ProposeRunCompletion) (raws others : List RawMessage) (notes ns : List Notification) → Brings version stored raws notes → Brings version more others ns → Brings version (stored ++ more) (raws ++ others) (notes ++ ns)
brings_then version stored more raws others notes ns a b =
    let kept = acknowledged_from version stored in
    let also = acknowledged_from version more in
    let all = acknowledged_more version stored more in
    let left : kept_after (kept ++ also) raws ≡ also = kept_more kept also raws a.found ∙ ap (λ l. l ++ also) a.none_left in
    record {
      found = subst (λ l. AllFound l (raws ++ others)) (sym all) (found_append (kept ++ also) raws others (found_more kept also raws a.found) (subst (λ l. AllFound l others) (sym left) b.found));
      none_left = ap (λ l. kept_after l (raws ++ others)) all ∙ kept_append (kept ++ also) raws others ∙ ap (λ l. kept_after l others) left ∙ b.none_left;
      arrive = ap (λ l. arriving l (raws ++ others)) all ∙ arriving_append (kept ++ also) raws others ∙ (λ i. arriving_more kept also raws a.found i ++ arriving (left i) others) ∙ (λ i. a.arrive i ++ b.arrive i);
    }

-- a notification brings itself
note_found : (raw : RawMessage) → is_notification raw ≡ true → FindsProposal [] raw
note_found raw is acknowledges = absurd (let z : false ≡ true = sym (note_acknowledges_nothing raw is) ∙ acknowledges in cc)

note_brings : (version : Version) (raw : RawMessage) (n : Notification) → is_notification raw ≡ true → notification_in raw.body ≡ Some n → Brings version [] (raw ∷ []) (n ∷ [])
note_brings version raw n is reads =
    let none = nothing_acknowledged version in
    record {
      found = subst (λ l. AllFound l (raw ∷ [])) (sym none) (note_found raw is, tt);
      none_left = ap (λ l. kept_after l (raw ∷ [])) none ∙ kept_none (raw ∷ []);
      arrive = ap (λ l. arriving l (raw ∷ [])) none ∙ arriving_alone (raw ∷ []) ∙ ap (λ b. cond b (notified_by (notification_in raw.body) []) []) is ∙ ap (λ o. notified_by o []) reads;
    }

-- one notification more
pub brings_note : (version : Version) (stored : List ProposeRunCompletion) (raws : List RawMessage) (notes : List Notification) (raw : RawMessage) (n : Notification) → is_notification raw ≡ true → notification_in raw.body ≡ Some n → Brings version stored raws notes → Brings version stored (raws ++ raw ∷ []) (notes ++ n ∷ [])
brings_note version stored raws notes raw n is reads b = subst (λ l. Brings version l (raws ++ raw ∷ []) (notes ++ n ∷ [])) (append-nil stored) (brings_then version stored [] raws (raw ∷ []) notes (n ∷ []) b (note_brings version raw n is reads))

-- what answers a proposal brings the completion with its result
same_number : (i : ℕ) → (i == i) ≡ true
same_number i = grind (arith, nat_tests)

acknowledged_brings : (p : ProposeRunCompletion) → IsWhole (acknowledgement p.id) → AllFound (p ∷ []) (stored_form (acknowledgement p.id) ∷ []) × (kept_after (p ∷ []) (stored_form (acknowledgement p.id) ∷ []) ≡ []) × (arriving (p ∷ []) (stored_form (acknowledgement p.id) ∷ []) ≡ completion p ∷ [])
acknowledged_brings p whole =
    let raw = stored_form (acknowledgement p.id) in
    let reads = acknowledgement_back (record { id = p.id }) whole in
    let here : find (is_for p.id) (p ∷ []) ≡ Some p = ap (λ b. cond b (Some p) None) (same_number p.id) in (
      ((λ _. subst (IsOfKept (p ∷ [])) (sym reads) (ap is_some here)), tt),
      ap (unacknowledged (p ∷ [])) reads ∙ ap (λ b. if b then [] else p ∷ []) (same_number p.id),
      ap (λ o. notified_by (acknowledged_as (p ∷ []) o) []) reads ∙ ap (λ o. notified_by (option_map (acknowledged_completion p.id) o) []) here,
    )

answer_brings : (version : Version) (p : ProposeRunCompletion) → IsAnswered version p → Brings version (p ∷ []) (answer_frame version p ∷ []) (completion p ∷ [])
answer_brings version p h = by_test (is_from_v7 version) refl h.1
  where
    by_test : (b : Bool) → is_from_v7 version ≡ b → (b ≡ true → IsWhole (acknowledgement p.id)) → Brings version (p ∷ []) (answer_frame version p ∷ []) (completion p ∷ [])
    by_test true is whole =
        let x = acknowledged_brings p (whole refl) in
        let kept : acknowledged_from version (p ∷ []) ≡ p ∷ [] = ap (λ b. if b then p ∷ [] else []) is in
        let frame : answer_frame version p ≡ stored_form (acknowledgement p.id) = ap (λ b. if b then stored_form (acknowledgement p.id) else stored_form (completion_message p)) is in
        record {
          found = subst (λ (y : List ProposeRunCompletion × List RawMessage). AllFound y.0 y.1) (λ i. (sym kept i, sym frame i ∷ [])) x.0;
          none_left = subst (λ (y : List ProposeRunCompletion × List RawMessage). kept_after y.0 y.1 ≡ []) (λ i. (sym kept i, sym frame i ∷ [])) x.1;
          arrive = subst (λ (y : List ProposeRunCompletion × List RawMessage). arriving y.0 y.1 ≡ completion p ∷ []) (λ i. (sym kept i, sym frame i ∷ [])) x.2;
        }
    by_test false is whole =
        let kept : acknowledged_from version (p ∷ []) ≡ [] = ap (λ b. if b then p ∷ [] else []) is in
        let frame : answer_frame version p ≡ stored_form (completion_message p) = ap (λ b. if b then stored_form (acknowledgement p.id) else stored_form (completion_message p)) is in
        let b = note_brings version (stored_form (completion_message p)) (completion p) refl (notification_back (completion p) h.0) in
        let none = nothing_acknowledged version in
        record {
          found = subst (λ (y : List ProposeRunCompletion × List RawMessage). AllFound y.0 y.1) (λ i. ((none ∙ sym kept) i, sym frame i ∷ [])) b.found;
          none_left = subst (λ (y : List ProposeRunCompletion × List RawMessage). kept_after y.0 y.1 ≡ []) (λ i. ((none ∙ sym kept) i, sym frame i ∷ [])) b.none_left;
          arrive = subst (λ (y : List ProposeRunCompletion × List RawMessage). arriving y.0 y.1 ≡ completion p ∷ []) (λ i. ((none ∙ sym kept) i, sym frame i ∷ [])) b.arrive;
        }

answers_bring : (version : Version) (ps : List ProposeRunCompletion) → AllByRecursion (IsAnswered version) ps → Brings version ps (answers version ps) (map completion ps)
answers_bring version [] all = brings_nothing version
answers_bring version (p ∷ ps) all = brings_then version (p ∷ []) ps (answer_frame version p ∷ []) (answers version ps) (completion p ∷ []) (map completion ps) (answer_brings version p all.0) (answers_bring version ps all.1)

-- more proposals were stored, and what answers them
pub brings_answers : (version : Version) (stored ps : List ProposeRunCompletion) (raws : List RawMessage) (notes : List Notification) → AllByRecursion (IsAnswered version) ps → Brings version stored raws notes → Brings version (stored ++ ps) (raws ++ answers version ps) (notes ++ map completion ps)
brings_answers version stored ps raws notes all b = brings_then version stored ps raws (answers version ps) notes (map completion ps) b (answers_bring version ps all)
