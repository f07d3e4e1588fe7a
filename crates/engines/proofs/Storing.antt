-- What a store adds to a journal, and what an event of the attempt's own leaves of it.
use Rattle.std.proofs.Common.{◌≡◌, inl, inr, ℕ, zero, suc, Bool, true, false, cond, List, [], ◌∷◌, ◌++◌, take, map, Option, Some, None, Result, Ok, Err, refl, sym, ap, ◌∙◌, subst, append-nil, slice_index_or, ◌+◌, length, arith}
use Rattle.std.specs.Prelude.{IfOk, OnOk, is_some}
use Rattle.std.specs.List.{AllByRecursion, concat}
use Rattle.std.specs.Option.{option_map}
use Rattle.std.proofs.lemmas.List.{length_push, same_from_push}
use Rattle.journal_protocol.specs.Version.{Version}
use Rattle.journal_protocol.specs.Message.TheVariants as message
use Rattle.journal_protocol.specs.Notification.{Notification}
use Rattle.journal_protocol.specs.NotificationId.{NotificationId}
use Rattle.journal_protocol.specs.NotificationId.TheVariants.{CompletionId, SignalId, SignalName}
use Rattle.journal_protocol.specs.RawMessage.{RawMessage}
use Rattle.journal_protocol.specs.Frames.{IsWhole, encoding}
use Rattle.journal_protocol.specs.Bodies.{message_in, notification_in}
use Rattle.journal_protocol.proofs.Facts.{read_back}
use Rattle.vm_model.specs.Calls.{Meaning}
use Rattle.journal_entries.specs.Journal.{read_before, stored_form}
use Rattle.journal_entries.specs.JournalFrames.{is_command_frame, notified_by}
use Rattle.journal_entries.specs.declared.completions.Completes.{Completes}
use Rattle.journal_entries.specs.declared.storing.Written.{Written}
use Rattle.journal_entries.specs.declared.storing.Written.TheVariants.{Command, Proposal}
use Rattle.world_rounds.specs.declared.types.Event.{Event}
use Rattle.world_rounds.specs.declared.types.Event.TheVariants as event
use Rattle.journal_entries.specs.declared.fault.JournalFault.{JournalFault}
use Rattle.journal_entries.specs.Arrivals.{completes_among, completes_id, proposed_fault, room_fault}
use Rattle.journal_entries.specs.Entries.{frame_in, note_in, note_of, notes_in, read_from, said_at, said_by}
use Rattle.journal_protocol.specs.ProposeRunCompletion.{ProposeRunCompletion}
use Rattle.journal_entries.specs.Proposals.{acknowledged_completion}
use Rattle.journal_entries.specs.Storing.{NoneFaults, StoredCanBeRead, proposal_of, stored_as, storing_fault, written_among, written_as, written_before, written_from}
use Rattle.journal_entries.proofs.Framing.{command_no_note, frame_back}
use Rattle.world_rounds.specs.Course.{CourseView, HappensTo}
use Rattle.world_rounds.specs.Rounds.{Happens, Now, Pieces, StepsHappen}
use Rattle.engine_inboxes.specs.declared.types.Brought.{Brought}
use Rattle.engine_inboxes.specs.declared.types.Waiting.{Waiting}
use Rattle.engine_inboxes.specs.Notes.{note_by}
use Rattle.engine_inboxes.specs.Deliverable.{Arrives, Deliverable, IsCarriedNote, IsUnknownFrom, MayBeStored, TakesOut, effect_at, effect_said, known_in}
use Rattle.engines.specs.Members.{Delivers, IsOwn, MayStoreOne, MemberView}
use Rattle.engines.specs.Beginnings.{entry_of_input}

-- ---- frames

notification_back : (n : Notification) → IsWhole (message.Notification n) → notification_in (stored_form (message.Notification n)).body ≡ Some n
unfolding message_in
notification_back n whole = by_read (notification_in (stored_form (message.Notification n)).body) (read_back (message.Notification n) whole)
  where
    by_read : (o : Option Notification) → option_map message.Notification o ≡ Some (message.Notification n) → o ≡ Some n
    by_read None h = absurd (cc)
    by_read (Some x) h = let e : x ≡ n = cc in ap Some e

-- a notification that is written can be read back
pub note_read : (n : Notification) → IsWhole (message.Notification n) → note_in (encoding (message.Notification n)) ≡ Some n
note_read n whole = ap (read_from note_of) (frame_back (stored_form (message.Notification n)) whole.1) ∙ notification_back n whole

pub bytes_read : {E : Type 0} (n : Notification) (r : Result (List ℕ) E) → IfOk r (λ b. b ≡ encoding (message.Notification n)) → OnOk r (IsWhole (message.Notification n)) → IfOk r (λ b. note_in b ≡ Some n)
bytes_read n (Ok b) is whole = ap note_in is ∙ note_read n whole
bytes_read n (Err e) is whole = tt

-- ---- what is stored

-- a command's frame is one of a command
abbrev IsProper : Written → Type 0
IsProper (Command raw) = is_command_frame raw ≡ true
IsProper (Proposal p) = Unit {0}

-- what a frame is stored as, if it is
abbrev IsProperIn : Option Written → Type 0
IsProperIn None = Unit {0}
IsProperIn (Some w) = IsProper w

proposal_proper : (o : Option ProposeRunCompletion) → IsProperIn (option_map Proposal o)
proposal_proper None = tt
proposal_proper (Some p) = tt

written_proper : (raw : RawMessage) → IsProperIn (written_as raw)
written_proper raw = by (is_command_frame raw) refl
  where
    by : (b : Bool) → is_command_frame raw ≡ b → IsProperIn (cond b (Some (Command raw)) (option_map Proposal (proposal_of raw)))
    by true e = e
    by false e = proposal_proper (proposal_of raw)

before_proper : (o : Option Written) (ws : List Written) → IsProperIn o → AllByRecursion IsProper ws → AllByRecursion IsProper (written_before o ws)
before_proper None ws h a = a
before_proper (Some w) ws h a = (h, a)

proper : (raws : List RawMessage) → AllByRecursion IsProper (written_among raws)
proper [] = tt
proper (raw ∷ raws) = before_proper (written_as raw) (written_among raws) (written_proper raw) (proper raws)

-- the id of a proposal that has no fault is carried
faultless_carried : (o : Option Completes) (done : Bool) (room : Option JournalFault) → proposed_fault o done room ≡ None → is_some o ≡ true
faultless_carried None done room e = absurd (cc)
faultless_carried (Some kind) done room e = refl

-- an entry that is stored is a command, or completes an id that a command carries
item_may : (version : Version) (w : Written) (journal : List (List ℕ)) → IsProper w → StoredCanBeRead version w → storing_fault w journal ≡ None → MayBeStored (stored_as w) journal
item_may version (Command raw) journal is fits e =
    subst (λ o. IsCarriedNote o (known_in journal)) (sym (ap (read_from note_of) (frame_back raw fits) ∙ ap (λ b. cond b (notification_in raw.body) None) (command_no_note raw is))) tt
item_may version (Proposal p) journal is fits e =
    subst (λ o. IsCarriedNote o (known_in journal)) (sym (note_read (acknowledged_completion p.id p) fits.0))
    (faultless_carried ((known_in journal).kind p.id) ((known_in journal).done p.id) (room_fault journal) e)

-- a notification that an attempt proposed is of an id that wasn't completed
abbrev pub IsUndoneId : NotificationId → List (List ℕ) → Type 0
IsUndoneId (CompletionId id) journal = completes_id id (notes_in journal) ≡ false
IsUndoneId (SignalId id) journal = Unit {0}
IsUndoneId (SignalName name) journal = Unit {0}

abbrev pub IsUndone : Option Notification → List (List ℕ) → Type 0
IsUndone None journal = Unit {0}
IsUndone (Some n) journal = IsUndoneId n.id journal

faultless_undone : (o : Option Completes) (done : Bool) (room : Option JournalFault) → proposed_fault o done room ≡ None → done ≡ false
faultless_undone None done room e = absurd (cc)
faultless_undone (Some kind) true room e = absurd (cc)
faultless_undone (Some kind) false room e = refl

item_undone : (version : Version) (w : Written) (journal : List (List ℕ)) → IsProper w → StoredCanBeRead version w → storing_fault w journal ≡ None → IsUndone (note_in (stored_as w)) journal
item_undone version (Command raw) journal is fits e =
    subst (λ o. IsUndone o journal) (sym (ap (read_from note_of) (frame_back raw fits) ∙ ap (λ b. cond b (notification_in raw.body) None) (command_no_note raw is))) tt
item_undone version (Proposal p) journal is fits e =
    subst (λ o. IsUndone o journal) (sym (note_read (acknowledged_completion p.id p) fits.0))
    (faultless_undone ((known_in journal).kind p.id) ((known_in journal).done p.id) (room_fault journal) e)

not_longer : {A : Type 0} (xs : List A) (x : A) → xs ≡ xs ++ x ∷ [] → ⊥
not_longer xs x e = let h : length xs ≡ length xs + 1 = ap length e ∙ length_push xs x in omega (arith, h)

-- of the entry that is stored
facts_few : (version : Version) (ws all : List Written) (old new : List (List ℕ)) (x : List ℕ) → ws ≡ take 1 all → new ≡ old ++ map stored_as ws → NoneFaults ws old → AllByRecursion (StoredCanBeRead version) ws → AllByRecursion IsProper ws → new ≡ old ++ x ∷ [] → MayBeStored x old × IsUndone (note_in x) old
facts_few version [] all old new x e stored none read is more = absurd (not_longer old x (sym (stored ∙ append-nil old) ∙ more))
facts_few version (w ∷ []) all old new x e stored none read is more =
    let same : stored_as w ≡ x = (same_from_push old old (stored_as w) x (sym stored ∙ more)).1 in
    subst (λ y. MayBeStored y old × IsUndone (note_in y) old) same (item_may version w old is.0 read.0 none.0, item_undone version w old is.0 read.0 none.0)
facts_few version (w ∷ v ∷ ws) [] old new x e stored none read is more = absurd (cc)
facts_few version (w ∷ v ∷ ws) (a ∷ all) old new x e stored none read is more = absurd (cc)

few : (version : Version) (ws all : List Written) (old new : List (List ℕ)) → ws ≡ take 1 all → new ≡ old ++ map stored_as ws → NoneFaults ws old → AllByRecursion (StoredCanBeRead version) ws → AllByRecursion IsProper ws → MayStoreOne old new
few version [] all old new e stored none read is = inl (stored ∙ append-nil old)
few version (w ∷ []) all old new e stored none read is = inr (stored_as w, stored, item_may version w old is.0 read.0 none.0)
few version (w ∷ v ∷ ws) [] old new e stored none read is = absurd (cc)
few version (w ∷ v ∷ ws) (a ∷ all) old new e stored none read is = absurd (cc)

-- one store
pub one_stored : {H : Type 0} (m : Meaning) (live : Option Now) (old new : CourseView H) → HappensTo m (event.Store 1) live old new → MayStoreOne old.journal new.journal
one_stored m None old new same = inl (ap (λ (v : CourseView _). v.journal) same)
one_stored m (Some now) old new (is, (next, (journal, waiting, unstored, stores, becomes, whole, proposed), seen)) =
    let s : new.journal ≡ journal = ap (λ (v : CourseView _). v.journal) seen ∙ ap (λ (n : Now). n.journal) becomes in
    subst (λ j. MayStoreOne j new.journal) (sym is) (subst (MayStoreOne now.journal) (sym s)
    (few now.version (written_among stores.seen) (written_from (now.unstored ++ concat now.attempt.vm.machine.output)) now.journal journal stores.next stores.stored stores.faultless stores.readable (proper stores.seen)))

-- what is known of the entry that a store adds
pub stored_facts : {H : Type 0} (m : Meaning) (live : Option Now) (old new : CourseView H) (x : List ℕ) → HappensTo m (event.Store 1) live old new → new.journal ≡ old.journal ++ x ∷ [] → MayBeStored x old.journal × IsUndone (note_in x) old.journal
stored_facts m None old new x same more = absurd (not_longer old.journal x (sym (ap (λ (v : CourseView _). v.journal) same) ∙ more))
stored_facts m (Some now) old new x (is, (next, (journal, waiting, unstored, stores, becomes, whole, proposed), seen)) more =
    let s : new.journal ≡ journal = ap (λ (v : CourseView _). v.journal) seen ∙ ap (λ (n : Now). n.journal) becomes in
    subst (λ j. MayBeStored x j × IsUndone (note_in x) j) (sym is)
    (facts_few now.version (written_among stores.seen) (written_from (now.unstored ++ concat now.attempt.vm.machine.output)) now.journal journal x stores.next stores.stored stores.faultless stores.readable (proper stores.seen) (sym s ∙ more ∙ ap (λ j. j ++ x ∷ []) is))

-- ---- an event of the attempt's own

steps_keep : (m : Meaning) (n : ℕ) (now next : Now) → StepsHappen m n now next → next.journal ≡ now.journal
steps_keep m zero now next h = ap (λ (x : Now). x.journal) h
steps_keep m (suc n) now next (mid, (result, r, does, is), more) = steps_keep m n mid next more ∙ ap (λ (x : Now). x.journal) is

pieces_keep : (b : Bool) (n : ℕ) (now next : Now) → Pieces b n now next → next.journal ≡ now.journal
pieces_keep true n now next h = ap (λ (x : Now). x.journal) h
pieces_keep false n now next (result, r, does, is) = ap (λ (x : Now). x.journal) is

own_keeps : (m : Meaning) (e : Event) (now next : Now) → IsOwn e → Happens m e now next → next.journal ≡ now.journal
own_keeps m (event.Piece n) now next own h = pieces_keep now.closed n now next h
own_keeps m event.Close now next own (result, r, does, is) = ap (λ (x : Now). x.journal) is
own_keeps m event.Step now next own (result, r, does, is) = ap (λ (x : Now). x.journal) is
own_keeps m (event.Steps n) now next own h = steps_keep m n now next h
own_keeps m (event.RunResult handle exit policy) now next own (result, r, does, is) = ap (λ (x : Now). x.journal) is
own_keeps m (event.Arrive x) now next own h = absurd own
own_keeps m (event.Store n) now next own h = absurd own

pub own_leaves : {H : Type 0} (m : Meaning) (e : Event) (live : Option Now) (old new : CourseView H) → IsOwn e → HappensTo m e live old new → new.journal ≡ old.journal
own_leaves m e None old new own same = ap (λ (v : CourseView _). v.journal) same
own_leaves m e (Some now) old new own (is, (next, h, seen)) = ap (λ (v : CourseView _). v.journal) seen ∙ own_keeps m e now next own h ∙ sym is

pub if_ok_then : {A E : Type 0} (r : Result A E) (P Q : A → Type 0) → ((a : A) → P a → Q a) → IfOk r P → IfOk r Q
if_ok_then (Ok a) P Q f h = f a h
if_ok_then (Err e) P Q f h = tt

-- ---- what waits

-- what has come is an entry, and the rest can come after it
pub come_lasts : (o : Option Notification) (n : Notification) (old new : List Waiting) (next next' : ℕ) (entry : List ℕ) (journal after : List (List ℕ)) → o ≡ Some n → Arrives o old next new next' → note_in entry ≡ Some n → Deliverable journal old next → after ≡ journal ++ entry ∷ [] → Deliverable after new next'
come_lasts o n old new next next' entry journal after is comes noted d e =
    subst (λ j. Deliverable j new next') (sym e) ((subst (λ x. Arrives x old next new next') is comes) entry journal noted d).1

-- ---- the journal of a new world

input_frame : (input : List ℕ) → IsWhole (message.Input (record { headers = []; value = input })) → frame_in (entry_of_input input) ≡ Some (stored_form (message.Input (record { headers = []; value = input })))
input_frame input whole = frame_back (stored_form (message.Input (record { headers = []; value = input }))) whole.1

-- an input is no notification, and asks for nothing
pub input_note : (input : List ℕ) → IsWhole (message.Input (record { headers = []; value = input })) → note_in (entry_of_input input) ≡ None
input_note input whole = ap (read_from note_of) (input_frame input whole)

pub input_said : (input : List ℕ) → IsWhole (message.Input (record { headers = []; value = input })) → said_at (entry_of_input input) ≡ Some (message.Input (record { headers = []; value = input }))
input_said input whole = ap (read_from said_by) (input_frame input whole) ∙ read_back (message.Input (record { headers = []; value = input })) whole

pub input_quiet : (input : List ℕ) → IsWhole (message.Input (record { headers = []; value = input })) → effect_at (entry_of_input input) ≡ None
input_quiet input whole = ap effect_said (input_said input whole)

-- a journal of one input carries no id, and completes none
pub input_unknown : (input : List ℕ) → IsWhole (message.Input (record { headers = []; value = input })) → IsUnknownFrom (known_in (entry_of_input input ∷ [])) 0
input_unknown input whole id le = (
  ap (λ o. completes_among id (read_before o []) None) (input_said input whole),
  ap (λ o. completes_id id (notified_by o [])) (input_note input whole),
)

pub first_unknown : (input : List ℕ) (journal : List (List ℕ)) → journal ≡ entry_of_input input ∷ [] → IsWhole (message.Input (record { headers = []; value = input })) → IsUnknownFrom (known_in journal) 0
first_unknown input journal is whole = subst (λ j. IsUnknownFrom (known_in j) 0) (sym is) (input_unknown input whole)

-- what was delivered, as callers see it
module _ {H : Type 0} (f : H → Meaning) (v : MemberView H) (course : CourseView H) (ws : List Waiting) (next : ℕ) (at : ℕ) (b : Brought) (o : Option Notification) (new : MemberView H) (is : record { course = course; waiting = ws; next = next } ≡ v) (taken : (w : Waiting) → w ≡ slice_index_or ws at w → o ≡ note_by w b) (rest : TakesOut o at ws next new.waiting new.next) where
  pub came_seen : (n : Notification) (entry : List ℕ) → o ≡ Some n → note_in entry ≡ Some n → new.course.journal ≡ course.journal ++ entry ∷ [] → HappensTo (f course.handler) (event.Arrive entry) course.live course new.course → Delivers at b (f v.course.handler) v new
  came_seen n entry some reads stored arrived =
      subst (λ (x : MemberView _). Delivers at b (f x.course.handler) x new) is
      (inr (record {
        note = n;
        becomes = λ w e. sym some ∙ taken w e;
        entry = entry;
        reads = reads;
        stored = stored;
        arrived = arrived;
        rest = subst (λ x. TakesOut x at ws next new.waiting new.next) some rest;
      }))
