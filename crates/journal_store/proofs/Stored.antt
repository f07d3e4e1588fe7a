-- How commands and proposals are stored, by what is known of the journal.
use Rattle.std.proofs.Common.{◌≡◌, ℕ, ◌<◌, ◌≤◌, ◌^◌, ◌-◌, Bool, true, false, cond, List, [], ◌∷◌, ◌++◌, length, take, Option, Some, None, sym, ap, ◌∙◌, subst, arith, append_assoc}
use Rattle.std.specs.Prelude.{if◌then◌else◌}
use Rattle.std.specs.Option.{option_map}
use Rattle.journal_protocol.specs.Version.{Version}
use Rattle.journal_protocol.specs.Message.{Message}
use Rattle.journal_protocol.specs.Message.TheVariants as message
use Rattle.journal_protocol.specs.RawMessage.{RawMessage}
use Rattle.journal_protocol.specs.Frames.{IsWhole, encoding}
use Rattle.journal_protocol.specs.Bodies.{message_in, notification_in}
use Rattle.journal_protocol.proofs.Facts.{read_back, whole_shorter}
use Rattle.journal_protocol.specs.Notification.{Notification}
use Rattle.journal_protocol.specs.ProposeRunCompletion.{ProposeRunCompletion}
use Rattle.journal_entries.specs.Proposals.{acknowledged_completion}
use Rattle.journal_entries.specs.Journal.{stored_form}
use Rattle.journal_entries.specs.JournalFrames.{is_command_frame}
use Rattle.journal_entries.specs.declared.storing.Written.{Written}
use Rattle.journal_entries.specs.declared.storing.Written.TheVariants.{Command, Proposal}
use Rattle.journal_entries.specs.declared.fault.JournalFault.{JournalFault}
use Rattle.journal_entries.specs.Entries.{frame_of, note_in, note_of as note_by, read_from, said_at, said_by}
use Rattle.journal_entries.specs.NextFrames.{HasFault, NextFaults, StoresItem, StoresOne, StoresRaw}
use Rattle.journal_entries.specs.Storing.{FirstFault, Stores, completion_message, proposal_of, stored_as, storing_fault, written_as, written_from}
use Rattle.journal_entries.proofs.Framing.{frame_back}
use Rattle.journal_entries.proofs.Scanned.{Stands, stands_done, stands_fault, stands_first, stands_over, then_next}
use Rattle.journal_store.specs.Journals.{Appends, Holds, IsSameKept, JournalView}
use Rattle.journal_store.specs.Stored.{NextFaultsBy, StoresBy, StoresOneBy, StoresRawBy, fits_in, storing_by}
use Rattle.journal_store.proofs.Appended.{appended, proposing_is, room_is}

-- ---- what is stored, as an entry

pub frame_said : (raw : RawMessage) → length raw.body < 2 ^ 64 → said_at (frame_of raw) ≡ said_by raw
frame_said raw fits = ap (read_from said_by) (frame_back raw fits)

pub frame_noted : (raw : RawMessage) → length raw.body < 2 ^ 64 → note_in (frame_of raw) ≡ note_by raw
frame_noted raw fits = ap (read_from note_by) (frame_back raw fits)

-- a notification that is written can be read back
notification_back : (n : Notification) → IsWhole (message.Notification n) → notification_in (stored_form (message.Notification n)).body ≡ Some n
unfolding message_in
notification_back n whole = by_read (notification_in (stored_form (message.Notification n)).body) (read_back (message.Notification n) whole)
  where
    by_read : (o : Option Notification) → option_map message.Notification o ≡ Some (message.Notification n) → o ≡ Some n
    by_read None h = absurd (cc)
    by_read (Some x) h = let e : x ≡ n = cc in ap Some e

note_read : (n : Notification) → IsWhole (message.Notification n) → note_in (encoding (message.Notification n)) ≡ Some n
note_read n whole = ap (read_from note_by) (frame_back (stored_form (message.Notification n)) whole.1) ∙ notification_back n whole

note_said : (n : Notification) → IsWhole (message.Notification n) → said_at (encoding (message.Notification n)) ≡ None
note_said n whole = ap (read_from said_by) (frame_back (stored_form (message.Notification n)) whole.1)

pub completion_appends : (p : ProposeRunCompletion) (old new : JournalView) → IsWhole (completion_message p) → Appends None (Some (acknowledged_completion p.id p)) old new
    → Appends (said_at (encoding (completion_message p))) (note_in (encoding (completion_message p))) old new
completion_appends p old new whole a =
    let n = acknowledged_completion p.id p in
    subst (λ (o : Option Message). Appends o (note_in (encoding (completion_message p))) old new) (sym (note_said n whole)) (subst (λ (o : Option Notification). Appends None o old new) (sym (note_read n whole)) a)

-- ---- one item

fits_by : (b : Bool) (raw : RawMessage) (o : Option ProposeRunCompletion) (w : Written) → cond b (Some (Command raw)) (option_map Proposal o) ≡ Some w → length raw.body < 2 ^ 64 → fits_in w
fits_by true raw o (Command c) e l = let same : raw ≡ c = cc in subst (λ (r : RawMessage). length r.body < 2 ^ 64) same l
fits_by true raw o (Proposal p) e l = tt
fits_by false raw None w e l = absurd (cc)
fits_by false raw (Some p) (Command c) e l = absurd (cc)
fits_by false raw (Some p) (Proposal q) e l = tt

pub item_fits : (raw : RawMessage) (w : Written) → written_as raw ≡ Some w → length raw.body < 2 ^ 64 → fits_in w
item_fits raw w e l = fits_by (is_command_frame raw) raw (proposal_of raw) w e l

module _ (view : JournalView) (journal : List (List ℕ)) (h : Holds view journal) where
  pub storing_is : (w : Written) → storing_by w view ≡ storing_fault w journal
  storing_is (Command raw) = room_is view journal h
  storing_is (Proposal p) = proposing_is view journal h p.id

module _ (version : Version) (before : List (List ℕ)) (old : JournalView) (entries : List (List ℕ)) (feed : List ℕ) (new : JournalView) (entries' : List (List ℕ)) (feed' : List ℕ) (h : Holds old (before ++ entries)) where
  abbrev J : List (List ℕ)
  J = before ++ entries

  abbrev J' : List (List ℕ)
  J' = before ++ entries'

  item_stored : (w : Written) → StoresBy version w old entries feed new entries' feed' → StoresItem version w J feed J' feed' × Holds new J'
  item_stored w s =
      let more : J' ≡ J ++ stored_as w ∷ [] = ap (λ l. before ++ l) s.stored ∙ sym (append_assoc before entries (stored_as w ∷ [])) in (
        record { faultless = sym (storing_is old J h w) ∙ s.faultless; stored = more; waits = s.waits; whole = s.whole },
        subst (Holds new) (sym more) (appended J (stored_as w) old new h s.appends),
      )

  same_holds : new ≡ old → entries' ≡ entries → Holds new J'
  same_holds e l = subst (λ (x : JournalView × List (List ℕ)). Holds x.0 (before ++ x.1)) (λ i. (sym e i, sym l i)) h

  raw_stored : (raw : RawMessage) (b : Bool) → StoresRawBy version raw b old entries feed new entries' feed' → StoresRaw version raw b J feed J' feed' × Holds new J'
  raw_stored raw false (none, same, list, fed) = ((none, ap (λ l. before ++ l) list, fed), same_holds same list)
  raw_stored raw true (w, is, s) = let t = item_stored w s in ((w, is, t.0), t.1)

  one_stored : (u u' : List ℕ) (o : Option Bool) → StoresOneBy version u o u' old entries feed new entries' feed' → StoresOne version J feed u o J' feed' u' × Holds new J'
  one_stored u u' None (ends, rest, same, list, fed) = ((ends, rest, ap (λ l. before ++ l) list, fed), same_holds same list)
  one_stored u u' (Some b) (raw, next, fits, s) = let t = raw_stored raw b s in ((raw, next, fits, t.0), t.1)

-- ---- one after another

-- for each journal that is known so far, `left` items are left to be stored, and the journal that
-- they make is known
pub record Going (version : Version) (n : ℕ) (u : List ℕ) (first : JournalView) (es : List (List ℕ)) (fed : List ℕ) (left : ℕ) (now : JournalView) (entries : List (List ℕ)) (feed : List ℕ) (rest : List ℕ) : Type 0 where
  pub stands : (before : List (List ℕ)) → Holds first (before ++ es) → Stands version n u (before ++ es) fed left (before ++ entries) feed rest
  pub holds : (before : List (List ℕ)) → Holds first (before ++ es) → Holds now (before ++ entries)

pub going_first : (version : Version) (n : ℕ) (u : List ℕ) (first : JournalView) (es : List (List ℕ)) (fed : List ℕ) → Going version n u first es fed n first es fed u
going_first version n u first es fed = record { stands = λ before h. stands_first version n u (before ++ es) fed; holds = λ before h. h }

module _ (version : Version) (n : ℕ) (u : List ℕ) (first : JournalView) (es : List (List ℕ)) (fed : List ℕ) (left : ℕ) (now : JournalView) (entries : List (List ℕ)) (feed : List ℕ) (rest : List ℕ) (g : Going version n u first es fed left now entries feed rest) where
  pub going_next : (o : Option Bool) (stored b : Bool) (now' : JournalView) (entries' : List (List ℕ)) (feed' rest' : List ℕ) → o ≡ Some stored → stored ≡ b → StoresOneBy version rest o rest' now entries feed now' entries' feed' → 0 < left
      → Going version n u first es fed (if b then left - 1 else left) now' entries' feed' rest'
  going_next o stored b now' entries' feed' rest' is is' s some = record {
    stands = λ before h. then_next version n u (before ++ es) fed left (before ++ entries) feed rest (g.stands before h) o stored b (before ++ entries') feed' rest' is is' (one_stored version before now entries feed now' entries' feed' (g.holds before h) rest rest' o s).0 some;
    holds = λ before h. (one_stored version before now entries feed now' entries' feed' (g.holds before h) rest rest' o s).1;
  }

  pub going_over : (o : Option Bool) (now' : JournalView) (entries' : List (List ℕ)) (feed' rest' : List ℕ) → o ≡ None → StoresOneBy version rest o rest' now entries feed now' entries' feed'
      → (before : List (List ℕ)) → Holds first (before ++ es) → Stores version n u (before ++ es) fed (before ++ entries') feed' rest' × Holds now' (before ++ entries')
  going_over o now' entries' feed' rest' is s before h =
      let t = one_stored version before now entries feed now' entries' feed' (g.holds before h) rest rest' o s in
      (stands_over version n u (before ++ es) fed left (before ++ entries) feed rest (g.stands before h) o (before ++ entries') feed' rest' is t.0, t.1)

  pub going_done : left ≤ 0 → (before : List (List ℕ)) → Holds first (before ++ es) → Stores version n u (before ++ es) fed (before ++ entries) feed rest × Holds now (before ++ entries)
  going_done none before h = (stands_done version n u (before ++ es) fed left (before ++ entries) feed rest (g.stands before h) none, g.holds before h)

  pub going_fault : (f : JournalFault) → NextFaultsBy rest now f → 0 < left → (before : List (List ℕ)) → Holds first (before ++ es) → FirstFault version (take n (written_from u)) (before ++ es) f
  going_fault f h some before begun =
      let has : HasFault h.raw (before ++ entries) f = record { item = h.has.item; is = h.has.is; fault = sym (storing_is now (before ++ entries) (g.holds before begun) h.has.item) ∙ h.has.fault } in
      let next : NextFaults rest (before ++ entries) f = record { raw = h.raw; rest = h.rest; next = h.next; has = has } in
      stands_fault version n u (before ++ es) fed left (before ++ entries) feed rest (g.stands before begun) f next some

pub same_kept : (a b c : JournalView) → IsSameKept a b → IsSameKept b c → IsSameKept a c
same_kept a b c x y = record { ids = y.ids ∙ x.ids; count = y.count ∙ x.count }

-- the bytes that weren't looked at are fewer
pub one_shorter : (version : Version) (u : List ℕ) (o : Option Bool) (b : Bool) (u' : List ℕ) (old : JournalView) (entries : List (List ℕ)) (feed : List ℕ) (new : JournalView) (entries' : List (List ℕ)) (feed' : List ℕ) → o ≡ Some b → StoresOneBy version u o u' old entries feed new entries' feed' → length u' < length u
one_shorter version u None b u' old entries feed new entries' feed' is h = absurd (cc)
one_shorter version u (Some c) b u' old entries feed new entries' feed' is (raw, next, fits, stores) = omega (arith, whole_shorter u raw u' next)
