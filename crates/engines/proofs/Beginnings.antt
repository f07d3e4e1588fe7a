-- How an invocation's journal began, and what follows of it: one run of its handler made the journal, so the ids of its commands rise.
use Rattle.std.proofs.Common.{◌≡◌, ◌⊎◌, inl, inr, ℕ, ◌+◌, ◌<◌, ◌≤◌, Bool, true, false, List, [], ◌∷◌, ◌++◌, length, take, Option, Some, None, refl, sym, ap, ◌∙◌, subst, append-nil, append_assoc, arith}
use Rattle.std.specs.Prelude.{◌||◌, slice_get, nat_lt, if◌then◌else◌}
use Rattle.std.specs.List.{AllByRecursion}
use Rattle.std.specs.Option.{option_and_then}
use Rattle.std.proofs.lemmas.Bool.Decides.{nat_tests}
use Rattle.journal_protocol.specs.Bodies.{message_in}
use Rattle.journal_protocol.specs.Message.{Message}
use Rattle.journal_protocol.specs.Notification.{Notification}
use Rattle.journal_protocol.specs.NotificationId.{NotificationId}
use Rattle.journal_protocol.specs.NotificationId.TheVariants.{CompletionId, SignalId, SignalName}
use Rattle.journal_protocol.specs.RawMessage.{RawMessage}
use Rattle.vm_model.specs.Calls.{Meaning}
use Rattle.vm_model.specs.Histories.{Honest}
use Rattle.vm_model.proofs.SoundHistories.{run_is_sound}
use Rattle.vm_asks.specs.Carried.{all_carried, carried, read_carried}
use Rattle.journal_entries.specs.declared.completions.Completes.TheVariants as completes
use Rattle.journal_entries.specs.Entries.{journal_entries, journal_frames, note_in, said_at, said_in}
use Rattle.journal_entries.specs.Journal.{messages_in, notifications_in, read_before}
use Rattle.journal_entries.specs.JournalFrames.{commands_among}
use Rattle.journal_entries.proofs.Framing.{said_are}
use Rattle.vm_attempt.proofs.Replayed.{commands_same}
use Rattle.world_rounds.specs.declared.types.Event.{Event}
use Rattle.world_rounds.specs.declared.types.Event.TheVariants as event
use Rattle.world_rounds.specs.declared.types.Setting.{Setting}
use Rattle.world_rounds.specs.declared.types.Round.{Round}
use Rattle.world_rounds.specs.Course.{BeginsRound, CourseView, HappensTo}
use Rattle.world_rounds.specs.Guarantees.{IsExactlyOnce, IsReplayable}
use Rattle.world_rounds.specs.Outside.{AddRunsAlone, IsOfRun, IsOfRunId, OutsideIn}
use Rattle.world_rounds.specs.Rounds.{Now, ReplaysAndQueues}
use Rattle.world_rounds.specs.States.{base_of}
use Rattle.world_rounds.specs.Worlds.{setup_of}
use Rattle.world_rounds.proofs.Completing.{input_carries_none}
use Rattle.world_rounds.proofs.First.{first_made}
use Rattle.world_rounds.proofs.Rising.{Rises, told_rises}
use Rattle.journal_store.specs.declared.effect.Effect.{Effect}
use Rattle.engine_inboxes.specs.declared.types.InboxFault.{InboxFault}
use Rattle.engine_inboxes.specs.declared.types.InboxFault.TheVariants as inbox_fault
use Rattle.engine_inboxes.specs.declared.types.Waiting.{Waiting}
use Rattle.engine_inboxes.specs.declared.types.Waiting.TheVariants as waiting
use Rattle.engine_inboxes.specs.Deliverable.{CanCome, Deliverable, Entered, EntryFaults, IsProposedApart, IsUnknownFrom, Known, TakesOut, completes_waited, effect_at, id_is_waited, is_waited, kind_of, known_in, past_said, waits_for_id}
use Rattle.engine_inboxes.specs.Ids.{carried_pair, past_new, past_new_along, past_new_ids}
use Rattle.engine_inboxes.proofs.Coming.{id_listed, listed, none_some, note_said, said_append}
use Rattle.engines.specs.Beginnings.{BeganWithInput, IsPastAll, IsWholeInput, MemberLasts, entry_of_input}
use Rattle.journal_entries.specs.declared.fault.JournalFault.{JournalFault}
use Rattle.engine_inboxes.specs.Faults.{IsMemoryOrFull, fault_of_entry, fault_of_store}
use Rattle.engines.specs.HandedOn.{BeginsHanded, handed_if, has_input_alone}
use Rattle.engines.specs.Members.{GoesBy, MayStoreOne, MemberView, NoEntry, StoresEntry, StoresNextEntry, case_in}
use Rattle.engines.proofs.Among.{get_left}
use Rattle.engines.proofs.Storing.{input_said}

-- ---- a journal that began with an input

-- an event leaves what was given, and what its attempts are made with
pub happens_given : {H : Type 0} (m : Meaning) (e : Event) (live : Option Now) (old new : CourseView H) → HappensTo m e live old new → new.given ≡ old.given
happens_given m e None old new same = ap (λ (c : CourseView _). c.given) same
happens_given m e (Some now) old new (is, (next, h, seen)) = ap (λ (c : CourseView _). c.given) seen

pub happens_setting : {H : Type 0} (m : Meaning) (e : Event) (live : Option Now) (old new : CourseView H) → HappensTo m e live old new → new.setting ≡ old.setting
happens_setting m e None old new same = ap (λ (c : CourseView _). c.setting) same
happens_setting m e (Some now) old new (is, (next, h, seen)) = ap (λ (c : CourseView _). c.setting) seen

-- what is handed changes neither what is stored nor how attempts go
handed_leaves : {H : Type 0} (b : Bool) (base : List (List ℕ × List ℕ)) (c : CourseView H) → ((handed_if b base c).journal ≡ c.journal) × ((handed_if b base c).given ≡ c.given) × ((handed_if b base c).setting.options ≡ c.setting.options)
handed_leaves false base c = (refl, refl, refl)
handed_leaves true base c = (refl, refl, refl)

-- nor does the round that begins by it
pub begins_leaves : {H : Type 0} (round : Round) (base : List (List ℕ × List ℕ)) (c c' : CourseView H) → BeginsHanded round base c c' → (c'.journal ≡ c.journal) × (c'.given ≡ c.given) × (c'.setting.options ≡ c.setting.options)
begins_leaves round base c c' h =
    let l = handed_leaves (has_input_alone c) base c in (
      ap (λ (v : CourseView _). v.journal) h.same ∙ l.0,
      ap (λ (v : CourseView _). v.given) h.same ∙ l.1,
      ap (λ (v : CourseView _). v.setting.options) h.same ∙ l.2,
    )

-- an attempt that was lost before is no part of what is handed
lost_before : {H : Type 0} (b : Bool) (round : Round) (base : List (List ℕ × List ℕ)) (c c' : CourseView H) → BeginsRound round (handed_if b base (record c { live = None })) c' → BeginsRound round (handed_if b base c) c'
lost_before false round base c c' h = record { same = h.same; begun = h.begun }
lost_before true round base c c' h = record { same = h.same; begun = h.begun }

pub begins_handed : {H : Type 0} (round : Round) (base : List (List ℕ × List ℕ)) (c lost handed c' : CourseView H) → lost ≡ record c { live = None } → handed ≡ handed_if (has_input_alone lost) base lost → BeginsRound round handed c' → BeginsHanded round base c c'
begins_handed round base c lost handed c' was is h =
    lost_before (has_input_alone c) round base c c'
    (subst (λ (z : CourseView _). BeginsRound round (handed_if (has_input_alone z) base z) c') was
    (subst (λ (z : CourseView _). BeginsRound round z c') is h))

-- the same as callers see it
pub begin_seen : {H : Type 0} (round : Round) (base : List (List ℕ × List ℕ)) (old : MemberView H) (c c' : CourseView H) (waiting : List Waiting) (next : ℕ) → record { course = c; waiting = waiting; next = next } ≡ old → BeginsHanded round base c c' → GoesBy (BeginsHanded round base) old (record { course = c'; waiting = waiting; next = next })
begin_seen round base old c c' waiting next is h = subst (λ (v : MemberView _). GoesBy (BeginsHanded round base) v (record { course = c'; waiting = waiting; next = next })) is (refl, h)

-- the first entry stays
began_more : (given : ℕ) (old new : List (List ℕ)) (entry : List ℕ) → new ≡ old ++ entry ∷ [] → BeganWithInput given old → BeganWithInput given new
began_more given old new entry more b = record {
  one = b.one;
  parameter = b.parameter;
  whole = b.whole;
  first = ap (λ j. slice_get j 0) more ∙ get_left old (entry ∷ []) 0 (entry_of_input b.parameter) b.first;
}

began_stored : (given : ℕ) (old new : List (List ℕ)) → MayStoreOne old new → BeganWithInput given old → BeganWithInput given new
began_stored given old new (inl same) b = subst (BeganWithInput given) (sym same) b
began_stored given old new (inr (entry, more, may)) b = began_more given old new entry more b

-- a new course over an input
pub began_new : (given : ℕ) (journal : List (List ℕ)) (parameter : List ℕ) → given ≡ length journal → journal ≡ entry_of_input parameter ∷ [] → IsWholeInput parameter → BeganWithInput given journal
began_new given journal parameter count is whole = record {
  one = count ∙ ap length is;
  parameter = parameter;
  whole = whole;
  first = ap (λ j. slice_get j 0) is;
}

-- ---- one run made it

take_one : {A : Type 0} (xs : List A) (x : A) → slice_get xs 0 ≡ Some x → take 1 xs ≡ x ∷ []
take_one [] x e = absurd (cc)
take_one (y ∷ ys) x e = let h : y ≡ x = cc in ap (λ z. z ∷ []) h

was_given : {H : Type 0} (c : CourseView H) (b : BeganWithInput c.given c.journal) → take c.given c.journal ≡ entry_of_input b.parameter ∷ []
was_given c b = ap (λ n. take n c.journal) b.one ∙ take_one c.journal (entry_of_input b.parameter) b.first

-- one run of any handler makes that input
first_once : {H : Type 0} (m : Meaning) (c : CourseView H) → BeganWithInput c.given c.journal → IsExactlyOnce (case_in m c) (take c.given c.journal)
first_once m c b = first_made (setup_of c.setting) m (Honest (base_of c.setting)) (take c.given c.journal) (record { headers = []; value = b.parameter }) (was_given c b) b.whole

-- so it can be replayed
pub first_replayable : {H : Type 0} (m : Meaning) (c : CourseView H) → BeganWithInput c.given c.journal → ReplaysAndQueues c.setting.options → IsReplayable (case_in m c) (take c.given c.journal)
first_replayable m c b r = record { replays = r; history = run_is_sound (setup_of c.setting) m (base_of c.setting) (journal_entries (take c.given c.journal)) (first_once m c b) }

pub all_once : {H : Type 0} (m : Meaning) (c : CourseView H) → BeganWithInput c.given c.journal → (ReplaysAndQueues c.setting.options → IsExactlyOnce (case_in m c) (take c.given c.journal) → IsExactlyOnce (case_in m c) c.journal) → ReplaysAndQueues c.setting.options → IsExactlyOnce (case_in m c) c.journal
all_once m c b runs r = runs r (first_once m c b)

-- ---- the ids of a journal that can be replayed rise

-- ids that rise from the next one on are new
one_new : (next : ℕ) (o : Option ℕ) (rest : List ℕ) → Rises next (id_listed o ++ rest) → (mid : ℕ) × (past_new next o ≡ Some mid) × Rises mid rest
one_new next None rest h = (next, refl, h)
one_new next (Some id) rest h = (id + 1, by (nat_lt id next) refl, h.1)
  where
    by : (b : Bool) → nat_lt id next ≡ b → (if b then None else Some (id + 1)) ≡ Some (id + 1)
    by false e = refl
    by true e = let l : next ≤ id = h.0 in let lt : id < next = grind (arith, nat_tests) in absurd (omega (arith, l, lt))

all_new : (next : ℕ) (m : Message) (rest : List ℕ) → Rises next (carried m ++ rest) → (mid : ℕ) × (past_new_ids next m ≡ Some mid) × Rises mid rest
all_new next m rest h =
    let p = carried_pair m in
    let split : Rises next (id_listed p.0 ++ (id_listed p.1 ++ rest)) = subst (Rises next) (ap (λ l. l ++ rest) (listed m) ∙ append_assoc (id_listed p.0) (id_listed p.1) rest) h in
    let (mid, first, more) = one_new next p.0 (id_listed p.1 ++ rest) split in
    let (last, second, left) = one_new mid p.1 rest more in
    (last, ap (option_and_then (λ x. past_new x p.1)) first ∙ second, left)

-- commands whose ids rise carry new ones, one after another
along : (next : ℕ) (cs : List RawMessage) → Rises next (all_carried cs) → (high : ℕ) × (past_new_along next (messages_in cs) ≡ Some high)
along next [] h = (next, refl)
along next (c ∷ cs) h = by (message_in c.ty c.body) refl (λ n r. along n cs r)
  where
    by : (o : Option Message) → message_in c.ty c.body ≡ o → ((n : ℕ) → Rises n (all_carried cs) → (high : ℕ) × (past_new_along n (messages_in cs) ≡ Some high)) → (high : ℕ) × (past_new_along next (read_before o (messages_in cs)) ≡ Some high)
    by None e go = go next (subst (λ l. Rises next (l ++ all_carried cs)) (ap read_carried e) h)
    by (Some m) e go =
        let (mid, is, rest) = all_new next m (all_carried cs) (subst (λ l. Rises next (l ++ all_carried cs)) (ap read_carried e) h) in
        let (high, more) = go mid rest in
        (high, ap (option_and_then (λ x. past_new_along x (messages_in cs))) is ∙ more)

from_zero : (ids : List ℕ) → Rises 1 ids → Rises 0 ids
from_zero [] h = tt
from_zero (id ∷ ids) h = (omega arith, h.1)

ids_rise : {H : Type 0} (m : Meaning) (c : CourseView H) → IsReplayable (case_in m c) c.journal → (high : ℕ) × (past_new_along 0 (said_in c.journal) ≡ Some high)
ids_rise m c sound =
    let h = sound.history.history in
    let commands : commands_among (journal_frames c.journal) ≡ h.first ∷ h.rest = sym (commands_same (journal_frames c.journal)) ∙ h.begins in
    let rises : Rises 1 (all_carried h.rest) = told_rises (setup_of c.setting) m h.told.0 h.input (notifications_in (journal_entries c.journal)) h.rest h.at h.told.1 h.uses_all in
    let all : Rises 1 (all_carried (h.first ∷ h.rest)) = subst (λ l. Rises 1 (l ++ all_carried h.rest)) (sym (input_carries_none h.first h.input h.reads)) rises in
    let (high, is) = along 0 (h.first ∷ h.rest) (from_zero (all_carried (h.first ∷ h.rest)) all) in
    (high, ap (past_new_along 0) (said_are c.journal ∙ ap messages_in commands) ∙ is)

-- ---- what is next, as entries are stored

along_append : (next : ℕ) (ms more : List Message) → past_new_along next (ms ++ more) ≡ option_and_then (λ mid. past_new_along mid more) (past_new_along next ms)
along_append next [] more = refl
along_append next (m ∷ ms) more = by (past_new_ids next m) (λ n. along_append n ms more)
  where
    by : (o : Option ℕ) → ((n : ℕ) → past_new_along n (ms ++ more) ≡ option_and_then (λ mid. past_new_along mid more) (past_new_along n ms)) → option_and_then (λ mid. past_new_along mid (ms ++ more)) o ≡ option_and_then (λ mid. past_new_along mid more) (option_and_then (λ mid. past_new_along mid ms) o)
    by None go = refl
    by (Some mid) go = go mid

along_one : (next : ℕ) (o : Option Message) → past_new_along next (read_before o []) ≡ past_said next o
along_one next None = refl
along_one next (Some m) = by (past_new_ids next m)
  where
    by : (o : Option ℕ) → option_and_then (λ mid. Some mid) o ≡ o
    by None = refl
    by (Some mid) = refl

ids_after : (old : List (List ℕ)) (x : List ℕ) (next : ℕ) → IsPastAll old next → past_new_along 0 (said_in (old ++ x ∷ [])) ≡ past_said next (said_at x)
ids_after old x next past =
    ap (past_new_along 0) (said_append old (x ∷ [])) ∙ along_append 0 (said_in old) (read_before (said_at x) [])
    ∙ ap (option_and_then (λ mid. past_new_along mid (read_before (said_at x) []))) past ∙ along_one next (said_at x)

-- ---- what lasts

-- a new invocation
pub new_lasts : (given : ℕ) (journal : List (List ℕ)) (ws : List Waiting) (next : ℕ) → ws ≡ [] → next ≡ 0 → IsUnknownFrom (known_in journal) 0 → BeganWithInput given journal → IsPastAll journal 0 → MemberLasts given journal ws next
new_lasts given journal ws next none zero new began ids =
    subst (λ n. MemberLasts given journal ws n) (sym zero) (subst (λ l. MemberLasts given journal l 0) (sym none)
    (record { waits = record { new = new; come = tt; once = tt }; began = began; ids = ids }))

pub ids_new : (input : List ℕ) (journal : List (List ℕ)) → journal ≡ entry_of_input input ∷ [] → IsWholeInput input → IsPastAll journal 0
ids_new input journal is whole = ap (λ j. past_new_along 0 (said_in j)) is ∙ ap (λ o. past_new_along 0 (read_before o [])) (input_said input whole)

-- the journal stays
pub same_lasts : {H : Type 0} (old new : CourseView H) (ws : List Waiting) (next : ℕ) → new.given ≡ old.given → new.journal ≡ old.journal → MemberLasts old.given old.journal ws next → MemberLasts new.given new.journal ws next
same_lasts old new ws next given same l = subst (λ n. MemberLasts n new.journal ws next) (sym given) (subst (λ j. MemberLasts old.given j ws next) (sym same) l)

-- an entry that the attempt wrote is stored, or none
pub stored_lasts : (given given' : ℕ) (old new : List (List ℕ)) (ws : List Waiting) (next : ℕ) (ws' : List Waiting) (next' : ℕ) → given' ≡ given → MayStoreOne old new → (length new ≡ length old → (ws' ≡ ws) × (next' ≡ next)) → ((x : List ℕ) → new ≡ old ++ x ∷ [] → Entered x ws next ws' next') → Deliverable new ws' next' → MemberLasts given old ws next → MemberLasts given' new ws' next'
stored_lasts given given' old new ws next ws' next' same may none entered d l = record {
  waits = d;
  began = subst (λ n. BeganWithInput n new) (sym same) (began_stored given old new may l.began);
  ids = by may;
}
  where
    by : MayStoreOne old new → IsPastAll new next'
    by (inl is) = ap (λ j. past_new_along 0 (said_in j)) is ∙ l.ids ∙ ap (λ n. Some n) (sym (none (ap length is)).1)
    by (inr (x, more, may)) = ap (λ j. past_new_along 0 (said_in j)) more ∙ ids_after old x next l.ids ∙ (entered x more).past

-- what waited has arrived
pub arrived_lasts : (given given' : ℕ) (old new : List (List ℕ)) (entry : List ℕ) (o : Option Notification) (n : Notification) (at : ℕ) (ws : List Waiting) (next : ℕ) (ws' : List Waiting) (next' : ℕ) → given' ≡ given → new ≡ old ++ entry ∷ [] → note_in entry ≡ Some n → o ≡ Some n → TakesOut o at ws next ws' next' → Deliverable new ws' next' → MemberLasts given old ws next → MemberLasts given' new ws' next'
arrived_lasts given given' old new entry o n at ws next ws' next' same more reads some takes d l =
    let left = subst (λ x. TakesOut x at ws next ws' next') some takes in
    record {
      waits = d;
      began = subst (λ n. BeganWithInput n new) (sym same) (began_more given old new entry more l.began);
      ids = ap (λ j. past_new_along 0 (said_in j)) more ∙ ids_after old entry next l.ids ∙ ap (past_said next) (note_said entry n reads) ∙ ap (λ x. Some x) (sym left.1);
    }

-- a signal waits
pub waits_lasts : (given : ℕ) (journal : List (List ℕ)) (ws : List Waiting) (next : ℕ) (ws' : List Waiting) (next' : ℕ) → next' ≡ next → Deliverable journal ws' next' → MemberLasts given journal ws next → MemberLasts given journal ws' next'
waits_lasts given journal ws next ws' next' same d l = record { waits = d; began = l.began; ids = l.ids ∙ ap (λ x. Some x) (sym same) }

-- ---- the only faults of a store

-- a fault of storing that comes from outside
pub outside_alone : (live : Option Now) (f : JournalFault) → OutsideIn (event.Store 1) live f → IsMemoryOrFull (fault_of_store f)
outside_alone None f h = absurd h
outside_alone (Some now) f (inl e) = subst (λ x. IsMemoryOrFull (fault_of_store x)) (sym e) (inl refl)
outside_alone (Some now) f (inr e) = subst (λ x. IsMemoryOrFull (fault_of_store x)) (sym e) (inr refl)

-- what waits is of no run
not_of_run : (w : Waiting) → Some (kind_of w) ≡ Some completes.Proposal → ⊥
not_of_run (waiting.Id own) e = absurd (cc)
not_of_run (waiting.Outcome own call) e = absurd (cc)
not_of_run (waiting.Clock timer) e = absurd (cc)
not_of_run (waiting.Signal s brings) e = absurd (cc)

no_run_waits : (id : ℕ) (k : Known) (ws : List Waiting) → AllByRecursion (CanCome k) ws → k.kind id ≡ Some completes.Proposal → is_waited id ws ≡ true → ⊥
no_run_waits id k [] all e h = absurd (cc)
no_run_waits id k (w ∷ ws) all e h = by (waits_for_id id w) refl h (no_run_waits id k ws all.1 e)
  where
    by : (b : Bool) → waits_for_id id w ≡ b → (b || is_waited id ws) ≡ true → (is_waited id ws ≡ true → ⊥) → ⊥
    by true is h more = not_of_run w (sym (all.0 id is).0 ∙ e)
    by false is h more = more h

-- so the result of a run completes nothing that waits
run_unwaited : (o : Option Notification) (journal : List (List ℕ)) (ws : List Waiting) (next : ℕ) → Deliverable journal ws next → IsOfRun o journal → completes_waited o ws ≡ true → ⊥
run_unwaited None journal ws next d is h = absurd (cc)
run_unwaited (Some n) journal ws next d is h = by n.id is h
  where
    by : (i : NotificationId) → IsOfRunId i journal → id_is_waited i ws ≡ true → ⊥
    by (CompletionId id) is h = no_run_waits id (known_in journal) ws d.come is h
    by (SignalId id) is h = absurd is
    by (SignalName name) is h = absurd is

-- the one entry by which a journal has grown is of a run, if it is no command
pub one_of_run : (old new : List (List ℕ)) (x : List ℕ) → AddRunsAlone old new → new ≡ old ++ x ∷ [] → IsOfRun (note_in x) old
one_of_run old new x runs more = subst (IsOfRun (note_in x)) (append-nil old) (runs [] x [] (more ∙ ap (λ j. j ++ x ∷ []) (sym (append-nil old))))

-- After a store the journal can be replayed, so the ids of its commands rise: the last one's were new. What is no command is the result of a run.
memory_alone : {H : Type 0} (m : Meaning) (c : CourseView H) (old : List (List ℕ)) (ws : List Waiting) (next : ℕ) (f : InboxFault) → MayStoreOne old c.journal → AddRunsAlone old c.journal → Deliverable old ws next → IsPastAll old next → IsReplayable (case_in m c) c.journal → (length c.journal ≡ length old → ⊥)
    → ((x : List ℕ) → c.journal ≡ old ++ x ∷ [] → EntryFaults x ws next f) → IsMemoryOrFull (fault_of_entry f)
memory_alone m c old ws next inbox_fault.Memory may runs d past sound some faults = inl refl
memory_alone m c old ws next inbox_fault.NotARun may runs d past sound some faults = absurd (by may)
  where
    by : MayStoreOne old c.journal → ⊥
    by (inl same) = some (ap length same)
    by (inr (x, more, carries)) = run_unwaited (note_in x) old ws next d (one_of_run old c.journal x runs more) (faults x more).1
memory_alone m c old ws next inbox_fault.IdNotNew may runs d past sound some faults = absurd (by may)
  where
    by : MayStoreOne old c.journal → ⊥
    by (inl same) = some (ap length same)
    by (inr (x, more, carries)) =
        let (high, is) = ids_rise m c sound in
        none_some high (sym (faults x more) ∙ sym (ids_after old x next past) ∙ ap (λ j. past_new_along 0 (said_in j)) (sym more) ∙ is)

began_after : {H : Type 0} (m : Meaning) (e : Event) (live : Option Now) (old new : CourseView H) → HappensTo m e live old new → MayStoreOne old.journal new.journal → BeganWithInput old.given old.journal → BeganWithInput new.given new.journal
began_after m e live old new h may b = subst (λ n. BeganWithInput n new.journal) (sym (happens_given m e live old new h)) (began_stored old.given old.journal new.journal may b)

-- ---- a store

-- one event of an attempt's course that stores, and how many entries there were before it; the journal then is also seen by its entries
module _ {H : Type 0} (m : Meaning) (old c : CourseView H) (ws : List Waiting) (next before : ℕ) (h : HappensTo m (event.Store 1) old.live old c) (may : MayStoreOne old.journal c.journal) (l : MemberLasts old.given old.journal ws next) (count : before ≡ length old.journal) (seen : List (List ℕ)) (is : seen ≡ c.journal) where
  pub store_lasts : (ws' : List Waiting) (next' : ℕ) → ((o : List (List ℕ)) → length o ≡ before → MayStoreOne o seen → Deliverable o ws next → Deliverable seen ws' next') → (length seen ≡ before → (ws' ≡ ws) × (next' ≡ next))
      → ((o : List (List ℕ)) (x : List ℕ) → length o ≡ before → seen ≡ o ++ x ∷ [] → Entered x ws next ws' next') → MemberLasts c.given c.journal ws' next'
  store_lasts ws' next' lasts none entered =
      stored_lasts old.given c.given old.journal c.journal ws next ws' next' (happens_given m (event.Store 1) old.live old c h) may (λ e. none (ap length is ∙ e ∙ sym count)) (λ x e. entered old.journal x (sym count) (is ∙ e))
      (subst (λ j. Deliverable j ws' next') is (lasts old.journal (sym count) (subst (MayStoreOne old.journal) (sym is) may) l.waits)) l

  pub store_memory : (by : Meaning) (f : InboxFault) → (IsReplayable (case_in by c) (take c.given c.journal) → IsReplayable (case_in by c) c.journal) → (IsReplayable (case_in m old) (take old.given old.journal) → AddRunsAlone old.journal c.journal) → (length seen ≡ before → ⊥)
      → ((o : List (List ℕ)) (x : List ℕ) → length o ≡ before → seen ≡ o ++ x ∷ [] → EntryFaults x ws next f) → ReplaysAndQueues old.setting.options → IsMemoryOrFull (fault_of_entry f)
  store_memory by f history runs some faults r =
      let after : BeganWithInput c.given c.journal = began_after m (event.Store 1) old.live old c h may l.began in
      let replays : ReplaysAndQueues c.setting.options = subst (λ (w : Setting). ReplaysAndQueues w.options) (sym (happens_setting m (event.Store 1) old.live old c h)) r in
      memory_alone by c old.journal ws next f may (runs (first_replayable m old l.began r)) l.waits l.ids (history (first_replayable by c after replays)) (λ e. some (ap length is ∙ e ∙ sym count)) (λ x e. faults old.journal x (sym count) (is ∙ e))

-- what a store did, as callers see it
module _ {H : Type 0} (f : H → Meaning) (v : MemberView H) (course : CourseView H) (ws : List Waiting) (next : ℕ) (new : MemberView H) (asks : Option Effect) (is : record { course = course; waiting = ws; next = next } ≡ v) (l : MemberLasts course.given course.journal ws next) (h : HappensTo (f course.handler) (event.Store 1) course.live course new.course) (may : MayStoreOne course.journal new.course.journal)
    (before : ℕ) (count : before ≡ length course.journal) (seen : List (List ℕ)) (same : seen ≡ new.course.journal) where
  pub store_seen : (IsReplayable (case_in (f course.handler) course) (take course.given course.journal) → AddRunsAlone course.journal new.course.journal) → (length seen ≡ before → (new.waiting ≡ ws) × (new.next ≡ next)) → (length seen ≡ before → asks ≡ None)
      → ((o : List (List ℕ)) (x : List ℕ) → length o ≡ before → seen ≡ o ++ x ∷ [] → Entered x ws next new.waiting new.next) → ((o : List (List ℕ)) (x : List ℕ) → length o ≡ before → seen ≡ o ++ x ∷ [] → IsProposedApart x ws) → ((o : List (List ℕ)) (x : List ℕ) → length o ≡ before → seen ≡ o ++ x ∷ [] → asks ≡ effect_at x)
      → StoresNextEntry (f v.course.handler) v new asks
  store_seen runs none quiet entered apart effect =
      subst (λ (x : MemberView H). StoresNextEntry (f x.course.handler) x new asks) is
      (record { course = h; entry = by may; runs = λ r. runs (first_replayable (f course.handler) course l.began r) })
    where
      by : MayStoreOne course.journal new.course.journal → NoEntry (record { course = course; waiting = ws; next = next }) new asks ⊎ StoresEntry (record { course = course; waiting = ws; next = next }) new asks
      by (inl e) = inl (record { stored = e; stays = none (ap length same ∙ ap length e ∙ sym count); effect = quiet (ap length same ∙ ap length e ∙ sym count) })
      by (inr (x, more, carries)) = inr (record {
        entry = x;
        stored = more;
        entered = entered course.journal x (sym count) (same ∙ more);
        effect = effect course.journal x (sym count) (same ∙ more);
        apart = apart course.journal x (sym count) (same ∙ more);
      })
