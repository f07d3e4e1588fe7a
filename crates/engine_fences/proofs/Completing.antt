-- Each completion in a journal of an engine is of an id that a stored command before it carries.
use Rattle.std.proofs.Common.{◌≡◌, ◌⊎◌, inl, inr, ℕ, ◌<◌, slice_index_or, Bool, true, false, List, [], ◌∷◌, ◌++◌, length, Option, Some, None, refl, sym, ap, ◌∙◌, subst, append-nil, append_assoc}
use Rattle.std.specs.Prelude.{slice_get}
use Rattle.std.specs.List.{remove}
use Rattle.std.specs.Option.{option_and_then}
use Rattle.std.proofs.lemmas.Option.{get_or_from_slice_get}
use Rattle.journal_protocol.specs.Message.{Message}
use Rattle.journal_protocol.specs.Notification.{Notification}
use Rattle.journal_protocol.specs.NotificationId.TheVariants.{CompletionId}
use Rattle.journal_protocol.specs.NotificationResult.{NotificationResult}
use Rattle.journal_protocol.specs.ValueOrFailure.{ValueOrFailure}
use Rattle.journal_protocol.specs.ValueOrFailure.TheVariants as ends
use Rattle.journal_protocol.specs.Version.{Version}
use Rattle.journal_entries.specs.Arrivals.{completes_id}
use Rattle.journal_entries.specs.declared.storing.Written.{Written}
use Rattle.journal_entries.specs.declared.storing.Written.TheVariants.{Command, Proposal}
use Rattle.journal_entries.specs.Entries.{note_in, notes_in, said_at, said_in}
use Rattle.journal_entries.specs.Journal.{read_before}
use Rattle.journal_entries.specs.Proposals.{completion_result}
use Rattle.journal_entries.specs.Storing.{stored_as}
use Rattle.vm_model.specs.Calls.{Meaning}
use Rattle.world_rounds.proofs.Settled.{IsItem, command_unread, completion_read}
use Rattle.world_rounds.specs.Course.{HappensTo}
use Rattle.world_rounds.specs.Outside.{IsOfRun, IsOfRunId}
use Rattle.world_rounds.specs.Rounds.{ReplaysAndQueues}
use Rattle.world_rounds.specs.declared.types.Event.{Event}
use Rattle.world_rounds.specs.declared.types.Event.TheVariants as event
use Rattle.world_rounds.specs.declared.types.Setting.{Setting}
use Rattle.journal_store.specs.Effects.{completing_result}
use Rattle.journal_store.specs.declared.effect.Effect.{Effect}
use Rattle.engine_inboxes.specs.declared.types.Brought.{Brought}
use Rattle.engine_inboxes.specs.declared.types.Waiting.{Waiting}
use Rattle.engine_inboxes.specs.Deliverable.{CanAllCome, Entered, IsCarriedId, IsCarriedNote, IsUnwaited, MayBeStored, completes_waited, id_is_waited, is_waited, kinds_in, known_in, past_said, waited_by, waits_for_id}
use Rattle.engine_inboxes.specs.Ids.{past_new_along, past_new_ids}
use Rattle.engine_inboxes.specs.Notes.{note_by}
use Rattle.engine_inboxes.proofs.Coming.{none_some, note_said, said_append, said_note, some_same}
use Rattle.engines.specs.declared.engine.Engine.{Engine}
use Rattle.engines.specs.declared.engine.Invocation.{Invocation}
use Rattle.engines.specs.declared.types.Happening.{Happening}
use Rattle.engines.specs.Beginnings.{IsPastAll, IsWholeInput, entry_of_input}
use Rattle.engines.specs.Between.{IsOneOf, waited_in}
use Rattle.engines.specs.Engines.{AllHappen}
use Rattle.engines.specs.Members.{Delivers, MemberView, NoEntry, StoresEntry, StoresNextEntry, with_signal}
use Rattle.engines.proofs.Among.{among_at, get_within, waited_among}
use Rattle.engines.proofs.Beginnings.{happens_setting, ids_new, one_of_run}
use Rattle.engines.proofs.Books.{Book, book_came, book_command, book_proposal, book_signal, nothing_asked}
use Rattle.engines.proofs.Growing.{some_in}
use Rattle.engines.proofs.Replaying.{all_replay, none_replays, one_replays}
use Rattle.engines.proofs.Storing.{IsUndone, IsUndoneId, input_note, input_quiet, input_unknown, stored_facts}
use Rattle.engine_fences.specs.Completions.{BringsResult, CompletionsAreAskedFor, CompletionsAreOwn, EachCompletion, IdsRise, IsAskedFor, IsOfOwnCommand}
use Rattle.engine_fences.proofs.Events.{AllHold, Always, Any, Holds, IsNew, any_may, event_holds, hold_then, none_holds}
use Rattle.engine_fences.proofs.Carriers.{CompletesBy, carrier, command_waited, completes_so, delivered_kind, delivered_own, proposed_kind, proposed_own, waited_command, waits_so}
use Rattle.engine_fences.proofs.Stores.{store_so}

-- ---- along a journal

module _ (So : List (List ℕ) → ℕ → NotificationResult → Type 0) where
  -- if it is a completion, it is so after these entries
  abbrev IsSoAfter : Option Notification → List (List ℕ) → Type 0
  IsSoAfter o before = (n : Notification) (id : ℕ) → o ≡ Some n → n.id ≡ CompletionId id → So before id n.result

  abbrev AreSoAlong : List (List ℕ) → List (List ℕ) → Type 0
  AreSoAlong before [] = Unit {0}
  AreSoAlong before (x ∷ xs) = IsSoAfter (note_in x) before × AreSoAlong (before ++ x ∷ []) xs

  -- what is no notification completes nothing
  nothing_after : (o : Option Notification) (before : List (List ℕ)) → o ≡ None → IsSoAfter o before
  nothing_after o before none n id e is = absurd (none_some n (sym none ∙ e))

  so_more : (before journal : List (List ℕ)) (x : List ℕ) → AreSoAlong before journal → IsSoAfter (note_in x) (before ++ journal) → AreSoAlong before (journal ++ x ∷ [])
  so_more before [] x h one = (subst (IsSoAfter (note_in x)) (append-nil before) one, tt)
  so_more before (y ∷ ys) x h one = (h.0, so_more (before ++ y ∷ []) ys x h.1 (subst (IsSoAfter (note_in x)) (sym (append_assoc before (y ∷ []) ys)) one))

  so_at : (first journal before : List (List ℕ)) (entry : List ℕ) (after : List (List ℕ)) → AreSoAlong first journal → journal ≡ before ++ entry ∷ after → IsSoAfter (note_in entry) (first ++ before)
  so_at first [] [] entry after h e = absurd (cc)
  so_at first [] (b ∷ bs) entry after h e = absurd (cc)
  so_at first (x ∷ xs) [] entry after h e =
      let same : x ≡ entry = cc in
      subst (IsSoAfter (note_in entry)) (sym (append-nil first)) (subst (λ y. IsSoAfter (note_in y) first) same h.0)
  so_at first (x ∷ xs) (b ∷ bs) entry after h e =
      let same : x ≡ b = cc in
      let more : xs ≡ bs ++ entry ∷ after = cc in
      subst (IsSoAfter (note_in entry)) (append_assoc first (x ∷ []) bs ∙ ap (λ y. first ++ y ∷ bs) same) (so_at (first ++ x ∷ []) xs bs entry after h.1 more)

  follow : (journal : List (List ℕ)) → AreSoAlong [] journal → EachCompletion So journal
  follow journal h before entry after e n id noted is = so_at [] journal before entry after h e n id noted is

-- ---- ids

along_more : (next : ℕ) (ms : List Message) (o : Option Message) → past_new_along next (ms ++ read_before o []) ≡ option_and_then (λ mid. past_said mid o) (past_new_along next ms)
along_more next [] None = refl
along_more next [] (Some m) = by (past_new_ids next m)
  where
    by : (o : Option ℕ) → option_and_then (λ mid. Some mid) o ≡ o
    by None = refl
    by (Some mid) = refl
along_more next (x ∷ xs) o = by (past_new_ids next x) (λ n. along_more n xs o)
  where
    by : (z : Option ℕ) → ((n : ℕ) → past_new_along n (xs ++ read_before o []) ≡ option_and_then (λ mid. past_said mid o) (past_new_along n xs)) → option_and_then (λ mid. past_new_along mid (xs ++ read_before o [])) z ≡ option_and_then (λ mid. past_said mid o) (option_and_then (λ mid. past_new_along mid xs) z)
    by None go = refl
    by (Some n) go = go n

ids_more : (journal : List (List ℕ)) (x : List ℕ) (next next' : ℕ) → IsPastAll journal next → past_said next (said_at x) ≡ Some next' → IsPastAll (journal ++ x ∷ []) next'
ids_more journal x next next' past is =
    ap (past_new_along 0) (said_append journal (x ∷ [])) ∙ along_more 0 (said_in journal) (said_at x) ∙ ap (option_and_then (λ mid. past_said mid (said_at x))) past ∙ is

-- ---- what lasts

-- of an invocation, by its journal, what waits and what is next; its completions are of its own calls, sleeps and runs under this premise
record Answered (replays : Type 0) (journal : List (List ℕ)) (ws : List Waiting) (next : ℕ) : Type 0 where
  book : Book journal ws next
  asked : AreSoAlong IsAskedFor [] journal
  own : replays → AreSoAlong IsOfOwnCommand [] journal
  ids : IsPastAll journal next

same_answered : (replays : Type 0) (journal journal' : List (List ℕ)) (ws ws' : List Waiting) (next next' : ℕ) → journal' ≡ journal → ws' ≡ ws → next' ≡ next → Answered replays journal ws next → Answered replays journal' ws' next'
same_answered replays journal journal' ws ws' next next' e f g a =
    subst (λ j. Answered replays j ws' next') (sym e) (subst (λ l. Answered replays journal l next') (sym f) (subst (λ n. Answered replays journal ws n) (sym g) a))

under : (replays replays' : Type 0) (journal : List (List ℕ)) (ws : List Waiting) (next : ℕ) → (replays' → replays) → Answered replays journal ws next → Answered replays' journal ws next
under replays replays' journal ws next f a = record { book = a.book; asked = a.asked; own = λ r. a.own (f r); ids = a.ids }

-- a new journal is an input
first_answered : (replays : Type 0) (parameter : List ℕ) → IsWholeInput parameter → Answered replays (entry_of_input parameter ∷ []) [] 0
first_answered replays parameter whole =
    let first : List (List ℕ) = entry_of_input parameter ∷ [] in
    let waited : waited_in first ≡ [] = ap (λ o. waited_by o ++ []) (input_quiet parameter whole) in
    record {
      book = record {
        deliverable = record { new = input_unknown parameter whole; come = tt; once = tt };
        ever = subst (λ l. CanAllCome (kinds_in first) l 0) (sym waited) (record { new = λ id le. ((input_unknown parameter whole id le).0, refl); come = tt; once = tt });
        from = λ w id h f. absurd h;
        pending = λ w id h f. absurd (subst (IsOneOf w) waited h);
      };
      asked = (nothing_after IsAskedFor (note_in (entry_of_input parameter)) [] (input_note parameter whole), tt);
      own = λ r. (nothing_after IsOfOwnCommand (note_in (entry_of_input parameter)) [] (input_note parameter whole), tt);
      ids = ids_new parameter first refl whole;
    }

-- ---- what waited has come

module _ (journal : List (List ℕ)) (ws : List Waiting) (next at : ℕ) (w : Waiting) (b : Brought) (note : Notification) (entry : List ℕ) (lt : at < length ws) (there : w ≡ slice_index_or ws at w) (becomes : note_by w b ≡ Some note) (reads : note_in entry ≡ Some note) where
  came_asked : Book journal ws next → IsSoAfter IsAskedFor (note_in entry) journal
  came_asked book n id e is =
      let same : note ≡ n = some_same note n (sym reads ∙ e) in
      let so : CompletesBy w id n.result = completes_so w b n id (becomes ∙ ap (λ x. Some x) same) is in
      let (m, stored, waits) = waited_command journal w (book.from w id (among_at ws at w lt there) (waits_so w id n.result so)) in
      record { command = m; stored = stored; completes = delivered_kind m w id n.result waits so }

  came_own : Book journal ws next → IsSoAfter IsOfOwnCommand (note_in entry) journal
  came_own book n id e is =
      let same : note ≡ n = some_same note n (sym reads ∙ e) in
      let so : CompletesBy w id n.result = completes_so w b n id (becomes ∙ ap (λ x. Some x) same) is in
      let (m, stored, waits) = waited_command journal w (book.from w id (among_at ws at w lt there) (waits_so w id n.result so)) in
      record { command = m; stored = stored; completes = delivered_own m w id n.result waits so }

-- ---- an entry is stored

-- what an attempt proposes is a value or a failure
abbrev IsProposal : Option Notification → Type 0
IsProposal o = (n : Notification) → o ≡ Some n → BringsResult n.result

same_result : (r : ValueOrFailure) → completion_result r ≡ completing_result r
same_result (ends.Value value) = refl
same_result (ends.Failure failure) = refl

item_proposes : (version : Version) (w : Written) → IsItem version w → IsProposal (note_in (stored_as w))
item_proposes version (Command raw) item = subst IsProposal (sym (command_unread raw item.0 item.1)) (λ n e. absurd (none_some n e))
item_proposes version (Proposal p) item = subst IsProposal (sym (completion_read p item.0)) (λ n e. (p.result, ap (λ (x : Notification). x.result) (sym (some_same _ n e)) ∙ same_result p.result))

none_both : (b : Bool) → b ≡ true → b ≡ false → ⊥
none_both b t f = let x : true ≡ false = sym t ∙ f in cc

module _ (journal : List (List ℕ)) (ws : List Waiting) (next : ℕ) (entry : List ℕ) (book : Book journal ws next) (free : IsUnwaited (note_in entry) ws) (may : MayBeStored entry journal) (undone : IsUndone (note_in entry) journal) (proposes : IsProposal (note_in entry)) where
  proposed_asked : IsSoAfter IsAskedFor (note_in entry) journal
  proposed_asked n id e is =
      let unwaited : is_waited id ws ≡ false = subst (λ i. id_is_waited i ws ≡ false) is (subst (λ o. completes_waited o ws ≡ false) e free) in
      let carries : IsCarriedId (CompletionId id) (known_in journal) = subst (λ i. IsCarriedId i (known_in journal)) is (subst (λ o. IsCarriedNote o (known_in journal)) e may) in
      let new : completes_id id (notes_in journal) ≡ false = subst (λ i. IsUndoneId i journal) is (subst (λ o. IsUndone o journal) e undone) in
      let (c, among, own) = carrier id (said_in journal) carries in
      record {
        command = c;
        stored = among;
        completes = proposed_kind c id n.result own (proposes n e) (λ w waits f. none w f unwaited new (book.pending w id (command_waited journal c w among waits) f));
      }
    where
      none : (w : Waiting) → waits_for_id id w ≡ true → is_waited id ws ≡ false → completes_id id (notes_in journal) ≡ false → IsOneOf w ws ⊎ (completes_id id (notes_in journal) ≡ true) → ⊥
      none w f unwaited new (inl a) = none_both (is_waited id ws) (waited_among ws w id a f) unwaited
      none w f unwaited new (inr d) = none_both (completes_id id (notes_in journal)) d new

-- it is of a run
run_asked : (journal : List (List ℕ)) (entry : List ℕ) → IsOfRun (note_in entry) journal → IsProposal (note_in entry) → IsSoAfter IsOfOwnCommand (note_in entry) journal
run_asked journal entry run proposes n id e is =
    proposed_own journal id n.result (subst (λ i. IsOfRunId i journal) is (subst (λ o. IsOfRun o journal) e run)) (proposes n e)

-- whichever entry it is
stored_answered : (replays : Type 0) (journal : List (List ℕ)) (entry : List ℕ) (ws : List Waiting) (next : ℕ) (ws' : List Waiting) (next' : ℕ) → Entered entry ws next ws' next' → (said_at entry ≡ None → IsUnwaited (note_in entry) ws) → MayBeStored entry journal → IsUndone (note_in entry) journal → IsProposal (note_in entry) → (replays → IsOfRun (note_in entry) journal) → Answered replays journal ws next → Answered replays (journal ++ entry ∷ []) ws' next'
stored_answered replays journal entry ws next ws' next' h apart may undone proposes runs a = of (said_at entry) refl
  where
    of : (o : Option Message) → said_at entry ≡ o → Answered replays (journal ++ entry ∷ []) ws' next'
    of (Some m) said = record {
      book = book_command journal entry m ws next ws' next' said h a.book;
      asked = so_more IsAskedFor [] journal entry a.asked (nothing_after IsAskedFor (note_in entry) journal (said_note entry m said));
      own = λ r. so_more IsOfOwnCommand [] journal entry (a.own r) (nothing_after IsOfOwnCommand (note_in entry) journal (said_note entry m said));
      ids = ids_more journal entry next next' a.ids h.past;
    }
    of None said =
        let waits : ws' ≡ ws = h.waits ∙ ap (λ o. ws ++ waited_by o) (nothing_asked entry said) ∙ append-nil ws in
        let past : next' ≡ next = some_same next' next (sym h.past ∙ ap (past_said next) said) in
        same_answered replays (journal ++ entry ∷ []) (journal ++ entry ∷ []) ws ws' next next' refl waits past
        (record {
          book = book_proposal journal entry ws next said (apart said) may a.book;
          asked = so_more IsAskedFor [] journal entry a.asked (proposed_asked journal ws next entry a.book (apart said) may undone proposes);
          own = λ r. so_more IsOfOwnCommand [] journal entry (a.own r) (run_asked journal entry (runs r) proposes);
          ids = ids_more journal entry next next a.ids (ap (past_said next) said);
        })

-- ---- one invocation

-- of its rounds
abbrev AreAnswered : {H : Type 0} → MemberView H → Type 0
AreAnswered m = Answered (ReplaysAndQueues m.course.setting.options) m.course.journal m.waiting m.next

abbrev IsAnswered : {H : Type 0} → Invocation H → Type 0
IsAnswered {H} it = (m : MemberView H) → it.member ≡ Some m → AreAnswered m

abbrev StaysAnswered : {H : Type 0} → Invocation H → Invocation H → Type 0
StaysAnswered a b = IsAnswered a → IsAnswered b

-- its rounds change
rounds_answered : {H : Type 0} (it : Invocation H) (m m' : MemberView H) → it.member ≡ Some m → (AreAnswered m → AreAnswered m') → StaysAnswered it (record it { member = Some m' })
rounds_answered {H} it m m' was f all x is = subst AreAnswered (some_in (Some m') m' x refl is) (f (all m was))

-- their options stay
options_answered : {H : Type 0} (m m' : MemberView H) → m'.course.setting.options ≡ m.course.setting.options → Answered (ReplaysAndQueues m.course.setting.options) m'.course.journal m'.waiting m'.next → AreAnswered m'
options_answered m m' same a = under (ReplaysAndQueues m.course.setting.options) (ReplaysAndQueues m'.course.setting.options) m'.course.journal m'.waiting m'.next (subst ReplaysAndQueues same) a

happened_answered : {H : Type 0} (f : Meaning) (e : Event) (m m' : MemberView H) → HappensTo f e m.course.live m.course m'.course → Answered (ReplaysAndQueues m.course.setting.options) m'.course.journal m'.waiting m'.next → AreAnswered m'
happened_answered f e m m' h a = options_answered m m' (ap (λ (w : Setting). w.options) (happens_setting f e m.course.live m.course m'.course h)) a

came_answered : {H : Type 0} (m m' : MemberView H) (at : ℕ) (w : Waiting) (b : Brought) (f : Meaning) → slice_get m.waiting at ≡ Some w → Delivers at b f m m' → AreAnswered m → AreAnswered m'
came_answered {H} m m' at w b f got (inl c) a = subst AreAnswered (sym c.1) a
came_answered {H} m m' at w b f got (inr d) a =
    let lt : at < length m.waiting = get_within m.waiting at w got in
    let there : w ≡ slice_index_or m.waiting at w = sym (get_or_from_slice_get m.waiting at w w got) in
    let becomes : note_by w b ≡ Some d.note = sym (d.becomes w there) in
    happened_answered f (event.Arrive d.entry) m m' d.arrived
    (same_answered (ReplaysAndQueues m.course.setting.options) (m.course.journal ++ d.entry ∷ []) m'.course.journal (remove m.waiting at) m'.waiting m.next m'.next d.stored d.rest.0 d.rest.1
    (record {
      book = book_came m.course.journal d.entry m.waiting m.next at w b d.note lt there becomes d.reads a.book;
      asked = so_more IsAskedFor [] m.course.journal d.entry a.asked (came_asked m.course.journal m.waiting m.next at w b d.note d.entry lt there becomes d.reads a.book);
      own = λ r. so_more IsOfOwnCommand [] m.course.journal d.entry (a.own r) (came_own m.course.journal m.waiting m.next at w b d.note d.entry lt there becomes d.reads a.book);
      ids = ids_more m.course.journal d.entry m.next m.next a.ids (ap (past_said m.next) (note_said d.entry d.note d.reads));
    }))

entry_answered : {H : Type 0} (m m' : MemberView H) (asks : Option Effect) (f : Meaning) → StoresNextEntry f m m' asks → AreAnswered m → AreAnswered m'
entry_answered {H} m m' asks f d a = happened_answered f (event.Store 1) m m' d.course (of d.entry)
  where
    of : NoEntry m m' asks ⊎ StoresEntry m m' asks → Answered (ReplaysAndQueues m.course.setting.options) m'.course.journal m'.waiting m'.next
    of (inl n) = same_answered (ReplaysAndQueues m.course.setting.options) m.course.journal m'.course.journal m.waiting m'.waiting m.next m'.next n.stored n.stays.0 n.stays.1 a
    of (inr n) =
        let facts = stored_facts f m.course.live m.course m'.course n.entry d.course n.stored in
        let proposes : IsProposal (note_in n.entry) = store_so IsProposal item_proposes f m.course.live m.course m'.course n.entry d.course n.stored in
        same_answered (ReplaysAndQueues m.course.setting.options) (m.course.journal ++ n.entry ∷ []) m'.course.journal m'.waiting m'.waiting m'.next m'.next n.stored refl refl
        (stored_answered (ReplaysAndQueues m.course.setting.options) m.course.journal n.entry m.waiting m.next m'.waiting m'.next n.entered n.apart facts.0 facts.1 proposes (λ r. one_of_run m.course.journal m'.course.journal n.entry (d.runs r) n.stored) a)

kept_answered : {H : Type 0} (a b : Invocation H) → b.member ≡ a.member → StaysAnswered a b
kept_answered a b same all m is = all m (sym same ∙ is)

answered_stays : {H : Type 0} → Holds (StaysAnswered {H = H}) Any Always
answered_stays {H} = record {
  same = λ it all. all;
  next = λ a b c f g all. g (f all);
  goes = λ it m m' was journal waits ids options on. rounds_answered it m m' was (λ a. options_answered m m' options (same_answered (ReplaysAndQueues m.course.setting.options) m.course.journal m'.course.journal m.waiting m'.waiting m.next m'.next journal waits ids a));
  gets = λ it m s was. rounds_answered it m (with_signal s.signal s.brings m) was (λ a. record { book = book_signal m.course.journal m.waiting m.next s.signal s.brings a.book; asked = a.asked; own = a.own; ids = a.ids });
  comes = λ it m m' at w b f was going there may d. rounds_answered it m m' was (came_answered m m' at w b f there d);
  stores = λ it m m' asks f was going d. rounds_answered it m m' was (entry_answered m m' asks f d);
  ends = λ it r. kept_answered it (record it { ended = Some r }) refl;
  calls = λ a b is. kept_answered a b (ap (λ (z : Invocation H). z.member) is);
}

-- ---- all events

all_answered : {H : Type 0} (meaning : H → Meaning) (es : List Happening) (old new : Engine H) → AllHappen meaning es old new → AllHold StaysAnswered old new
all_answered meaning [] old new d = none_holds StaysAnswered Any Always answered_stays old new d
all_answered meaning (e ∷ es) old new (mid, first, more) = hold_then StaysAnswered Any Always answered_stays old mid new (event_holds StaysAnswered Any Always answered_stays meaning e old mid (any_may answered_stays old e) first) (all_answered meaning es mid new more)

new_answered : {H : Type 0} (m : MemberView H) → IsNew m → AreAnswered m
new_answered m n = same_answered (ReplaysAndQueues m.course.setting.options) (entry_of_input n.parameter ∷ []) m.course.journal [] m.waiting 0 m.next n.journal n.waiting n.next (first_answered (ReplaysAndQueues m.course.setting.options) n.parameter n.whole)

from_nothing : {H : Type 0} (meaning : H → Meaning) (es : List Happening) (old new : Engine H) → old.invocations.items ≡ [] → AllHappen meaning es old new → (by : ℕ) (it : Invocation H) (m : MemberView H) → slice_get new.invocations.items by ≡ Some it → it.member ≡ Some m → AreAnswered m
from_nothing {H} meaning es old new none d by it m was is =
    let made = (all_answered meaning es old new d).fresh by it (ap (λ l. slice_get l by) none) was in
    made.since (λ x has. new_answered x (made.began x has)) m is

pub completions_asked : {H : Type 0} (meaning : H → Meaning) (es : List Happening) (old new : Engine H) → old.invocations.items ≡ [] → AllHappen meaning es old new → CompletionsAreAskedFor new
completions_asked {H} meaning es old new none d by it m was is = follow IsAskedFor m.course.journal (from_nothing meaning es old new none d by it m was is).asked

-- attempts that replay and queue go on to
still_replays : {H : Type 0} (meaning : H → Meaning) (es : List Happening) (old new : Engine H) → old.invocations.items ≡ [] → ReplaysAndQueues old.options → AllHappen meaning es old new → (by : ℕ) (it : Invocation H) (m : MemberView H) → slice_get new.invocations.items by ≡ Some it → it.member ≡ Some m → ReplaysAndQueues m.course.setting.options
still_replays meaning es old new none r d by it m was is =
    one_replays new by it it.member m (get_within new.invocations.items by it was) (sym (get_or_from_slice_get new.invocations.items by it it was)) refl is (all_replay meaning es old new d (none_replays old old.options none refl r))

pub completions_own : {H : Type 0} (meaning : H → Meaning) (es : List Happening) (old new : Engine H) → old.invocations.items ≡ [] → ReplaysAndQueues old.options → AllHappen meaning es old new → CompletionsAreOwn new
completions_own {H} meaning es old new none r d by it m was is =
    follow IsOfOwnCommand m.course.journal ((from_nothing meaning es old new none d by it m was is).own (still_replays meaning es old new none r d by it m was is))

pub ids_rise : {H : Type 0} (meaning : H → Meaning) (es : List Happening) (old new : Engine H) → old.invocations.items ≡ [] → AllHappen meaning es old new → IdsRise new
ids_rise {H} meaning es old new none d by it m was is = (from_nothing meaning es old new none d by it m was is).ids
