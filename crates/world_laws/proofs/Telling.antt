-- Each completion of a run that rounds store comes from an event that reported the run's outcome; and each value that an answer brings came.
use Rattle.std.proofs.Common.{◌≡◌, ◌⊎◌, inl, inr, ⊎_elim, ℕ, zero, suc, Bool, true, false, List, [], ◌∷◌, ◌++◌, map, take, Option, Some, None, Result, Ok, Err, refl, sym, ap, ◌∙◌, subst, append_assoc, append-nil}
use Rattle.std.specs.List.{AllByRecursion, concat}
use Rattle.journal_protocol.specs.Error.{Error}
use Rattle.journal_protocol.specs.Frames.{encoding}
use Rattle.journal_protocol.specs.Message.TheVariants as message
use Rattle.journal_protocol.specs.Notification.{Notification}
use Rattle.journal_protocol.specs.ProposeRunCompletion.{ProposeRunCompletion}
use Rattle.journal_protocol.specs.RawMessage.{RawMessage}
use Rattle.journal_protocol.specs.Version.{Version}
use Rattle.journal_protocol.specs.Version.TheVariants.{V7}
use Rattle.await_trees.specs.declared.handle.NotificationHandle.{NotificationHandle}
use Rattle.journal_entries.specs.Entries.{journal_entries, note_in, notes_in}
use Rattle.journal_entries.specs.Frames.{Tail, frames_of}
use Rattle.journal_entries.specs.Journal.{commands_in, notifications_in}
use Rattle.journal_entries.specs.JournalFrames.{notified_by}
use Rattle.journal_entries.specs.Storing.{Stores, stored_as, written_among}
use Rattle.journal_entries.proofs.Framing.{front_grows, in_front, notes_append}
use Rattle.vm_retries.specs.declared.policy.RetryPolicy.{RetryPolicy}
use Rattle.vm_types.specs.declared.runs.RunExitResult.{RunExitResult}
use Rattle.invocation_vm.specs.Making.{made}
use Rattle.vm_model.specs.Calls.{Meaning, Setup}
use Rattle.vm_model.specs.Histories.{Handed, after_head}
use Rattle.vm_model.specs.HonestRounds.{Attempted, IsToldOn}
use Rattle.vm_model.specs.Moves.{start as first_point}
use Rattle.vm_model.proofs.Runs.{made_after}
use Rattle.world_laws.specs.Values.{ValueCame}
use Rattle.world_laws.proofs.Bringing.{run_brings}
use Rattle.vm_attempt.specs.Heard.{Heard, proposals_among, proposals_in}
use Rattle.vm_attempt.specs.Record.{Record, bytes_written}
use Rattle.vm_attempt.specs.Stepping.{CompletesRun, FinishDoes, fresh_record, newly_proposed, noted_at}
use Rattle.vm_attempt.proofs.Quiet.{proposals_append}
use Rattle.vm_attempt.proofs.Under.{close_fed, step_fed}
use Rattle.world_laws.proofs.Proposing.{Becomes, each, grown, reported}
use Rattle.world_rounds.specs.declared.types.Event.{Event}
use Rattle.world_rounds.specs.declared.types.Event.TheVariants as event
use Rattle.world_rounds.specs.declared.types.Round.{Round}
use Rattle.world_rounds.specs.declared.types.Setting.{Setting}
use Rattle.world_rounds.specs.Courses.{attempt_of}
use Rattle.world_rounds.specs.Families.{AreAlikeTo, Played, PlayedDo}
use Rattle.world_rounds.specs.Origins.{IsAmong}
use Rattle.world_rounds.specs.Rounds.{ArrivalsDo, Happen, Happens, Now, Pieces, ReportView, RoundDoes, StepHappens, StepsHappen, begin}
use Rattle.world_rounds.specs.Sound.{IsSoundFor}
use Rattle.world_rounds.specs.Worlds.{IsJournal, setup_of, start_for}
use Rattle.world_rounds.proofs.Going.{fed}
use Rattle.world_rounds.proofs.Keeping.{Going, event_keeps}
use Rattle.world_rounds.proofs.Rounding.{begun}
use Rattle.world_rounds.proofs.Settled.{are_items, completion, items_enter, proposals_are}
use Rattle.world_laws.specs.PlayedRounds.{EachIsHonest}
use Rattle.world_laws.specs.Reported.{BringsWhatCame, CameBy, CameInOne, CameInRound, CompletesTold, EachBringsWhatCame, ResultsWereTold, WasTold}
use Rattle.world_laws.proofs.OneByOne.{each_honest, journal_after}

-- ---- lists

all_behind : {A : Type 0} (P : A → Type 0) (xs ys : List A) → AllByRecursion P (xs ++ ys) → AllByRecursion P ys
all_behind P [] ys h = h
all_behind P (x ∷ xs) ys h = all_behind P xs ys h.1

all_front : {A : Type 0} (P : A → Type 0) (xs ys : List A) → AllByRecursion P (xs ++ ys) → AllByRecursion P xs
all_front P [] ys h = tt
all_front P (x ∷ xs) ys h = (h.0, all_front P xs ys h.1)

all_images : {A B : Type 0} (f : A → B) (P : A → Type 0) (Q : B → Type 0) → ((x : A) → P x → Q (f x)) → (xs : List A) → AllByRecursion P xs → AllByRecursion Q (map f xs)
all_images f P Q g [] h = tt
all_images f P Q g (x ∷ xs) h = (g x h.0, all_images f P Q g xs h.1)

among_front : {A : Type 0} (x : A) (xs ys : List A) → IsAmong x xs → IsAmong x (xs ++ ys)
among_front x xs ys (b, a, is) = (b, a ++ ys, ap (λ l. l ++ ys) is ∙ append_assoc b (x ∷ a) ys)

among_behind : {A : Type 0} (x : A) (xs ys : List A) → IsAmong x ys → IsAmong x (xs ++ ys)
among_behind x xs ys (b, a, is) = (xs ++ b, a, ap (λ l. xs ++ l) is ∙ sym (append_assoc xs b (x ∷ a)))

-- ---- one event more

happen_on : (m : Meaning) (fs : List Event) (e : Event) (first now mid : Now) → Happen m fs first now → Happens m e now mid → Happen m (fs ++ e ∷ []) first mid
happen_on m [] e first now mid is happens = (mid, subst (λ (x : Now). Happens m e x mid) is happens, refl)
happen_on m (f ∷ fs) e first now mid (next, one, more) happens = (next, one, happen_on m fs e next now mid more happens)

module _ (m : Meaning) (first : Now) where
  -- a report is one of more events
  told_later : (fs gs : List Event) (p : ProposeRunCompletion) → WasTold m fs first p → WasTold m (fs ++ gs) first p
  told_later fs gs p x = record {
    before = x.before;
    handle = x.handle;
    exit = x.exit;
    policy = x.policy;
    behind = x.behind ++ gs;
    split = ap (λ l. l ++ gs) x.split ∙ append_assoc x.before (event.RunResult x.handle x.exit x.policy ∷ x.behind) gs;
    now = x.now;
    happen = x.happen;
    run = x.run;
    pending = x.pending;
    id = x.id;
    becomes = x.becomes;
  }

  -- what came by some events, or completes a run whose outcome they reported
  abbrev CameSo : List Event → Notification → Type 0
  CameSo fs n = CameBy fs n ⊎ CompletesTold m fs first n

  came_later : (fs gs : List Event) (n : Notification) → CameSo fs n → CameSo (fs ++ gs) n
  came_later fs gs n (inl (x, among, is)) = inl (x, among_front (event.Arrive x) fs gs among, is)
  came_later fs gs n (inr (p, told, is)) = inr (p, told_later fs gs p told, is)

  -- The results that the attempt has proposed were reported; and so are the completions among the entries that were added, or they arrived.
  record IsTold (old : List (List ℕ)) (fs : List Event) (now : Now) : Type 0 where
    told : AllByRecursion (WasTold m fs first) now.attempt.proposed
    added : List (List ℕ)
    extends : now.journal ≡ old ++ added
    notes : AllByRecursion (CameSo fs) (notes_in added)

  module _ (old : List (List ℕ)) (fs : List Event) (e : Event) (now mid : Now) (happened : Happen m fs first now) (t : IsTold old fs now) where
    abbrev more : List Event
    more = fs ++ e ∷ []

    told_more : AllByRecursion (WasTold m more first) now.attempt.proposed
    told_more = each (WasTold m fs first) (WasTold m more first) (told_later fs (e ∷ [])) now.attempt.proposed t.told

    notes_more : AllByRecursion (CameSo more) (notes_in t.added)
    notes_more = each (CameSo fs) (CameSo more) (came_later fs (e ∷ [])) (notes_in t.added) t.notes

    -- nothing was proposed or stored
    stays_told : mid.attempt.proposed ≡ now.attempt.proposed → mid.journal ≡ now.journal → IsTold old more mid
    stays_told proposed journal = record {
      told = subst (AllByRecursion (WasTold m more first)) (sym proposed) told_more;
      added = t.added;
      extends = journal ∙ t.extends;
      notes = notes_more;
    }

    -- more was proposed, and nothing was stored
    proposes_told : (ps : List ProposeRunCompletion) → mid.attempt.proposed ≡ now.attempt.proposed ++ ps → mid.journal ≡ now.journal → AllByRecursion (WasTold m more first) ps → IsTold old more mid
    proposes_told ps proposed journal all = record {
      told = subst (AllByRecursion (WasTold m more first)) (sym proposed) (grown (WasTold m fs first) (WasTold m more first) (told_later fs (e ∷ [])) now.attempt.proposed ps t.told all);
      added = t.added;
      extends = journal ∙ t.extends;
      notes = notes_more;
    }

    -- entries were stored, and nothing was proposed
    stores_told : (xs : List (List ℕ)) → mid.attempt.proposed ≡ now.attempt.proposed → mid.journal ≡ now.journal ++ xs → AllByRecursion (CameSo more) (notes_in xs) → IsTold old more mid
    stores_told xs proposed journal all = record {
      told = subst (AllByRecursion (WasTold m more first)) (sym proposed) told_more;
      added = t.added ++ xs;
      extends = journal ∙ ap (λ l. l ++ xs) t.extends ∙ append_assoc old t.added xs;
      notes = subst (AllByRecursion (CameSo more)) (sym (notes_append t.added xs)) (grown (CameSo fs) (CameSo more) (came_later fs (e ∷ [])) (notes_in t.added) (notes_in xs) t.notes all);
    }

  -- ---- a run's result is reported

  noted_proposed : (f : Option Error) (handle : NotificationHandle) (r : Record) → (noted_at f handle r).proposed ≡ r.proposed
  noted_proposed (Some e) handle r = refl
  noted_proposed None handle r = refl

  module _ (old : List (List ℕ)) (fs : List Event) (handle : NotificationHandle) (exit : RunExitResult) (policy : RetryPolicy) (now mid : Now) (happened : Happen m fs first now) (t : IsTold old fs now) (journal : mid.journal ≡ now.journal) where
    abbrev it : Event
    it = event.RunResult handle exit policy

    newly : (p : ProposeRunCompletion) → Becomes handle exit policy now.attempt.vm.machine p → WasTold m (fs ++ it ∷ []) first p
    newly p x = record {
      before = fs;
      handle = handle;
      exit = exit;
      policy = policy;
      behind = [];
      split = refl;
      now = now;
      happen = happened;
      run = x.run;
      pending = x.pending;
      id = x.id;
      becomes = x.becomes;
    }

    completes_told : (result : Result Unit Error) → CompletesRun handle exit policy now.attempt result mid.attempt → IsTold old (fs ++ it ∷ []) mid
    completes_told (Err e) (w, does, is) = stays_told old fs it now mid happened t (ap (λ (r : Record). r.proposed) is ∙ noted_proposed now.attempt.vm.machine.failure handle now.attempt) journal
    completes_told (Ok u) (w, does, is) =
        let ps = newly_proposed now.attempt.vm.machine w.machine in
        proposes_told old fs it now mid happened t ps (ap (λ (r : Record). r.proposed) is) journal
        (each (Becomes handle exit policy now.attempt.vm.machine) (WasTold m (fs ++ it ∷ []) first) newly ps (reported handle exit policy now.attempt.vm.machine u w.machine does.0))

    finish_told : (b : Bool) (result : Result Unit Error) → FinishDoes b handle exit policy now.attempt result mid.attempt → IsTold old (fs ++ it ∷ []) mid
    finish_told true result d = stays_told old fs it now mid happened t (ap (λ (r : Record). r.proposed) d.1) journal
    finish_told false result d = completes_told result d

  -- ---- something is stored

  arrived_so : (fs : List Event) (x : List ℕ) (o : Option Notification) → note_in x ≡ o → AllByRecursion (CameSo (fs ++ event.Arrive x ∷ [])) (notified_by o [])
  arrived_so fs x None is = tt
  arrived_so fs x (Some n) is = (inl (x, among_behind (event.Arrive x) fs (event.Arrive x ∷ []) ([], [], refl), is), tt)

  -- the completions that a store adds were proposed, and so reported
  stored_so : (start : List ℕ) (old : List (List ℕ)) (fs : List Event) (n : ℕ) (now : Now) (journal : List (List ℕ)) (waiting unstored : List ℕ) → Going now.version start old now → now.attempt.proposed ≡ proposals_in (bytes_written now.attempt) → IsTold old fs now
      → (s : Stores now.version n (now.unstored ++ concat now.attempt.vm.machine.output) now.journal now.waiting journal waiting unstored) → AllByRecursion (CameSo (fs ++ event.Store n ∷ [])) (notes_in (map stored_as (written_among s.seen)))
  stored_so start old fs n now journal waiting unstored g proposed t s =
      let bytes = concat now.attempt.vm.machine.output in
      let left = (frames_of unstored).0 in
      let more = fs ++ event.Store n ∷ [] in
      let frames : (frames_of (now.output ++ bytes)).0 ≡ g.scanned ++ (s.seen ++ left) =
      ap (λ (p : List RawMessage × Tail). p.0) (front_grows now.output now.unstored bytes g.scanned g.output_frames ∙ ap (in_front g.scanned) s.frames) in
      let all : now.attempt.proposed ≡ proposals_among g.scanned ++ (proposals_among s.seen ++ proposals_among left) =
      proposed ∙ ap (λ b. proposals_in (b ++ bytes)) g.output_is ∙ ap proposals_among frames ∙ proposals_append g.scanned (s.seen ++ left) ∙ ap (λ l. proposals_among g.scanned ++ l) (proposals_append s.seen left) in
      let seen : AllByRecursion (WasTold m fs first) (proposals_among s.seen) =
      all_front (WasTold m fs first) (proposals_among s.seen) (proposals_among left) (all_behind (WasTold m fs first) (proposals_among g.scanned) (proposals_among s.seen ++ proposals_among left) (subst (AllByRecursion (WasTold m fs first)) all t.told)) in
      let W = written_among s.seen in
      let notes : notes_in (map stored_as W) ≡ map completion (proposals_among s.seen) = (items_enter now.version W (are_items now.version s.seen s.readable)).1 ∙ ap (map completion) (proposals_are s.seen) in
      subst (AllByRecursion (CameSo more)) (sym notes) (all_images completion (WasTold m fs first) (CameSo more) (λ p told. inr (p, told_later fs (event.Store n ∷ []) p told, refl)) (proposals_among s.seen) seen)

  -- ---- one event after another

  step_proposed : (now mid : Now) → StepHappens m now mid → (mid.attempt.proposed ≡ now.attempt.proposed) × (mid.journal ≡ now.journal)
  step_proposed now mid (result, r, d, is) = (ap (λ (x : Now). x.attempt.proposed) is ∙ ap (λ (h : Heard). h.proposed) (step_fed V7 m now.attempt result r d), ap (λ (x : Now). x.journal) is)

  steps_proposed : (n : ℕ) (now mid : Now) → StepsHappen m n now mid → (mid.attempt.proposed ≡ now.attempt.proposed) × (mid.journal ≡ now.journal)
  steps_proposed zero now mid is = (ap (λ (x : Now). x.attempt.proposed) is, ap (λ (x : Now). x.journal) is)
  steps_proposed (suc n) now mid (next, d, more) =
      let a = step_proposed now next d in
      let b = steps_proposed n next mid more in
      (b.0 ∙ a.0, b.1 ∙ a.1)

  pieces_proposed : (closed : Bool) (n : ℕ) (now mid : Now) → Pieces closed n now mid → (mid.attempt.proposed ≡ now.attempt.proposed) × (mid.journal ≡ now.journal)
  pieces_proposed true n now mid is = (ap (λ (x : Now). x.attempt.proposed) is, ap (λ (x : Now). x.journal) is)
  pieces_proposed false n now mid (result, r, d, is) = (ap (λ (x : Now). x.attempt.proposed) is ∙ (fed (take n now.waiting) now.attempt result r d).2, ap (λ (x : Now). x.journal) is)

  event_told : (start : List ℕ) (old : List (List ℕ)) (fs : List Event) (e : Event) (now mid : Now) → Happen m fs first now → Going now.version start old now → Happens m e now mid → IsTold old fs now → IsTold old (fs ++ e ∷ []) mid
  event_told st old fs (event.Piece n) now mid happened g d t = let x = pieces_proposed now.closed n now mid d in stays_told old fs (event.Piece n) now mid happened t x.0 x.1
  event_told st old fs event.Close now mid happened g (result, r, d, is) t = stays_told old fs event.Close now mid happened t (ap (λ (x : Now). x.attempt.proposed) is ∙ ap (λ (h : Heard). h.proposed) (close_fed V7 now.attempt result r d)) (ap (λ (x : Now). x.journal) is)
  event_told st old fs event.Step now mid happened g d t = let x = step_proposed now mid d in stays_told old fs event.Step now mid happened t x.0 x.1
  event_told st old fs (event.Steps n) now mid happened g d t = let x = steps_proposed n now mid d in stays_told old fs (event.Steps n) now mid happened t x.0 x.1
  event_told st old fs (event.RunResult handle exit policy) now mid happened g (result, r, d, is) t =
      finish_told old fs handle exit policy now mid happened t (ap (λ (x : Now). x.journal) is) now.attempt.starved result
      (subst (FinishDoes now.attempt.starved handle exit policy now.attempt result) (ap (λ (x : Now). x.attempt) (sym is)) d)
  event_told st old fs (event.Arrive x) now mid happened g (none, is) t =
      stores_told old fs (event.Arrive x) now mid happened t (x ∷ []) (ap (λ (z : Now). z.attempt.proposed) is) (ap (λ (z : Now). z.journal) is) (arrived_so fs x (note_in x) refl)
  event_told st old fs (event.Store n) now mid happened g (journal, waiting, unstored, s, is, whole, proposed) t =
      stores_told old fs (event.Store n) now mid happened t (map stored_as (written_among s.seen)) (ap (λ (z : Now). z.attempt.proposed) is) (ap (λ (z : Now). z.journal) is ∙ s.stored) (stored_so st old fs n now journal waiting unstored g proposed t s)

  events_told : (version : Version) (start : List ℕ) (old : List (List ℕ)) (fs es : List Event) (now end : Now) → Happen m fs first now → Going version start old now → Happen m es now end → IsTold old fs now → IsTold old (fs ++ es) end
  events_told version start old fs [] now end happened g is t = subst (λ (z : List Event × Now). IsTold old z.0 z.1) (λ i. (sym (append-nil fs) i, sym is i)) t
  events_told version start old fs (e ∷ es) now end happened g (mid, d, more) t =
      subst (λ (l : List Event). IsTold old l end) (append_assoc fs (e ∷ []) es)
      (events_told version start old (fs ++ e ∷ []) es mid end (happen_on m fs e first now mid happened d) (event_keeps m version start old e now mid d g) more
      (event_told start old fs e now mid happened (subst (λ v. Going v start old now) (sym g.made_for) g) d t))

-- ---- rounds

-- entries that came, and where their notifications come from
record Added (P : Notification → Type 0) (old new : List (List ℕ)) : Type 0 where
  added : List (List ℕ)
  extends : new ≡ old ++ added
  notes : AllByRecursion P (notes_in added)

came_behind : (e : Event) (es : List Event) (n : Notification) → CameBy es n → CameBy (e ∷ es) n
came_behind e es n (x, among, is) = (x, among_behind (event.Arrive x) (e ∷ []) es among, is)

passed : (e : Event) (es : List Event) (old new : List (List ℕ)) → Added (CameBy es) old new → Added (CameBy (e ∷ es)) old new
passed e es old new a = record { added = a.added; extends = a.extends; notes = each (CameBy es) (CameBy (e ∷ es)) (came_behind e es) (notes_in a.added) a.notes }

one_came : (x : List ℕ) (es : List Event) (o : Option Notification) → note_in x ≡ o → (ns : List Notification) → AllByRecursion (CameBy (event.Arrive x ∷ es)) ns → AllByRecursion (CameBy (event.Arrive x ∷ es)) (notified_by o ns)
one_came x es None is ns h = h
one_came x es (Some n) is ns h = ((x, ([], es, refl), is), h)

-- a round whose attempt was refused
arrivals_came : (es : List Event) (old new : List (List ℕ)) → ArrivalsDo es old new → Added (CameBy es) old new
arrivals_came [] old new d = record { added = []; extends = d ∙ sym (append-nil old); notes = tt }
arrivals_came (event.Arrive x ∷ es) old new d =
    let a = passed (event.Arrive x) es (old ++ x ∷ []) new (arrivals_came es (old ++ x ∷ []) new d.1) in
    record { added = x ∷ a.added; extends = a.extends ∙ append_assoc old (x ∷ []) a.added; notes = one_came x es (note_in x) refl (notes_in a.added) a.notes }
arrivals_came (event.Piece n ∷ es) old new d = passed (event.Piece n) es old new (arrivals_came es old new d)
arrivals_came (event.Close ∷ es) old new d = passed event.Close es old new (arrivals_came es old new d)
arrivals_came (event.Step ∷ es) old new d = passed event.Step es old new (arrivals_came es old new d)
arrivals_came (event.Steps n ∷ es) old new d = passed (event.Steps n) es old new (arrivals_came es old new d)
arrivals_came (event.RunResult handle exit policy ∷ es) old new d = passed (event.RunResult handle exit policy) es old new (arrivals_came es old new d)
arrivals_came (event.Store n ∷ es) old new d = passed (event.Store n) es old new (arrivals_came es old new d)

round_told : (m : Meaning) (w : Setting) (round : Round) (old : List (List ℕ)) (report : ReportView) (new : List (List ℕ)) → IsJournal old → (one : RoundDoes m w round old report new) → Added (CameInRound m w round old report new one) old new
round_told m w round old report new j (inl d) =
    let bytes = encoding (message.Start (start_for w round old)) in
    let first = begin d.alloc w round old in
    let t = events_told m first w.version bytes old [] round.events first d.ran.now refl (begun w.version bytes old (fresh_record (made d.alloc w.options w.version)) j refl refl refl refl) d.ran.happen
    (record { told = tt; added = []; extends = sym (append-nil old); notes = tt }) in
    record { added = t.added; extends = d.ran.left ∙ t.extends; notes = t.notes }
round_told m w round old report new j (inr d) = arrivals_came round.events old new d.arrivals

pub results_told : (w : Setting) (played : List Played) (old : List (List ℕ)) (reports : List ReportView) (new : List (List ℕ)) → IsJournal old → (d : PlayedDo w played old reports new) → ResultsWereTold w played old reports new d
results_told w [] old reports new j d = record { added = []; extends = d.1 ∙ sym (append-nil old); notes = tt }
results_told w (p ∷ ps) old reports new j (mid, report, more, is, one, others) =
    let a = round_told p.handler w p.round old report mid j one in
    let b = results_told w ps mid more new (journal_after w p old report mid j one) others in
    let Here : Notification → Type 0 = CameInRound p.handler w p.round old report mid one in
    let Later : Notification → Type 0 = CameInOne w ps mid more new others in
    let Either : Notification → Type 0 = λ n. Here n ⊎ Later n in
    record {
      added = a.added ++ b.added;
      extends = b.extends ∙ ap (λ l. l ++ b.added) a.extends ∙ append_assoc old a.added b.added;
      notes = subst (AllByRecursion Either) (sym (notes_append a.added b.added)) (grown Here Either (λ n h. inl h) (notes_in a.added) (notes_in b.added) a.notes (each Later Either (λ n h. inr h) (notes_in b.added) b.notes));
    }

-- ---- values

brings_so : (s : Setup) (m : Meaning) (journal : List (List ℕ)) (a : Attempted) → IsToldOn s m (journal_entries journal) a → BringsWhatCame journal a
brings_so s m journal a t =
    let ns = notifications_in (journal_entries journal) ++ notifications_in a.course in
    let cs = commands_in a.course in
    let all = run_brings s m t.moves t.input ns (t.rest ++ cs) t.at (made_after s m (Handed a.given) t.moves (first_point s t.input ns t.rest) cs t.at t.made) in
    let here : AllByRecursion (ValueCame ns (after_head (commands_in (journal_entries journal)) ++ cs)) t.at.answers = subst (λ (l : List RawMessage). AllByRecursion (ValueCame ns (l ++ cs)) t.at.answers) (sym (ap after_head t.begins)) all in
    ⊎_elim
    (λ (none : a.answers ≡ []). subst (AllByRecursion (ValueCame ns (after_head (commands_in (journal_entries journal)) ++ cs))) (sym none) tt)
    (λ (is : a.answers ≡ t.at.answers). subst (AllByRecursion (ValueCame ns (after_head (commands_in (journal_entries journal)) ++ cs))) (sym is) here)
    t.answered

honest_brings : (w : Setting) (played : List Played) (old : List (List ℕ)) (reports : List ReportView) (new : List (List ℕ)) (d : PlayedDo w played old reports new) → EachIsHonest w played old reports new d → EachBringsWhatCame w played old reports new d
honest_brings w [] old reports new d h = tt
honest_brings w (p ∷ ps) old reports new (mid, report, more, is, one, others) h = (
  brings_so (setup_of w) p.handler old (attempt_of p.handler w p.round old report mid one) h.0.2,
  honest_brings w ps mid more new others h.1,
)

pub each_brings : (w : Setting) (m : Meaning) (played : List Played) (old new : List (List ℕ)) (reports : List ReportView) → AreAlikeTo w m played → IsJournal old → IsSoundFor m w old → (d : PlayedDo w played old reports new) → EachBringsWhatCame w played old reports new d
each_brings w m played old new reports are j h d = honest_brings w played old reports new d (each_honest w m played old new reports are j h d)
