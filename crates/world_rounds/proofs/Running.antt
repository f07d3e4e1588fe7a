-- A round's attempt runs as its journal tells: at no point of its run has a completion two results.
use Rattle.std.proofs.Common.{◌≡◌, ◌≤◌, ⊎_elim, ℕ, Bool, true, false, List, [], ◌∷◌, ◌++◌, length, take, drop, length-append, Option, Some, Ok, refl, sym, ap, ◌∙◌, subst, arith, append_assoc}
use Rattle.std.proofs.lemmas.Option.{same_Some}
use Rattle.std.specs.List.{concat}
use Rattle.await_arrivals.specs.Results.{results_of}
use Rattle.await_arrivals.proofs.Awaited.{results-append}
use Rattle.journal_protocol.specs.InputCommand.{InputCommand}
use Rattle.journal_protocol.specs.Start.{Start}
use Rattle.journal_protocol.specs.RawMessage.{RawMessage}
use Rattle.journal_protocol.specs.Bodies.{start_in}
use Rattle.journal_protocol.specs.Notification.{Notification}
use Rattle.journal_protocol.specs.NotificationId.TheVariants.{CompletionId}
use Rattle.journal_protocol.specs.NotificationResult.{NotificationResult}
use Rattle.journal_entries.specs.Frames.{Tail, frames_of}
use Rattle.vm_state.specs.declared.state_map.StateMap.{StateMap}
use Rattle.vm_state.specs.Entries.{entries_of as state_entries}
use Rattle.vm_machine.specs.Inputs.{coverage_of}
use Rattle.vm_model.specs.Calls.{Meaning, Setup}
use Rattle.vm_model.specs.Carried.{AreCarried, ComeOnce}
use Rattle.vm_model.specs.Deliveries.{HasNoTwo}
use Rattle.vm_model.specs.Histories.{Handed, History, IsPrefix, Made, after_head}
use Rattle.journal_entries.specs.Journal.{Entry, input_read_from, notifications_in}
use Rattle.vm_model.specs.Moves.{Point, later, start as first_point}
use Rattle.vm_model.proofs.Once.{run_once, still_carried}
use Rattle.vm_model.proofs.Runs.{after_later}
use Rattle.journal_entries.specs.JournalFrames.{commands_among}
use Rattle.vm_attempt.specs.Journals.{setup_for}
use Rattle.vm_attempt.specs.Told.{BeforeInput, HasCome, IsKept, Journal, NoneHasTwo, HandlerRuns, Wrote, arrivals, begun, start_state}
use Rattle.vm_attempt.specs.Arrivals.{arriving}
use Rattle.vm_attempt.specs.Heard.{acknowledged_from}
use Rattle.vm_attempt.specs.Record.{heard}
use Rattle.vm_attempt.proofs.Advanced.{step_keeps}
use Rattle.vm_attempt.proofs.Coming.{close_comes, feed_comes, step_comes, take_comes}
use Rattle.vm_attempt.proofs.Finishing.{finish_comes, finish_keeps}
use Rattle.vm_attempt.proofs.Kept.{close_keeps, feed_keeps, take_keeps}
use Rattle.vm_attempt.proofs.Lasting.{runs_last}
use Rattle.vm_attempt.proofs.Pieces.{commands_append}
use Rattle.vm_attempt.proofs.Proposed.{arriving_append, arriving_notified, kept_all}
use Rattle.vm_attempt.proofs.Replayed.{commands_same, head_same, notes_same, tail_same}
use Rattle.vm_attempt.proofs.Written.{taken_first}
use Rattle.world_rounds.specs.declared.types.Event.{Event}
use Rattle.world_rounds.specs.declared.types.Event.TheVariants as event
use Rattle.world_rounds.specs.declared.types.Setting.{Setting}
use Rattle.world_rounds.specs.Courses.{delivered, start_handed}
use Rattle.journal_entries.specs.Entries.{journal_entries, journal_frames, notes_in}
use Rattle.world_rounds.specs.Rounds.{Happen, Happens, Now, Pieces, ReplaysAndQueues, StepHappens, StepsHappen}
use Rattle.world_rounds.specs.Worlds.{IsJournal, fixed_in}
use Rattle.world_rounds.proofs.Completing.{carried_behind}
use Rattle.world_rounds.proofs.Coursing.{delivered_arrived, fed_frames, new_behind}
use Rattle.journal_entries.proofs.Framing.{AreFrames, frames_append, journal_acknowledges, journal_length, notes_append, notes_are, same_front}
use Rattle.world_rounds.proofs.Handing.{entries_found}
use Rattle.world_rounds.proofs.Keeping.{Going, event_keeps}
use Rattle.world_rounds.proofs.Once.{come_once}
use Rattle.world_rounds.proofs.Repeating.{steps_keep}

-- ---- a beginning of notifications

front_nothing : {A : Type 0} (xs ys : List A) → xs ++ ys ≡ [] → xs ≡ []
front_nothing [] ys e = refl
front_nothing (x ∷ xs) ys e = absurd (cc)

once_front : (xs ys : List Notification) → ComeOnce (xs ++ ys) → ComeOnce xs
once_front xs ys once id =
    let all = subst (λ (l : List NotificationResult). length l ≤ 1) (results-append (CompletionId id) xs ys) (once id) in
    let long = length-append (results_of (CompletionId id) xs) (results_of (CompletionId id) ys) in
    omega (arith, all, long)

carried_front : (xs ys : List Notification) (cs : List RawMessage) → AreCarried (xs ++ ys) cs → AreCarried xs cs
carried_front xs ys cs h id none = front_nothing (results_of (CompletionId id) xs) (results_of (CompletionId id) ys) (sym (results-append (CompletionId id) xs ys) ∙ h id none)

-- ---- an attempt over a journal that is a history

module _ (m : Meaning) (w : Setting) (begin_bytes : List ℕ) (raw : RawMessage) (st : Start) (old : List (List ℕ)) (j : IsJournal old) (framed : AreFrames begin_bytes (raw ∷ [])) (found : start_in raw.body ≡ Some st) (known : st.known_entries ≡ length old) (s : Setup) (same_setup : setup_for (fixed_in m w) st ≡ s) (base : StateMap) (past : History s m base (journal_entries old)) (r : ReplaysAndQueues w.options) where
  abbrev E : List Entry
  E = journal_entries old

  abbrev given : StateMap
  given = start_handed st

  -- all that came to the attempt
  abbrev pub came : Now → List Notification
  came now = notifications_in E ++ delivered w.version old now.attempt

  -- the first point of its run
  abbrev pub from : Now → Point
  from now = first_point s past.input (came now) past.rest

  -- ---- what was fed is the world's journal

  record IsWorlds (now : Now) (J : Journal (heard w.version now.attempt)) : Type 0 where
    start : J.start ≡ st
    state : J.state ≡ state_entries st.state
    input : J.input ≡ past.input
    notes : arrivals J ≡ came now
    rest : J.rest ≡ past.rest

  is_worlds : (now : Now) → Going w.version begin_bytes old now → (J : Journal (heard w.version now.attempt)) → IsWorlds now J
  is_worlds now g J =
      let F = fed_frames m w.version begin_bytes raw old j framed now g in
      let G = F.0 in
      let P = acknowledged_from w.version now.attempt.proposed in
      let same : raw ∷ (journal_frames old ++ g.came) ≡ J.first_frame ∷ ((J.entries ++ J.others) ++ G) = F.1 ∙ ap (λ l. l ++ G) J.frames in
      let head : raw ≡ J.first_frame = head_same raw J.first_frame (journal_frames old ++ g.came) ((J.entries ++ J.others) ++ G) same in
      let tail : journal_frames old ++ g.came ≡ J.entries ++ (J.others ++ G) = tail_same raw J.first_frame (journal_frames old ++ g.came) ((J.entries ++ J.others) ++ G) same ∙ append_assoc J.entries J.others G in
      let is_st : J.start ≡ st = same_Some J.start st (sym J.reads_start ∙ ap (λ (x : RawMessage). start_in x.body) (sym head) ∙ found) in
      let count : length (journal_frames old) ≡ length J.entries = journal_length old j.entries ∙ sym (J.count ∙ ap (λ (x : Start). x.known_entries) is_st ∙ known) in
      let entries : journal_frames old ≡ J.entries = (same_front (journal_frames old) J.entries g.came (J.others ++ G) count tail).0 in
      let commands : past.first ∷ past.rest ≡ J.first ∷ J.rest = sym past.begins ∙ commands_same (journal_frames old) ∙ ap commands_among entries ∙ J.commands in
      let first = head_same past.first J.first past.rest J.rest commands in
      let none = journal_acknowledges old j.entries in
      let others = arriving P J.others in
      let all : arriving P (J.entries ++ J.others) ≡ notes_in old ++ others =
      ap (λ l. arriving P (l ++ J.others)) (sym entries) ∙ arriving_append P (journal_frames old) J.others ∙ (λ i. (arriving_notified P (journal_frames old) none ∙ sym (notes_are old)) i ++ arriving (kept_all P (journal_frames old) none i) J.others) in
      let later : delivered w.version old now.attempt ≡ others = ap (λ l. drop (length (notes_in old)) (arriving P (after_head l))) J.frames ∙ ap (drop (length (notes_in old))) all ∙ new_behind (notes_in old) others in
      record {
        start = is_st;
        state = entries_found J.start.state J.state J.reads_state ∙ ap (λ (x : Start). state_entries x.state) is_st;
        input = sym (same_Some past.input J.input (sym past.reads ∙ ap input_read_from first ∙ J.reads_input));
        notes = all ∙ (λ i. (notes_are old ∙ sym (notes_same (journal_frames old))) i ++ sym later i);
        rest = sym (tail_same past.first J.first past.rest J.rest commands);
      }

  -- a run over what was fed is one from the first point
  pub there : (now : Now) (g : Going w.version begin_bytes old now) (J : Journal (heard w.version now.attempt)) (n : ℕ) (made : List RawMessage) (p : Point) → Made (setup_for (fixed_in m w) J.start) m (Handed (start_state J)) n (begun (fixed_in m w) J) made p → Made s m (Handed given) n (from now) made p
  there now g J n made p run =
      let x = is_worlds now g J in
      subst (λ (z : Setup). Made z m (Handed given) n (first_point z past.input (came now) past.rest) made p) same_setup
      (subst
      (λ (z : Start × List (List ℕ × Option (List ℕ)) × InputCommand × List Notification × List RawMessage). Made (setup_for (fixed_in m w) z.0) m (Handed (record { entries = z.1; coverage = coverage_of z.0.partial })) n (first_point (setup_for (fixed_in m w) z.0) z.2 z.3 z.4) made p)
      (λ i. (x.start i, x.state i, x.input i, x.notes i, x.rest i)) run)

  -- ---- each completion came once, for an id that a command carries

  pub notes_split : (now : Now) (g : Going w.version begin_bytes old now) → (later : List Notification) × (notes_in now.journal ≡ came now ++ later)
  notes_split now g =
      let d = delivered_arrived m w.version begin_bytes raw old j framed now g in
      let D = delivered w.version old now.attempt in (
        d.0,
        ap notes_in g.extends ∙ notes_append old g.added
            ∙ (λ i. (notes_are old ∙ sym (notes_same (journal_frames old))) i ++ (notes_are g.added ∙ sym (notes_same (journal_frames g.added)) ∙ d.1) i)
            ∙ sym (append_assoc (notifications_in E) D d.0),
      )

  came_once : (now : Now) (g : Going w.version begin_bytes old now) → ComeOnce (came now)
  came_once now g = let x = notes_split now g in once_front (came now) x.0 (subst ComeOnce x.1 (come_once (notes_in now.journal) g.journal.once))

  -- the commands after the input are those of the journal and the stored ones
  stored_carry : (now : Now) (g : Going w.version begin_bytes old now) → AreCarried (came now) (past.rest ++ commands_among g.scanned)
  stored_carry now g =
      let x = notes_split now g in
      let all : commands_among (journal_frames now.journal) ≡ past.first ∷ (past.rest ++ commands_among g.scanned) =
      ap (λ l. commands_among (journal_frames l)) g.extends ∙ ap commands_among (frames_append old g.added) ∙ commands_append (journal_frames old) (journal_frames g.added)
      ∙ (λ i. (sym (commands_same (journal_frames old)) ∙ past.begins) i ++ g.commands i)
      in
      carried_behind (came now) past.first past.input (past.rest ++ commands_among g.scanned) past.reads
      (carried_front (came now) x.0 (past.first ∷ (past.rest ++ commands_among g.scanned)) (subst (λ (z : List Notification × List RawMessage). AreCarried z.0 z.1) (λ i. (x.1 i, all i)) g.journal.carried))

  -- what was stored was written
  pub stored_written : (now : Now) (g : Going w.version begin_bytes old now) (written : List RawMessage) → Wrote now.attempt.taken now.attempt.vm.machine.output written → IsPrefix (commands_among g.scanned) written
  stored_written now g written wrote =
      let t = taken_first now.attempt.taken now.attempt.vm.machine.output written wrote in
      let frames = (frames_of now.unstored).0 in
      let scanned : commands_among (frames_of (concat now.attempt.taken)).0 ≡ commands_among g.scanned ++ commands_among frames =
      ap (λ b. commands_among (frames_of b).0) g.output_is ∙ ap (λ (x : List RawMessage × Tail). commands_among x.0) g.output_frames ∙ commands_append g.scanned frames in
      (commands_among frames ++ t.0, t.1 ∙ ap (λ l. l ++ t.0) scanned ∙ append_assoc (commands_among g.scanned) (commands_among frames) t.0)

  written_carry : (now : Now) (g : Going w.version begin_bytes old now) (written : List RawMessage) → Wrote now.attempt.taken now.attempt.vm.machine.output written → AreCarried (came now) (past.rest ++ written)
  written_carry now g written wrote =
      let x = stored_written now g written wrote in
      subst (AreCarried (came now)) (append_assoc past.rest (commands_among g.scanned) x.0 ∙ ap (λ l. past.rest ++ l) (sym x.1)) (still_carried (came now) (past.rest ++ commands_among g.scanned) x.0 (stored_carry now g))

  -- ---- at no point has a completion two results

  abbrev Kept : Now → Type 0
  Kept now = IsKept (fixed_in m w) now.attempt

  at_each : (now : Now) (g : Going w.version begin_bytes old now) (k : ℕ) (written : List RawMessage) (at : Point) → Made s m (Handed given) k (from now) written at → Wrote now.attempt.taken now.attempt.vm.machine.output written → (n : ℕ) (made : List RawMessage) (p : Point) → Made s m (Handed given) n (from now) made p → HasNoTwo p
  at_each now g k written at ran wrote =
      let D = delivered w.version old now.attempt in
      let told = after_later s m D past.told.0 (first_point s past.input (notifications_in E) past.rest) past.at past.told.1 in
      run_once s m given past.input (came now) past.rest past.told.0 (later D past.at) told past.uses_all (came_once now g) k written at ran (written_carry now g written wrote)

  pub none_two : (now : Now) (g : Going w.version begin_bytes old now) → Kept now → NoneHasTwo (fixed_in m w) (heard w.version now.attempt)
  none_two now g kept J n made p run =
      let here = there now g J n made p run in
      ⊎_elim
      (λ (b : BeforeInput (fixed_in m w) (heard w.version now.attempt) now.attempt.answers now.attempt.waiting now.attempt.taken now.attempt.vm). at_each now g 0 [] (from now) (refl, refl) b.wrote n made p here)
      (λ (b : HandlerRuns (fixed_in m w) (heard w.version now.attempt) now.attempt.answers now.attempt.waiting now.attempt.taken now.attempt.vm). at_each now g b.moves b.written b.at (there now g b.journal b.moves b.written b.at b.run) b.wrote n made p here)
      kept

  -- ---- events

  -- the handler's run goes on, and what came is so
  abbrev pub Goes : Now → Type 0
  Goes now = Kept now × HasCome (fixed_in m w) now.attempt

  pieces_run : (closed : Bool) (n : ℕ) (now mid : Now) → Pieces closed n now mid → Goes now → Goes mid
  pieces_run true n now mid d goes = subst Goes (sym d) goes
  pieces_run false n now mid (result, a, d, is) (kept, came) = subst Goes (sym is) (
    feed_keeps (HandlerRuns (fixed_in m w)) (runs_last (fixed_in m w)) (fixed_in m w) (take n now.waiting) now.attempt result a kept d,
    feed_comes (fixed_in m w) (take n now.waiting) now.attempt result a came d,
  )

  step_runs : (now mid : Now) → StepHappens m now mid → Going w.version begin_bytes old now → Goes now → Goes mid
  step_runs now mid (result, a, d, is) g (kept, came) = subst Goes (sym is) (
    step_keeps (fixed_in m w) now.attempt result a (record { replays = r.replays; queues = r.queues; once = none_two now g kept }) kept d,
    step_comes (fixed_in m w) now.attempt result a came d,
  )

  steps_run : (n : ℕ) (now mid : Now) → StepsHappen m n now mid → Going w.version begin_bytes old now → Goes now → Goes mid
  steps_run n now mid d g goes =
      let each = steps_keep m (λ (x : Now). Going w.version begin_bytes old x × Goes x)
      (λ here next one both. (event_keeps m w.version begin_bytes old event.Step here next one both.0, step_runs here next one both.0 both.1))
      n now mid d (g, goes) in
      each.1

  pub event_runs : (e : Event) (now mid : Now) → Happens m e now mid → Going w.version begin_bytes old now → Goes now → Goes mid
  event_runs (event.Piece n) now mid d g goes = pieces_run now.closed n now mid d goes
  event_runs event.Close now mid (result, a, d, is) g (kept, came) = subst Goes (sym is) (
    close_keeps (HandlerRuns (fixed_in m w)) (runs_last (fixed_in m w)) (fixed_in m w) now.attempt result a kept d,
    close_comes (fixed_in m w) now.attempt result a came d,
  )
  event_runs event.Step now mid d g goes = step_runs now mid d g goes
  event_runs (event.Steps n) now mid d g goes = steps_run n now mid d g goes
  event_runs (event.RunResult handle exit policy) now mid (result, a, d, is) g (kept, came) = subst Goes (sym is) (
    finish_keeps (fixed_in m w) handle exit policy now.attempt result a came d kept,
    finish_comes (fixed_in m w) handle exit policy now.attempt result a came d,
  )
  event_runs (event.Arrive x) now mid (none, is) g goes = subst Goes (sym is) goes
  event_runs (event.Store n) now mid (journal, waiting, unstored, stores, is, whole, proposed) g (kept, came) = subst Goes (sym is) (
    take_keeps (HandlerRuns (fixed_in m w)) (runs_last (fixed_in m w)) (fixed_in m w) now.attempt (Ok (concat now.attempt.vm.machine.output)) _ kept (refl, refl, whole),
    take_comes (fixed_in m w) now.attempt (Ok (concat now.attempt.vm.machine.output)) _ came (refl, refl, whole),
  )

  pub events_run : (es : List Event) (now end : Now) → Happen m es now end → Going w.version begin_bytes old now → Goes now → Goes end
  events_run [] now end d g goes = subst Goes (sym d) goes
  events_run (e ∷ es) now end (mid, d, more) g goes = events_run es mid end more (event_keeps m w.version begin_bytes old e now mid d g) (event_runs e now mid d g goes)
