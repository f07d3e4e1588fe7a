-- A run that an attempt hands out to be executed has no result among the notifications of its journal.
use Rattle.std.proofs.Common.{◌≡◌, ◌⊎◌, inl, inr, ⊎_elim, ℕ, zero, suc, ◌≤◌, Bool, true, false, List, [], ◌∷◌, ◌++◌, length, Option, Some, None, Result, Ok, Err, refl, sym, ap, ◌∙◌, subst, append_assoc, append-nil, arith, Global}
use Rattle.std.specs.Prelude.{◌||◌}
use Rattle.std.specs.List.{flat_map}
use Rattle.std.proofs.lemmas.Option.{same_Some}
use Rattle.journal_protocol.specs.Error.{Error}
use Rattle.journal_protocol.specs.NamedFault.{NamedFault}
use Rattle.journal_protocol.specs.Bodies.{start_in}
use Rattle.journal_protocol.specs.Notification.{Notification}
use Rattle.journal_protocol.specs.NotificationId.TheVariants.{CompletionId}
use Rattle.journal_protocol.specs.ProposeRunCompletion.{ProposeRunCompletion}
use Rattle.journal_protocol.specs.RawMessage.{RawMessage}
use Rattle.journal_protocol.specs.Start.{Start}
use Rattle.await_trees.specs.declared.handle.NotificationHandle.{NotificationHandle}
use Rattle.journal_entries.specs.Arrivals.{completes_id}
use Rattle.journal_entries.specs.Frames.{frames_of}
use Rattle.journal_entries.specs.JournalFrames.{commands_among, notifications_among}
use Rattle.journal_entries.proofs.Cuts.{frames_of-append}
use Rattle.journal_entries.proofs.Framing.{same_front}
use Rattle.vm_retries.specs.declared.policy.RetryPolicy.{RetryPolicy}
use Rattle.vm_types.specs.declared.runs.RunExitResult.{RunExitResult}
use Rattle.vm_parts.specs.Deliveries.{is_known}
use Rattle.vm_machine.specs.declared.machine.Machine.{Machine}
use Rattle.vm_machine.specs.declared.phase.Phase.{Phase}
use Rattle.vm_machine.specs.declared.phase.Phase.TheVariants.{WaitingStart, WaitingReplayEntries, Replaying, Processing, Closed}
use Rattle.vm_machine.specs.Commands.{knows_next}
use Rattle.vm_machine.specs.Inputs.{coverage_of}
use Rattle.vm_machine.specs.Outcomes.{CalledAt, CalledBy, Outcome, Done, Failed, settled}
use Rattle.vm_machine.specs.Phases.{is_running}
use Rattle.vm_machine.specs.Proposals.{Proposes as MayCome, SettledAt, SettledUnless, proposal_fault}
use Rattle.invocation_vm.specs.Making.{made}
use Rattle.invocation_vm.specs.Views.{View}
use Rattle.vm_model.specs.Calls.{Setup, ready_by_usage}
use Rattle.vm_model.specs.Fixed.{Fixed}
use Rattle.vm_model.specs.Histories.{Handed, Made}
use Rattle.vm_model.specs.Moves.{after, start}
use Rattle.vm_model.proofs.Compared.{wrote_left}
use Rattle.vm_model.proofs.Runs.{made_after}
use Rattle.vm_model.proofs.Uses.{commands_used}
use Rattle.vm_attempt.specs.declared.progress.Progress.TheVariants as progress
use Rattle.vm_attempt.specs.Heard.{Heard, acknowledged_from}
use Rattle.vm_attempt.specs.declared.progress.Fed.{Fed}
use Rattle.vm_attempt.specs.Record.{Record, heard}
use Rattle.vm_attempt.specs.Stepping.{CompletesRun, FinishDoes, StepDoes, fresh_record, newly_proposed, noted_at, with_vm}
use Rattle.vm_attempt.specs.Arrivals.{AllFound, arriving, kept_after}
use Rattle.vm_attempt.specs.Courses.{Leads, OneCall}
use Rattle.vm_attempt.specs.Courses.OneCall.{Feeding, Closing, Stepping, Taking, Telling}
use Rattle.vm_attempt.specs.Journals.{HasAll, StillWaits, setup_for}
use Rattle.vm_attempt.specs.Told.{BeforeInput, Comes, HandlerRuns, HasCome, IsKept, IsKeptUnder, IsLive, Journal, JournalCame, Premises, arrivals, begun, bytes_fed, bytes_in, frames_fed, start_state}
use Rattle.vm_attempt.proofs.Advanced.{made_kept}
use Rattle.vm_attempt.proofs.Coming.{close_comes, feed_comes, made_comes, step_comes, take_comes}
use Rattle.vm_attempt.proofs.Executing.{ExecutesNone, call_keeps, step_hands}
use Rattle.vm_attempt.proofs.Finishing.{acknowledged_more, and_proposed, finish_comes, finish_under, finished, journal_as}
use Rattle.vm_attempt.proofs.Pieces.{bytes_behind, more_frames}
use Rattle.vm_attempt.proofs.Proposed.{arriving_append, arriving_more, arriving_notified}
use Rattle.vm_attempt.proofs.Replayed.{head_same, tail_same}
use Rattle.vm_attempt.proofs.Under.{Grows, close_fed, close_under, feed_grows, feed_under, premises_of, step_fed, step_under, take_fed, take_under}
use Rattle.world_laws.proofs.Proposing.{done_same, none_newly}
use Rattle.world_rounds.proofs.Known.{unknown_open}
use Rattle.world_rounds.proofs.Pending.{proposed_ids}
use Rattle.world_rounds.proofs.Proposing.{Knows, KnowsLive, Proposes, close_proposes, feed_proposes, finish_proposes, items, next_of, step_proposes, take_proposes}
use Rattle.world_rounds.proofs.Settled.{command_in}
use Rattle.world_rounds.proofs.Storable.{completed_append}
use Rattle.world_rounds.proofs.Unfinished.{pending_free}
use Rattle.world_laws.specs.Unfinished.{HasNoResult}

-- ---- what was fed before

-- all frames that were fed are those that were fed before, and more
abbrev FedOn : Heard → Heard → Type 0
FedOn old new = (more : List RawMessage) × (frames_fed new ≡ frames_fed old ++ more)

fed_same : (old new : Heard) → new ≡ old → FedOn old new
fed_same old new is = ([], ap frames_fed is ∙ sym (append-nil (frames_fed old)))

fed_then : (a b c : Heard) → FedOn a b → FedOn b c → FedOn a c
fed_then a b c (xs, is) (ys, more) = (xs ++ ys, more ∙ ap (λ l. l ++ ys) is ∙ append_assoc (frames_fed a) xs ys)

grown_on : (old new : Heard) → Grows old new → FedOn old new
grown_on old new (inl same) = fed_same old new same
grown_on old new (inr (f, is)) =
    let more = more_frames (frames_of (bytes_fed old)) f.piece in
    (more.0, ap frames_fed is ∙ ap (λ l. (frames_of l).0) (bytes_behind old f) ∙ ap (λ p. p.0) (frames_of-append (bytes_fed old) f.piece) ∙ more.1)

-- the same pieces are the same frames
same_pieces : (old new : Heard) → new.pieces ≡ old.pieces → FedOn old new
same_pieces old new is = ([], ap (λ (fs : List Fed). (frames_of (bytes_in fs)).0) is ∙ sym (append-nil (frames_fed old)))

-- ---- a run's result was reported

-- where a report is answered, nothing was proposed, or the VM had not failed and was in Processing
module _ (handle : NotificationHandle) (exit : RunExitResult) (policy : RetryPolicy) (v : Machine) where
  abbrev NoneOr : Machine → Type 0
  NoneOr w = (newly_proposed v w ≡ []) ⊎ (v.phase ≡ Processing)

  none_proposed : (w : Machine) → w ≡ v → NoneOr w
  none_proposed w is = inl (ap (newly_proposed v) is ∙ none_newly v)

  settled_at : (ph : Phase) (t : Unit {0}) (w : Machine) → v.phase ≡ ph → SettledAt ph handle exit policy v (Done t w) → NoneOr w
  settled_at WaitingStart t w at is = none_proposed w (done_same handle exit policy v t w v is)
  settled_at WaitingReplayEntries t w at is = none_proposed w (done_same handle exit policy v t w v is)
  settled_at Replaying t w at is = none_proposed w (done_same handle exit policy v t w v is)
  settled_at Closed t w at is = none_proposed w (done_same handle exit policy v t w v is)
  settled_at Processing t w at does = inr at

  settled_unless : (f : Option NamedFault) (t : Unit {0}) (w : Machine) → SettledUnless f handle exit policy v (Done t w) → NoneOr w
  settled_unless (Some name) t w is = absurd (cc)
  settled_unless None t w does = settled_at v.phase t w refl does

  by_event : (event : Outcome Unit) (t : Unit {0}) (w : Machine) → MayCome handle exit policy v event → Done t w ≡ settled event → NoneOr w
  by_event (Done u x) t w does is = settled_unless (proposal_fault exit policy v.version) t w (subst (MayCome handle exit policy v) (sym is) does)
  by_event (Failed e x) t w does is = absurd (cc)

  by_failure : (f : Option Error) (t : Unit {0}) (w : Machine) → v.failure ≡ f → CalledAt f (MayCome handle exit policy v) v (Done t w) → (v.failure ≡ None) × NoneOr w
  by_failure None t w live (event, does, is) = (live, by_event event t w does is)
  by_failure (Some e) t w dead is = absurd (cc)

  none_or : (t : Unit {0}) (w : Machine) → CalledBy (MayCome handle exit policy v) v (Done t w) → (v.failure ≡ None) × NoneOr w
  none_or t w does = by_failure v.failure t w refl does

-- before the input no VM is in Processing
no_processing : {A : Type 0} (fixed : Fixed) (fed : Heard) (v : Machine) → Comes fixed fed v → v.phase ≡ Processing → A
no_processing fixed fed v (inl x) at = absurd (let z : WaitingStart ≡ Processing = sym (ap (λ w. w.phase) x.1.1) ∙ at in cc)
no_processing fixed fed v (inr b) at =
    ⊎_elim
    (λ (x : StillWaits (setup_for fixed b.start) (record { entries = b.state; coverage = coverage_of b.start.partial }) b.aside b.start.known_entries [] [] b.others v). absurd (let z : WaitingReplayEntries ≡ Processing = sym (ap (λ w. w.phase) x.machine) ∙ at in cc))
    (λ (x : HasAll (setup_for fixed b.start) (record { entries = b.state; coverage = coverage_of b.start.partial }) b.aside b.start.known_entries [] [] b.others v). absurd (let z : Replaying ≡ Processing = sym (ap (λ w. w.phase) x.machine) ∙ at in cc))
    b.waits

-- these pieces and proposals
abbrev as_heard : List Fed → List ProposeRunCompletion → Heard
as_heard pieces proposed = record { pieces = pieces; proposed = proposed }

-- what is asked was so before the proposal, if each acknowledgement that came found its own
premises_less : (fixed : Fixed) (fed : Heard) (more : List ProposeRunCompletion) → ((j : Journal fed) → AllFound fed.proposed (j.entries ++ j.others)) → Premises fixed (and_proposed fed more) → Premises fixed fed
premises_less fixed fed more found p = record {
  replays = p.replays;
  queues = p.queues;
  once = λ j n written q run. p.once (journal_as fed more j) n written q
      (subst (λ (ns : List Notification). Made (setup_for fixed j.start) fixed.handler (Handed (start_state j)) n (start (setup_for fixed j.start) j.input ns j.rest) written q) (sym (arriving_more fed.proposed more (j.entries ++ j.others) (found j))) run);
}

-- as long as the VM runs each one that came found its own
found_all : (fixed : Fixed) (fed : Heard) (r : Record) → JournalCame fixed fed r.answers r.taken r.vm → IsLive r.vm.machine → (j : Journal fed) → AllFound fed.proposed (j.entries ++ j.others)
found_all fixed fed r c live j = subst (AllFound fed.proposed) (tail_same c.journal.first_frame j.first_frame (c.journal.entries ++ c.journal.others) (j.entries ++ j.others) (sym c.journal.frames ∙ j.frames)) (c.keeps live).1

module _ (fixed : Fixed) (handle : NotificationHandle) (exit : RunExitResult) (policy : RetryPolicy) (old new : Record) (came : HasCome fixed old) where
  abbrev before : Heard
  before = heard fixed.version old

  abbrev now : Heard
  now = heard fixed.version new

  noted_same : (f : Option Error) (w : View) → heard fixed.version (with_vm w (noted_at f handle old)) ≡ before
  noted_same (Some e) w = refl
  noted_same None w = refl

  more_less : (ps : List ProposeRunCompletion) → old.vm.machine.failure ≡ None → old.vm.machine.phase ≡ Processing → Premises fixed (and_proposed before ps) → Premises fixed before
  more_less ps live at p =
      ⊎_elim
      (λ (b : BeforeInput fixed before old.answers old.waiting old.taken old.vm). no_processing fixed before old.vm.machine (b.comes live) at)
      (λ (c : JournalCame fixed before old.answers old.taken old.vm). premises_less fixed before ps (found_all fixed before old c (record { failure = live; phase = ap is_running at })) p)
      came

  completes_less : (result : Result Unit Error) → CompletesRun handle exit policy old result new → Premises fixed now → Premises fixed before
  completes_less (Err e) (w, does, is) p = subst (Premises fixed) (ap (heard fixed.version) is ∙ noted_same old.vm.machine.failure w) p
  completes_less (Ok t) (w, does, is) p =
      let ps = newly_proposed old.vm.machine w.machine in
      let same : now ≡ and_proposed before (acknowledged_from fixed.version ps) =
      ap (heard fixed.version) is ∙ ap (as_heard old.fed) (acknowledged_more fixed.version old.proposed ps) in
      let here : Premises fixed (and_proposed before (acknowledged_from fixed.version ps)) = subst (Premises fixed) same p in
      let x = none_or handle exit policy old.vm.machine t w.machine does.0 in
      ⊎_elim
      (λ (none : ps ≡ []).
      let nothing : now ≡ before = ap (heard fixed.version) is ∙ ap (λ (l : List ProposeRunCompletion). as_heard old.fed (acknowledged_from fixed.version (old.proposed ++ l))) none ∙ ap (λ (l : List ProposeRunCompletion). as_heard old.fed (acknowledged_from fixed.version l)) (append-nil old.proposed) in
      subst (Premises fixed) nothing p)
      (λ (at : old.vm.machine.phase ≡ Processing). more_less (acknowledged_from fixed.version ps) x.0 at here)
      x.1

  finish_less : (b : Bool) (result : Result Unit Error) → FinishDoes b handle exit policy old result new → Premises fixed now → Premises fixed before
  finish_less true result d p = subst (Premises fixed) (ap (heard fixed.version) d.1) p
  finish_less false result d p = completes_less result d p

-- ---- one call

module _ (fixed : Fixed) where
  abbrev told : Record → Heard
  told r = heard fixed.version r

  pub call_comes : (old new : Record) → HasCome fixed old → OneCall fixed.handler old new → HasCome fixed new
  call_comes old new came (Feeding piece result does) = feed_comes fixed piece old result new came does
  call_comes old new came (Closing result does) = close_comes fixed old result new came does
  call_comes old new came (Stepping result does) = step_comes fixed old result new came does
  call_comes old new came (Telling handle exit policy result does) = finish_comes fixed handle exit policy old result new came does
  call_comes old new came (Taking result does) = take_comes fixed old result new came does

  call_under : (old new : Record) → HasCome fixed old → IsKeptUnder fixed old → OneCall fixed.handler old new → IsKeptUnder fixed new
  call_under old new came u (Feeding piece result does) = feed_under fixed piece old result new u does
  call_under old new came u (Closing result does) = close_under fixed old result new u does
  call_under old new came u (Stepping result does) = step_under fixed old result new u does
  call_under old new came u (Telling handle exit policy result does) = finish_under fixed handle exit policy old result new came does u
  call_under old new came u (Taking result does) = take_under fixed old result new u does

  -- what was fed before a call, and that what is asked was so before it
  record Behind (old new : Record) : Type 0 where
    on : FedOn (told old) (told new)
    less : Premises fixed (told new) → Premises fixed (told old)

  same_behind : (old new : Record) → told new ≡ told old → Behind old new
  same_behind old new is = record { on = fed_same (told old) (told new) is; less = λ p. subst (Premises fixed) is p }

  call_behind : (old new : Record) → HasCome fixed old → OneCall fixed.handler old new → Behind old new
  call_behind old new came (Feeding piece result does) =
      let g = feed_grows fixed.version piece old result new does in
      record { on = grown_on (told old) (told new) g; less = premises_of fixed (told old) (told new) g }
  call_behind old new came (Closing result does) = same_behind old new (close_fed fixed.version old result new does)
  call_behind old new came (Stepping result does) = same_behind old new (step_fed fixed.version fixed.handler old result new does)
  call_behind old new came (Telling handle exit policy result does) = record {
    on = same_pieces (told old) (told new) (finished handle exit policy old result new does).fed;
    less = finish_less fixed handle exit policy old new came old.starved result does;
  }
  call_behind old new came (Taking result does) = same_behind old new (take_fed fixed.version old result new does)

  leads_behind : (n : ℕ) (old last : Record) → HasCome fixed old → Leads fixed.handler n old last → Behind old last
  leads_behind zero old last came is = same_behind old last (ap told is)
  leads_behind (suc n) old last came (mid, call, more) =
      let a = call_behind old mid came call in
      let b = leads_behind n mid last (call_comes old mid came call) more in
      record { on = fed_then (told old) (told mid) (told last) a.on b.on; less = λ p. a.less (b.less p) }

  -- ---- what is known of a machine that runs

  number_same : (n : ℕ) → n ≤ n
  number_same n = omega arith

  some_left : {A : Type 0} (x : A) (xs : List A) → x ∷ xs ≡ [] → ⊥
  some_left x xs e = absurd (cc)

  neither : (a b : Bool) → (a || b) ≡ false → a ≡ false
  neither true b e = absurd (cc)
  neither false b e = refl

  front_open : (id : ℕ) (xs ys : List Notification) → completes_id id (xs ++ ys) ≡ false → completes_id id xs ≡ false
  front_open id xs ys h = neither (completes_id id xs) (completes_id id ys) (sym (completed_append id xs ys) ∙ h)

  module _ (last : Record) (j : Journal (told last)) where
    -- the known entries of an attempt that runs are those of the last one
    same_entries : (r : Record) → FedOn (told r) (told last) → (b : Journal (told r)) → j.entries ≡ b.entries
    same_entries r on b =
        let both : j.first_frame ∷ (j.entries ++ j.others) ≡ b.first_frame ∷ ((b.entries ++ b.others) ++ on.0) = sym j.frames ∙ on.1 ∙ ap (λ l. l ++ on.0) b.frames in
        let head : j.first_frame ≡ b.first_frame = head_same j.first_frame b.first_frame (j.entries ++ j.others) ((b.entries ++ b.others) ++ on.0) both in
        let tail : j.entries ++ j.others ≡ b.entries ++ (b.others ++ on.0) = tail_same j.first_frame b.first_frame (j.entries ++ j.others) ((b.entries ++ b.others) ++ on.0) both ∙ append_assoc b.entries b.others on.0 in
        let same : j.start ≡ b.start = same_Some j.start b.start (sym j.reads_start ∙ ap (λ (x : RawMessage). start_in x.body) head ∙ b.reads_start) in
        let count : length j.entries ≡ length b.entries = j.count ∙ ap (λ (x : Start). x.known_entries) same ∙ sym b.count in
        (same_front j.entries b.entries j.others (b.others ++ on.0) count tail).0

    abbrev ns : List Notification
    ns = notifications_among j.entries

    module _ (r : Record) (on : FedOn (told r) (told last)) (b : HandlerRuns fixed (told r) r.answers r.waiting r.taken r.vm) where
      abbrev s : Setup
      s = setup_for fixed b.journal.start

      abbrev v : Machine
      v = r.vm.machine

      same_rest : j.rest ≡ b.journal.rest
      same_rest = tail_same j.first b.journal.first j.rest b.journal.rest (sym j.commands ∙ ap commands_among (same_entries r on b.journal) ∙ b.journal.commands)

      run_after : after s fixed.handler b.moves (start s b.journal.input (arrivals b.journal) (b.journal.rest ++ b.written)) ≡ Some b.at
      run_after = made_after s fixed.handler (Handed (start_state b.journal)) b.moves (begun fixed b.journal) b.written b.at b.run

      run_left : (raw : RawMessage) (rest : List RawMessage) → b.at.left ≡ raw ∷ rest → (used : List RawMessage) × (b.journal.rest ≡ used ++ raw ∷ rest)
      run_left raw rest left =
          let u = commands_used s fixed.handler b.moves b.journal.input (arrivals b.journal) (b.journal.rest ++ b.written) b.at run_after in
          ⊎_elim
          (λ (none : b.written ≡ []). (u.0, sym (append-nil b.journal.rest) ∙ ap (λ l. b.journal.rest ++ l) (sym none) ∙ u.3 ∙ ap (λ l. u.0 ++ l) left))
          (λ (spent : b.at.left ≡ []). absurd (some_left raw rest (sym left ∙ spent)))
          (wrote_left s fixed.handler (Handed (start_state b.journal)) b.moves (begun fixed b.journal) b.written b.at b.run)

      -- the journal's notifications came first
      came_first : arrivals b.journal ≡ ns ++ arriving (kept_after (told r).proposed b.journal.entries) b.journal.others
      came_first =
          let kept = (told r).proposed in
          arriving_append kept b.journal.entries b.journal.others
          ∙ ap (λ l. l ++ arriving (kept_after kept b.journal.entries) b.journal.others) (arriving_notified kept b.journal.entries b.journal.none_acknowledge ∙ ap notifications_among (sym (same_entries r on b.journal)))

      run_knows : IsLive v → Knows ns j.rest v
      run_knows live =
          let a = b.agrees live in
          let next : next_of v ≡ b.at.derived.counters.completion = ap (λ (x : Machine). x.counters.completion) a.machine in
          record {
            recorded = λ raw rest is.
                let x = run_left raw rest (sym (ap (λ (y : Machine). y.commands) a.machine) ∙ is) in
                (x.0, same_rest ∙ x.1);
            free = λ unknown.
                let here : is_known (CompletionId b.at.derived.counters.completion) (record { queued = b.at.queue; ready = ready_by_usage s.options.signal_delivery b.at.derived.usage; handles = b.at.derived.handles }) ≡ false = sym (ap knows_next a.machine) ∙ unknown in
                let open_yet = unknown_open s fixed.handler b.moves b.journal.input (arrivals b.journal) (b.journal.rest ++ b.written) b.at run_after b.at.derived.counters.completion (number_same b.at.derived.counters.completion) here in
                subst (λ (i : ℕ). completes_id i ns ≡ false) (sym next)
                (front_open b.at.derived.counters.completion ns (arriving (kept_after (told r).proposed b.journal.entries) b.journal.others) (subst (λ (l : List Notification). completes_id b.at.derived.counters.completion l ≡ false) came_first open_yet));
          }

    knows_live : (r : Record) → FedOn (told r) (told last) → IsKept fixed r → KnowsLive ns j.rest r
    knows_live r on kept live answered =
        ⊎_elim
        (λ (b : BeforeInput fixed (told r) r.answers r.waiting r.taken r.vm). absurd (answered b.answers))
        (λ (b : HandlerRuns fixed (told r) r.answers r.waiting r.taken r.vm). run_knows r on b live)
        kept

    -- ---- one call after another

    record IsWell (r : Record) : Type 0 where
      came : HasCome fixed r
      under : IsKeptUnder fixed r
      proposes : Proposes ns j.rest r
      none : ExecutesNone r.over

    call_proposes : (old new : Record) → IsWell old → FedOn (told old) (told last) → Premises fixed (told old) → OneCall fixed.handler old new → Proposes ns j.rest new
    call_proposes old new x on p (Feeding piece result does) = feed_proposes ns j.rest piece old result new x.proposes does
    call_proposes old new x on p (Closing result does) = close_proposes ns j.rest old result new x.proposes does
    call_proposes old new x on p (Stepping result does) = step_proposes ns j.rest fixed.handler old result new x.proposes (knows_live old on (x.under p)) does
    call_proposes old new x on p (Telling handle exit policy result does) = finish_proposes ns j.rest handle exit policy old x.proposes result new does
    call_proposes old new x on p (Taking (Ok bytes) does) = subst (Proposes ns j.rest) (sym does.1) (take_proposes ns j.rest old x.proposes does.2)
    call_proposes old new x on p (Taking (Err e) does) = subst (Proposes ns j.rest) (sym does) x.proposes

    all_well : (n : ℕ) (r : Record) → IsWell r → Premises fixed (told last) → Leads fixed.handler n r last → IsWell last
    all_well zero r x p is = subst IsWell (sym is) x
    all_well (suc n) r x p (mid, call, more) =
        let behind = leads_behind (suc n) r last x.came (mid, call, more) in
        all_well n mid (record {
          came = call_comes r mid x.came call;
          under = call_under r mid x.came x.under call;
          proposes = call_proposes r mid x behind.on (behind.less p) call;
          none = (call_keeps fixed.handler r mid call).over x.none;
        }) p more

    begins_well : (alloc : Global) → IsWell (fresh_record (made alloc fixed.options fixed.version))
    begins_well alloc = record {
      came = made_comes alloc fixed;
      under = λ p. made_kept fixed alloc;
      proposes = record {
        sent = [];
        bytes = refl;
        whole = tt;
        waiting = [];
        frames = refl;
        sound = record { well = tt; below = λ _. tt; pending = λ _. tt; early = λ _ _. (refl, refl) };
      };
      none = tt;
    }

    hands_unfinished : (alloc : Global) (n : ℕ) (new : Record) (handle : NotificationHandle) → Leads fixed.handler n (fresh_record (made alloc fixed.options fixed.version)) last → Premises fixed (told last) → StepDoes fixed.handler last (Ok (progress.ExecuteRun handle)) new → HasNoResult handle new.vm.machine.runs ns
    hands_unfinished alloc n new handle leads p does =
        let x = all_well n (fresh_record (made alloc fixed.options fixed.version)) (begins_well alloc) p leads in
        let out = (step_hands fixed.handler last (Ok (progress.ExecuteRun handle)) new does).out handle refl x.none in
        let y = step_proposes ns j.rest fixed.handler last (Ok (progress.ExecuteRun handle)) new x.proposes (knows_live last (fed_same (told last) (told last) refl) (x.under p)) does in
        let ws = items (y.sent ++ y.waiting) in
        let f = pending_free (next_of new.vm.machine) ns (j.rest ++ flat_map command_in ws) (proposed_ids ws) new.vm.machine.runs handle (y.sound.pending out.3) out.2 in
        record { before = f.0; run = f.1; behind = f.2; split = f.3; named = f.4; free = f.5 }

pub none_finished : (fixed : Fixed) (alloc : Global) (n : ℕ) (old new : Record) (handle : NotificationHandle) → Leads fixed.handler n (fresh_record (made alloc fixed.options fixed.version)) old → Premises fixed (heard fixed.version old) → StepDoes fixed.handler old (Ok (progress.ExecuteRun handle)) new
    → (j : Journal (heard fixed.version old)) → HasNoResult handle new.vm.machine.runs (notifications_among j.entries)
none_finished fixed alloc n old new handle leads p does j = hands_unfinished fixed old j alloc n new handle leads p does
