-- An await, in a machine that agrees with a point: it uses arrivals until its tree wakes or none is left.
use Rattle.std.specs.Option.{option_map}
use Rattle.vm_runs.specs.Settling.{run_as_related}
use Rattle.vm_runs.specs.Firsts.{with_first}
use Rattle.vm_runs.specs.declared.pending.PendingRun.{PendingRun}
use Rattle.vm_runs.specs.Pending.{is_executing, is_executing_in, may_execute, run_started}
use Rattle.await_trees.specs.Handles.{handles_of}
use Rattle.std.specs.List.{find, list_any}
use Rattle.std.proofs.Common.{◌≡◌, ◌<◌, ◌≤◌, ℕ, zero, suc, ◌+◌, Bool, true, false, List, [], ◌∷◌, ◌++◌, map, take, drop, length, Option, Some, None, refl, sym, ap, ◌∙◌, subst, ⊎_elim, append-nil, Ok, Err, arith}
use Rattle.std.specs.Prelude.{Result}
use Rattle.await_trees.specs.declared.tree.UnresolvedFuture.{UnresolvedFuture}
use Rattle.await_trees.specs.Residual.{Residual}
use Rattle.await_trees.specs.Tree.{Tree}
use Rattle.await_tries.specs.Await.{AwakeAlike, LeastAwake, LeftPending}
use Rattle.journal_protocol.specs.Error.{Error}
use Rattle.journal_protocol.specs.RelatedCommand.{RelatedCommand}
use Rattle.journal_protocol.specs.NamedFault.{NamedFault}
use Rattle.journal_protocol.specs.NamedFault.TheVariants as fault
use Rattle.journal_protocol.specs.RawMessage.{RawMessage}
use Rattle.journal_protocol.specs.Frames.{encoding}
use Rattle.journal_protocol.specs.Notification.{Notification}
use Rattle.journal_protocol.specs.Errors.{named_error}
use Rattle.vm_state.specs.declared.state_map.StateMap.{StateMap}
use Rattle.journal_protocol.specs.SignalDelivery.TheVariants.{Queued}
use Rattle.vm_types.specs.declared.steps.Answer.{Answer}
use Rattle.vm_types.specs.declared.steps.Step.TheVariants as step
use Rattle.vm_types.specs.declared.types.AwaitResponse.{AwaitResponse}
use Rattle.vm_types.specs.declared.types.AwaitResponse.TheVariants.{AnyCompleted, CancelSignalReceived, EphemeralNotificationReady, ExecuteRun, WaitingExternalProgress}
use Rattle.vm_machine.specs.declared.machine.Machine.{Machine}
use Rattle.vm_awaits.specs.Awaits.{AwaitCompletes, StaysPending, Tries, pending_on, with_used, waits_by, waits_on, last_run}
use Rattle.vm_machine.specs.Commands.{phase_after}
use Rattle.vm_machine.specs.Outcomes.{Outcome, Done, Failed}
use Rattle.vm_machine.specs.Phases.{is_closed}
use Rattle.vm_model.specs.Calls.{Derived, Setup, Meaning, Move, call_of, identity_of, tree_wakes}
use Rattle.vm_model.specs.Calls.Move.{Awaits}
use Rattle.vm_model.specs.Deliveries.{HasNoTwo, arrived_at}
use Rattle.vm_model.specs.Moves.{Point, arrival_used, longer, move_at, moved, next, supplied, supply}
use Rattle.vm_model.specs.Histories.{Made, Handed, IsLeast, arrivals_used}
use Rattle.vm_model.specs.Refusals.{IsRefusedFor}
use Rattle.vm_model.proofs.Runs.{longer_nothing, made_add}
use Rattle.vm_model.proofs.Trees.{all_used, counters_more, left_at, tree_least, tree_never, used_at}
use Rattle.vm_attempt.specs.Agreement.{Agrees, Aside, IsLeftOf, IsSuspended, MovesOn, StillAgrees, Waits, awaited_tree, machine_at, waiting_on}
use Rattle.vm_attempt.proofs.Leading.{state_at}

-- a move that brings no command
pub quiet_next : (s : Setup) (m : Meaning) (state : StateMap) (p q : Point) → supplied s m state p ≡ [] → next s m p ≡ Some q → next s m (longer (supplied s m state p) p) ≡ Some q
quiet_next s m state p q none h = ap (λ l. next s m (longer l p)) none ∙ ap (next s m) (longer_nothing p) ∙ h

-- one move that brings no command
pub quiet_move : (s : Setup) (m : Meaning) (given : StateMap) (p q : Point) → supplied s m (state_at given p) p ≡ [] → next s m p ≡ Some q → Made s m (Handed given) 1 p [] q
quiet_move s m given p q none h = (state_at given p, q, [], refl, sym (append-nil (supplied s m (state_at given p) p) ∙ none), quiet_next s m (state_at given p) p q none h, (refl, refl))

-- one run after another, of which the first made no command and gave no answer
pub moves_behind : (s : Setup) (m : Meaning) (given : StateMap) (p q r : Point) (gives : List Answer) (made : List RawMessage) → MovesOn s m given p [] [] q → MovesOn s m given q gives made r → MovesOn s m given p gives made r
moves_behind s m given p q r gives made a b = record {
  moves = a.moves + b.moves;
  run = made_add s m (Handed given) a.moves b.moves p [] q made r a.run b.run;
  answers = b.answers ∙ ap (λ l. l ++ gives) (a.answers ∙ append-nil p.answers);
}

-- which calls are tracked doesn't depend on the arrivals that are used
pub tracked_more : (ns : List Notification) (d : Derived) → (arrivals_used ns d).tracked ≡ d.tracked
tracked_more [] d = refl
tracked_more (n ∷ ns) d = tracked_more ns (arrival_used n d)

-- nor does how many parts a call has made
pub parts_more : (ns : List Notification) (d : Derived) → (arrivals_used ns d).parts ≡ d.parts
parts_more [] d = refl
parts_more (n ∷ ns) d = parts_more ns (arrival_used n d)

-- the point at which the first n of these arrivals are used
abbrev pub uses : ℕ → List Notification → Point → Point
uses n queue p = record p { derived = arrivals_used (take n queue) p.derived; queue = drop n queue }

-- The run to there: one more arrival is asked for before.
runs_to : (s : Setup) (m : Meaning) (given : StateMap) (n : ℕ) (p : Point) (queue : List Notification) → p.queue ≡ queue → n ≤ length queue
    → ((i : ℕ) → i < n → call_of s (m p.answers) (arrivals_used (take i queue) p.derived) ≡ Awaits) → Made s m (Handed given) n p [] (uses n queue p)
runs_to s m given zero p queue e below asks = (refl, λ i. record p { queue = e i })
runs_to s m given (suc n) p [] e below asks = absurd (omega (arith, below))
runs_to s m given (suc n) p (x ∷ xs) e below asks =
    let there : Point = record p { derived = arrival_used x p.derived; queue = xs } in
    let waits : move_at s m p ≡ Awaits = asks 0 (omega arith) in
    let known = state_at given p in
    let none : supplied s m known p ≡ [] = ap (λ mv. supply known mv p.left) waits in
    let goes : next s m p ≡ Some there = ap (λ mv. moved mv p) waits ∙ ap (λ q. moved Awaits (record p { queue = q })) e in
    let on = runs_to s m given n there xs refl (omega (arith, below)) (λ i l. asks (suc i) (omega (arith, l))) in
    (known, there, [], refl, sym (append-nil (supplied s m known p) ∙ none), quiet_next s m known p there none goes, on)

-- a refusal before the error rule, at a point up to which nothing was made
pub record RefusesAt (s : Setup) (m : Meaning) (given : StateMap) (p : Point) (v : Machine) (e : Error) (w : Machine) : Type 0 where
  pub at : Point
  pub moves : MovesOn s m given p [] [] at
  pub why : NamedFault
  pub reason : IsRefusedFor (move_at s m at) at.left at.queue why
  pub related : Option RelatedCommand
  pub error : e ≡ named_error why related
  pub output : w.output ≡ v.output
  pub open_yet : is_closed w.phase ≡ false
  pub version : w.version ≡ v.version
  pub options : w.options ≡ v.options

-- one try of a tree, at a point where the handler awaits a future and asks for one more arrival as long as the tree doesn't wake
module _ (s : Setup) (m : Meaning) (given : StateMap) (written : List RawMessage) (aside : Aside) (p : Point) (future : UnresolvedFuture) (identity : s.identity ≡ identity_of aside.start) (is : m p.answers ≡ step.Await future) (queued : s.options.signal_delivery ≡ Queued) (two : HasNoTwo p) (t : Tree) (asks : (i : ℕ) → i ≤ length p.queue → tree_wakes s t (arrivals_used (take i p.queue) p.derived) ≡ false → (call_of s (m p.answers) (arrivals_used (take i p.queue) p.derived) ≡ Awaits) × (awaited_tree s future (arrivals_used (take i p.queue) p.derived) ≡ t)) where
  abbrev v : Machine
  v = machine_at s given written aside p

  abbrev at : ℕ → Point
  at n = uses n p.queue p

  -- the machine that has used as many agrees with the point
  agrees_at : (n : ℕ) → with_used n v ≡ machine_at s given written aside (at n)
  agrees_at n = λ i. record v { results = used_at s p n i; counters = sym (counters_more (take n p.queue) p.derived) i; tracked = sym (tracked_more (take n p.queue) p.derived) i }

  -- it has woken, with the least number of arrivals used
  pub record Wakes (w : Machine) : Type 0 where
    pub count : ℕ
    pub least : IsLeast (tree_wakes s t) p.derived p.queue count
    pub run : Made s m (Handed given) count p [] (at count)
    pub machine : w ≡ machine_at s given written aside (at count)

  -- the outcome of a try
  abbrev pub TriesTo : Outcome (Result AwaitResponse Error) → Type 0
  TriesTo (Done (Ok AnyCompleted) w) = Wakes w
  TriesTo (Done (Ok CancelSignalReceived) w) = ⊥
  TriesTo (Done (Ok (WaitingExternalProgress input run)) w) = StillAgrees input s m given written p v w
  TriesTo (Done (Ok (ExecuteRun run)) w) = StillAgrees false s m given written p v w
  TriesTo (Done (Ok (EphemeralNotificationReady id)) w) = ⊥
  TriesTo (Done (Err e) w) = IsSuspended s m given p v w
  TriesTo (Failed e w) = RefusesAt s m given p v e w

  wakes : (n : ℕ) → LeastAwake s.options.signal_delivery (arrived_at s p) t n → Wakes (with_used n v)
  wakes n h =
      let least = tree_least s t p queued two n h in
      record {
        count = n;
        least = least;
        run = runs_to s m given n p p.queue refl least.there (λ i l. (asks i (omega (arith, l, least.there)) (least.least i l)).0);
        machine = agrees_at n;
      }

  -- ---- it stays pending

  abbrev last : Point
  last = at (length p.queue)

  module _ (left : Tree) (h : LeftPending s.options.signal_delivery (arrived_at s p) t left) where
    sleeps : (i : ℕ) → i ≤ length p.queue → tree_wakes s t (arrivals_used (take i p.queue) p.derived) ≡ false
    sleeps i l = tree_never s t p queued two h.never i l

    asks_last : move_at s m last ≡ Awaits
    asks_last = (asks (length p.queue) (omega arith) (sleeps (length p.queue) (omega arith))).0

    waits_for : awaited_tree s future last.derived ≡ t
    waits_for = (asks (length p.queue) (omega arith) (sleeps (length p.queue) (omega arith))).1

    to_last : MovesOn s m given p [] [] last
    to_last = record {
      moves = length p.queue;
      run = runs_to s m given (length p.queue) p p.queue refl (omega arith) (λ i l. (asks i (omega (arith, l)) (sleeps i (omega (arith, l)))).0);
      answers = sym (append-nil p.answers);
    }

    none_left : last.queue ≡ []
    none_left = all_used p.queue

    stands : p.left ≡ [] → Waits s m given p last
    stands spent = record { moves = to_last; future = future; awaits = is; asks = asks_last; no_arrival = none_left; none_recorded = spent; no_command = spent }

    -- it is left of the tree as the machine says
    is_left : IsLeftOf s (awaited_tree s future last.derived) last.derived left
    is_left =
        let same = left_at s t p queued two in
        subst (λ x. IsLeftOf s x last.derived left) (sym waits_for) (record { residual = subst (λ leaves. Residual leaves t left) same h.residual; alike = subst (λ leaves. AwakeAlike leaves t left) same h.alike })

    -- while recorded commands are left
    stuck : (c : RawMessage) (others : List RawMessage) → p.left ≡ c ∷ others → IsRefusedFor (move_at s m last) last.left last.queue fault.UncompletedDoProgressDuringReplay
    stuck c others e = subst (λ (x : Move × List RawMessage). IsRefusedFor x.0 x.1 last.queue fault.UncompletedDoProgressDuringReplay) (λ i. (sym asks_last i, sym e i)) (none_left, refl)

    abbrev sends : List RawMessage → Machine
    sends others = record (machine_at s given written aside last) { phase = phase_after others }

    pends : (others : List RawMessage) → p.left ≡ others → TriesTo (pending_on left (sends others))
    unfolding stands
    pends (c ∷ others) e = record { at = last; moves = to_last; why = fault.UncompletedDoProgressDuringReplay; reason = stuck c others e; related = option_map run_as_related (last_run (handles_of left) (sends (c ∷ others))); error = refl; output = refl; open_yet = refl; version = refl; options = refl }
    pends [] e = by_run (find (may_execute (handles_of left)) aside.beside.runs) (list_any (is_executing_in (handles_of left)) aside.beside.runs)
      where
        agrees_by : (after : Aside) → after.start ≡ aside.start → Agrees s given written (record (machine_at s given written after last) { phase = phase_after [] }) last
        agrees_by after started = record { aside = after; machine = λ i. record (machine_at s given written after last) { phase = phase_after (sym e i) }; identity = identity ∙ ap identity_of (sym started) }

        by_closed : (closed executing : Bool) → TriesTo (waits_by closed false executing left (sends []))
        by_closed false executing =
            let said = map encoding (waiting_on true s (list_any is_executing aside.beside.runs) left last.derived) in
            record { at = last; waits = stands e; left = left; is_left = is_left; agrees = agrees_by (record aside { output = aside.output ++ said }) refl; kept = refl; output = refl }
        by_closed true true = record { at = last; waits = stands e; left = left; is_left = is_left; agrees = agrees_by aside refl; kept = refl; output = sym (append-nil aside.output) }
        by_closed true false = record { at = last; waits = stands e; left = left; is_left = is_left; output = refl; closed = refl }

        by_run : (run : Option PendingRun) (executing : Bool) → TriesTo (waits_on run executing left (sends []))
        by_run (Some run) executing =
            let runs = with_first (may_execute (handles_of left)) run_started aside.beside.runs in
            record { at = last; waits = stands e; left = left; is_left = is_left; agrees = agrees_by (record aside { beside = record aside.beside { runs = runs } }) refl; kept = refl; output = sym (append-nil aside.output) }
        by_run None executing = by_closed aside.input_closed executing

  -- ---- its outcome

  pub tries_to : (event : Outcome (Result AwaitResponse Error)) → Tries t v event → TriesTo event
  tries_to event tries = ⊎_elim
      (λ (x : AwaitCompletes t v event). subst TriesTo (sym x.2) (wakes x.0 x.1))
      (λ (x : StaysPending t v event).
      let same : pending_on x.0 (with_used (length p.queue) v) ≡ pending_on x.0 (sends x.0 x.1 p.left) = ap (pending_on x.0) (agrees_at (length p.queue)) in
      subst TriesTo (sym (x.2 ∙ same)) (pends x.0 x.1 p.left refl))
      tries
