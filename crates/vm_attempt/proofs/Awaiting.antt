-- The first part of an await, in a machine that agrees with a point: it wakes, or waits; or the cancel signal is there, and the ids are
-- read of the invocations that are cancelled with the handler's.
use Rattle.std.proofs.Common.{◌≡◌, ◌≤◌, ℕ, zero, suc, ◌+◌, Bool, true, false, cond, List, [], ◌∷◌, ◌++◌, take, drop, length, Option, Some, None, refl, sym, ap, ◌∙◌, subst, inl, append-nil, length-append, Ok, Err, arith}
use Rattle.std.specs.Prelude.{if◌then◌else◌, ◌||◌, ◌&&◌, is_some, Result}
use Rattle.std.specs.Option.{option_and_then}
use Rattle.await_arrivals.specs.Results.{results_of}
use Rattle.await_trees.specs.declared.outcome.Outcome.{Outcome as Come}
use Rattle.await_trees.specs.declared.tree.UnresolvedFuture.{UnresolvedFuture}
use Rattle.await_trees.specs.Outcomes.{awake, is_done}
use Rattle.await_trees.specs.Tree.{Tree, leaf, node, none, more, tree_of}
use Rattle.await_tries.specs.Leaves.{result_outcome}
use Rattle.journal_protocol.specs.FutureKind.TheVariants.{FirstCompleted, AllCompleted, FirstSucceededOrAllFailed, AllSucceededOrFirstFailed, Unknown}
use Rattle.journal_protocol.specs.Error.{Error}
use Rattle.journal_protocol.specs.NamedFault.TheVariants as fault
use Rattle.journal_protocol.specs.RawMessage.{RawMessage}
use Rattle.journal_protocol.specs.Notification.{Notification}
use Rattle.journal_protocol.specs.NotificationId.{NotificationId}
use Rattle.journal_protocol.specs.NotificationId.TheVariants.{CompletionId}
use Rattle.journal_protocol.specs.NotificationResult.{NotificationResult}
use Rattle.journal_protocol.specs.NotificationResult.TheVariants as found
use Rattle.vm_state.specs.declared.state_map.StateMap.{StateMap}
use Rattle.journal_protocol.specs.SignalDelivery.TheVariants.{Queued}
use Rattle.vm_types.specs.declared.steps.Answer.TheVariants as answer
use Rattle.vm_types.specs.declared.steps.Step.TheVariants as step
use Rattle.vm_types.specs.declared.types.AwaitResponse.{AwaitResponse}
use Rattle.vm_types.specs.declared.types.AwaitResponse.TheVariants.{AnyCompleted, CancelSignalReceived, EphemeralNotificationReady, ExecuteRun, WaitingExternalProgress}
use Rattle.vm_parts.specs.Deliveries.{same_id}
use Rattle.vm_types.specs.Options.{ends_awaits}
use Rattle.vm_parts.specs.Tracked.{id_of_result, unresolved_handles, with_next_id}
use Rattle.vm_parts.proofs.Tracking.{unresolved-with_next_id}
use Rattle.vm_machine.specs.declared.machine.Machine.{Machine}
use Rattle.vm_awaits.specs.Awaits.{AwaitsBy, Behind, EndsBy, Gathers, ReadsId, next_id_known as read_by_machine, is_cancelled, is_first_of_none, or_cancelled, result_at}
use Rattle.vm_machine.specs.Outcomes.{Outcome, Done, Failed}
use Rattle.vm_model.specs.Calls.{Derived, Setup, Meaning, awaited, awaiting, call_of, cancelled, id_awaited, id_read, identity_of, is_awake, is_cancelled_in, tree_wakes, leaf_in}
use Rattle.vm_model.specs.Calls.Usage.{Used}
use Rattle.vm_model.specs.Calls.{Usage}
use Rattle.vm_model.specs.Calls.Move.{Answers, Awaits}
use Rattle.vm_model.specs.Cancels.{present_in}
use Rattle.vm_model.specs.Deliveries.{HasNoTwo, deliveries}
use Rattle.vm_model.specs.Moves.{Point, arrival_used, move_at, moved, supply}
use Rattle.vm_model.specs.Histories.{arrivals_used}
use Rattle.vm_model.specs.Refusals.{IsRefusedFor}
use Rattle.vm_model.proofs.Cancelling.{cancelled_same, handle_stays}
use Rattle.vm_attempt.specs.Agreement.{Answered, Aside, IsSuspended, MovesOn, StillAgrees, awaited_tree, first_or, machine_at}
use Rattle.vm_attempt.proofs.Leading.{no_move, open_after, state_at}
use Rattle.vm_attempt.proofs.Waiting.{RefusesAt, TriesTo, Wakes, moves_behind, parts_more, quiet_move, tracked_more, tries_to, uses}

-- ---- what wakes

-- a leaf wakes once its handle has a result
leaf_done : (o : Option NotificationResult) → is_done (result_outcome o) ≡ is_some o
leaf_done None = refl
leaf_done (Some found.Void) = refl
leaf_done (Some (found.Value bytes)) = refl
leaf_done (Some (found.Failure failure)) = refl
leaf_done (Some (found.StateKeys keys)) = refl
leaf_done (Some (found.InvocationId id)) = refl

-- the first of none never wakes
first_of_none_sleeps : (at : ℕ → Come) (t : Tree) → is_first_of_none t ≡ true → awake at t ≡ false
first_of_none_sleeps at (leaf h) so = absurd cc
first_of_none_sleeps at (node FirstCompleted none) so = refl
first_of_none_sleeps at (node FirstCompleted (more t ts)) so = absurd cc
first_of_none_sleeps at (node AllCompleted ts) so = absurd cc
first_of_none_sleeps at (node FirstSucceededOrAllFailed ts) so = absurd cc
first_of_none_sleeps at (node AllSucceededOrFirstFailed ts) so = absurd cc
first_of_none_sleeps at (node Unknown ts) so = absurd cc

both : (x y : Bool) → (x || ((y || false) || false)) ≡ (y || x)
both true true = refl
both true false = refl
both false true = refl
both false false = refl

alone : (x y : Bool) → x ≡ false → ((y || false) || false) ≡ (y || x)
alone true y e = absurd cc
alone false true e = refl
alone false false e = refl

-- a tree that the cancel signal ends too wakes once the tree does, or the cancel handle has a result
or_cancelled_wakes : (at : ℕ → Come) (t : Tree) → awake at (or_cancelled t) ≡ (is_done (at 1) || awake at t)
or_cancelled_wakes at t = by_test (is_first_of_none t) refl
  where
    by_test : (b : Bool) → is_first_of_none t ≡ b → awake at (if b then node FirstCompleted (more (leaf 1) none) else node FirstCompleted (more t (more (leaf 1) none))) ≡ (is_done (at 1) || awake at t)
    by_test true so = alone (awake at t) (is_done (at 1)) (first_of_none_sleeps at t so)
    by_test false never = both (awake at t) (is_done (at 1))

-- ---- no completion has two results, while arrivals are used

one_used : (id : NotificationId) (x : Notification) (xs : List Notification) (us : List Usage) → length (deliveries id (Used x ∷ us)) + length (results_of id xs) ≡ length (deliveries id us) + length (results_of id (x ∷ xs))
one_used id x xs us = by_test (same_id x.id id)
  where
    by_test : (b : Bool) → length (cond b (deliveries id us ++ x.result ∷ []) (deliveries id us)) + length (results_of id xs) ≡ length (deliveries id us) + length (cond b (x.result ∷ results_of id xs) (results_of id xs))
    by_test true = rw (length-append (deliveries id us) (x.result ∷ [])) (omega arith)
    by_test false = refl

some_used : (id : NotificationId) (n : ℕ) (queue : List Notification) (d : Derived) → length (deliveries id (arrivals_used (take n queue) d).usage) + length (results_of id (drop n queue)) ≡ length (deliveries id d.usage) + length (results_of id queue)
some_used id zero queue d = refl
some_used id (suc n) [] d = refl
some_used id (suc n) (x ∷ xs) d = some_used id n xs (arrival_used x d) ∙ one_used id x xs d.usage

two_used : (p : Point) (n : ℕ) → HasNoTwo p → HasNoTwo (uses n p.queue p)
two_used p n two i = subst (λ k. k ≤ 1) (sym (some_used (CompletionId i) n p.queue p.derived)) (two i)

-- ---- the await

module _ (s : Setup) (m : Meaning) (given : StateMap) (written : List RawMessage) (aside : Aside) (future : UnresolvedFuture) (identity : s.identity ≡ identity_of aside.start) (queued : s.options.signal_delivery ≡ Queued) where
  abbrev v : Point → Machine
  v p = machine_at s given written aside p

  -- the await has got from p to q: nothing was made and no recorded command was used
  pub record Reached (p q : Point) : Type 0 where
    pub moves : MovesOn s m given p [] [] q
    pub left : q.left ≡ p.left
    pub is : m q.answers ≡ step.Await future
    pub two : HasNoTwo q
    pub rests : p.derived.parts ≡ 0 → q.derived.parts ≡ 0

  -- the cancel signal is there, and all ids are known
  pub record IsGathered (p : Point) (w : Machine) : Type 0 where
    pub at : Point
    pub reached : Reached p at
    pub machine : w ≡ v at
    pub is_cancelled : is_cancelled_in s at.derived ≡ true
    pub known : unresolved_handles at.derived.tracked ≡ []

  -- the outcome of the first part
  abbrev pub PartTo : Point → Outcome (Result AwaitResponse Error) → Type 0
  PartTo p (Done (Ok AnyCompleted) w) = Answered s m given written p (v p) answer.Awake w
  PartTo p (Done (Ok CancelSignalReceived) w) = IsGathered p w
  PartTo p (Done (Ok (WaitingExternalProgress input run)) w) = StillAgrees input s m given written p (v p) w
  PartTo p (Done (Ok (ExecuteRun run)) w) = StillAgrees false s m given written p (v p) w
  PartTo p (Done (Ok (EphemeralNotificationReady id)) w) = ⊥
  PartTo p (Done (Err e) w) = IsSuspended s m given p (v p) w
  PartTo p (Failed e w) = RefusesAt s m given p (v p) e w

  stays_there : (p : Point) → m p.answers ≡ step.Await future → HasNoTwo p → Reached p p
  stays_there p is two = record { moves = no_move s m given p; left = refl; is = is; two = two; rests = λ none. none }

  one_behind : (p q r : Point) → Reached p q → Reached q r → Reached p r
  one_behind p q r a b = record { moves = moves_behind s m given p q r [] [] a.moves b.moves; left = b.left ∙ a.left; is = b.is; two = b.two; rests = λ none. b.rests (a.rests none) }

  still_behind : (input : Bool) (p q : Point) → Reached p q → (w : Machine) → StillAgrees input s m given written q (v q) w → StillAgrees input s m given written p (v p) w
  still_behind input p q a w h = record {
    at = h.at;
    waits = record { moves = moves_behind s m given p q h.at [] [] a.moves h.waits.moves; future = h.waits.future; awaits = h.waits.awaits; asks = h.waits.asks; no_arrival = h.waits.no_arrival; none_recorded = sym a.left ∙ h.waits.none_recorded; no_command = h.waits.no_command };
    left = h.left;
    is_left = h.is_left;
    agrees = h.agrees;
    kept = h.kept;
    output = h.output;
  }

  part_behind : (p q : Point) → Reached p q → (o : Outcome (Result AwaitResponse Error)) → PartTo q o → PartTo p o
  part_behind p q a (Done (Ok AnyCompleted) w) h = record { at = h.at; made = h.made; none_before = h.none_before; moves = moves_behind s m given p q h.at (answer.Awake ∷ []) h.made a.moves h.moves; agrees = h.agrees; kept = h.kept; output = h.output; rests = λ none. h.rests (a.rests none) }
  part_behind p q a (Done (Ok CancelSignalReceived) w) h = record { at = h.at; reached = one_behind p q h.at a h.reached; machine = h.machine; is_cancelled = h.is_cancelled; known = h.known }
  part_behind p q a (Done (Ok (WaitingExternalProgress input run)) w) h = still_behind input p q a w h
  part_behind p q a (Done (Ok (ExecuteRun run)) w) h = still_behind false p q a w h
  part_behind p q a (Done (Ok (EphemeralNotificationReady id)) w) h = absurd h
  part_behind p q a (Done (Err e) w) h = record {
    at = h.at;
    waits = record { moves = moves_behind s m given p q h.at [] [] a.moves h.waits.moves; future = h.waits.future; awaits = h.waits.awaits; asks = h.waits.asks; no_arrival = h.waits.no_arrival; none_recorded = sym a.left ∙ h.waits.none_recorded; no_command = h.waits.no_command };
    left = h.left;
    is_left = h.is_left;
    output = h.output;
    closed = h.closed;
  }
  part_behind p q a (Failed e w) h = record { at = h.at; moves = moves_behind s m given p q h.at [] [] a.moves h.moves; why = h.why; reason = h.reason; related = h.related; error = h.error; output = h.output; open_yet = h.open_yet; version = h.version; options = h.options }

  -- the move of the await
  move_is : (p : Point) (d : Derived) → m p.answers ≡ step.Await future → call_of s (m p.answers) d ≡ awaited s (is_cancelled_in s d) future d
  move_is p d is = ap (λ st. call_of s st d) is

  -- the handler isn't cancelled, and its future is awake
  answers_awake : (p : Point) → m p.answers ≡ step.Await future → is_cancelled_in s p.derived ≡ false → is_awake s future p.derived ≡ true → Answered s m given written p (v p) answer.Awake (v p)
  answers_awake p is never wakes =
      let to : Point = record p { answers = p.answers ++ answer.Awake ∷ [] } in
      let wake : move_at s m p ≡ Answers (answer.Awake ∷ []) p.derived = move_is p p.derived is ∙ ap (λ b. awaited s b future p.derived) never ∙ ap (λ b. awaiting b p.derived) wakes in
      record {
        at = to;
        made = [];
        none_before = inl refl;
        moves = record { moves = 1; run = quiet_move s m given p to (ap (λ mv. supply (state_at given p) mv p.left) wake) (ap (λ mv. moved mv p) wake); answers = refl };
        agrees = record { aside = aside; machine = λ i. machine_at s given (sym (append-nil written) i) aside to; identity = identity };
        kept = refl;
        output = sym (append-nil aside.output);
        rests = λ none. none;
      }

  -- ---- where the cancel signal ends no await

  module _ (p : Point) (is : m p.answers ≡ step.Await future) (two : HasNoTwo p) where
    abbrev at : ℕ → Point
    at n = uses n p.queue p

    reached_at : (n : ℕ) (w : Machine) (t : Tree) (asks : (i : ℕ) → i ≤ length p.queue → tree_wakes s t (arrivals_used (take i p.queue) p.derived) ≡ false → (call_of s (m p.answers) (arrivals_used (take i p.queue) p.derived) ≡ Awaits) × (awaited_tree s future (arrivals_used (take i p.queue) p.derived) ≡ t)) → (x : Wakes s m given written aside p future identity is queued two t asks w) → Reached p (at x.count)
    reached_at n w t asks x = record { moves = record { moves = x.count; run = x.run; answers = sym (append-nil p.answers) }; left = refl; is = is; two = two_used p x.count two; rests = λ none. parts_more (take x.count p.queue) p.derived ∙ none }

    none_cancelled : ends_awaits s.options.implicit_cancellation ≡ false → (d : Derived) → is_cancelled_in s d ≡ false
    none_cancelled never d = ap (λ b. b && is_some (present_in s 1 d)) never

    asks_plainly : ends_awaits s.options.implicit_cancellation ≡ false → (i : ℕ) → i ≤ length p.queue → tree_wakes s (tree_of future) (arrivals_used (take i p.queue) p.derived) ≡ false → (call_of s (m p.answers) (arrivals_used (take i p.queue) p.derived) ≡ Awaits) × (awaited_tree s future (arrivals_used (take i p.queue) p.derived) ≡ tree_of future)
    asks_plainly never i l sleeps =
        let d = arrivals_used (take i p.queue) p.derived in
        let not = none_cancelled never d in (
          move_is p d is ∙ ap (λ b. awaited s b future d) not ∙ ap (λ b. awaiting b d) sleeps,
          ap (λ b. if b then first_or (unresolved_handles d.tracked) (tree_of future) else if ends_awaits s.options.implicit_cancellation then or_cancelled (tree_of future) else tree_of future) not
              ∙ ap (λ b. if b then or_cancelled (tree_of future) else tree_of future) never,
        )

    plain_to : (never : ends_awaits s.options.implicit_cancellation ≡ false) (event : Outcome (Result AwaitResponse Error)) → TriesTo s m given written aside p future identity is queued two (tree_of future) (asks_plainly never) event → PartTo p event
    plain_to never (Done (Ok AnyCompleted) w) x =
        let q = at x.count in
        part_behind p q (reached_at x.count w (tree_of future) (asks_plainly never) x) (Done (Ok AnyCompleted) w)
        (subst (λ (u : Machine). Answered s m given written q (v q) answer.Awake u) (sym x.machine) (answers_awake q is (none_cancelled never q.derived) x.least.holds))
    plain_to never (Done (Ok CancelSignalReceived) w) x = absurd x
    plain_to never (Done (Ok (WaitingExternalProgress input run)) w) x = x
    plain_to never (Done (Ok (ExecuteRun run)) w) x = x
    plain_to never (Done (Ok (EphemeralNotificationReady id)) w) x = absurd x
    plain_to never (Done (Err e) w) x = x
    plain_to never (Failed e w) x = x

  -- ---- the ids are read

  -- an id was read: the next handle's call is the first whose id isn't known
  pub record HasRead (handles : List ℕ) (p : Point) (w : Machine) : Type 0 where
    pub at : Point
    pub reached : Reached p at
    pub machine : w ≡ v at
    pub is_cancelled : is_cancelled_in s at.derived ≡ true
    pub rest : unresolved_handles at.derived.tracked ≡ handles

  -- the outcome of reading an id
  abbrev ReadTo : List ℕ → Point → Outcome (Result AwaitResponse Error) → Type 0
  ReadTo handles p (Done (Ok AnyCompleted) w) = HasRead handles p w
  ReadTo handles p (Done (Ok CancelSignalReceived) w) = ⊥
  ReadTo handles p (Done (Ok (WaitingExternalProgress input run)) w) = StillAgrees input s m given written p (v p) w
  ReadTo handles p (Done (Ok (ExecuteRun run)) w) = StillAgrees false s m given written p (v p) w
  ReadTo handles p (Done (Ok (EphemeralNotificationReady id)) w) = ⊥
  ReadTo handles p (Done (Err e) w) = IsSuspended s m given p (v p) w
  ReadTo handles p (Failed e w) = RefusesAt s m given p (v p) e w

  read_behind : (handles : List ℕ) (p q : Point) → Reached p q → (o : Outcome (Result AwaitResponse Error)) → ReadTo handles q o → ReadTo handles p o
  read_behind handles p q a (Done (Ok AnyCompleted) w) h = record { at = h.at; reached = one_behind p q h.at a h.reached; machine = h.machine; is_cancelled = h.is_cancelled; rest = h.rest }
  read_behind handles p q a (Done (Ok CancelSignalReceived) w) h = absurd h
  read_behind handles p q a (Done (Ok (WaitingExternalProgress input run)) w) h = part_behind p q a (Done (Ok (WaitingExternalProgress input run)) w) h
  read_behind handles p q a (Done (Ok (ExecuteRun run)) w) h = part_behind p q a (Done (Ok (ExecuteRun run)) w) h
  read_behind handles p q a (Done (Ok (EphemeralNotificationReady id)) w) h = absurd h
  read_behind handles p q a (Done (Err e) w) h = part_behind p q a (Done (Err e) w) h
  read_behind handles p q a (Failed e w) h = part_behind p q a (Failed e w) h

  -- the move of an await whose next id is read
  reading_is : (p : Point) (d : Derived) (handle : ℕ) (handles : List ℕ) → m p.answers ≡ step.Await future → is_cancelled_in s d ≡ true → unresolved_handles d.tracked ≡ handle ∷ handles → call_of s (m p.answers) d ≡ id_awaited (present_in s handle d) d
  reading_is p d handle handles is so rest = move_is p d is ∙ ap (λ b. awaited s b future d) so ∙ ap (λ l. cancelled s l d) rest

  -- the result is there: it is an invocation's id, or no id
  reads_now : (handle : ℕ) (handles : List ℕ) (q : Point) → m q.answers ≡ step.Await future → HasNoTwo q → is_cancelled_in s q.derived ≡ true → unresolved_handles q.derived.tracked ≡ handle ∷ handles → (o : Option NotificationResult) → present_in s handle q.derived ≡ o → is_some o ≡ true → ReadTo handles q (read_by_machine (option_and_then id_of_result o) (v q))
  reads_now handle handles q is two so rest None there some = absurd cc
  reads_now handle handles q is two so rest (Some result) there some = by_id (id_of_result result) refl
    where
      moves_so : (id : Option (List ℕ)) → id_of_result result ≡ id → move_at s m q ≡ id_read id q.derived
      moves_so id e = reading_is q q.derived handle handles is so rest ∙ ap (λ x. id_awaited x q.derived) there ∙ ap (λ x. id_read x q.derived) e

      by_id : (id : Option (List ℕ)) → id_of_result result ≡ id → ReadTo handles q (read_by_machine id (v q))
      by_id None e = record {
        at = q;
        moves = no_move s m given q;
        why = fault.UnexpectedInvocationIdResult;
        reason = subst (λ mv. IsRefusedFor mv q.left q.queue fault.UnexpectedInvocationIdResult) (sym (moves_so None e)) refl;
        related = None;
        error = refl;
        output = refl;
        open_yet = open_after q.left;
        version = refl;
        options = refl;
      }
      by_id (Some id) e =
          let d : Derived = record q.derived { tracked = with_next_id id q.derived.tracked } in
          let to : Point = record q { answers = q.answers ++ []; derived = d } in
          let read : move_at s m q ≡ Answers [] d = moves_so (Some id) e in
          record {
            at = to;
            reached = record {
              moves = record { moves = 1; run = quiet_move s m given q to (ap (λ mv. supply (state_at given q) mv q.left) read) (ap (λ mv. moved mv q) read); answers = refl };
              left = refl;
              is = ap m (append-nil q.answers) ∙ is;
              two = two;
              rests = λ none. none;
            };
            machine = refl;
            is_cancelled = cancelled_same s q.derived d refl refl so;
            rest = unresolved-with_next_id id q.derived.tracked handle handles rest;
          }

  module _ (handle : ℕ) (handles : List ℕ) (p : Point) (is : m p.answers ≡ step.Await future) (two : HasNoTwo p) (so : is_cancelled_in s p.derived ≡ true) (rest : unresolved_handles p.derived.tracked ≡ handle ∷ handles) where
    -- the handler is still cancelled, and the same ids are known
    still : (n : ℕ) → is_cancelled_in s (arrivals_used (take n p.queue) p.derived) ≡ true
    still n = stays_cancelled (take n p.queue) p.derived so
      where
        stays_cancelled : (ns : List Notification) (d : Derived) → is_cancelled_in s d ≡ true → is_cancelled_in s (arrivals_used ns d) ≡ true
        stays_cancelled ns d h = by_option (ends_awaits s.options.implicit_cancellation) h
          where
            by_option : (b : Bool) → (b && is_some (present_in s 1 d)) ≡ true → (b && is_some (present_in s 1 (arrivals_used ns d))) ≡ true
            by_option true h = handle_stays s 1 ns d h
            by_option false h = absurd cc

    rest_at : (n : ℕ) → unresolved_handles (arrivals_used (take n p.queue) p.derived).tracked ≡ handle ∷ handles
    rest_at n = ap unresolved_handles (tracked_more (take n p.queue) p.derived) ∙ rest

    -- a leaf without a result
    no_result : (o : Option NotificationResult) → is_done (result_outcome o) ≡ false → o ≡ None
    no_result None e = refl
    no_result (Some result) e = absurd (let z : true ≡ false = sym (leaf_done (Some result)) ∙ e in cc)

    leaf_asleep : (d : Derived) → tree_wakes s (leaf handle) d ≡ false → is_done (leaf_in s d handle) ≡ false
    leaf_asleep d e = by_test (is_done (leaf_in s d handle)) e
      where
        by_test : (b : Bool) → (b || false) ≡ false → b ≡ false
        by_test true e = e
        by_test false e = refl

    asks_id : (i : ℕ) → i ≤ length p.queue → tree_wakes s (leaf handle) (arrivals_used (take i p.queue) p.derived) ≡ false → (call_of s (m p.answers) (arrivals_used (take i p.queue) p.derived) ≡ Awaits) × (awaited_tree s future (arrivals_used (take i p.queue) p.derived) ≡ leaf handle)
    asks_id i l sleeps =
        let d = arrivals_used (take i p.queue) p.derived in (
          reading_is p d handle handles is (still i) (rest_at i) ∙ ap (λ o. id_awaited o d) (no_result (present_in s handle d) (leaf_asleep d sleeps)),
          ap (λ b. if b then first_or (unresolved_handles d.tracked) (tree_of future) else if ends_awaits s.options.implicit_cancellation then or_cancelled (tree_of future) else tree_of future) (still i)
              ∙ ap (λ l. first_or l (tree_of future)) (rest_at i),
        )

    -- once the handle has a result
    has_result : (d : Derived) → tree_wakes s (leaf handle) d ≡ true → is_some (present_in s handle d) ≡ true
    has_result d e = sym (leaf_done (present_in s handle d)) ∙ by_test (is_done (leaf_in s d handle)) e
      where
        by_test : (b : Bool) → (b || false) ≡ true → b ≡ true
        by_test true e = refl
        by_test false e = e

    read_by : (first : Outcome (Result AwaitResponse Error)) → TriesTo s m given written aside p future identity is queued two (leaf handle) asks_id first → (o : Outcome (Result AwaitResponse Error)) → Behind (λ w x. x ≡ read_by_machine (option_and_then id_of_result (result_at handle w)) w) first o → ReadTo handles p o
    read_by (Done (Ok AnyCompleted) w) x o on =
        let q = uses x.count p.queue p in
        let now = reads_now handle handles q is (two_used p x.count two) (still x.count) (rest_at x.count) (present_in s handle q.derived) refl (has_result q.derived x.least.holds) in
        let same : o ≡ read_by_machine (option_and_then id_of_result (present_in s handle q.derived)) (v q) = on ∙ ap (λ (u : Machine). read_by_machine (option_and_then id_of_result (result_at handle u)) u) x.machine in
        read_behind handles p q (reached_at p is two x.count w (leaf handle) asks_id x) o (subst (ReadTo handles q) (sym same) now)
    read_by (Done (Ok CancelSignalReceived) w) x o on = absurd x
    read_by (Done (Ok (WaitingExternalProgress input run)) w) x o on = subst (ReadTo handles p) (sym on) x
    read_by (Done (Ok (ExecuteRun run)) w) x o on = subst (ReadTo handles p) (sym on) x
    read_by (Done (Ok (EphemeralNotificationReady id)) w) x o on = absurd x
    read_by (Done (Err e) w) x o on = subst (ReadTo handles p) (sym on) x
    read_by (Failed e w) x o on = subst (ReadTo handles p) (sym on) x

    reads_to : (o : Outcome (Result AwaitResponse Error)) → ReadsId handle (v p) o → ReadTo handles p o
    reads_to o (first, tries, on) = read_by first (tries_to s m given written aside p future identity is queued two (leaf handle) asks_id first tries) o on

  gathers_to : (handles : List ℕ) (p : Point) → m p.answers ≡ step.Await future → HasNoTwo p → is_cancelled_in s p.derived ≡ true → unresolved_handles p.derived.tracked ≡ handles → (o : Outcome (Result AwaitResponse Error)) → Gathers handles (v p) o → PartTo p o
  gathers_to [] p is two so rest o comes = subst (PartTo p) (sym comes) (record { at = p; reached = stays_there p is two; machine = refl; is_cancelled = so; known = rest })
  gathers_to (handle ∷ handles) p is two so rest o (first, reads, on) = behind (gathers_to handles) first (reads_to handle handles p is two so rest first reads) on
    where
      behind : ((q : Point) → m q.answers ≡ step.Await future → HasNoTwo q → is_cancelled_in s q.derived ≡ true → unresolved_handles q.derived.tracked ≡ handles → (o : Outcome (Result AwaitResponse Error)) → Gathers handles (v q) o → PartTo q o)
          → (first : Outcome (Result AwaitResponse Error)) → ReadTo handles p first → Behind (Gathers handles) first o → PartTo p o
      behind rest_to (Done (Ok AnyCompleted) w) x on = part_behind p x.at x.reached o (rest_to x.at x.reached.is x.reached.two x.is_cancelled x.rest o (subst (λ (u : Machine). Gathers handles u o) x.machine on))
      behind rest_to (Done (Ok CancelSignalReceived) w) x on = absurd x
      behind rest_to (Done (Ok (WaitingExternalProgress input run)) w) x on = subst (PartTo p) (sym on) x
      behind rest_to (Done (Ok (ExecuteRun run)) w) x on = subst (PartTo p) (sym on) x
      behind rest_to (Done (Ok (EphemeralNotificationReady id)) w) x on = absurd x
      behind rest_to (Done (Err e) w) x on = subst (PartTo p) (sym on) x
      behind rest_to (Failed e w) x on = subst (PartTo p) (sym on) x

  -- ---- where the cancel signal ends awaits

  module _ (p : Point) (is : m p.answers ≡ step.Await future) (two : HasNoTwo p) (ends : ends_awaits s.options.implicit_cancellation ≡ true) where
    cancelled_is : (d : Derived) → is_cancelled_in s d ≡ is_some (present_in s 1 d)
    cancelled_is d = ap (λ b. b && is_some (present_in s 1 d)) ends

    wakes_is : (d : Derived) → tree_wakes s (or_cancelled (tree_of future)) d ≡ (is_some (present_in s 1 d) || is_awake s future d)
    wakes_is d = or_cancelled_wakes (leaf_in s d) (tree_of future) ∙ ap (λ b. b || is_awake s future d) (leaf_done (present_in s 1 d))

    -- neither is so
    neither : (a b : Bool) → (a || b) ≡ false → (a ≡ false) × (b ≡ false)
    neither true b e = absurd cc
    neither false b e = (refl, e)

    asks_more : (i : ℕ) → i ≤ length p.queue → tree_wakes s (or_cancelled (tree_of future)) (arrivals_used (take i p.queue) p.derived) ≡ false → (call_of s (m p.answers) (arrivals_used (take i p.queue) p.derived) ≡ Awaits) × (awaited_tree s future (arrivals_used (take i p.queue) p.derived) ≡ or_cancelled (tree_of future))
    asks_more i l sleeps =
        let d = arrivals_used (take i p.queue) p.derived in
        let never = neither (is_some (present_in s 1 d)) (is_awake s future d) (sym (wakes_is d) ∙ sleeps) in
        let not : is_cancelled_in s d ≡ false = cancelled_is d ∙ never.0 in (
          move_is p d is ∙ ap (λ b. awaited s b future d) not ∙ ap (λ b. awaiting b d) never.1,
          ap (λ b. if b then first_or (unresolved_handles d.tracked) (tree_of future) else if ends_awaits s.options.implicit_cancellation then or_cancelled (tree_of future) else tree_of future) not
              ∙ ap (λ b. if b then or_cancelled (tree_of future) else tree_of future) ends,
        )

    -- it has woken: by the cancel signal, or by its tree
    ends_to : (q : Point) → m q.answers ≡ step.Await future → HasNoTwo q → tree_wakes s (or_cancelled (tree_of future)) q.derived ≡ true → (b : Bool) → is_some (present_in s 1 q.derived) ≡ b → (o : Outcome (Result AwaitResponse Error)) → EndsBy b (v q) o → PartTo q o
    ends_to q is two wakes true so o comes = gathers_to (unresolved_handles q.derived.tracked) q is two (cancelled_is q.derived ∙ so) refl o comes
    ends_to q is two wakes false never o comes =
        let awakes : is_awake s future q.derived ≡ true = ap (λ b. b || is_awake s future q.derived) (sym never) ∙ sym (wakes_is q.derived) ∙ wakes in
        subst (PartTo q) (sym comes) (answers_awake q is (cancelled_is q.derived ∙ never) awakes)

    cancels_by : (first : Outcome (Result AwaitResponse Error)) → TriesTo s m given written aside p future identity is queued two (or_cancelled (tree_of future)) asks_more first → (o : Outcome (Result AwaitResponse Error)) → Behind (λ w x. EndsBy (is_cancelled w) w x) first o → PartTo p o
    cancels_by (Done (Ok AnyCompleted) w) x o on =
        let q = uses x.count p.queue p in
        part_behind p q (reached_at p is two x.count w (or_cancelled (tree_of future)) asks_more x) o
        (ends_to q is (two_used p x.count two) x.least.holds (is_some (present_in s 1 q.derived)) refl o (subst (λ (u : Machine). EndsBy (is_cancelled u) u o) x.machine on))
    cancels_by (Done (Ok CancelSignalReceived) w) x o on = absurd x
    cancels_by (Done (Ok (WaitingExternalProgress input run)) w) x o on = subst (PartTo p) (sym on) x
    cancels_by (Done (Ok (ExecuteRun run)) w) x o on = subst (PartTo p) (sym on) x
    cancels_by (Done (Ok (EphemeralNotificationReady id)) w) x o on = absurd x
    cancels_by (Done (Err e) w) x o on = subst (PartTo p) (sym on) x
    cancels_by (Failed e w) x o on = subst (PartTo p) (sym on) x

  -- ---- the outcome of the first part

  pub part_to : (p : Point) → m p.answers ≡ step.Await future → HasNoTwo p → (b : Bool) → ends_awaits s.options.implicit_cancellation ≡ b → (o : Outcome (Result AwaitResponse Error)) → AwaitsBy b (tree_of future) (v p) o → PartTo p o
  part_to p is two true ends o (first, tries, on) = cancels_by p is two ends first (tries_to s m given written aside p future identity is queued two (or_cancelled (tree_of future)) (asks_more p is two ends) first tries) o on
  part_to p is two false never o tries = plain_to p is two never o (tries_to s m given written aside p future identity is queued two (tree_of future) (asks_plainly p is two never) o tries)
