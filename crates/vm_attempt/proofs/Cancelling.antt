-- A whole await, in a machine that agrees with a point: its outcome, and the cancel signals that a
-- cancelled one sends.
use Rattle.std.proofs.Common.{◌≡◌, ◌⊎◌, ℕ, Bool, true, false, List, [], ◌∷◌, ◌++◌, Option, Some, None, refl, sym, ap, ◌∙◌, subst, inl, inr, ⊎_elim, append-nil, Ok, Err, Result}
use Rattle.std.specs.Prelude.{◌&&◌, is_some}
use Rattle.await_trees.specs.declared.handle.NotificationHandle.{NotificationHandle}
use Rattle.await_trees.specs.declared.tree.UnresolvedFuture.{UnresolvedFuture}
use Rattle.await_trees.specs.Tree.{tree_of}
use Rattle.journal_protocol.specs.Error.{Error}
use Rattle.journal_protocol.specs.NamedFault.{NamedFault}
use Rattle.journal_protocol.specs.RawMessage.{RawMessage}
use Rattle.journal_protocol.specs.NotificationId.{NotificationId}
use Rattle.journal_protocol.specs.NotificationResult.{NotificationResult}
use Rattle.vm_state.specs.Counting.{missing_number}
use Rattle.vm_state.specs.declared.state_map.StateMap.{StateMap}
use Rattle.journal_protocol.specs.SignalDelivery.TheVariants.{Queued}
use Rattle.vm_state.specs.declared.tracked_call.TrackedCall.{TrackedCall}
use Rattle.vm_types.specs.declared.steps.Answer.TheVariants as answer
use Rattle.vm_types.specs.declared.steps.Step.TheVariants as step
use Rattle.vm_types.specs.declared.types.AwaitResponse.{AwaitResponse}
use Rattle.vm_types.specs.declared.types.AwaitResponse.TheVariants.{AnyCompleted, CancelSignalReceived, EphemeralNotificationReady, ExecuteRun, WaitingExternalProgress}
use Rattle.vm_parts.specs.Deliveries.{id_at, present_result_for, taken_by}
use Rattle.vm_types.specs.Options.{ends_awaits}
use Rattle.vm_parts.specs.Tracked.{invocation_ids, unresolved_handles, without_first_call}
use Rattle.vm_asks.specs.declared.command.Command.{Command}
use Rattle.vm_machine.specs.declared.machine.Machine.{Machine}
use Rattle.vm_asks.specs.Asks.{ask_of, cancel_invocation_command, command_answer}
use Rattle.vm_awaits.specs.Awaits.{Awaits, AwaitsAt}
use Rattle.vm_awaits.specs.Cancels.{AwaitsWhole, Cancels, Onward, SendsCancel, cancel_taken}
use Rattle.vm_machine.specs.Commands.{CanBeRead, commanded}
use Rattle.vm_machine.specs.Outcomes.{CalledBy, DoesBy, Done, Failed, IsStarved, Outcome, called, failed, ruled}
use Rattle.vm_model.specs.Calls.{Demand, Derived, Meaning, Move, Setup, cancel_sent, cancelling, cancelled, identity_of, is_cancelled_in, numbered}
use Rattle.vm_model.specs.Calls as model
use Rattle.vm_model.specs.Calls.Move.{Answers}
use Rattle.vm_model.specs.Cancels.{present_in}
use Rattle.vm_model.specs.Deliveries.{HasNoTwo}
use Rattle.vm_model.specs.Moves.{Point, command_used, found, longer, move_at, moved, next, supplied, supply}
use Rattle.vm_model.specs.Histories.{Handed, Made}
use Rattle.vm_model.specs.Refusals.{IsRefusedFor}
use Rattle.vm_model.proofs.Cancelling.{Sent, cancelled_same, sends_unless}
use Rattle.vm_attempt.specs.Agreement.{Answered, Aside, CallFollows, IsCutShort, CallRefused, MakesMany, MovesOn, command_frames, machine_at}
use Rattle.vm_attempt.specs.declared.progress.Reply.{Reply}
use Rattle.vm_attempt.specs.Steps.{Awaited, IfDone, await_reply}
use Rattle.vm_model.proofs.Parts.{taken_keeps}
use Rattle.vm_attempt.proofs.Awaiting.{IsGathered, PartTo, part_to}
use Rattle.vm_attempt.proofs.Behind.{answered_behind, either_behind, settled_done, settled_failed}
use Rattle.vm_attempt.proofs.Commanding.{LeadsOn, commands_follow}
use Rattle.vm_attempt.proofs.Leading.{Leads, error_written, no_move, one_move, same_rule, state_at, with_beside, with_frames}
use Rattle.vm_attempt.proofs.Requesting.{runs_at}
use Rattle.vm_attempt.proofs.Waiting.{RefusesAt, quiet_move}

-- ---- outcomes

if_done : {A : Type 0} (o : Outcome A) (P : Type 0) → P → IfDone o P
if_done (Done a w) P h = h
if_done (Failed e w) P h = tt

failed_done : {A : Type 0} (o : Outcome A) (P : Type 0) (e : Error) (w : Machine) → o ≡ Failed e w → IfDone o P
failed_done o P e w h = subst (λ x. IfDone x P) (sym h) tt

-- what was answered, or else this
ok_in : Result AwaitResponse Error → Result (Result AwaitResponse Error) Error → Result AwaitResponse Error
ok_in d (Ok a) = a
ok_in d (Err e) = d

err_in : Error → Result (Result AwaitResponse Error) Error → Error
err_in d (Ok a) = d
err_in d (Err e) = e

-- ---- one cancel command

-- the calls after the first, if all their ids are known
others_known : (ts : List TrackedCall) (id : List ℕ) (ids : List (List ℕ)) → unresolved_handles ts ≡ [] → invocation_ids ts ≡ id ∷ ids → (unresolved_handles (without_first_call ts) ≡ []) × (invocation_ids (without_first_call ts) ≡ ids)
others_known [] id ids e f = absurd (cc)
others_known (t ∷ ts) id ids e f = by_id t.invocation_id e f
  where
    call : Option (List ℕ) → TrackedCall
    call o = record { handle = t.handle; invocation_id = o }

    by_id : (o : Option (List ℕ)) → unresolved_handles (record { handle = t.handle; invocation_id = o } ∷ ts) ≡ [] → invocation_ids (record { handle = t.handle; invocation_id = o } ∷ ts) ≡ id ∷ ids → (unresolved_handles ts ≡ []) × (invocation_ids ts ≡ ids)
    by_id None e f = absurd (cc)
    by_id (Some known) e f = (e, cc)

-- The same command, as a call of its own at the point without tracked calls, and in the await.
module _ (s : Setup) (p : Point) (id : List ℕ) where
  abbrev bare : Point
  bare = record p { derived = record p.derived { tracked = [] } }

  abbrev alone : Option NamedFault → Move
  alone o = numbered s (cancel_invocation_command id) o bare.derived

  abbrev within : Option NamedFault → Move
  within o = cancel_sent s id o p.derived

  -- the point after it, in the await
  abbrev back : Point → Point
  back q = record q { answers = p.answers ++ []; derived = record q.derived { tracked = without_first_call p.derived.tracked } }

  supplies_same : (state : StateMap) (o : Option NamedFault) (left : List RawMessage) → supply state (within o) left ≡ supply state (alone o) left
  supplies_same state None [] = refl
  supplies_same state None (c ∷ left) = refl
  supplies_same state (Some name) [] = refl
  supplies_same state (Some name) (c ∷ left) = refl

  refused_same : (o : Option NamedFault) (left : List RawMessage) (why : NamedFault) → IsRefusedFor (alone o) left p.queue why → IsRefusedFor (within o) left p.queue why
  refused_same None [] why h = absurd h
  refused_same None (c ∷ left) why h = h
  refused_same (Some name) [] why h = h
  refused_same (Some name) (c ∷ left) why h = h

  some_same : (x q : Point) → Some x ≡ Some q → x ≡ q
  some_same x q h = cc

  not_some : {P : Type 0} (q : Point) → None ≡ Some q → P
  not_some q h = absurd (cc)

  demand : Demand
  demand = model.demand_of s (cancel_invocation_command id) p.derived

  used_same : (o : Result (Option NotificationResult) NamedFault) (left whole : List RawMessage) (q : Point) → command_used o demand (command_answer (cancel_invocation_command id).message (record { 0 = p.derived.counters.handle }) ∷ []) (record (model.counted 0 bare.derived) { tracked = [] }) left (record bare { left = whole }) ≡ Some q
      → (command_used o demand [] (record (model.counted 0 p.derived) { tracked = without_first_call p.derived.tracked }) left (record p { left = whole }) ≡ Some (back q)) × (q.derived.tracked ≡ []) × (q.derived.parts ≡ p.derived.parts)
  used_same (Err name) left whole q h = not_some q h
  used_same (Ok None) left whole q h =
      let e = some_same _ q h in
      (ap (λ (x : Point). Some (back x)) e, ap (λ (x : Point). x.derived.tracked) (sym e), ap (λ (x : Point). x.derived.parts) (sym e))
  used_same (Ok (Some result)) left whole q h =
      let e = some_same _ q h in
      (ap (λ (x : Point). Some (back x)) e, ap (λ (x : Point). x.derived.tracked) (sym e), ap (λ (x : Point). x.derived.parts) (sym e))

  moves_same : (o : Option NamedFault) (whole : List RawMessage) (q : Point) → moved (alone o) (record bare { left = whole }) ≡ Some q → (moved (within o) (record p { left = whole }) ≡ Some (back q)) × (q.derived.tracked ≡ []) × (q.derived.parts ≡ p.derived.parts)
  unfolding demand
  moves_same (Some name) whole q h = not_some q h
  moves_same None [] q h = not_some q h
  moves_same None (c ∷ left) q h = used_same (found demand c) left (c ∷ left) q h

module _ (s : Setup) (m : Meaning) (given : StateMap) (future : UnresolvedFuture) where
  -- an await may make more than one command
  many_there : (p : Point) → m p.answers ≡ step.Await future → MakesMany (ask_of s.version (m p.answers))
  many_there p is = subst (λ st. MakesMany (ask_of s.version st)) (sym is) tt

  -- the machine at a point, with no tracked call left
  abbrev cleared : List RawMessage → Aside → Point → Machine
  cleared written aside p = record (machine_at s given written aside p) { tracked = [] }

  -- the await sends its cancel signals next, to these invocations
  pub record Cancelling (p : Point) (ids : List (List ℕ)) : Type 0 where
    pub is : m p.answers ≡ step.Await future
    pub is_cancelled : is_cancelled_in s p.derived ≡ true
    pub known : unresolved_handles p.derived.tracked ≡ []
    pub ids_are : invocation_ids p.derived.tracked ≡ ids

  -- one was sent
  pub record HasSent (written : List RawMessage) (aside : Aside) (p : Point) (ids : List (List ℕ)) (w : Machine) : Type 0 where
    pub at : Point
    pub made : List RawMessage
    pub moves : MovesOn s m given p [] made at
    pub beside : Aside
    pub machine : w ≡ cleared (written ++ made) beside at
    pub output : beside.output ≡ aside.output ++ command_frames made
    pub start : beside.start ≡ aside.start
    pub kept : beside.proposals ≡ aside.proposals
    pub rests : p.derived.parts ≡ 0 → at.derived.parts ≡ 0
    pub cancelling : Cancelling at ids

  abbrev SentTo : List RawMessage → Aside → Point → List (List ℕ) → Result NotificationHandle Error → Machine → Type 0
  SentTo written aside p ids (Ok handle) w = HasSent written aside p ids w
  SentTo written aside p ids (Err e) w = CallRefused s m given p (cleared written aside p) e w ⊎ IsCutShort s m given p (cleared written aside p) e w

  module _ (written : List RawMessage) (aside : Aside) (identity : s.identity ≡ identity_of aside.start) (p : Point) (id : List ℕ) (ids : List (List ℕ)) (c : Cancelling p (id ∷ ids)) where
    abbrev command : Command
    command = cancel_invocation_command id

    abbrev lacks : Option NamedFault
    lacks = missing_number 0 0 0 p.derived.counters

    abbrev v : Machine
    v = cleared written aside p

    abbrev state : StateMap
    state = state_at given p

    -- the move of the await
    move_is : move_at s m p ≡ within s p id lacks
    move_is = ap (λ st. model.call_of s st p.derived) c.is ∙ ap (λ b. model.awaited s b future p.derived) c.is_cancelled ∙ ap (λ l. cancelled s l p.derived) c.known ∙ ap (λ l. cancelling s l p.derived) c.ids_are

    abbrev brought : List RawMessage
    brought = supply state (alone s p id lacks) p.left

    supplies_is : supplied s m state p ≡ brought
    supplies_is = ap (λ mv. supply state mv p.left) move_is ∙ supplies_same s p id state lacks p.left

    -- where the command by itself leads, the await's move leads
    leads_to : (q : Point) → moved (alone s p id lacks) (longer brought (bare s p id)) ≡ Some q → next s m (longer (supplied s m state p) p) ≡ Some (back s p id q)
    leads_to q h = ap (λ l. next s m (longer l p)) supplies_is ∙ ap (λ mv. moved mv (longer brought p)) move_is ∙ (moves_same s p id lacks (p.left ++ brought) q h).0

    sent_so : (q : Point) → moved (alone s p id lacks) (longer brought (bare s p id)) ≡ Some q → Sent s id (longer brought p) (back s p id q)
    sent_so q h = sends_unless s m (longer brought p) (back s p id q) id lacks (moves_same s p id lacks (p.left ++ brought) q h).0

    done_so : (handle : NotificationHandle) (w : Machine) (to : Option Point) → moved (alone s p id lacks) (longer brought (bare s p id)) ≡ to
        → Leads s given written aside (bare s p id) (alone s p id lacks) p.left brought (λ a. command_answer command.message a ∷ []) to (Done handle w) → HasSent written aside p ids w
    done_so handle w None e g = absurd g
    done_so handle w (Some q) e g =
        let r = back s p id q in
        let sent = sent_so q e in
        let others = others_known p.derived.tracked id ids c.known c.ids_are in
        let none : q.derived.tracked ≡ [] = (moves_same s p id lacks (p.left ++ brought) q e).1 in
        let beside = with_beside g.1.0 (with_frames brought aside) in
        record {
          at = r;
          made = brought;
          moves = record { moves = 1; run = subst (λ l. Made s m (Handed given) 1 p l r) supplies_is (one_move s m given p r (leads_to q e)); answers = refl };
          beside = beside;
          machine = g.1.1 ∙ (λ i. record (machine_at s given (written ++ brought) beside q) { tracked = none i });
          output = refl;
          start = refl;
          kept = refl;
          rests = λ none. (moves_same s p id lacks (p.left ++ brought) q e).2 ∙ none;
          cancelling = record {
            is = ap m (append-nil p.answers) ∙ c.is;
            is_cancelled = cancelled_same s p.derived r.derived sent.handles sent.usage c.is_cancelled;
            known = others.0;
            ids_are = others.1;
          };
        }

    failed_so : (f : Error) (w : Machine) (to : Option Point) → moved (alone s p id lacks) (longer brought (bare s p id)) ≡ to
        → Leads s given written aside (bare s p id) (alone s p id lacks) p.left brought (λ a. command_answer command.message a ∷ []) to (Failed f w) → CallRefused s m given p v (ruled w f) (failed (ruled w f) w)
    failed_so f w (Some q) e g = absurd g
    failed_so f w None e g = record {
      at = p;
      made = [];
      none_before = inl refl;
      moves = no_move s m given p;
      why = g.why;
      reason = subst (λ x. IsRefusedFor x p.left p.queue g.why) (sym move_is) (refused_same s p id lacks p.left g.why g.reason);
      related = g.related;
      error = same_rule v w f g.version g.options ∙ ap (ruled v) g.error;
      output = error_written (ruled w f) w aside.output g.output g.open_yet;
      failure = refl;
    }

    abbrev Readable : Type 0
    Readable = CanBeRead command.message v

    follows : IfDone (commanded command v) Readable → LeadsOn s given written aside (bare s p id) (command_answer command.message) (alone s p id lacks) (commanded command v)
    follows own = commands_follow s given written aside (bare s p id) command refl None own

    sent_to : (sent : Result NotificationHandle Error) (w : Machine) → SendsCancel id sent v w → SentTo written aside p ids sent w
    unfolding called
    sent_to (Ok handle) w (does, readable) =
        let o = settled_done (commanded command v) handle w does in
        done_so handle w (moved (alone s p id lacks) (longer brought (bare s p id))) refl
        (subst (λ (x : Outcome NotificationHandle). Leads s given written aside (bare s p id) (alone s p id lacks) p.left brought (λ a. command_answer command.message a ∷ []) (moved (alone s p id lacks) (longer brought (bare s p id))) x) o (follows (if_done (commanded command v) Readable readable)))
    sent_to (Err e) w (does, readable) = ⊎_elim
        (λ (x : called (commanded command v) v ≡ Failed e w).
        let f = settled_failed (commanded command v) e w x in
        let g = follows (failed_done (commanded command v) Readable f.0 f.1 f.2) in
        let refusal = failed_so f.0 f.1 (moved (alone s p id lacks) (longer brought (bare s p id))) refl
        (subst (λ (x : Outcome NotificationHandle). Leads s given written aside (bare s p id) (alone s p id lacks) p.left brought (λ a. command_answer command.message a ∷ []) (moved (alone s p id lacks) (longer brought (bare s p id))) x) f.2 g) in
        inl (subst (λ (z : Error × Machine). CallRefused s m given p v z.0 z.1) (λ i. (sym f.3 i, sym f.4 i)) refusal))
        (λ (x : IsStarved v e w). inr (record { at = p; made = []; none_before = inl refl; moves = no_move s m given p; many = many_there p c.is; error = x.error; output = x.output ∙ sym (append-nil aside.output); failure = x.failure ∙ ap Some (sym x.error) }))
        does

  -- ---- all of them

  -- the outcome of a cancelled await, from its first cancel signal on
  abbrev CancelsTo : List RawMessage → Aside → Point → Result (Result AwaitResponse Error) Error → Machine → Type 0
  CancelsTo written aside p (Ok (Ok CancelSignalReceived)) w = Answered s m given written p (cleared written aside p) answer.Cancelled w
  CancelsTo written aside p (Ok (Ok AnyCompleted)) w = ⊥
  CancelsTo written aside p (Ok (Ok (WaitingExternalProgress input run))) w = ⊥
  CancelsTo written aside p (Ok (Ok (ExecuteRun run))) w = ⊥
  CancelsTo written aside p (Ok (Ok (EphemeralNotificationReady id))) w = ⊥
  CancelsTo written aside p (Ok (Err e)) w = ⊥
  CancelsTo written aside p (Err e) w = CallRefused s m given p (cleared written aside p) e w ⊎ IsCutShort s m given p (cleared written aside p) e w

  cancels_behind : (written : List RawMessage) (aside : Aside) (p : Point) (ids : List (List ℕ)) (mid : Machine) (x : HasSent written aside p ids mid) (r : Result (Result AwaitResponse Error) Error) (w : Machine) → CancelsTo (written ++ x.made) x.beside x.at r w → CancelsTo written aside p r w
  cancels_behind written aside p ids mid x (Ok (Ok CancelSignalReceived)) w h = answered_behind s m given written p x.at x.made (cleared written aside p) (cleared (written ++ x.made) x.beside x.at) x.moves x.output x.kept answer.Cancelled w h (λ none. h.rests (x.rests none))
  cancels_behind written aside p ids mid x (Ok (Ok AnyCompleted)) w h = absurd h
  cancels_behind written aside p ids mid x (Ok (Ok (WaitingExternalProgress input run))) w h = absurd h
  cancels_behind written aside p ids mid x (Ok (Ok (ExecuteRun run))) w h = absurd h
  cancels_behind written aside p ids mid x (Ok (Ok (EphemeralNotificationReady id))) w h = absurd h
  cancels_behind written aside p ids mid x (Ok (Err e)) w h = absurd h
  cancels_behind written aside p ids mid x (Err e) w h = either_behind s m given p x.at x.made (cleared written aside p) (cleared (written ++ x.made) x.beside x.at) x.moves x.output refl refl e w h

  -- the last: the await is answered, and one result of the cancel handle is taken
  module _ (written : List RawMessage) (aside : Aside) (identity : s.identity ≡ identity_of aside.start) (p : Point) (c : Cancelling p []) where
    abbrev behind : Option NotificationId → Point
    behind id = record p { answers = p.answers ++ answer.Cancelled ∷ []; derived = model.with_cancel_taken id (record p.derived { tracked = [] }) }

    takes_so : (id : Option NotificationId) (o : Option NotificationResult) → id_at 1 p.derived.handles ≡ id → is_some o ≡ true → present_result_for s.options.signal_delivery id (model.ready_in s p.derived) ≡ o
        → record (cleared written aside p) { results = taken_by s.options.signal_delivery 1 id o (cleared written aside p).results } ≡ machine_at s given written aside (behind id)
    takes_so None o at some there = absurd (let z : true ≡ false = sym some ∙ ap is_some (sym there) in cc)
    takes_so (Some id) None at some there = absurd cc
    takes_so (Some id) (Some result) at some there = refl

    some_there : is_some (present_in s 1 p.derived) ≡ true
    some_there = by_option (ends_awaits s.options.implicit_cancellation) c.is_cancelled
      where
        by_option : (b : Bool) → (b && is_some (present_in s 1 p.derived)) ≡ true → is_some (present_in s 1 p.derived) ≡ true
        by_option true h = h
        by_option false h = absurd cc

    move_is_last : move_at s m p ≡ Answers (answer.Cancelled ∷ []) (model.with_cancel_taken (id_at 1 p.derived.handles) (record p.derived { tracked = [] }))
    move_is_last = ap (λ st. model.call_of s st p.derived) c.is ∙ ap (λ b. model.awaited s b future p.derived) c.is_cancelled ∙ ap (λ l. cancelled s l p.derived) c.known ∙ ap (λ l. cancelling s l p.derived) c.ids_are

    answers_cancelled : (w : Machine) → w ≡ cancel_taken (cleared written aside p) → Answered s m given written p (cleared written aside p) answer.Cancelled w
    answers_cancelled w is =
        let to = behind (id_at 1 p.derived.handles) in
        let there = is ∙ takes_so (id_at 1 p.derived.handles) (present_in s 1 p.derived) refl some_there refl in
        record {
          at = to;
          made = [];
          none_before = inl refl;
          moves = record { moves = 1; run = quiet_move s m given p to (ap (λ mv. supply (state_at given p) mv p.left) move_is_last) (ap (λ mv. moved mv p) move_is_last); answers = refl };
          agrees = record { aside = aside; machine = there ∙ (λ i. machine_at s given (sym (append-nil written) i) aside to); identity = identity };
          kept = ap (λ (x : Machine). x.proposals) there;
          output = ap (λ (x : Machine). x.output) there ∙ sym (append-nil aside.output);
          rests = λ none. taken_keeps (id_at 1 p.derived.handles) (record p.derived { tracked = [] }) ∙ none;
        }

  cancels_to : (ids : List (List ℕ)) (written : List RawMessage) (aside : Aside) → s.identity ≡ identity_of aside.start → (p : Point) → Cancelling p ids → (r : Result (Result AwaitResponse Error) Error) (w : Machine) → Cancels ids r (cleared written aside p) w → CancelsTo written aside p r w
  cancels_to [] written aside identity p c r w (answered, machine) = subst (λ x. CancelsTo written aside p x w) (sym answered) (answers_cancelled written aside identity p c w machine)
  cancels_to (id ∷ ids) written aside identity p c r w (sent, mid, sends, on) = by_sent (cancels_to ids) sent (sent_to written aside identity p id ids c sent mid sends) on
    where
      by_sent : ((written : List RawMessage) (aside : Aside) → s.identity ≡ identity_of aside.start → (p : Point) → Cancelling p ids → (r : Result (Result AwaitResponse Error) Error) (w : Machine) → Cancels ids r (cleared written aside p) w → CancelsTo written aside p r w)
          → (sent : Result NotificationHandle Error) → SentTo written aside p ids sent mid → Onward (Cancels ids) sent r mid w → CancelsTo written aside p r w
      by_sent more (Ok handle) x on = cancels_behind written aside p ids mid x r w (more (written ++ x.made) x.beside (identity ∙ ap identity_of (sym x.start)) x.at x.cancelling r w (subst (λ (u : Machine). Cancels ids r u w) x.machine on))
      by_sent more (Err e) x on = subst (λ (z : Result (Result AwaitResponse Error) Error × Machine). CancelsTo written aside p z.0 z.1) (λ i. (sym on.0 i, sym on.1 i)) x

-- ---- the whole call

module _ (s : Setup) (m : Meaning) (given : StateMap) (written : List RawMessage) (aside : Aside) (p : Point) (future : UnresolvedFuture) (identity : s.identity ≡ identity_of aside.start) (is : m p.answers ≡ step.Await future) (queued : s.options.signal_delivery ≡ Queued) (two : HasNoTwo p) where
  abbrev here : Machine
  here = machine_at s given written aside p

  abbrev Part : Outcome (Result AwaitResponse Error) → Type 0
  Part = PartTo s m given written aside future identity queued p

  -- an event of the first part
  part_so : (event : Outcome (Result AwaitResponse Error)) → Awaits (tree_of future) here event → Part event
  part_so event comes = part_to s m given written aside future identity queued p is two (ends_awaits s.options.implicit_cancellation) refl event (subst (λ b. AwaitsAt b (tree_of future) here event) (runs_at p.left) comes)

  -- the first part was answered
  first_done : (a : Result AwaitResponse Error) (mid : Machine) → DoesBy (CalledBy (Awaits (tree_of future) here) here) (Ok a) here mid → Part (Done a mid)
  first_done a mid (event, comes, does) = subst Part (settled_done event a mid (sym does)) (part_so event comes)

  refusal : (f : Error) (x : Machine) → RefusesAt s m given p here f x → CallRefused s m given p here (ruled x f) (failed (ruled x f) x)
  refusal f x h = record {
    at = h.at;
    made = [];
    none_before = inl refl;
    moves = h.moves;
    why = h.why;
    reason = h.reason;
    related = h.related;
    error = same_rule here x f h.version h.options ∙ ap (ruled here) h.error;
    output = error_written (ruled x f) x aside.output h.output h.open_yet;
    failure = refl;
  }

  -- the first part failed, or found no memory
  first_failed : (e : Error) (mid : Machine) → DoesBy (CalledBy (Awaits (tree_of future) here) here) (Err e) here mid → CallRefused s m given p here e mid ⊎ IsCutShort s m given p here e mid
  first_failed e mid does = ⊎_elim
      (λ (x : CalledBy (Awaits (tree_of future) here) here (Failed e mid)).
      let f = settled_failed x.0 e mid (sym x.2) in
      inl (subst (λ (z : Error × Machine). CallRefused s m given p here z.0 z.1) (λ i. (sym f.3 i, sym f.4 i)) (refusal f.0 f.1 (subst Part f.2 (part_so x.0 x.1)))))
      (λ (x : IsStarved here e mid). inr (record { at = p; made = []; none_before = inl refl; moves = no_move s m given p; many = subst (λ st. MakesMany (ask_of s.version st)) (sym is) tt; error = x.error; output = x.output ∙ sym (append-nil aside.output); failure = x.failure ∙ ap Some (sym x.error) }))
      does

  -- the cancel signals are sent
  whole_cancels : (mid : Machine) (r : Result (Result AwaitResponse Error) Error) (w : Machine) → (x : IsGathered s m given written aside future identity queued p mid) → Cancels (invocation_ids mid.tracked) r (record mid { tracked = [] }) w → CancelsTo s m given future written aside x.at r w
  whole_cancels mid r w x on =
      let c : Cancelling s m given future x.at (invocation_ids x.at.derived.tracked) = record { is = x.reached.is; is_cancelled = x.is_cancelled; known = x.known; ids_are = refl } in
      cancels_to s m given future (invocation_ids x.at.derived.tracked) written aside identity x.at c r w (subst (λ (u : Machine). Cancels (invocation_ids u.tracked) r (record u { tracked = [] }) w) x.machine on)

  answered_so : (a : Result AwaitResponse Error) (w : Machine) → AwaitsWhole (tree_of future) (Ok a) here w → CallFollows s m given written p here (Done (await_reply a) w)
  unfolding ok_in
  answered_so a w (Err e, mid, does, fin) = absurd (let z : Ok a ≡ Err e = fin.0 in cc)
  answered_so a w (Ok (Ok AnyCompleted), mid, does, fin) = subst (λ (z : Result AwaitResponse Error × Machine). CallFollows s m given written p here (Done (await_reply z.0) z.1)) (λ i. (sym (ap (ok_in a) fin.0) i, sym fin.1 i)) (first_done (Ok AnyCompleted) mid does)
  answered_so a w (Ok (Ok (WaitingExternalProgress input run)), mid, does, fin) = subst (λ (z : Result AwaitResponse Error × Machine). CallFollows s m given written p here (Done (await_reply z.0) z.1)) (λ i. (sym (ap (ok_in a) fin.0) i, sym fin.1 i)) (first_done (Ok (WaitingExternalProgress input run)) mid does)
  answered_so a w (Ok (Ok (ExecuteRun run)), mid, does, fin) = subst (λ (z : Result AwaitResponse Error × Machine). CallFollows s m given written p here (Done (await_reply z.0) z.1)) (λ i. (sym (ap (ok_in a) fin.0) i, sym fin.1 i)) (first_done (Ok (ExecuteRun run)) mid does)
  answered_so a w (Ok (Ok (EphemeralNotificationReady id)), mid, does, fin) = absurd (first_done (Ok (EphemeralNotificationReady id)) mid does)
  answered_so a w (Ok (Err e), mid, does, fin) = subst (λ (z : Result AwaitResponse Error × Machine). CallFollows s m given written p here (Done (await_reply z.0) z.1)) (λ i. (sym (ap (ok_in a) fin.0) i, sym fin.1 i)) (first_done (Err e) mid does)
  answered_so a w (Ok (Ok CancelSignalReceived), mid, does, fin) = by_answer a (whole_cancels mid (Ok a) w x fin)
    where
      x : IsGathered s m given written aside future identity queued p mid
      x = first_done (Ok CancelSignalReceived) mid does

      by_answer : (a : Result AwaitResponse Error) → CancelsTo s m given future written aside x.at (Ok a) w → CallFollows s m given written p here (Done (await_reply a) w)
      by_answer (Ok CancelSignalReceived) h =
          let g = subst (λ l. Answered s m given l x.at (cleared s m given future written aside x.at) answer.Cancelled w) (sym (append-nil written)) h in
          answered_behind s m given written p x.at [] here (cleared s m given future written aside x.at) x.reached.moves (sym (append-nil aside.output)) refl answer.Cancelled w g (λ none. g.rests (x.reached.rests none))
      by_answer (Ok AnyCompleted) h = absurd h
      by_answer (Ok (WaitingExternalProgress input run)) h = absurd h
      by_answer (Ok (ExecuteRun run)) h = absurd h
      by_answer (Ok (EphemeralNotificationReady id)) h = absurd h
      by_answer (Err e) h = absurd h

  failed_as : (e : Error) (w : Machine) → AwaitsWhole (tree_of future) (Err e) here w → CallRefused s m given p here e w ⊎ IsCutShort s m given p here e w
  unfolding err_in
  failed_as e w (Err d, mid, does, fin) = subst (λ (z : Error × Machine). CallRefused s m given p here z.0 z.1 ⊎ IsCutShort s m given p here z.0 z.1) (λ i. (sym (ap (err_in e) fin.0) i, sym fin.1 i)) (first_failed d mid does)
  failed_as e w (Ok (Ok AnyCompleted), mid, does, fin) = absurd (let z : Err e ≡ Ok (Ok AnyCompleted) = fin.0 in cc)
  failed_as e w (Ok (Ok (WaitingExternalProgress input run)), mid, does, fin) = absurd (let z : Err e ≡ Ok (Ok (WaitingExternalProgress input run)) = fin.0 in cc)
  failed_as e w (Ok (Ok (ExecuteRun run)), mid, does, fin) = absurd (let z : Err e ≡ Ok (Ok (ExecuteRun run)) = fin.0 in cc)
  failed_as e w (Ok (Ok (EphemeralNotificationReady id)), mid, does, fin) = absurd (let z : Err e ≡ Ok (Ok (EphemeralNotificationReady id)) = fin.0 in cc)
  failed_as e w (Ok (Err d), mid, does, fin) = absurd (let z : Err e ≡ Ok (Err d) = fin.0 in cc)
  failed_as e w (Ok (Ok CancelSignalReceived), mid, does, fin) =
      let x : IsGathered s m given written aside future identity queued p mid = first_done (Ok CancelSignalReceived) mid does in
      either_behind s m given p x.at [] here (cleared s m given future written aside x.at) x.reached.moves (sym (append-nil aside.output)) refl refl e w (whole_cancels mid (Err e) w x fin)

  -- an await does what its moves lead to
  pub awaits_follow : (o : Outcome Reply) → Awaited future here o → CallFollows s m given written p here o
  awaits_follow (Done given_reply w) (a, whole, replied) = subst (λ (x : Reply). CallFollows s m given written p here (Done x w)) (sym replied) (answered_so a w whole)
  awaits_follow (Failed e w) whole = failed_as e w whole
