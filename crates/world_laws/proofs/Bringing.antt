-- The values of answers are those of results that came.
use Rattle.std.proofs.Common.{◌≡◌, ℕ, zero, suc, Bool, true, false, cond, List, [], ◌∷◌, ◌++◌, Option, Some, None, refl, sym, ap, ◌∙◌, subst, append_assoc}
use Rattle.std.specs.Prelude.{Result, Ok, Err}
use Rattle.std.specs.List.{AllByRecursion}
use Rattle.std.specs.Option.{option_or}
use Rattle.std.proofs.lemmas.Option.{same_Some}
use Rattle.journal_entries.specs.Journal.{Entry, notifications_in}
use Rattle.journal_protocol.specs.InputCommand.{InputCommand}
use Rattle.journal_protocol.specs.NamedFault.{NamedFault}
use Rattle.journal_protocol.specs.Notification.{Notification}
use Rattle.journal_protocol.specs.NotificationId.{NotificationId}
use Rattle.journal_protocol.specs.NotificationId.TheVariants.{CompletionId}
use Rattle.journal_protocol.specs.NotificationResult.{NotificationResult}
use Rattle.journal_protocol.specs.RawMessage.{RawMessage}
use Rattle.journal_protocol.specs.SignalDelivery.{SignalDelivery}
use Rattle.await_arrivals.specs.Results.{first, newest, newest_after, results_of, without_all, without_oldest}
use Rattle.await_trees.specs.declared.handle.NotificationHandle.{NotificationHandle}
use Rattle.await_trees.specs.declared.tree.UnresolvedFuture.{UnresolvedFuture}
use Rattle.vm_types.specs.declared.steps.Answer.{Answer}
use Rattle.vm_types.specs.declared.steps.Answer.TheVariants as answer
use Rattle.vm_types.specs.declared.values.Value.{Value}
use Rattle.vm_types.specs.Options.{skips_replay}
use Rattle.vm_types.specs.Values.{id_of_value, value_of}
use Rattle.vm_state.specs.declared.state_map.StateMap.{StateMap}
use Rattle.vm_state.specs.declared.tracked_call.TrackedCall.{TrackedCall}
use Rattle.vm_parts.specs.Arrived.{Ready}
use Rattle.vm_state.specs.Counting.{missing_number, missing_signals}
use Rattle.vm_parts.specs.Deliveries.{id_at, is_listed, left_among, present_among, present_result_for, same_id}
use Rattle.vm_parts.specs.Tracked.{id_noted, id_of_result, invocation_ids, unresolved_handles}
use Rattle.vm_asks.specs.declared.asks.Ask.{Ask}
use Rattle.vm_asks.specs.declared.asks.Ask.TheVariants as ask
use Rattle.vm_asks.specs.declared.asks.AnswerKind.{AnswerKind}
use Rattle.vm_asks.specs.declared.asks.AnswerKind.TheVariants as kind
use Rattle.vm_asks.specs.declared.command.Command.{Command}
use Rattle.vm_asks.specs.declared.state_read.StateRead.{StateRead}
use Rattle.vm_asks.specs.Asks.{answer_by, answer_kind, ask_of}
use Rattle.vm_asks.specs.Requests.{ids_of}
use Rattle.vm_model.specs.Calls.{Demand, Derived, Meaning, Move, Setup, Turn, Usage, asked, awaited, awaiting, awakeable_made, behind_command, cancel_sent, cancelled, cancelling, commanding, id_awaited, id_read, is_awake, is_cancelled_in, making_awakeable, numbered, part, part_unless, reading, ready_by_usage, ready_in, refused_before, signal_made, take_noting_id, take_of_result, take_of_value, turn_after, with_cancel_taken}
use Rattle.vm_model.specs.Calls.Demand.{Exactly, Reads}
use Rattle.vm_model.specs.Calls.Move.{Answers, Needs, Awaits, Ends, Refuses}
use Rattle.vm_model.specs.Calls.Usage.{Used, Read, Taken}
use Rattle.vm_model.specs.Histories.{History}
use Rattle.vm_model.specs.Moves.{Point, after, command_used, found, move_at, moved, next, start, uses_arrival, uses_command, with_read_result}
use Rattle.vm_model.proofs.Cancelling.{exactly_none}
use Rattle.vm_model.proofs.Runs.{and_then_some, none_some}
use Rattle.world_laws.specs.Values.{ValueCame, HasValueBy, ResultCame, StandsIn}
use Rattle.world_laws.specs.Values.ResultCame.{Notified, Recorded}

-- ---- lists

each_join : {A : Type 0} (P : A → Type 0) (xs ys : List A) → AllByRecursion P xs → AllByRecursion P ys → AllByRecursion P (xs ++ ys)
each_join P [] ys h k = k
each_join P (x ∷ xs) ys h k = (h.0, each_join P xs ys h.1 k)

stands_behind : {A : Type 0} (front xs : List A) → AllByRecursion (λ x. StandsIn x (front ++ xs)) xs
stands_behind front [] = tt
stands_behind front (x ∷ xs) = ((front, xs, refl), subst (λ l. AllByRecursion (λ y. StandsIn y l) xs) (append_assoc front (x ∷ []) xs) (stands_behind (front ++ x ∷ []) xs))

each_map : {A : Type 0} (P Q : A → Type 0) → ((x : A) → P x → Q x) → (xs : List A) → AllByRecursion P xs → AllByRecursion Q xs
each_map P Q f [] h = tt
each_map P Q f (x ∷ xs) h = (f x h.0, each_map P Q f xs h.1)

module _ (P : NotificationResult → Type 0) where
  abbrev EachHas : List Notification → Type 0
  EachHas ns = AllByRecursion (λ n. P n.result) ns

  -- ---- results that are ready

  oldest_gone : (id : NotificationId) (ns : List Notification) → EachHas ns → EachHas (without_oldest id ns)
  oldest_gone id [] h = tt
  oldest_gone id (n ∷ ns) h = by_test (same_id n.id id) (oldest_gone id ns h.1)
    where
      by_test : (b : Bool) → EachHas (without_oldest id ns) → EachHas (cond b ns (n ∷ without_oldest id ns))
      by_test true k = h.1
      by_test false k = (h.0, k)

  all_gone : (id : NotificationId) (ns : List Notification) → EachHas ns → EachHas (without_all id ns)
  all_gone id [] h = tt
  all_gone id (n ∷ ns) h = by_test (same_id n.id id) (all_gone id ns h.1)
    where
      by_test : (b : Bool) → EachHas (without_all id ns) → EachHas (cond b (without_all id ns) (n ∷ without_all id ns))
      by_test true k = k
      by_test false k = (h.0, k)

  some_left : (delivery : SignalDelivery) (id : NotificationId) (ns : List Notification) → EachHas ns → EachHas (left_among delivery id ns)
  some_left delivery id ns h = by_test (is_listed delivery id)
    where
      by_test : (b : Bool) → EachHas (cond b (without_oldest id ns) (without_all id ns))
      by_test true = oldest_gone id ns h
      by_test false = all_gone id ns h

  results_each : (id : NotificationId) (ns : List Notification) → EachHas ns → AllByRecursion P (results_of id ns)
  results_each id [] h = tt
  results_each id (n ∷ ns) h = by_test (same_id n.id id) (results_each id ns h.1)
    where
      by_test : (b : Bool) → AllByRecursion P (results_of id ns) → AllByRecursion P (cond b (n.result ∷ results_of id ns) (results_of id ns))
      by_test true k = (h.0, k)
      by_test false k = k

  first_has : (rs : List NotificationResult) (r : NotificationResult) → AllByRecursion P rs → first rs ≡ Some r → P r
  first_has [] r h e = none_some e
  first_has (x ∷ rs) r h e = subst P (same_Some x r e) h.0

  newest_has : (o : Option NotificationResult) (rs : List NotificationResult) (r : NotificationResult) → ((x : NotificationResult) → o ≡ Some x → P x) → AllByRecursion P rs → newest_after o rs ≡ Some r → P r
  newest_has o [] r before h e = before r e
  newest_has o (x ∷ rs) r before h e = newest_has (Some x) rs r (λ y is. subst P (same_Some x y is) h.0) h.1 e

  among_has : (delivery : SignalDelivery) (id : NotificationId) (ns : List Notification) (r : NotificationResult) → EachHas ns → present_among delivery id ns ≡ Some r → P r
  among_has delivery id ns r h = by_test (is_listed delivery id)
    where
      by_test : (b : Bool) → cond b (first (results_of id ns)) (newest (results_of id ns)) ≡ Some r → P r
      by_test true e = first_has (results_of id ns) r (results_each id ns h) e
      by_test false e = newest_has None (results_of id ns) r (λ x none. none_some none) (results_each id ns h) e

  or_has : (a b : Option NotificationResult) (r : NotificationResult) → (a ≡ Some r → P r) → (b ≡ Some r → P r) → option_or a b ≡ Some r → P r
  or_has None b r f g e = g e
  or_has (Some x) b r f g e = f e

  abbrev ReadyHas : Ready → Type 0
  ReadyHas ready = EachHas ready.delivered × EachHas ready.eager

  present_has : (delivery : SignalDelivery) (o : Option NotificationId) (ready : Ready) (r : NotificationResult) → ReadyHas ready → present_result_for delivery o ready ≡ Some r → P r
  present_has delivery None ready r h e = none_some e
  present_has delivery (Some id) ready r h e = or_has (present_among delivery id ready.delivered) (present_among delivery id ready.eager) r (among_has delivery id ready.delivered r h.0) (among_has delivery id ready.eager r h.1) e

  -- each result that was used or read has it
  abbrev UsageHas : List Usage → Type 0
  UsageHas [] = Unit {0}
  UsageHas (Used n ∷ us) = P n.result × UsageHas us
  UsageHas (Read id result ∷ us) = P result × UsageHas us
  UsageHas (Taken id ∷ us) = UsageHas us

  ready_has : (delivery : SignalDelivery) (us : List Usage) → UsageHas us → ReadyHas (ready_by_usage delivery us)
  ready_has delivery [] h = (tt, tt)
  ready_has delivery (Used n ∷ us) h = let r = ready_has delivery us h.1 in (each_join (λ x. P x.result) (ready_by_usage delivery us).delivered (n ∷ []) r.0 (h.0, tt), r.1)
  ready_has delivery (Read id result ∷ us) h =
      let r = ready_has delivery us h.1 in
      (all_gone (CompletionId id) (ready_by_usage delivery us).delivered r.0, each_join (λ x. P x.result) (ready_by_usage delivery us).eager (record { id = CompletionId id; result = result } ∷ []) r.1 (h.0, tt))
  ready_has delivery (Taken id ∷ us) h =
      let r = ready_has delivery us h in
      (some_left delivery id (ready_by_usage delivery us).delivered r.0, some_left delivery id (ready_by_usage delivery us).eager r.1)

  -- ---- the table

  abbrev AnswersHave : List Answer → Type 0
  AnswersHave answers = AllByRecursion (HasValueBy P) answers

  -- what a move gives and leaves
  abbrev MoveHas : Move → Type 0
  MoveHas (Answers gives e) = AnswersHave gives × UsageHas e.usage
  MoveHas (Needs demand gives e) = AnswersHave gives × UsageHas e.usage
  MoveHas Awaits = Unit {0}
  MoveHas Ends = Unit {0}
  MoveHas (Refuses name) = Unit {0}

  kind_has : (k : AnswerKind) (handle : NotificationHandle) → HasValueBy P (answer_by k handle)
  kind_has kind.Unit handle = tt
  kind_has kind.Handle handle = tt
  kind_has kind.Call handle = tt
  kind_has kind.CallWithDeadline handle = tt
  kind_has kind.Send handle = tt

  numbered_has : (s : Setup) (c : Command) (o : Option NamedFault) (d : Derived) → UsageHas d.usage → MoveHas (numbered s c o d)
  numbered_has s c (Some name) d u = tt
  numbered_has s c None d u = ((kind_has (answer_kind c.message) (record { 0 = d.counters.handle }), tt), u)

  commanding_has : (s : Setup) (c : Command) (o : Option NamedFault) (d : Derived) → UsageHas d.usage → MoveHas (commanding s c o d)
  commanding_has s c (Some name) d u = tt
  commanding_has s c None d u = numbered_has s c (missing_number (ids_of c.message) 0 (ids_of c.message) d.counters) d u

  turn_usage : (s : Setup) (n : ℕ) (c : Command) (cs : List Command) (d : Derived) → (turn_after s n c cs d).before.usage ≡ d.usage
  turn_usage s zero c cs d = refl
  turn_usage s (suc n) c [] d = refl
  turn_usage s (suc n) c (b ∷ bs) d = turn_usage s n b bs (behind_command s c d)

  part_has : (s : Setup) (k : AnswerKind) (c : Command) (cs : List Command) (before d : Derived) → before.usage ≡ d.usage → UsageHas d.usage → MoveHas (part s k c cs before d)
  part_has s k c [] before d same u = ((kind_has k (record { 0 = d.counters.handle }), tt), subst UsageHas (sym same) u)
  part_has s k c (b ∷ bs) before d same u = (tt, u)

  turn_has : (s : Setup) (k : AnswerKind) (o : Option NamedFault) (t : Turn) (d : Derived) → t.before.usage ≡ d.usage → UsageHas d.usage → MoveHas (part_unless o s k t d)
  turn_has s k (Some name) t d same u = tt
  turn_has s k None t d same u = part_has s k t.command t.behind t.before d same u

  reading_has : (r : StateRead) (o : Option NamedFault) (d : Derived) → UsageHas d.usage → MoveHas (reading r o d)
  reading_has r (Some name) d u = tt
  reading_has r None d u = ((tt, tt), u)

  awakeable_has : (s : Setup) (o : Option NamedFault) (d : Derived) → UsageHas d.usage → MoveHas (awakeable_made s o d)
  awakeable_has s (Some name) d u = tt
  awakeable_has s None d u = ((tt, tt), u)

  making_has : (s : Setup) (b : Bool) (d : Derived) → UsageHas d.usage → MoveHas (making_awakeable s b d)
  making_has s true d u = tt
  making_has s false d u = awakeable_has s (missing_signals 1 1 d.counters) d u

  signal_has : (name : List ℕ) (o : Option NamedFault) (d : Derived) → UsageHas d.usage → MoveHas (signal_made name o d)
  signal_has name (Some fault) d u = tt
  signal_has name None d u = ((tt, tt), u)

  awaiting_has : (b : Bool) (d : Derived) → UsageHas d.usage → MoveHas (awaiting b d)
  awaiting_has true d u = ((tt, tt), u)
  awaiting_has false d u = tt

  read_has : (o : Option (List ℕ)) (d : Derived) → UsageHas d.usage → MoveHas (id_read o d)
  read_has None d u = tt
  read_has (Some id) d u = (tt, u)

  id_has : (o : Option NotificationResult) (d : Derived) → UsageHas d.usage → MoveHas (id_awaited o d)
  id_has None d u = tt
  id_has (Some result) d u = read_has (id_of_result result) d u

  sent_has : (s : Setup) (id : List ℕ) (o : Option NamedFault) (d : Derived) → UsageHas d.usage → MoveHas (cancel_sent s id o d)
  sent_has s id (Some name) d u = tt
  sent_has s id None d u = (tt, u)

  taken_usage : (o : Option NotificationId) (d : Derived) → UsageHas d.usage → UsageHas (with_cancel_taken o d).usage
  taken_usage None d u = u
  taken_usage (Some id) d u = u

  cancelling_has : (s : Setup) (ids : List (List ℕ)) (d : Derived) → UsageHas d.usage → MoveHas (cancelling s ids d)
  cancelling_has s [] d u = ((tt, tt), taken_usage (id_at 1 d.handles) (record d { tracked = [] }) u)
  cancelling_has s (id ∷ ids) d u = sent_has s id (missing_number 0 0 0 d.counters) d u

  cancelled_has : (s : Setup) (handles : List ℕ) (d : Derived) → UsageHas d.usage → MoveHas (cancelled s handles d)
  cancelled_has s [] d u = cancelling_has s (invocation_ids d.tracked) d u
  cancelled_has s (handle ∷ handles) d u = id_has (present_result_for s.options.signal_delivery (id_at handle d.handles) (ready_in s d)) d u

  awaited_has : (s : Setup) (b : Bool) (future : UnresolvedFuture) (d : Derived) → UsageHas d.usage → MoveHas (awaited s b future d)
  awaited_has s true future d u = cancelled_has s (unresolved_handles d.tracked) d u
  awaited_has s false future d u = awaiting_has (is_awake s future d) d u

  noted_has : (handle : NotificationHandle) (id : NotificationId) (value : Value) (o : Option (List TrackedCall)) (d : Derived) → HasValueBy P (answer.Taken (Some value)) → UsageHas d.usage → MoveHas (take_noting_id handle id value o d)
  noted_has handle id value None d h u = tt
  noted_has handle id value (Some tracked) d h u = ((h, tt), u)

  value_has : (handle : NotificationHandle) (id : NotificationId) (r : NotificationResult) (o : Option Value) (d : Derived) → P r → value_of r ≡ o → UsageHas d.usage → MoveHas (take_of_value handle id o d)
  value_has handle id r None d p is u = tt
  value_has handle id r (Some value) d p is u = noted_has handle id value (id_noted handle.0 (id_of_value value) d.tracked) d (r, p, is) u

  result_has : (handle : NotificationHandle) (id : Option NotificationId) (o : Option NotificationResult) (d : Derived) → ((r : NotificationResult) → o ≡ Some r → P r) → UsageHas d.usage → MoveHas (take_of_result handle id o d)
  result_has handle (Some id) (Some result) d f u = value_has handle id result (value_of result) d (f result refl) refl u
  result_has handle (Some id) None d f u = ((tt, tt), u)
  result_has handle None o d f u = ((tt, tt), u)

  asked_has : (s : Setup) (a : Ask) (d : Derived) → UsageHas d.usage → MoveHas (asked s a d)
  asked_has s (ask.Command c) d u = commanding_has s c c.refusal d u
  asked_has s (ask.Commands k one other) d u =
      let t = turn_after s d.parts one (other ∷ []) d in
      turn_has s k (refused_before t.command t.behind t.before.counters) t d (turn_usage s d.parts one (other ∷ []) d) u
  asked_has s (ask.Read r) d u = reading_has r (missing_number 1 0 1 d.counters) d u
  asked_has s ask.Awakeable d u = making_has s (skips_replay s.options.journal_replay) d u
  asked_has s (ask.Signal name) d u = signal_has name (missing_signals 0 1 d.counters) d u
  asked_has s (ask.Await future) d u = awaited_has s (is_cancelled_in s d) future d u
  asked_has s (ask.Take handle) d u =
      let id = id_at handle.0 d.handles in
      result_has handle id (present_result_for s.options.signal_delivery id (ready_in s d)) d (λ r is. present_has s.options.signal_delivery id (ready_in s d) r (ready_has s.options.signal_delivery d.usage u) is) u
  asked_has s (ask.Completed handle) d u = ((tt, tt), u)
  asked_has s ask.End d u = tt

  -- ---- one move

  -- a recorded command brings no other result
  abbrev BringsIt : RawMessage → Type 0
  BringsIt c = (read : StateRead) (id : ℕ) (result : NotificationResult) → found (Reads read id) c ≡ Ok (Some result) → P result

  -- what is so at each point
  record PointHas (p : Point) : Type 0 where
    answers : AnswersHave p.answers
    usage : UsageHas p.derived.usage
    queue : EachHas p.queue
    left : AllByRecursion BringsIt p.left

  brings : (demand : Demand) (c : RawMessage) (result : NotificationResult) → BringsIt c → found demand c ≡ Ok (Some result) → P result
  brings (Exactly message ignore) c result h is = none_some (exactly_none message ignore c (Some result) is)
  brings (Reads read id) c result h is = h read id result is

  read_usage : (id : ℕ) (o : Option NotificationResult) (d : Derived) → ((r : NotificationResult) → o ≡ Some r → P r) → UsageHas d.usage → UsageHas (with_read_result id o d).usage
  read_usage id None d f u = u
  read_usage id (Some result) d f u = (f result refl, u)

  command_has : (demand : Demand) (gives : List Answer) (e : Derived) (c : RawMessage) (left : List RawMessage) (p r : Point) (o : Result (Option NotificationResult) NamedFault) → found demand c ≡ o → AnswersHave gives → UsageHas e.usage → BringsIt c → AllByRecursion BringsIt left → PointHas p → command_used o demand gives e left p ≡ Some r → PointHas r
  command_has demand gives e c left p r (Err name) is a u b l h m = none_some m
  command_has demand gives e c left p r (Ok result) is a u b l h m =
      subst PointHas (same_Some _ r m) (record {
        answers = each_join (HasValueBy P) p.answers gives h.answers a;
        usage = read_usage p.derived.counters.completion result e (λ x some. brings demand c x b (is ∙ ap Ok some)) u;
        queue = h.queue;
        left = l;
      })

  uses_has : (demand : Demand) (gives : List Answer) (e : Derived) (left : List RawMessage) (p r : Point) → AnswersHave gives → UsageHas e.usage → AllByRecursion BringsIt left → PointHas p → uses_command demand gives e left p ≡ Some r → PointHas r
  uses_has demand gives e [] p r a u l h m = none_some m
  uses_has demand gives e (c ∷ left) p r a u l h m = command_has demand gives e c left p r (found demand c) refl a u l.0 l.1 h m

  arrival_has : (queue : List Notification) (p r : Point) → EachHas queue → PointHas p → uses_arrival queue p ≡ Some r → PointHas r
  arrival_has [] p r q h m = none_some m
  arrival_has (n ∷ queue) p r q h m = subst PointHas (same_Some _ r m) (record { answers = h.answers; usage = (q.0, h.usage); queue = q.1; left = h.left })

  moved_has : (mv : Move) (p r : Point) → MoveHas mv → PointHas p → moved mv p ≡ Some r → PointHas r
  moved_has (Answers gives e) p r a h m = subst PointHas (same_Some _ r m) (record { answers = each_join (HasValueBy P) p.answers gives h.answers a.0; usage = a.1; queue = h.queue; left = h.left })
  moved_has (Needs demand gives e) p r a h m = uses_has demand gives e p.left p r a.0 a.1 h.left h m
  moved_has Awaits p r a h m = arrival_has p.queue p r h.queue h m
  moved_has Ends p r a h m = none_some m
  moved_has (Refuses name) p r a h m = none_some m

  run_has : (s : Setup) (m : Meaning) (n : ℕ) (p q : Point) → PointHas p → after s m n p ≡ Some q → PointHas q
  run_has s m zero p q h e = subst PointHas (same_Some p q e) h
  run_has s m (suc n) p q h e =
      let x = and_then_some (next s m p) (after s m n) q e in
      run_has s m n x.0 q (moved_has (move_at s m p) p x.0 (asked_has s (ask_of s.version (m p.answers)) p.derived h.usage) h x.1) x.2

-- ---- a run from its beginning

pub run_brings : (s : Setup) (m : Meaning) (n : ℕ) (input : InputCommand) (ns : List Notification) (cs : List RawMessage) (q : Point) → after s m n (start s input ns cs) ≡ Some q → AllByRecursion (ValueCame ns cs) q.answers
run_brings s m n input ns cs q e =
    let P = ResultCame ns cs in
    let first_point : PointHas P (start s input ns cs) = record {
      answers = (tt, tt);
      usage = tt;
      queue = each_map (λ x. StandsIn x ns) (λ x. P x.result) (λ x stands. Notified x stands refl) ns (stands_behind [] ns);
      left = each_map (λ c. StandsIn c cs) (BringsIt P) (λ c stands read id result is. Recorded c read id stands is) cs (stands_behind [] cs);
    } in
    (run_has P s m n (start s input ns cs) q first_point e).answers

-- on a journal
pub history_brings : (s : Setup) (m : Meaning) (base : StateMap) (journal : List Entry) (h : History s m base journal) → AllByRecursion (ValueCame (notifications_in journal) h.rest) h.at.answers
history_brings s m base journal h = run_brings s m h.told.0 h.input (notifications_in journal) h.rest h.at h.told.1
