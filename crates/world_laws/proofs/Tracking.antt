-- Each child of a run is sent the cancel signal once, or is one still.
use Rattle.std.proofs.Common.{◌≡◌, ◌≤◌, ◌<◌, ℕ, zero, suc, ◌+◌, Bool, true, false, List, [], ◌∷◌, ◌++◌, drop, length, Option, Some, None, refl, sym, ap, ◌∙◌, subst, append_assoc, append-nil, arith}
use Rattle.std.specs.Prelude.{Result, Ok, Err, ◌==◌, nat_lt, if◌then◌else◌}
use Rattle.std.specs.Option.{option_map}
use Rattle.std.proofs.lemmas.Bool.Decides.{nat_tests}
use Rattle.std.proofs.lemmas.Option.{same_Some}
use Rattle.journal_entries.specs.Journal.{Entry, notifications_in}
use Rattle.journal_protocol.specs.InputCommand.{InputCommand}
use Rattle.journal_protocol.specs.Message.{Message}
use Rattle.journal_protocol.specs.Message.TheVariants as message
use Rattle.journal_protocol.specs.NamedFault.{NamedFault}
use Rattle.journal_protocol.specs.Notification.{Notification}
use Rattle.journal_protocol.specs.NotificationId.{NotificationId}
use Rattle.journal_protocol.specs.NotificationResult.{NotificationResult}
use Rattle.journal_protocol.specs.RawMessage.{RawMessage}
use Rattle.await_trees.specs.declared.handle.NotificationHandle.{NotificationHandle}
use Rattle.await_trees.specs.declared.tree.UnresolvedFuture.{UnresolvedFuture}
use Rattle.vm_types.specs.declared.options.ImplicitCancellationOption.{ImplicitCancellationOption}
use Rattle.vm_types.specs.declared.steps.Answer.{Answer}
use Rattle.vm_types.specs.declared.steps.Step.TheVariants as step
use Rattle.vm_types.specs.declared.values.Value.{Value}
use Rattle.vm_types.specs.Options.{skips_replay}
use Rattle.vm_types.specs.Values.{id_of_value, value_of}
use Rattle.vm_state.specs.declared.state_map.StateMap.{StateMap}
use Rattle.vm_state.specs.declared.tracked_call.TrackedCall.{TrackedCall}
use Rattle.vm_state.specs.Counting.{missing_number, missing_signals}
use Rattle.vm_parts.specs.Deliveries.{id_at, present_result_for}
use Rattle.vm_state.specs.TrackedCalls.{unresolved_call, with_call}
use Rattle.vm_parts.specs.Tracked.{by_known_id, id_noted, id_of_result, invocation_ids, is_tracked, unresolved_handles, with_invocation_id, with_next_id, without_first_call}
use Rattle.vm_asks.specs.declared.asks.Ask.{Ask}
use Rattle.vm_asks.specs.declared.asks.Ask.TheVariants as ask
use Rattle.vm_asks.specs.declared.asks.AnswerKind.{AnswerKind}
use Rattle.vm_asks.specs.declared.command.Command.{Command}
use Rattle.vm_asks.specs.declared.state_read.StateRead.{StateRead}
use Rattle.vm_asks.specs.Asks.{ask_of}
use Rattle.vm_asks.specs.Requests.{ids_of, is_cancelled_with}
use Rattle.vm_model.specs.Calls.{Demand, Derived, Meaning, Move, Setup, Turn, asked, awaited, awaiting, awakeable_made, behind_command, cancel_sent, cancelled, cancelling, commanding, counted, id_awaited, id_read, is_awake, is_cancelled_in, making_awakeable, numbered, part, part_unless, reading, ready_in, refused_before, signal_made, take_noting_id, take_of_result, take_of_value, turn_after, with_cancel_taken}
use Rattle.vm_model.specs.Calls.Move.{Answers, Needs, Awaits, Ends, Refuses}
use Rattle.vm_model.specs.Cancels.{present_in}
use Rattle.vm_model.specs.Histories.{History}
use Rattle.vm_model.specs.Moves.{Point, after, arrival_used, command_used, found, moved, next, start, uses_arrival, uses_command, with_read_result}
use Rattle.vm_model.proofs.Cancelling.{CancelMove, Sent, cancel_move}
use Rattle.vm_model.proofs.Cancelling.CancelMove.{Arrives, Learns, Sends, Finishes}
use Rattle.vm_model.proofs.Runs.{and_then_some, none_some}
use Rattle.vm_model.proofs.Sums.{taken_counters}
use Rattle.world_laws.specs.Children.{AreCancelsOf, Ascend, EachChildOnce, IsCancelOf, await_command, await_commands, child_next, child_of, children_cancelled, children_made, children_new, command_of, first_known, from_there, child_handles}

-- ---- handles that ascend

-- these numbers ascend, from the first bound on and below the second
abbrev Rising : ℕ → List ℕ → ℕ → Type 0
Rising low [] high = low ≤ high
Rising low (x ∷ xs) high = (low ≤ x) × Rising (suc x) xs high

rising_bounds : (low : ℕ) (xs : List ℕ) (high : ℕ) → Rising low xs high → low ≤ high
rising_bounds low [] high h = h
rising_bounds low (x ∷ xs) high h = let more = rising_bounds (suc x) xs high h.1 in let first = h.0 in omega (arith, first, more)

rising_lower : (low lower : ℕ) (xs : List ℕ) (high : ℕ) → lower ≤ low → Rising low xs high → Rising lower xs high
rising_lower low lower [] high le h = omega (arith, le, h)
rising_lower low lower (x ∷ xs) high le h = let first = h.0 in (omega (arith, le, first), h.1)

rising_join : (low : ℕ) (xs : List ℕ) (mid : ℕ) (ys : List ℕ) (high : ℕ) → Rising low xs mid → Rising mid ys high → Rising low (xs ++ ys) high
rising_join low [] mid ys high h k = rising_lower mid low ys high h k
rising_join low (x ∷ xs) mid ys high h k = (h.0, rising_join (suc x) xs mid ys high h.1 k)

rising_behind : (low : ℕ) (xs ys : List ℕ) (high : ℕ) → Rising low (xs ++ ys) high → Rising low ys high
rising_behind low [] ys high h = h
rising_behind low (x ∷ xs) ys high h = let first = h.0 in rising_lower (suc x) low ys high (omega (arith, first)) (rising_behind (suc x) xs ys high h.1)

rising_ascends : (low : ℕ) (xs : List ℕ) (high : ℕ) → Rising low xs high → Ascend low xs
rising_ascends low [] high h = tt
rising_ascends low (x ∷ xs) high h = (h.0, rising_ascends (suc x) xs high h.1)

handles_join : (ts us : List TrackedCall) → child_handles (ts ++ us) ≡ child_handles ts ++ child_handles us
handles_join [] us = refl
handles_join (t ∷ ts) us = ap (λ l. t.handle ∷ l) (handles_join ts us)

-- the children after those that there were
dropped : (ts us : List TrackedCall) (ns : List ℕ) → child_handles us ≡ child_handles ts ++ ns → child_handles (drop (length ts) us) ≡ ns
dropped [] us ns e = e
dropped (t ∷ ts) [] ns e = absurd (cc)
dropped (t ∷ ts) (u ∷ us) ns e = dropped ts us ns (cc)

-- ---- what a call leaves of the children

-- the children that there were, and after them some with handles that were given since
record Grown (d e : Derived) : Type 0 where
  new : List ℕ
  tracked : child_handles e.tracked ≡ child_handles d.tracked ++ new
  rises : Rising d.counters.handle new e.counters.handle

-- the handles of all children were given
abbrev AreGiven : Derived → Type 0
AreGiven d = Rising 0 (child_handles d.tracked) d.counters.handle

grown_same : (d e : Derived) → child_handles e.tracked ≡ child_handles d.tracked → d.counters.handle ≤ e.counters.handle → Grown d e
grown_same d e same le = record { new = []; tracked = same ∙ sym (append-nil (child_handles d.tracked)); rises = le }

at_least : (n k : ℕ) → n ≤ n + k
at_least n k = omega arith

no_less : (n : ℕ) → n ≤ n
no_less n = omega arith

grown_given : (d e : Derived) → AreGiven d → Grown d e → AreGiven e
grown_given d e given g = subst (λ l. Rising 0 l e.counters.handle) (sym g.tracked) (rising_join 0 (child_handles d.tracked) d.counters.handle g.new e.counters.handle given g.rises)

grown_then : (d e f : Derived) → Grown d e → Grown e f → Grown d f
grown_then d e f a b = record {
  new = a.new ++ b.new;
  tracked = b.tracked ∙ ap (λ l. l ++ b.new) a.tracked ∙ append_assoc (child_handles d.tracked) a.new b.new;
  rises = rising_join d.counters.handle a.new e.counters.handle b.new f.counters.handle a.rises b.rises;
}

-- ---- a command

-- a message that makes a child has a handle
ids_some : (option : ImplicitCancellationOption) (m : Message) → is_cancelled_with option m ≡ true → 1 ≤ ids_of m
ids_some option (message.Call c) h = omega arith
ids_some option (message.OneWayCall c) h = omega arith
ids_some option m h = absurd (cc)

is_not_less : (a b : ℕ) → b < a → nat_lt a b ≡ false
is_not_less a b h = grind (arith, nat_tests)

is_not_same : (a b : ℕ) → b < a → (a == b) ≡ false
is_not_same a b h = grind (arith, nat_tests)

appended : (low handle : ℕ) (ts : List TrackedCall) → Rising low (child_handles ts) handle → child_handles (with_call handle ts) ≡ child_handles ts ++ handle ∷ []
appended low handle [] h = refl
appended low handle (t ∷ ts) h = by_tests (nat_lt handle t.handle) (handle == t.handle) (is_not_less handle t.handle below) (is_not_same handle t.handle below) (appended (suc t.handle) handle ts h.1)
  where
    below : t.handle < handle
    below = rising_bounds (suc t.handle) (child_handles ts) handle h.1

    by_tests : (a b : Bool) → a ≡ false → b ≡ false → child_handles (with_call handle ts) ≡ child_handles ts ++ handle ∷ [] → child_handles (if a then unresolved_call handle ∷ t ∷ ts else if b then unresolved_call handle ∷ ts else t ∷ with_call handle ts) ≡ t.handle ∷ (child_handles ts ++ handle ∷ [])
    by_tests true b e f on = absurd (cc)
    by_tests false true e f on = absurd (cc)
    by_tests false false e f on = ap (λ l. t.handle ∷ l) on

behind_grown : (s : Setup) (c : Command) (d : Derived) → AreGiven d → Grown d (behind_command s c d)
behind_grown s c d given = by_test (is_cancelled_with s.options.implicit_cancellation c.message) refl
  where
    by_test : (b : Bool) → is_cancelled_with s.options.implicit_cancellation c.message ≡ b → Grown d (record (counted (ids_of c.message) d) { tracked = if b then with_call d.counters.handle d.tracked else d.tracked })
    by_test false e = grown_same d _ refl (at_least d.counters.handle (ids_of c.message))
    by_test true e =
        let some = ids_some s.options.implicit_cancellation c.message e in
        record { new = d.counters.handle ∷ []; tracked = appended 0 d.counters.handle d.tracked given; rises = (no_less d.counters.handle, omega (arith, some)) }

-- ---- the table

-- what a move leaves
abbrev GrownAfter : Derived → Move → Type 0
GrownAfter d (Answers gives e) = Grown d e
GrownAfter d (Needs demand gives e) = Grown d e
GrownAfter d Awaits = Unit {0}
GrownAfter d Ends = Unit {0}
GrownAfter d (Refuses name) = Unit {0}

numbered_grown : (s : Setup) (c : Command) (o : Option NamedFault) (d : Derived) → AreGiven d → GrownAfter d (numbered s c o d)
numbered_grown s c (Some name) d given = tt
numbered_grown s c None d given = behind_grown s c d given

commanding_grown : (s : Setup) (c : Command) (o : Option NamedFault) (d : Derived) → AreGiven d → GrownAfter d (commanding s c o d)
commanding_grown s c (Some name) d given = tt
commanding_grown s c None d given = numbered_grown s c (missing_number (ids_of c.message) 0 (ids_of c.message) d.counters) d given

-- what the commands before the next one of a call leave
turn_grown : (s : Setup) (n : ℕ) (c : Command) (cs : List Command) (d : Derived) → AreGiven d → Grown d (turn_after s n c cs d).before
turn_grown s zero c cs d given = grown_same d d refl (no_less d.counters.handle)
turn_grown s (suc n) c [] d given = grown_same d d refl (no_less d.counters.handle)
turn_grown s (suc n) c (b ∷ bs) d given =
    let e = behind_command s c d in
    let first = behind_grown s c d given in
    grown_then d e (turn_after s n b bs e).before first (turn_grown s n b bs e (grown_given d e given first))

part_grown : (s : Setup) (kind : AnswerKind) (c : Command) (cs : List Command) (before d : Derived) → AreGiven d → Grown d before → GrownAfter d (part s kind c cs before d)
part_grown s kind c [] before d given g =
    let e = behind_command s c before in
    let on = grown_then d before e g (behind_grown s c before (grown_given d before given g)) in
    record { new = on.new; tracked = on.tracked; rises = on.rises }
part_grown s kind c (b ∷ bs) before d given g = grown_same d _ refl (no_less d.counters.handle)

turn_taken_grown : (s : Setup) (kind : AnswerKind) (o : Option NamedFault) (t : Turn) (d : Derived) → AreGiven d → Grown d t.before → GrownAfter d (part_unless o s kind t d)
turn_taken_grown s kind (Some name) t d given g = tt
turn_taken_grown s kind None t d given g = part_grown s kind t.command t.behind t.before d given g

reading_grown : (r : StateRead) (o : Option NamedFault) (d : Derived) → GrownAfter d (reading r o d)
reading_grown r (Some name) d = tt
reading_grown r None d = grown_same d _ refl (at_least d.counters.handle 1)

awakeable_grown : (s : Setup) (o : Option NamedFault) (d : Derived) → GrownAfter d (awakeable_made s o d)
awakeable_grown s (Some name) d = tt
awakeable_grown s None d = grown_same d _ refl (at_least d.counters.handle 1)

making_grown : (s : Setup) (b : Bool) (d : Derived) → GrownAfter d (making_awakeable s b d)
making_grown s true d = tt
making_grown s false d = awakeable_grown s (missing_signals 1 1 d.counters) d

signal_grown : (name : List ℕ) (o : Option NamedFault) (d : Derived) → GrownAfter d (signal_made name o d)
signal_grown name (Some fault) d = tt
signal_grown name None d = grown_same d _ refl (at_least d.counters.handle 1)

-- a known id leaves the handles
known_handles : (handle : ℕ) (id : List ℕ) (ts : List TrackedCall) → child_handles (with_invocation_id handle id ts) ≡ child_handles ts
known_handles handle id [] = refl
known_handles handle id (t ∷ ts) = by_test (t.handle == handle) (known_handles handle id ts)
  where
    by_test : (b : Bool) → child_handles (with_invocation_id handle id ts) ≡ child_handles ts → child_handles (if b then record { handle = t.handle; invocation_id = Some id } ∷ ts else t ∷ with_invocation_id handle id ts) ≡ t.handle ∷ child_handles ts
    by_test true ih = refl
    by_test false ih = ap (λ l. t.handle ∷ l) ih

noted_handles : (handle : ℕ) (id : Option (List ℕ)) (ts us : List TrackedCall) → id_noted handle id ts ≡ Some us → child_handles us ≡ child_handles ts
noted_handles handle id ts us = by_test (is_tracked handle ts) id
  where
    by_test : (b : Bool) (o : Option (List ℕ)) → (if b then option_map (λ known. with_invocation_id handle known ts) o else Some ts) ≡ Some us → child_handles us ≡ child_handles ts
    by_test true None e = none_some e
    by_test true (Some known) e = ap child_handles (sym (same_Some _ us e)) ∙ known_handles handle known ts
    by_test false o e = ap child_handles (sym (same_Some _ us e))

noted_grown : (handle : NotificationHandle) (id : NotificationId) (value : Value) (o : Option (List TrackedCall)) (d : Derived) → ((us : List TrackedCall) → o ≡ Some us → child_handles us ≡ child_handles d.tracked) → GrownAfter d (take_noting_id handle id value o d)
noted_grown handle id value None d same = tt
noted_grown handle id value (Some us) d same = grown_same d _ (same us refl) (no_less d.counters.handle)

value_grown : (handle : NotificationHandle) (id : NotificationId) (o : Option Value) (d : Derived) → GrownAfter d (take_of_value handle id o d)
value_grown handle id None d = tt
value_grown handle id (Some value) d = noted_grown handle id value (id_noted handle.0 (id_of_value value) d.tracked) d (noted_handles handle.0 (id_of_value value) d.tracked)

result_grown : (handle : NotificationHandle) (id : Option NotificationId) (o : Option NotificationResult) (d : Derived) → GrownAfter d (take_of_result handle id o d)
result_grown handle (Some id) (Some result) d = value_grown handle id (value_of result) d
result_grown handle (Some id) None d = grown_same d d refl (no_less d.counters.handle)
result_grown handle None o d = grown_same d d refl (no_less d.counters.handle)

-- ---- one move

read_grown : (d e : Derived) (id : ℕ) (result : Option NotificationResult) → Grown d e → Grown d (with_read_result id result e)
read_grown d e id None g = g
read_grown d e id (Some result) g = record { new = g.new; tracked = g.tracked; rises = g.rises }

command_grown : (o : Result (Option NotificationResult) NamedFault) (demand : Demand) (gives : List Answer) (e : Derived) (left : List RawMessage) (p r : Point) → Grown p.derived e → command_used o demand gives e left p ≡ Some r → Grown p.derived r.derived
command_grown (Err name) demand gives e left p r g m = none_some m
command_grown (Ok result) demand gives e left p r g m = subst (λ (z : Point). Grown p.derived z.derived) (same_Some _ r m) (read_grown p.derived e p.derived.counters.completion result g)

uses_grown : (demand : Demand) (gives : List Answer) (e : Derived) (left : List RawMessage) (p r : Point) → Grown p.derived e → uses_command demand gives e left p ≡ Some r → Grown p.derived r.derived
uses_grown demand gives e [] p r g m = none_some m
uses_grown demand gives e (c ∷ left) p r g m = command_grown (found demand c) demand gives e left p r g m

arrival_grown : (queue : List Notification) (p r : Point) → uses_arrival queue p ≡ Some r → Grown p.derived r.derived
arrival_grown [] p r m = none_some m
arrival_grown (n ∷ queue) p r m = subst (λ (z : Point). Grown p.derived z.derived) (same_Some _ r m) (grown_same p.derived (arrival_used n p.derived) refl (no_less p.derived.counters.handle))

moved_grown : (mv : Move) (p r : Point) → GrownAfter p.derived mv → moved mv p ≡ Some r → Grown p.derived r.derived
moved_grown (Answers gives e) p r g m = subst (λ (z : Point). Grown p.derived z.derived) (same_Some _ r m) g
moved_grown (Needs demand gives e) p r g m = uses_grown demand gives e p.left p r g m
moved_grown Awaits p r g m = arrival_grown p.queue p r m
moved_grown Ends p r g m = none_some m
moved_grown (Refuses name) p r g m = none_some m

-- what a move leaves of the children, and the commands that it uses
record Counted (s : Setup) (p r : Point) (new cancels : List TrackedCall) (commands : List RawMessage) : Type 0 where
  all : child_handles p.derived.tracked ++ child_handles new ≡ child_handles cancels ++ child_handles r.derived.tracked
  rises : Rising p.derived.counters.handle (child_handles new) r.derived.counters.handle
  are : AreCancelsOf s cancels commands

-- a move that is no await's
plain_counted : (s : Setup) (p r : Point) → Grown p.derived r.derived → Counted s p r (drop (length p.derived.tracked) r.derived.tracked) [] []
plain_counted s p r g =
    let new = dropped p.derived.tracked r.derived.tracked g.new g.tracked in
    record {
      all = ap (λ l. child_handles p.derived.tracked ++ l) new ∙ sym g.tracked;
      rises = subst (λ l. Rising p.derived.counters.handle l r.derived.counters.handle) (sym new) g.rises;
      are = refl;
    }

-- a move of an await that uses no command
quiet_counted : (s : Setup) (p r : Point) (cancels : List TrackedCall) (commands : List RawMessage) → cancels ≡ [] → commands ≡ [] → child_handles r.derived.tracked ≡ child_handles p.derived.tracked → p.derived.counters.handle ≤ r.derived.counters.handle → Counted s p r [] cancels commands
quiet_counted s p r cancels commands none quiet same le =
    subst (λ l. Counted s p r [] l commands) (sym none)
    (subst (λ l. Counted s p r [] [] l) (sym quiet) (record { all = append-nil (child_handles p.derived.tracked) ∙ sym same; rises = le; are = refl }))

-- ---- awaits

next_handles : (id : List ℕ) (ts : List TrackedCall) → child_handles (with_next_id id ts) ≡ child_handles ts
next_handles id [] = refl
next_handles id (t ∷ ts) = by_id t.invocation_id (next_handles id ts)
  where
    by_id : (o : Option (List ℕ)) → child_handles (with_next_id id ts) ≡ child_handles ts → child_handles (by_known_id o (record { handle = t.handle; invocation_id = Some id } ∷ ts) (t ∷ with_next_id id ts)) ≡ t.handle ∷ child_handles ts
    by_id None ih = refl
    by_id (Some known) ih = ap (λ l. t.handle ∷ l) ih

-- a tracked call
abbrev call : ℕ → Option (List ℕ) → TrackedCall
call handle id = record { handle = handle; invocation_id = id }

-- a call whose id is known has one
some_id : (handle : ℕ) (o : Option (List ℕ)) (ts : List TrackedCall) → unresolved_handles (call handle o ∷ ts) ≡ [] → invocation_ids (call handle o ∷ ts) ≡ [] → ⊥
some_id handle None ts known none = absurd (cc)
some_id handle (Some id) ts known none = absurd (cc)

-- where all ids are known and there is none, there is no call
no_child : (ts : List TrackedCall) → unresolved_handles ts ≡ [] → invocation_ids ts ≡ [] → ts ≡ []
no_child [] known none = refl
no_child (t ∷ ts) known none = absurd (some_id t.handle t.invocation_id ts known none)

taken_tracked : (o : Option NotificationId) (d : Derived) → (with_cancel_taken o d).tracked ≡ d.tracked
taken_tracked None d = refl
taken_tracked (Some id) d = refl

module _ (s : Setup) (future : UnresolvedFuture) (p r : Point) where
  abbrev d : Derived
  d = p.derived

  -- a read of an id uses no command
  read_quiet : (o : Option NotificationResult) → command_of (id_awaited o d) p.left ≡ []
  read_quiet None = refl
  read_quiet (Some result) = by_id (id_of_result result)
    where
      by_id : (o : Option (List ℕ)) → command_of (id_read o d) p.left ≡ []
      by_id None = refl
      by_id (Some id) = refl

  -- the calls whose ids aren't all known
  unknown_counted : (handle : ℕ) (handles : List ℕ) → unresolved_handles d.tracked ≡ handle ∷ handles → child_handles r.derived.tracked ≡ child_handles d.tracked → d.counters.handle ≤ r.derived.counters.handle → Counted s p r [] (child_next true d) (command_of (awaited s true future d) p.left)
  unknown_counted handle handles first same le =
      quiet_counted s p r (child_next true d) (command_of (awaited s true future d) p.left)
      (ap (λ l. first_known l d.tracked) first)
      (ap (λ l. command_of (cancelled s l d) p.left) first ∙ read_quiet (present_in s handle d))
      same
      le

  -- the first call is sent the cancel signal
  sent_counted : (id : List ℕ) (ids : List (List ℕ)) → unresolved_handles d.tracked ≡ [] → invocation_ids d.tracked ≡ id ∷ ids → Sent s id p r → moved (cancelled s [] d) p ≡ Some r → Counted s p r [] (child_next true d) (command_of (awaited s true future d) p.left)
  sent_counted id ids known is sent moves =
      subst (λ l. Counted s p r [] (child_next true d) l) (sym commands) (by_calls d.tracked refl known is)
    where
      by_fault : (o : Option NamedFault) → moved (cancel_sent s id o d) p ≡ Some r → command_of (cancel_sent s id o d) p.left ≡ sent.used ∷ []
      by_fault (Some name) m = none_some m
      by_fault None m = ap (λ l. command_of (cancel_sent s id None d) l) sent.left

      commands : command_of (awaited s true future d) p.left ≡ sent.used ∷ []
      commands = ap (λ l. command_of (cancelled s l d) p.left) known ∙ ap (λ l. command_of (cancelling s l d) p.left) is ∙ by_fault (missing_number 0 0 0 d.counters) (ap (λ l. moved (cancelling s l d) p) (sym is) ∙ moves)

      given : d.counters.handle ≤ r.derived.counters.handle
      given = let e = sent.numbers.handle in omega (arith, e)

      by_first : (t : TrackedCall) (ts : List TrackedCall) (o : Option (List ℕ)) → t.invocation_id ≡ o → d.tracked ≡ t ∷ ts → unresolved_handles (call t.handle o ∷ ts) ≡ [] → invocation_ids (call t.handle o ∷ ts) ≡ id ∷ ids → Counted s p r [] (t ∷ []) (sent.used ∷ [])
      by_first t ts None has at e f = absurd (cc)
      by_first t ts (Some own) has at e f =
          let same : own ≡ id = cc in
          record {
            all = append-nil (child_handles d.tracked) ∙ ap child_handles at ∙ ap (λ l. t.handle ∷ child_handles (without_first_call l)) (sym at) ∙ ap (λ l. t.handle ∷ child_handles l) (sym sent.tracked);
            rises = given;
            are = (subst (λ o. IsCancelOf s o sent.used) (ap Some (sym same) ∙ sym has) sent.stands, refl);
          }

      by_calls : (ts : List TrackedCall) → d.tracked ≡ ts → unresolved_handles ts ≡ [] → invocation_ids ts ≡ id ∷ ids → Counted s p r [] (child_next true d) (sent.used ∷ [])
      by_calls [] at e f = absurd (cc)
      by_calls (t ∷ ts) at e f =
          let cancels : child_next true d ≡ t ∷ [] = ap (λ l. first_known l d.tracked) known ∙ ap (first_known []) at in
          subst (λ l. Counted s p r [] l (sent.used ∷ [])) (sym cancels) (by_first t ts t.invocation_id refl at e f)

  -- the await of a cancelled handler
  cancelled_counted : is_cancelled_in s d ≡ true → moved (awaited s true future d) p ≡ Some r → Counted s p r [] (child_next true d) (command_of (awaited s true future d) p.left)
  cancelled_counted c moves = by_move (cancel_move s (λ answers. step.Await future) p r future refl c (ap (λ b. moved (awaited s b future d) p) c ∙ moves))
    where
      by_move : CancelMove s p r → Counted s p r [] (child_next true d) (command_of (awaited s true future d) p.left)
      by_move (Arrives handle handles n queue first none is now) = unknown_counted handle handles first (ap (λ (z : Point). child_handles z.derived.tracked) (sym now)) (subst (λ (z : Point). d.counters.handle ≤ z.derived.counters.handle) now (no_less d.counters.handle))
      by_move (Learns handle handles id first is now) = unknown_counted handle handles first (ap (λ (z : Point). child_handles z.derived.tracked) (sym now) ∙ next_handles id d.tracked) (subst (λ (z : Point). d.counters.handle ≤ z.derived.counters.handle) now (no_less d.counters.handle))
      by_move (Sends id ids known is sent) = sent_counted id ids known is sent (ap (λ l. moved (cancelled s l d) p) (sym known) ∙ moves)
      by_move (Finishes known is now) =
          let o = id_at 1 d.handles in
          let e : Derived = record d { tracked = [] } in
          let none = no_child d.tracked known is in
          quiet_counted s p r (child_next true d) (command_of (awaited s true future d) p.left)
          (ap (λ l. first_known l d.tracked) known ∙ ap (first_known []) none)
          (ap (λ l. command_of (cancelled s l d) p.left) known ∙ ap (λ l. command_of (cancelling s l d) p.left) is)
          (ap (λ (z : Point). child_handles z.derived.tracked) (sym now) ∙ ap child_handles (taken_tracked o e) ∙ ap child_handles (sym none))
          (subst (λ (z : Point). d.counters.handle ≤ z.derived.counters.handle) now (subst (λ c. d.counters.handle ≤ c.handle) (sym (taken_counters o e)) (no_less d.counters.handle)))

  -- an await whose handler isn't cancelled
  awake_counted : (b : Bool) → moved (awaiting b d) p ≡ Some r → Counted s p r [] [] (command_of (awaiting b d) p.left)
  awake_counted true moves = quiet_counted s p r [] [] refl refl (ap (λ (z : Point). child_handles z.derived.tracked) (sym (same_Some _ r moves))) (subst (λ (z : Point). d.counters.handle ≤ z.derived.counters.handle) (same_Some _ r moves) (no_less d.counters.handle))
  awake_counted false moves = by_queue p.queue moves
    where
      by_queue : (queue : List Notification) → uses_arrival queue p ≡ Some r → Counted s p r [] [] []
      by_queue [] m = none_some m
      by_queue (n ∷ queue) m = quiet_counted s p r [] [] refl refl (ap (λ (z : Point). child_handles z.derived.tracked) (sym (same_Some _ r m))) (subst (λ (z : Point). d.counters.handle ≤ z.derived.counters.handle) (same_Some _ r m) (no_less d.counters.handle))

  await_counted : (b : Bool) → is_cancelled_in s d ≡ b → moved (awaited s b future d) p ≡ Some r → Counted s p r [] (child_next b d) (command_of (awaited s b future d) p.left)
  await_counted true c moves = cancelled_counted c moves
  await_counted false c moves = awake_counted (is_awake s future d) moves

-- ---- a move of what a step asks for

move_counted : (s : Setup) (a : Ask) (p r : Point) → AreGiven p.derived → moved (asked s a p.derived) p ≡ Some r → Counted s p r (children_new a p.derived.tracked r.derived.tracked) (child_of s a p.derived) (await_command s a p)
move_counted s (ask.Await future) p r given m = await_counted s future p r (is_cancelled_in s p.derived) refl m
move_counted s (ask.Command c) p r given m = plain_counted s p r (moved_grown (commanding s c c.refusal p.derived) p r (commanding_grown s c c.refusal p.derived given) m)
move_counted s (ask.Commands kind first second) p r given m =
    let d = p.derived in
    let t = turn_after s d.parts first (second ∷ []) d in
    let o = refused_before t.command t.behind t.before.counters in
    plain_counted s p r (moved_grown (part_unless o s kind t d) p r (turn_taken_grown s kind o t d given (turn_grown s d.parts first (second ∷ []) d given)) m)
move_counted s (ask.Read q) p r given m = let o = missing_number 1 0 1 p.derived.counters in plain_counted s p r (moved_grown (reading q o p.derived) p r (reading_grown q o p.derived) m)
move_counted s ask.Awakeable p r given m = let b = skips_replay s.options.journal_replay in plain_counted s p r (moved_grown (making_awakeable s b p.derived) p r (making_grown s b p.derived) m)
move_counted s (ask.Signal name) p r given m = let o = missing_signals 0 1 p.derived.counters in plain_counted s p r (moved_grown (signal_made name o p.derived) p r (signal_grown name o p.derived) m)
move_counted s (ask.Take handle) p r given m =
    let id = id_at handle.0 p.derived.handles in
    let o = present_result_for s.options.signal_delivery id (ready_in s p.derived) in
    plain_counted s p r (moved_grown (take_of_result handle id o p.derived) p r (result_grown handle id o p.derived) m)
move_counted s (ask.Completed handle) p r given m = plain_counted s p r (moved_grown (asked s (ask.Completed handle) p.derived) p r (grown_same p.derived p.derived refl (no_less p.derived.counters.handle)) m)
move_counted s ask.End p r given m = none_some m

-- ---- a run

cancels_join : (s : Setup) (ts us : List TrackedCall) (cs ds : List RawMessage) → AreCancelsOf s ts cs → AreCancelsOf s us ds → AreCancelsOf s (ts ++ us) (cs ++ ds)
cancels_join s [] us cs ds h k = subst (λ l. AreCancelsOf s us (l ++ ds)) (sym h) k
cancels_join s (t ∷ ts) us [] ds h k = absurd h
cancels_join s (t ∷ ts) us (c ∷ cs) ds h k = (h.0, cancels_join s ts us cs ds h.1 k)

counted_then : (s : Setup) (p r q : Point) (new cancels more others : List TrackedCall) (commands further : List RawMessage) → Counted s p r new cancels commands → Counted s r q more others further → Counted s p q (new ++ more) (cancels ++ others) (commands ++ further)
counted_then s p r q new cancels more others commands further a b =
    let H = child_handles p.derived.tracked in
    let R = child_handles r.derived.tracked in
    let Q = child_handles q.derived.tracked in
    let N = child_handles new in
    let M = child_handles more in
    let C = child_handles cancels in
    let O = child_handles others in
    record {
      all = ap (λ l. H ++ l) (handles_join new more)
          ∙ sym (append_assoc H N M)
          ∙ ap (λ l. l ++ M) a.all
          ∙ append_assoc C R M
          ∙ ap (λ l. C ++ l) b.all
          ∙ sym (append_assoc C O Q)
          ∙ ap (λ l. l ++ Q) (sym (handles_join cancels others));
      rises = subst (λ l. Rising p.derived.counters.handle l q.derived.counters.handle) (sym (handles_join new more)) (rising_join p.derived.counters.handle N r.derived.counters.handle M q.derived.counters.handle a.rises b.rises);
      are = cancels_join s cancels others commands further a.are b.are;
    }

counted_given : (s : Setup) (p r : Point) (new cancels : List TrackedCall) (commands : List RawMessage) → AreGiven p.derived → Counted s p r new cancels commands → AreGiven r.derived
counted_given s p r new cancels commands given c =
    rising_behind 0 (child_handles cancels) (child_handles r.derived.tracked) r.derived.counters.handle
    (subst (λ l. Rising 0 l r.derived.counters.handle) c.all (rising_join 0 (child_handles p.derived.tracked) p.derived.counters.handle (child_handles new) r.derived.counters.handle given c.rises))

run_counted : (s : Setup) (m : Meaning) (n : ℕ) (p q : Point) → AreGiven p.derived → after s m n p ≡ Some q → Counted s p q (children_made s m n p) (children_cancelled s m n p) (await_commands s m n p)
run_counted s m zero p q given h = subst (λ (z : Point). Counted s p z [] [] []) (same_Some p q h) (record { all = append-nil (child_handles p.derived.tracked); rises = no_less p.derived.counters.handle; are = refl })
run_counted s m (suc n) p q given h =
    let x = and_then_some (next s m p) (after s m n) q h in
    let a = ask_of s.version (m p.answers) in
    let first = move_counted s a p x.0 given x.1 in
    let more = run_counted s m n x.0 q (counted_given s p x.0 _ _ _ given first) x.2 in
    subst (λ (o : Option Point). Counted s p q (from_there o (λ r. children_new a p.derived.tracked r.derived.tracked) ++ from_there o (children_made s m n)) (child_of s a p.derived ++ from_there o (children_cancelled s m n)) (await_command s a p ++ from_there o (await_commands s m n))) (sym x.1)
    (counted_then s p x.0 q (children_new a p.derived.tracked x.0.derived.tracked) (child_of s a p.derived) (children_made s m n x.0) (children_cancelled s m n x.0) (await_command s a p) (await_commands s m n x.0) first more)

none_given : (s : Setup) (input : InputCommand) (ns : List Notification) (cs : List RawMessage) → AreGiven (start s input ns cs).derived
none_given s input ns cs = omega arith

-- in a run from its beginning
pub run_once : (s : Setup) (m : Meaning) (n : ℕ) (input : InputCommand) (ns : List Notification) (cs : List RawMessage) (q : Point) → after s m n (start s input ns cs) ≡ Some q → EachChildOnce s m n (start s input ns cs) q
run_once s m n input ns cs q h =
    let p = start s input ns cs in
    let c = run_counted s m n p q (none_given s input ns cs) h in
    let rises : Rising 0 (child_handles (children_made s m n p)) q.derived.counters.handle = rising_lower p.derived.counters.handle 0 (child_handles (children_made s m n p)) q.derived.counters.handle (omega arith) c.rises in
    record {
      all = c.all;
      once = rising_ascends 0 _ q.derived.counters.handle (subst (λ l. Rising 0 l q.derived.counters.handle) c.all rises);
      commands = c.are;
    }

-- on a journal
pub history_once : (s : Setup) (m : Meaning) (base : StateMap) (journal : List Entry) (h : History s m base journal) → EachChildOnce s m h.told.0 (start s h.input (notifications_in journal) h.rest) h.at
history_once s m base journal h = run_once s m h.told.0 h.input (notifications_in journal) h.rest h.at h.told.1
