-- A call of the handler that used the last recorded commands isn't refused after them, unless it is a cancelled await that has no command
-- index left for a further cancel signal.
use Rattle.std.proofs.Common.{◌≡◌, ◌≢◌, ◌⊎◌, ◌+◌, ◌-◌, ◌<◌, ◌≤◌, ℕ, zero, suc, Bool, true, false, List, [], ◌∷◌, ◌++◌, Option, Some, None, Result, Ok, Err, length, refl, sym, ap, ◌∙◌, subst, inl, inr, ⊎_elim, append_assoc, append-nil, arith}
use Rattle.std.specs.Prelude.{◌==◌, nat_lt, if◌then◌else◌, unwrap_or}
use Rattle.std.specs.Option.{option_or}
use Rattle.std.proofs.lemmas.Bool.{eqb-true}
use Rattle.std.proofs.lemmas.Bool.Decides.{nat_tests}
use Rattle.std.proofs.lemmas.Option.{same_Some}
use Rattle.journal_protocol.specs.NamedFault.{NamedFault}
use Rattle.journal_protocol.specs.NamedFault.TheVariants as fault
use Rattle.journal_protocol.specs.Notification.{Notification}
use Rattle.journal_protocol.specs.NotificationId.{NotificationId}
use Rattle.journal_protocol.specs.NotificationResult.{NotificationResult}
use Rattle.journal_protocol.specs.RawMessage.{RawMessage}
use Rattle.await_trees.specs.declared.handle.NotificationHandle.{NotificationHandle}
use Rattle.await_trees.specs.declared.tree.UnresolvedFuture.{UnresolvedFuture}
use Rattle.vm_types.specs.declared.steps.Answer.{Answer}
use Rattle.vm_types.specs.declared.steps.Answer.TheVariants as answer
use Rattle.vm_types.specs.declared.steps.Step.{Step}
use Rattle.vm_types.specs.declared.steps.Step.TheVariants as step
use Rattle.vm_types.specs.declared.values.Value.{Value}
use Rattle.vm_types.specs.Options.{skips_replay}
use Rattle.vm_types.specs.Values.{id_of_value, value_of}
use Rattle.vm_state.specs.declared.counters.Counters.{Counters}
use Rattle.vm_state.specs.declared.tracked_call.TrackedCall.{TrackedCall}
use Rattle.vm_state.specs.Counting.{given_on, missing_indexes, missing_number, missing_signals, most, next_index}
use Rattle.vm_parts.specs.Deliveries.{id_at, present_result_for}
use Rattle.vm_parts.specs.Tracked.{if_unresolved, invocation_ids, id_noted, unresolved_handles, without_first_call}
use Rattle.vm_asks.specs.declared.asks.Ask.{Ask}
use Rattle.vm_asks.specs.declared.asks.Ask.TheVariants as ask
use Rattle.vm_asks.specs.declared.asks.AnswerKind.{AnswerKind}
use Rattle.vm_asks.specs.declared.command.Command.{Command}
use Rattle.vm_asks.specs.declared.state_read.StateRead.{StateRead}
use Rattle.vm_asks.specs.Asks.{any_refusal, ask_of, missing_for}
use Rattle.vm_asks.specs.Requests.{ids_of}
use Rattle.vm_model.specs.Calls.{Demand, Derived, Meaning, Move, Setup, Turn, asked, awaited, awakeable_made, awaiting, behind_command, call_of, calling, cancelled, cancelling, cancel_sent, commanding, is_awake, is_cancelled_in, making_awakeable, numbered, part_unless, reading, ready_in, refused_before, signal_made, take_noting_id, take_of_result, take_of_value, turn_after}
use Rattle.vm_model.specs.Calls.Move.{Answers, Needs, Awaits, Ends, Refuses}
use Rattle.vm_model.specs.Histories.{IsAwaiting, Knowledge, Made}
use Rattle.vm_model.specs.Moves.{Point, after, and_then, command_used, found, longer, move_at, moved, next, uses_arrival, uses_command}
use Rattle.vm_model.proofs.Cancelling.{CancelMove, Sent, cancel_move, cancelled_next, cancelled_same, longer_list}
use Rattle.vm_model.proofs.Cancelling.CancelMove.{Arrives, Learns, Sends, Finishes}
use Rattle.vm_model.proofs.Compared.{after_answers}
use Rattle.vm_model.proofs.Parted.{PartMove, part_moves}
use Rattle.vm_model.proofs.Parted.PartMove.{More, Last}
use Rattle.vm_model.proofs.Runs.{and_then_some, none_some}
use Rattle.world_laws.proofs.Weighing.{next_weighs, sent_weighs, total, twice}

-- ---- an answer more

-- a call that was answered isn't where it was
answered_on : (s : Setup) (m : Meaning) (n : ℕ) (p r q : Point) (a : Answer) → r.answers ≡ p.answers ++ a ∷ [] → after s m n r ≡ Some q → q.answers ≡ p.answers → ⊥
answered_on s m n p r q a is on same =
    let more = after_answers s m n r q on in
    longer_list p.answers a more.0 (sym same ∙ more.1 ∙ ap (λ l. l ++ more.0) is ∙ append_assoc p.answers (a ∷ []) more.0)

-- ---- calls that are answered with their one move

-- the move brings an answer, or there is none
abbrev BringsAnswer : Move → Type 0
BringsAnswer (Answers gives d) = (a : Answer) × (gives ≡ a ∷ [])
BringsAnswer (Needs demand gives d) = (a : Answer) × (gives ≡ a ∷ [])
BringsAnswer Awaits = ⊥
BringsAnswer Ends = Unit {0}
BringsAnswer (Refuses name) = Unit {0}

numbered_brings : (s : Setup) (c : Command) (o : Option NamedFault) (d : Derived) → BringsAnswer (numbered s c o d)
numbered_brings s c (Some name) d = tt
numbered_brings s c None d = (_, refl)

commanding_brings : (s : Setup) (c : Command) (o : Option NamedFault) (d : Derived) → BringsAnswer (commanding s c o d)
commanding_brings s c (Some name) d = tt
commanding_brings s c None d = numbered_brings s c (missing_number (ids_of c.message) 0 (ids_of c.message) d.counters) d

reading_brings : (r : StateRead) (o : Option NamedFault) (d : Derived) → BringsAnswer (reading r o d)
reading_brings r (Some name) d = tt
reading_brings r None d = (_, refl)

awakeable_brings : (s : Setup) (o : Option NamedFault) (d : Derived) → BringsAnswer (awakeable_made s o d)
awakeable_brings s (Some name) d = tt
awakeable_brings s None d = (_, refl)

making_brings : (s : Setup) (b : Bool) (d : Derived) → BringsAnswer (making_awakeable s b d)
making_brings s true d = tt
making_brings s false d = awakeable_brings s (missing_signals 1 1 d.counters) d

signal_brings : (name : List ℕ) (o : Option NamedFault) (d : Derived) → BringsAnswer (signal_made name o d)
signal_brings name (Some fault) d = tt
signal_brings name None d = (_, refl)

noted_brings : (handle : NotificationHandle) (id : NotificationId) (value : Value) (o : Option (List TrackedCall)) (d : Derived) → BringsAnswer (take_noting_id handle id value o d)
noted_brings handle id value None d = tt
noted_brings handle id value (Some tracked) d = (_, refl)

value_brings : (handle : NotificationHandle) (id : NotificationId) (o : Option Value) (d : Derived) → BringsAnswer (take_of_value handle id o d)
value_brings handle id None d = tt
value_brings handle id (Some value) d = noted_brings handle id value (id_noted handle.0 (id_of_value value) d.tracked) d

result_brings : (handle : NotificationHandle) (id : Option NotificationId) (o : Option NotificationResult) (d : Derived) → BringsAnswer (take_of_result handle id o d)
result_brings handle (Some id) (Some result) d = value_brings handle id (value_of result) d
result_brings handle (Some id) None d = (_, refl)
result_brings handle None o d = (_, refl)

-- it is none of the calls that may need more than one move
abbrev IsOfOneMove : Ask → Type 0
IsOfOneMove (ask.Commands kind first second) = ⊥
IsOfOneMove (ask.Await future) = ⊥
IsOfOneMove a = Unit {0}

asked_brings : (s : Setup) (a : Ask) (d : Derived) → IsOfOneMove a → BringsAnswer (asked s a d)
asked_brings s (ask.Command c) d one = commanding_brings s c c.refusal d
asked_brings s (ask.Commands kind first second) d one = absurd one
asked_brings s (ask.Read r) d one = reading_brings r (missing_number 1 0 1 d.counters) d
asked_brings s ask.Awakeable d one = making_brings s (skips_replay s.options.journal_replay) d
asked_brings s (ask.Signal name) d one = signal_brings name (missing_signals 0 1 d.counters) d
asked_brings s (ask.Await future) d one = absurd one
asked_brings s (ask.Take handle) d one = result_brings handle (id_at handle.0 d.handles) (present_result_for s.options.signal_delivery (id_at handle.0 d.handles) (ready_in s d)) d
asked_brings s (ask.Completed handle) d one = (_, refl)
asked_brings s ask.End d one = tt

command_answers : (o : Result (Option NotificationResult) NamedFault) (e : Demand) (gives : List Answer) (d : Derived) (left : List RawMessage) (p r : Point) → command_used o e gives d left p ≡ Some r → r.answers ≡ p.answers ++ gives
command_answers (Err name) e gives d left p r m = none_some m
command_answers (Ok result) e gives d left p r m = ap (λ z. z.answers) (sym (same_Some _ r m))

uses_answers : (e : Demand) (gives : List Answer) (d : Derived) (left : List RawMessage) (p r : Point) → uses_command e gives d left p ≡ Some r → r.answers ≡ p.answers ++ gives
uses_answers e gives d [] p r m = none_some m
uses_answers e gives d (c ∷ left) p r m = command_answers (found e c) e gives d left p r m

moved_brings : (mv : Move) (p r : Point) → BringsAnswer mv → moved mv p ≡ Some r → (a : Answer) × (r.answers ≡ p.answers ++ a ∷ [])
moved_brings (Answers gives d) p r (a, one) m = (a, ap (λ z. z.answers) (sym (same_Some _ r m)) ∙ ap (λ l. p.answers ++ l) one)
moved_brings (Needs e gives d) p r (a, one) m = (a, uses_answers e gives d p.left p r m ∙ ap (λ l. p.answers ++ l) one)
moved_brings Awaits p r h m = absurd h
moved_brings Ends p r h m = none_some m
moved_brings (Refuses name) p r h m = none_some m

-- such a call makes no move without an answer
one_move : (s : Setup) (m : Meaning) (n : ℕ) (p q : Point) → IsOfOneMove (ask_of s.version (m p.answers)) → after s m n p ≡ Some q → q.answers ≡ p.answers → p ≡ q
one_move s m zero p q one h same = same_Some p q h
one_move s m (suc n) p q one h same =
    let x = and_then_some (next s m p) (after s m n) q h in
    let a = moved_brings (move_at s m p) p x.0 (asked_brings s (ask_of s.version (m p.answers)) p.derived one) x.1 in
    absurd (answered_on s m n p x.0 q a.0 a.1 x.2 same)

-- ---- calls with several commands

-- of two reasons there is none
neither : (a b : Option NamedFault) → option_or a b ≡ None → (a ≡ None) × (b ≡ None)
neither (Some name) b h = absurd (cc)
neither None b h = (refl, h)

none_of : (a b : Option NamedFault) → a ≡ None → b ≡ None → option_or a b ≡ None
none_of a b none others = ap (λ x. option_or x b) none ∙ others

-- the test fails that gives a reason
failed_test : (b : Bool) (name : NamedFault) (rest : Option NamedFault) → (if b then Some name else rest) ≡ None → (b ≡ false) × (rest ≡ None)
failed_test true name rest e = absurd (cc)
failed_test false name rest e = (refl, e)

passed : (b : Bool) (name : NamedFault) (rest : Option NamedFault) → b ≡ false → rest ≡ None → (if b then Some name else rest) ≡ None
passed b name rest fails none = ap (λ x. if x then Some name else rest) fails ∙ none

enough : (a b : ℕ) → nat_lt a b ≡ false → b ≤ a
enough a b h = grind (arith, nat_tests, h)

not_fewer : (a b : ℕ) → b ≤ a → nat_lt a b ≡ false
not_fewer a b h = grind (arith, nat_tests, h)

not_same : (a b : ℕ) → a < b → (a == b) ≡ false
not_same a b h = grind (arith, nat_tests, h)

left_over : (a b used all : ℕ) → a + b ≤ all - used → b ≤ all - (used + a)
left_over a b used all h = omega (arith, h)

indexes_left : (o : Option ℕ) → 2 ≤ most - unwrap_or o 0 → (next_index o == most) ≡ false
indexes_left None h = refl
indexes_left (Some i) h = by_test (i == most) refl
  where
    by_test : (b : Bool) → (i == most) ≡ b → ((if b then i else i + 1) == most) ≡ false
    by_test true is = let same : i ≡ most = eqb-true i most is in absurd (omega (arith, same, h))
    by_test false is = not_same (i + 1) most (omega (arith, h))

-- where the numbers of two commands were left, those of the second are after the first
second_numbers : (a b : ℕ) (k : Counters) → missing_number (a + b) 0 (a + b) k ≡ None → missing_indexes 2 k ≡ None → missing_number b 0 b (given_on a (record k { command = Some (next_index k.command) })) ≡ None
second_numbers a b k fits indexes =
    let x = failed_test _ _ _ fits in
    let y = failed_test _ _ _ x.1 in
    let z = failed_test _ _ _ y.1 in
    let i = failed_test _ _ _ indexes in
    passed _ _ _ (not_fewer (most - (k.completion + a)) b (left_over a b k.completion most (enough (most - k.completion) (a + b) x.0)))
    (passed _ _ _ y.0
    (passed _ _ _ (not_fewer (most - (k.handle + a)) b (left_over a b k.handle most (enough (most - k.handle) (a + b) z.0)))
    (passed _ _ _ (indexes_left k.command (enough (most - unwrap_or k.command 0) 2 i.0)) refl)))

-- the second command isn't refused where the call wasn't
second_allowed : (s : Setup) (first second : Command) (d : Derived) → refused_before first (second ∷ []) d.counters ≡ None → refused_before second [] (behind_command s first d).counters ≡ None
second_allowed s first second d h =
    let own = missing_number (ids_of first.message) 0 (ids_of first.message) d.counters in
    let each = neither (option_or (any_refusal first (second ∷ [])) (missing_for first (second ∷ []) d.counters)) (option_or first.refusal own) h in
    let all = neither (any_refusal first (second ∷ [])) (missing_for first (second ∷ []) d.counters) each.0 in
    let allowed = neither first.refusal second.refusal all.0 in
    let fits = neither (missing_number (ids_of first.message + ids_of second.message) 0 (ids_of first.message + ids_of second.message) d.counters) (missing_indexes 2 d.counters) all.1 in
    none_of second.refusal _ allowed.1 (second_numbers (ids_of first.message) (ids_of second.message) d.counters fits.0 fits.1)

module _ (s : Setup) (m : Meaning) (kind : AnswerKind) (first second : Command) where
  -- the call is made at the point
  abbrev Asks : Point → Type 0
  Asks z = ask_of s.version (m z.answers) ≡ ask.Commands kind first second

  -- the turn of a call of which this many commands are made
  abbrev turn : Point → ℕ → Turn
  turn z n = turn_after s n first (second ∷ []) z.derived

  -- once the first command is made, the second isn't refused, and with it the call is answered
  second_on : (n : ℕ) (p r q : Point) (why : NamedFault) → Asks p → r.answers ≡ p.answers → r.derived ≡ record p.derived { parts = 1 } → refused_before first (second ∷ []) p.derived.counters ≡ None → after s m n r ≡ Some q → q.answers ≡ p.answers → move_at s m q ≡ Refuses why → ⊥
  second_on n p r q why asks here made allowed h same refuses = by_moves n h
    where
      d' : Derived
      d' = record p.derived { parts = 1 }

      asks_there : Asks r
      asks_there = ap (λ l. ask_of s.version (m l)) here ∙ asks

      free : refused_before second [] (behind_command s first d').counters ≡ None
      free = second_allowed s first second d' allowed

      t : Turn
      t = record { command = second; behind = []; before = behind_command s first d' }

      move_is : move_at s m r ≡ part_unless None s kind t d'
      move_is = (λ i. asked s (asks_there i) (made i)) ∙ ap (λ o. part_unless o s kind t d') free

      by_part : (k : ℕ) (z : Point) → after s m k z ≡ Some q → PartMove s kind (record { command = second; behind = []; before = behind_command s first r.derived }) r z → ⊥
      by_part k z on (More b bs more u) = absurd (cc)
      by_part k z on (Last none u) = answered_on s m k r z q _ u.answers on (same ∙ sym here)

      not_refused : (mv : Move) → mv ≡ part_unless None s kind t d' → mv ≡ Refuses why → ⊥
      not_refused mv is refused = let z : part_unless None s kind t d' ≡ Refuses why = sym is ∙ refused in absurd (cc)

      by_moves : (k : ℕ) → after s m k r ≡ Some q → ⊥
      by_moves zero on = not_refused (move_at s m r) move_is (ap (move_at s m) (same_Some r q on) ∙ refuses)
      by_moves (suc k) on =
          let x = and_then_some (next s m r) (after s m k) q on in
          by_part k x.0 x.2
          (part_moves s kind None (record { command = second; behind = []; before = behind_command s first r.derived }) r x.0
          (subst (λ e. moved (part_unless None s kind (record { command = second; behind = []; before = behind_command s first e }) e) r ≡ Some x.0) (sym made) (ap (λ mv. moved mv r) (sym move_is) ∙ x.1)))

  -- such a call isn't refused once it has used a command
  several_allowed : (n : ℕ) (p q : Point) (why : NamedFault) → Asks p → p.derived.parts ≡ 0 → after s m n p ≡ Some q → q.answers ≡ p.answers → q.left ≢ p.left → move_at s m q ≡ Refuses why → ⊥
  several_allowed zero p q why asks rests h same other refuses = other (ap (λ z. z.left) (sym (same_Some p q h)))
  several_allowed (suc n) p q why asks rests h same other refuses =
      let x = and_then_some (next s m p) (after s m n) q h in
      by_refusal x.0 x.2 (refused_before first (second ∷ []) p.derived.counters) refl
      (subst (λ (k : ℕ). moved (part_unless (refused_before (turn p k).command (turn p k).behind (turn p k).before.counters) s kind (turn p k) p.derived) p ≡ Some x.0) rests (subst (λ a. moved (asked s a p.derived) p ≡ Some x.0) asks x.1))
    where
      by_part : (r : Point) → after s m n r ≡ Some q → refused_before first (second ∷ []) p.derived.counters ≡ None → PartMove s kind (record { command = first; behind = second ∷ []; before = p.derived }) p r → ⊥
      by_part r on allowed (More b bs more u) =
          second_on n p r q why asks (u.answers ∙ append-nil p.answers) (u.derived ∙ (λ i. record p.derived { parts = suc (rests i) })) allowed on same refuses
      by_part r on allowed (Last none u) = absurd (cc)

      by_refusal : (r : Point) → after s m n r ≡ Some q → (o : Option NamedFault) → refused_before first (second ∷ []) p.derived.counters ≡ o → moved (part_unless o s kind (record { command = first; behind = second ∷ []; before = p.derived }) p.derived) p ≡ Some r → ⊥
      by_refusal r on (Some name) is moves = none_some moves
      by_refusal r on None is moves = by_part r on is (part_moves s kind None (record { command = first; behind = second ∷ []; before = p.derived }) p r moves)

-- ---- awaits

-- the calls after the first, if all their ids are known
others_known : (ts : List TrackedCall) → unresolved_handles ts ≡ [] → unresolved_handles (without_first_call ts) ≡ []
others_known [] e = refl
others_known (t ∷ ts) e = by_id t.invocation_id e
  where
    by_id : (o : Option (List ℕ)) → if_unresolved o t.handle (unresolved_handles ts) ≡ [] → unresolved_handles ts ≡ []
    by_id None f = absurd (cc)
    by_id (Some id) f = f

-- the handler is cancelled, and all ids of its tracked calls are known
record IsSending (s : Setup) (d : Derived) : Type 0 where
  cancelled : is_cancelled_in s d ≡ true
  known : unresolved_handles d.tracked ≡ []

-- it sends cancel signals at the second point, and weighs no more there than at the first
abbrev SendsFrom : Setup → Point → Point → Type 0
SendsFrom s p q = IsSending s q.derived × (total q.derived ≤ total p.derived)

-- no command was used between two points, or it sends cancel signals
abbrev Uses : Setup → Point → Point → Type 0
Uses s p q = (q.left ≡ p.left) ⊎ SendsFrom s p q

-- a known id is that of a call
some_child : (ts : List TrackedCall) (id : List ℕ) (ids : List (List ℕ)) → invocation_ids ts ≡ id ∷ ids → (t : TrackedCall) × (more : List TrackedCall) × (ts ≡ t ∷ more)
some_child [] id ids e = absurd (cc)
some_child (t ∷ ts) id ids e = (t, ts, refl)

-- a move that uses no command adds nothing
quiet_weighs : (s : Setup) (m : Meaning) (p r : Point) → next s m p ≡ Some r → r.left ≡ p.left → total r.derived ≤ total p.derived
quiet_weighs s m p r e same =
    let most_all = next_weighs s m p r e in
    let left : length r.left ≡ length p.left = ap length same in
    omega (arith, most_all, left)

module _ (s : Setup) (m : Meaning) (future : UnresolvedFuture) where
  sent_sends : (id : List ℕ) (p r : Point) → is_cancelled_in s p.derived ≡ true → unresolved_handles p.derived.tracked ≡ [] → Sent s id p r → IsSending s r.derived
  sent_sends id p r c known sent = record {
    cancelled = cancelled_same s p.derived r.derived sent.handles sent.usage c;
    known = ap unresolved_handles sent.tracked ∙ others_known p.derived.tracked known;
  }

  -- the cancel signal that is sent next
  sends_next : (id : List ℕ) (ids : List (List ℕ)) (p r : Point) → IsAwaiting m p future → is_cancelled_in s p.derived ≡ true → unresolved_handles p.derived.tracked ≡ [] → invocation_ids p.derived.tracked ≡ id ∷ ids → next s m p ≡ Some r → total r.derived ≤ total p.derived
  sends_next id ids p r at c known is moves =
      let child = some_child p.derived.tracked id ids is in
      sent_weighs s id (missing_number 0 0 0 p.derived.counters) p r child.0 child.1 child.2
      (sym (ap (λ l. moved (cancelling s l p.derived) p) is) ∙ sym (ap (λ l. moved (cancelled s l p.derived) p) known) ∙ sym (ap (λ b. moved (awaited s b future p.derived) p) c) ∙ sym (ap (λ st. moved (call_of s st p.derived) p) at) ∙ moves)

  -- it goes on to send cancel signals as long as the await isn't answered
  still_sends : (n : ℕ) (p q : Point) → IsAwaiting m p future → IsSending s p.derived → after s m n p ≡ Some q → q.answers ≡ p.answers → SendsFrom s p q
  still_sends zero p q at x h same = subst (SendsFrom s p) (same_Some p q h) (x, omega arith)
  still_sends (suc n) p q at x h same =
      let y = and_then_some (next s m p) (after s m n) q h in
      by_move y.0 y.1 y.2 (cancel_move s m p y.0 future at x.cancelled y.1)
      (λ here sends. still_sends n y.0 q (ap m here ∙ at) sends y.2 (same ∙ sym here))
    where
      joined : (r : Point) → total r.derived ≤ total p.derived → SendsFrom s r q → SendsFrom s p q
      joined r one (sends, more) = (sends, omega (arith, one, more))

      by_move : (r : Point) → next s m p ≡ Some r → after s m n r ≡ Some q → CancelMove s p r → (r.answers ≡ p.answers → IsSending s r.derived → SendsFrom s r q) → SendsFrom s p q
      by_move r moves on (Arrives handle handles note queue first none is now) ih = absurd (let z : [] ≡ handle ∷ handles = sym x.known ∙ first in cc)
      by_move r moves on (Learns handle handles id first is now) ih = absurd (let z : [] ≡ handle ∷ handles = sym x.known ∙ first in cc)
      by_move r moves on (Sends id ids known is sent) ih = joined r (sends_next id ids p r at x.cancelled known is moves) (ih sent.answers (sent_sends id p r x.cancelled known sent))
      by_move r moves on (Finishes known is now) ih = absurd (answered_on s m n p r q answer.Cancelled (ap (λ z. z.answers) (sym now)) on same)

  -- an await that isn't answered has used no command, or it sends cancel signals
  await_uses : (n : ℕ) (p q : Point) → IsAwaiting m p future → after s m n p ≡ Some q → q.answers ≡ p.answers → Uses s p q
  await_uses zero p q at h same = inl (ap (λ z. z.left) (sym (same_Some p q h)))
  await_uses (suc n) p q at h same =
      let y = and_then_some (next s m p) (after s m n) q h in
      by_test (is_cancelled_in s p.derived) refl y.0 y.1 y.2
      (λ here left.
      ⊎_elim
      (λ (e : q.left ≡ y.0.left). inl (e ∙ left))
      (λ (e : SendsFrom s y.0 q). inr (joined y.0 (quiet_weighs s m p y.0 y.1 left) e))
      (await_uses n y.0 q (ap m here ∙ at) y.2 (same ∙ sym here)))
    where
      joined : (r : Point) → total r.derived ≤ total p.derived → SendsFrom s r q → SendsFrom s p q
      joined r one (sends, more) = (sends, omega (arith, one, more))

      by_queue : (queue : List Notification) (r : Point) → uses_arrival queue p ≡ Some r → (r.answers ≡ p.answers → r.left ≡ p.left → Uses s p q) → Uses s p q
      by_queue [] r moves ih = none_some moves
      by_queue (note ∷ queue) r moves ih = ih (ap (λ z. z.answers) (sym (same_Some _ r moves))) (ap (λ z. z.left) (sym (same_Some _ r moves)))

      by_awake : (b : Bool) (r : Point) → moved (awaiting b p.derived) p ≡ Some r → after s m n r ≡ Some q → (r.answers ≡ p.answers → r.left ≡ p.left → Uses s p q) → Uses s p q
      by_awake true r moves on ih = absurd (answered_on s m n p r q answer.Awake (ap (λ z. z.answers) (sym (same_Some _ r moves))) on same)
      by_awake false r moves on ih = by_queue p.queue r moves ih

      by_move : (r : Point) → is_cancelled_in s p.derived ≡ true → next s m p ≡ Some r → after s m n r ≡ Some q → CancelMove s p r → (r.answers ≡ p.answers → r.left ≡ p.left → Uses s p q) → Uses s p q
      by_move r c moves on (Arrives handle handles note queue first none is now) ih = ih (ap (λ z. z.answers) (sym now)) (ap (λ z. z.left) (sym now))
      by_move r c moves on (Learns handle handles id first is now) ih = ih (ap (λ z. z.answers) (sym now)) (ap (λ z. z.left) (sym now))
      by_move r c moves on (Sends id ids known is sent) ih = inr (joined r (sends_next id ids p r at c known is moves) (still_sends n r q (ap m sent.answers ∙ at) (sent_sends id p r c known sent) on (same ∙ sym sent.answers)))
      by_move r c moves on (Finishes known is now) ih = absurd (answered_on s m n p r q answer.Cancelled (ap (λ z. z.answers) (sym now)) on same)

      by_test : (b : Bool) → is_cancelled_in s p.derived ≡ b → (r : Point) → next s m p ≡ Some r → after s m n r ≡ Some q → (r.answers ≡ p.answers → r.left ≡ p.left → Uses s p q) → Uses s p q
      by_test true c r moves on ih = by_move r c moves on (cancel_move s m p r future at c moves) ih
      by_test false c r moves on ih =
          by_awake (is_awake s future p.derived) r (sym (ap (λ b. moved (awaited s b future p.derived) p) c) ∙ sym (ap (λ st. moved (call_of s st p.derived) p) at) ∙ moves) on ih

  -- where it sends cancel signals it is refused only if no command index is left
  lacks_index : (q : Point) (why : NamedFault) → IsAwaiting m q future → IsSending s q.derived → move_at s m q ≡ Refuses why → (id : List ℕ) × (ids : List (List ℕ)) × (invocation_ids q.derived.tracked ≡ id ∷ ids) × (missing_number 0 0 0 q.derived.counters ≡ Some why)
  lacks_index q why at x refuses =
      by_ids (invocation_ids q.derived.tracked) refl
      (sym (ap (λ l. cancelled s l q.derived) x.known) ∙ sym (ap (λ b. awaited s b future q.derived) x.cancelled) ∙ sym (ap (λ st. call_of s st q.derived) at) ∙ refuses)
    where
      by_fault : (id : List ℕ) (o : Option NamedFault) → cancel_sent s id o q.derived ≡ Refuses why → o ≡ Some why
      by_fault id (Some name) e = ap Some (let z : Refuses name ≡ Refuses why = e in cc)
      by_fault id None e = absurd (cc)

      by_ids : (ids : List (List ℕ)) → invocation_ids q.derived.tracked ≡ ids → cancelling s ids q.derived ≡ Refuses why → (id : List ℕ) × (more : List (List ℕ)) × (invocation_ids q.derived.tracked ≡ id ∷ more) × (missing_number 0 0 0 q.derived.counters ≡ Some why)
      by_ids [] is e = absurd (cc)
      by_ids (id ∷ ids) is e = (id, ids, is, by_fault id (missing_number 0 0 0 q.derived.counters) e)

-- ---- any call

-- The call is an await of a cancelled handler, and no command index is left for the cancel signal of the next call. It weighs no more than
-- the point where the call began.
record LacksIndex (p q : Point) (why : NamedFault) : Type 0 where
  id : List ℕ
  ids : List (List ℕ)
  next_child : invocation_ids q.derived.tracked ≡ id ∷ ids
  missing : missing_number 0 0 0 q.derived.counters ≡ Some why
  weighs : total q.derived ≤ total p.derived

module _ (s : Setup) (m : Meaning) (n : ℕ) (p q : Point) (why : NamedFault) (rests : p.derived.parts ≡ 0) (h : after s m n p ≡ Some q) (same : q.answers ≡ p.answers) (other : q.left ≢ p.left) (refuses : move_at s m q ≡ Refuses why) where
  by_await : (future : UnresolvedFuture) → m p.answers ≡ step.Await future → LacksIndex p q why
  by_await future at =
      ⊎_elim
      (λ (e : q.left ≡ p.left). absurd (other e))
      (λ (x : SendsFrom s p q).
      let y = lacks_index s m future q why (ap m same ∙ at) x.0 refuses in
      record { id = y.0; ids = y.1; next_child = y.2; missing = y.3; weighs = x.1 })
      (await_uses s m future n p q at h same)

  by_ask : (a : Ask) → ask_of s.version (m p.answers) ≡ a → ((future : UnresolvedFuture) → a ≢ ask.Await future) → LacksIndex p q why
  by_ask (ask.Commands kind first second) is other_ask = absurd (several_allowed s m kind first second n p q why is rests h same other refuses)
  by_ask (ask.Await future) is other_ask = absurd (other_ask future refl)
  by_ask a is other_ask = absurd (other (ap (λ z. z.left) (sym (one_move s m n p q (subst IsOfOneMove (sym is) tt) h same))))

  by_step : (st : Step) → m p.answers ≡ st → LacksIndex p q why
  by_step (step.Await future) is = by_await future is
  by_step st is = by_ask (ask_of s.version st) (ap (ask_of s.version) is) (λ future e. absurd (cc))

  lacks : LacksIndex p q why
  lacks = by_step (m p.answers) refl

-- a fault of a command that needs no numbers is that of its index
full_index : (k : Counters) (why : NamedFault) → missing_number 0 0 0 k ≡ Some why → unwrap_or k.command 0 ≡ most
full_index k why =
    by_tests (nat_lt (most - k.completion) 0) (nat_lt (most - k.signal) 0) (nat_lt (most - k.handle) 0) (unwrap_or k.command 0 == most) refl
    (not_fewer (most - k.completion) 0 (omega arith)) (not_fewer (most - k.signal) 0 (omega arith)) (not_fewer (most - k.handle) 0 (omega arith))
  where
    by_tests : (a b c d : Bool) → (unwrap_or k.command 0 == most) ≡ d → a ≡ false → b ≡ false → c ≡ false
        → (if a then Some fault.ExhaustedCompletionIds else if b then Some fault.ExhaustedSignalIds else if c then Some fault.ExhaustedHandles else if d then Some fault.ExhaustedCommandIndexes else None) ≡ Some why → unwrap_or k.command 0 ≡ most
    by_tests true b c d is e f g h = absurd (cc)
    by_tests false true c d is e f g h = absurd (cc)
    by_tests false false true d is e f g h = absurd (cc)
    by_tests false false false true is e f g h = eqb-true (unwrap_or k.command 0) most is
    by_tests false false false false is e f g h = none_some h

-- A call that has used recorded commands isn't refused, if there is room for as many commands again.
pub goes_through : (s : Setup) (m : Meaning) (n : ℕ) (p q : Point) (why : NamedFault) (cs : List RawMessage) → p.derived.parts ≡ 0 → after s m n p ≡ Some q → q.answers ≡ p.answers → q.left ≢ p.left → move_at s m q ≡ Refuses why → total p.derived ≤ twice cs → twice cs ≤ most → ⊥
goes_through s m n p q why cs rests h same other refuses weighs room =
    let x = lacks s m n p q why rests h same other refuses in
    let index = full_index q.derived.counters why x.missing in
    let child = some_child q.derived.tracked x.id x.ids x.next_child in
    let calls : length q.derived.tracked ≡ suc (length child.1) = ap length child.2 in
    let on = x.weighs in
    omega (arith, index, calls, on, weighs, room)
