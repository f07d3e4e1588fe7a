-- Runs of some handlers, computed.
use Rattle.std.proofs.Common.{◌≡◌, ℕ, suc, true, false, List, [], ◌∷◌, ◌++◌, Option, Some, None, refl, ap, ◌∙◌}
use Rattle.std.specs.Prelude.{◌||◌}
use Rattle.std.proofs.lemmas.Option.{same_Some}
use Rattle.std.specs.Prelude.{codes, option_map}
use Rattle.std.specs.Str.{chars, is_utf8}
use Rattle.journal_protocol.specs.InputCommand.{InputCommand}
use Rattle.journal_protocol.specs.Message.TheVariants as message
use Rattle.journal_protocol.specs.RawMessage.{RawMessage}
use Rattle.journal_protocol.specs.Notification.{Notification}
use Rattle.journal_protocol.specs.NotificationId.TheVariants.{CompletionId, SignalId}
use Rattle.journal_protocol.specs.NotificationResult.{NotificationResult}
use Rattle.journal_protocol.specs.NotificationResult.TheVariants as came
use Rattle.journal_protocol.specs.ValueOrFailure.TheVariants as given
use Rattle.journal_protocol.specs.VoidOrValue.TheVariants as stands
use Rattle.journal_protocol.specs.Version.TheVariants.{V7}
use Rattle.journal_state.specs.Choices.{read_void_or_value}
use Rattle.journal_messages.specs.HeaderEqual.{header_equal}
use Rattle.journal_messages.specs.Reading.{body_as, message_in}
use Rattle.journal_state.specs.Encoding.{clear_state, get_eager_state}
use Rattle.journal_calls.specs.Choices.{read_signal, read_signal_result}
use Rattle.journal_calls.specs.Encoding.{send_signal}
use Rattle.journal_values.specs.Encoding.{failure}
use Rattle.journal_attempt.specs.Encoding.{output_body, sleep_body}
use Rattle.journal_values.specs.Parts.{read_value}
use Rattle.vm_types.specs.declared.steps.Answer.{Answer}
use Rattle.vm_types.specs.declared.steps.Answer.TheVariants as answer
use Rattle.vm_types.specs.declared.steps.Step.TheVariants as step
use Rattle.await_trees.specs.declared.handle.NotificationHandle.{NotificationHandle}
use Rattle.await_trees.specs.declared.tree.UnresolvedFuture.TheVariants.{Single}
use Rattle.vm_types.specs.declared.types.CallHandle.{CallHandle}
use Rattle.vm_types.specs.declared.values.NonEmptyValue.TheVariants.{Success, Failure}
use Rattle.vm_types.specs.declared.values.Value.TheVariants as value
use Rattle.vm_types.specs.Options.{default_options}
use Rattle.vm_state.specs.TrackedCalls.{unresolved_call}
use Rattle.vm_asks.specs.Asks.{cancel_invocation_command}
use Rattle.vm_types.specs.CommandTypes.{message_type}
use Rattle.wire.specs.Format.{bytes, list, option, read_byte, read_bytes, read_flag, read_items, read_list, read_option, read_pair, read_text, read_u16, read_u32, read_u64, u16s, u32s, u64s}
use Rattle.await_trees.specs.Outcomes.{awake, is_done}
use Rattle.await_trees.proofs.TreeOf.{tree_of-Single}
use Rattle.vm_model.specs.Calls.Move.{Ends}
use Rattle.vm_model.specs.Calls.{Derived, Setup, Meaning, call_of, counted, is_awake, is_cancelled_in, leaf_in}
use Rattle.vm_model.specs.Histories.{IsAwaiting}
use Rattle.vm_model.proofs.Waking.{waits_next, wakes_next}
use Rattle.journal_entries.specs.Journal.{stored_form}
use Rattle.vm_model.specs.Moves.{Point, after, and_then, arrival_used, move_at, next, start, told_input, uses_arrival}

setup : Setup
setup = record { version = V7; options = default_options; identity = record { id = codes "abc"; debug_id = codes "abc"; key = []; random_seed = 0; scope = None; limit_key = None; idempotency_key = None } }

-- it sleeps, awaits that, takes it, writes an empty output and ends
sleeper : Meaning
sleeper (i ∷ []) = step.Sleep [] (record { secs = 1; nanos = 0 }) None
sleeper (i ∷ answer.Handle h ∷ []) = step.Await (Single h)
sleeper (i ∷ answer.Handle h ∷ answer.Awake ∷ []) = step.Take h
sleeper (i ∷ answer.Handle h ∷ answer.Awake ∷ answer.Taken x ∷ []) = step.WriteOutput (Success []) (record { unstable_serialization = false })
sleeper _ = step.End

input : InputCommand
input = record { headers = []; value = codes "Till" }

void : ℕ → Notification
void n = record { id = CompletionId n; result = came.Void }

handle : ℕ → NotificationHandle
handle n = record { 0 = n }

told : Answer
told = answer.Input (told_input setup.identity input)

-- the answers after n moves, and the recorded commands that are left
told_by : Meaning → ℕ → List Notification → List RawMessage → Option (List Answer × List RawMessage)
told_by m n ns cs = option_map (λ p. (p.answers, p.left)) (after setup m n (start setup input ns cs))

-- the point that is there
point_in : Option Point → Point
point_in None = start setup input [] []
point_in (Some p) = p

-- a handle that is awaited wakes by its own result
wakes_by : (h : NotificationHandle) (d : Derived) → is_awake setup (Single h) d ≡ is_done (leaf_in setup d h.0) || false
wakes_by h d = ap (awake (leaf_in setup d)) (tree_of-Single h)

-- An await of a handle whose result is the next arrival, where the handler isn't cancelled: that is used, and the await is answered.
abbrev awoken : Notification → List Notification → Point → Point
awoken n queue p = record p { answers = p.answers ++ answer.Awake ∷ []; derived = arrival_used n p.derived; queue = queue }

awaits_one : (m : Meaning) (h : NotificationHandle) (p : Point) (n : Notification) (queue : List Notification) (more : ℕ) → IsAwaiting m p (Single h) → p.queue ≡ n ∷ queue → is_cancelled_in setup p.derived ≡ false → is_cancelled_in setup (arrival_used n p.derived) ≡ false → is_done (leaf_in setup p.derived h.0) ≡ false → is_done (leaf_in setup (arrival_used n p.derived) h.0) ≡ true
    → after setup m (suc (suc more)) p ≡ after setup m more (awoken n queue p)
awaits_one m h p n queue more is e c c' before then =
    let there : Point = record p { derived = arrival_used n p.derived; queue = queue } in
    let uses : next setup m p ≡ Some there = waits_next setup m (Single h) p is (ap (λ b. b || is_awake setup (Single h) p.derived) c ∙ wakes_by h p.derived ∙ ap (λ b. b || false) before) ∙ ap (λ q. uses_arrival q p) e in
    let wakes : next setup m there ≡ Some (awoken n queue p) = wakes_next setup m (Single h) there is c' (wakes_by h there.derived ∙ ap (λ b. b || false) then) in
    ap (λ o. and_then o (after setup m (suc more))) uses ∙ ap (λ o. and_then o (after setup m more)) wakes

slept : RawMessage
slept = stored_form (message.Sleep (record { wake_up_time = 1000; result_completion_id = 1; name = [] }))

done : RawMessage
done = stored_form (message.Output (record { result = given.Value [] }))

-- the point after the sleep
asleep : Point
asleep = point_in (after setup sleeper 1 (start setup input (void 1 ∷ []) (slept ∷ done ∷ [])))

-- the calls after the input use both recorded commands and the arrival
told_two : told_by sleeper 5 (void 1 ∷ []) (slept ∷ done ∷ []) ≡ Some (told ∷ answer.Handle (handle 17) ∷ answer.Awake ∷ answer.Taken (Some value.Void) ∷ answer.Unit ∷ [], [])
unfolding told_by point_in asleep slept done setup sleeper void told handle is_utf8 chars header_equal message_in body_as sleep_body output_body read_value bytes read_byte read_bytes read_text read_pair read_u16 read_u32 read_u64 u16s u32s u64s
told_two = ap (option_map (λ p. (p.answers, p.left))) (awaits_one sleeper (handle 17) asleep (void 1) [] 2 refl refl refl refl refl refl)

-- the point of such a run
abbrev IsThere : Option Point → List Answer → Type 0
IsThere o answers = (p : Point) × (o ≡ Some p) × (p.answers ≡ answers) × (p.left ≡ [])

abbrev shown : Point → List Answer × List RawMessage
shown p = (p.answers, p.left)

is_there : (o : Option Point) (answers : List Answer) → option_map shown o ≡ Some (answers, []) → IsThere o answers
is_there None answers h = absurd (let z : None ≡ Some (answers, []) = h in cc)
is_there (Some p) answers h =
    let same : shown p ≡ (answers, []) = same_Some (shown p) (answers, []) h in
    (p, refl, ap (λ (x : List Answer × List RawMessage). x.0) same, ap (λ (x : List Answer × List RawMessage). x.1) same)

-- there the handler ends: a journal on which it has finished
ended : (p : Point) × (after setup sleeper 5 (start setup input (void 1 ∷ []) (slept ∷ done ∷ [])) ≡ Some p) × (p.left ≡ []) × (move_at setup sleeper p ≡ Ends)
unfolding told_by sleeper
ended =
    let x = is_there (after setup sleeper 5 (start setup input (void 1 ∷ []) (slept ∷ done ∷ []))) (told ∷ answer.Handle (handle 17) ∷ answer.Awake ∷ answer.Taken (Some value.Void) ∷ answer.Unit ∷ []) told_two in
    (x.0, x.1, x.3, ap (λ answers. call_of setup (sleeper answers) x.0.derived) x.2)

cleared : RawMessage
cleared = stored_form (message.ClearState (record { name = []; key = codes "k" }))

-- on a journal of another handler no move leads on from the input
other_journal : after setup sleeper 1 (start setup input [] (cleared ∷ [])) ≡ None
unfolding setup sleeper cleared message_type
other_journal = refl

-- it makes an awakeable and awaits it; by its value it clears a key, or writes the failure that it got
chooser : Meaning
chooser (i ∷ []) = step.Awakeable
chooser (i ∷ answer.Awakeable a ∷ []) = step.Await (Single a.handle)
chooser (i ∷ answer.Awakeable a ∷ answer.Awake ∷ []) = step.Take a.handle
chooser (i ∷ answer.Awakeable a ∷ answer.Awake ∷ answer.Taken (Some (value.Success x)) ∷ []) = step.StateClear (codes "k") None
chooser (i ∷ answer.Awakeable a ∷ answer.Awake ∷ answer.Taken (Some (value.Failure f)) ∷ []) = step.WriteOutput (Failure f) (record { unstable_serialization = false })
chooser _ = step.End

sent : NotificationResult → Notification
sent r = record { id = SignalId 17; result = r }

-- the point after the awakeable
waiting : NotificationResult → List RawMessage → Point
waiting r cs = point_in (after setup chooser 1 (start setup input (sent r ∷ []) cs))

completed : option_map (λ a. a.1) (told_by chooser 5 (sent (came.Value (codes "x")) ∷ []) (cleared ∷ [])) ≡ Some []
unfolding told_by point_in waiting setup chooser sent cleared is_utf8 chars header_equal message_in body_as clear_state bytes read_byte read_bytes read_text read_pair read_u16 read_u32 read_u64 u16s u32s u64s lib.Utf8.encode
completed = ap (λ o. option_map (λ (a : List Answer × List RawMessage). a.1) (option_map (λ (p : Point). (p.answers, p.left)) o)) (awaits_one chooser (record { 0 = 17 }) (waiting (came.Value (codes "x")) (cleared ∷ [])) (sent (came.Value (codes "x"))) [] 2 refl refl refl refl refl refl)

refused : RawMessage
refused = stored_form (message.Output (record { result = given.Failure (record { code = 409; message = codes "no"; metadata = [] }) }))

failed : option_map (λ a. a.1) (told_by chooser 5 (sent (came.Failure (record { code = 65945; message = codes "no"; metadata = [] })) ∷ []) (refused ∷ [])) ≡ Some []
unfolding told_by point_in waiting setup chooser sent refused is_utf8 chars header_equal message_in body_as output_body failure list option read_value read_items read_list bytes read_byte read_bytes read_text read_pair read_u16 read_u32 read_u64 u16s u32s u64s lib.Utf8.encode
failed = ap (λ o. option_map (λ (a : List Answer × List RawMessage). a.1) (option_map (λ (p : Point). (p.answers, p.left)) o)) (awaits_one chooser (record { 0 = 17 }) (waiting (came.Failure (record { code = 65945; message = codes "no"; metadata = [] })) (refused ∷ [])) (sent (came.Failure (record { code = 65945; message = codes "no"; metadata = [] }))) [] 2 refl refl refl refl refl refl)

-- it reads a key, takes the result at once and ends
reader : Meaning
reader (i ∷ []) = step.StateGet (codes "k") None (record { unstable_serialization = false })
reader (i ∷ answer.Handle h ∷ []) = step.Take h
reader _ = step.End

-- the eager read, with the value of then
read_eagerly : RawMessage
read_eagerly = stored_form (message.GetEagerState (record { name = []; key = codes "k"; result = Some (stands.Value (codes "v")) }))

-- the recorded value is taken, for all states
told_read : told_by reader 2 [] (read_eagerly ∷ []) ≡ Some (told ∷ answer.Handle (handle 17) ∷ answer.Taken (Some (value.Success (codes "v"))) ∷ [], [])
unfolding told_by setup reader read_eagerly told handle is_utf8 chars header_equal message_in body_as get_eager_state option read_value read_option read_flag bytes read_byte read_bytes read_text read_pair read_u16 read_u32 read_u64 u16s u32s u64s read_void_or_value lib.Utf8.encode
told_read = refl

-- ---- a handler that is cancelled

-- it calls, awaits the result and ends, cancelled or not
caller : Meaning
caller (i ∷ []) = step.Call (record { service = codes "s"; handler = codes "h"; key = None; idempotency_key = None; scope = None; limit_key = None; headers = [] }) [] None (record { unstable_serialization = false })
caller (i ∷ answer.Call c ∷ []) = step.Await (Single c.call_notification_handle)
caller _ = step.End

child_cancelled : RawMessage
child_cancelled = stored_form (cancel_invocation_command (codes "c")).message

both_handles : CallHandle
both_handles = record { invocation_id_notification_handle = handle 17; call_notification_handle = handle 18 }

-- the invocation's id of the call, and the cancel signal
child : Notification
child = record { id = CompletionId 1; result = came.InvocationId (codes "c") }

cancel : Notification
cancel = record { id = SignalId 1; result = came.Void }

-- one more arrival is used, where the handler isn't cancelled and its handle has no result
waits_one : (m : Meaning) (h : NotificationHandle) (p : Point) (n : Notification) (queue : List Notification) (more : ℕ) → IsAwaiting m p (Single h) → p.queue ≡ n ∷ queue → is_cancelled_in setup p.derived ≡ false → is_done (leaf_in setup p.derived h.0) ≡ false
    → after setup m (suc more) p ≡ after setup m more (record p { derived = arrival_used n p.derived; queue = queue })
waits_one m h p n queue more is e c before =
    ap (λ o. and_then o (after setup m more)) (waits_next setup m (Single h) p is (ap (λ b. b || is_awake setup (Single h) p.derived) c ∙ wakes_by h p.derived ∙ ap (λ b. b || false) before) ∙ ap (λ q. uses_arrival q p) e)

-- the point after the call: its handles are 17 and 18, and its invocation is cancelled with the
-- handler's
behind_call : Point
behind_call = record (start setup input (child ∷ cancel ∷ []) (child_cancelled ∷ [])) {
  answers = told ∷ answer.Call both_handles ∷ [];
  derived = record (counted 2 (start setup input [] []).derived) { tracked = unresolved_call 17 ∷ [] };
}

-- its answers, and the recorded commands that are left
told_at : Option Point → Option (List Answer × List RawMessage)
told_at o = option_map (λ p. (p.answers, p.left)) o

-- Once the signal is there, the child's id is read, the child is sent the cancel signal, and the await is answered.
told_cancelled : told_at (after setup caller 5 behind_call) ≡ Some (told ∷ answer.Call both_handles ∷ answer.Cancelled ∷ [], [])
unfolding told_at behind_call child_cancelled setup caller child cancel told handle both_handles is_utf8 chars header_equal message_in body_as send_signal read_signal read_signal_result bytes read_byte read_bytes read_text read_pair read_u16 read_u32 read_u64 u16s u32s u64s lib.Utf8.encode
told_cancelled =
    ap told_at
    (waits_one caller (handle 18) behind_call child (cancel ∷ []) 4 refl refl refl refl
    ∙ waits_one caller (handle 18) (record behind_call { derived = arrival_used child behind_call.derived; queue = cancel ∷ [] }) cancel [] 3 refl refl refl refl)
    ∙ refl
