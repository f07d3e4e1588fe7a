-- Steps that differ only in what replay doesn't compare are alike.
use Rattle.std.proofs.Common.{◌≡◌, ℕ, zero, suc, ◌+◌, List, [], ◌∷◌, Option, Some, None, refl, sym, ap, ◌∙◌, subst, inl, inr}
use Rattle.std.specs.Prelude.{◌==◌, ◌/◌, Bool, true, false, if◌then◌else◌, length, min, Ok, Err}
use Rattle.std.specs.Duration.{as_nanos}
use Rattle.std.specs.Option.{option_or}
use Rattle.std.specs.declared.time.Duration.{Duration}
use Rattle.journal_protocol.specs.NamedFault.{NamedFault}
use Rattle.journal_protocol.specs.NamedFault.TheVariants as fault
use Rattle.journal_protocol.specs.Message.{Message}
use Rattle.journal_protocol.specs.Message.TheVariants as message
use Rattle.journal_protocol.specs.Signal.{Signal}
use Rattle.journal_protocol.specs.Signal.TheVariants.{Name}
use Rattle.journal_protocol.specs.SignalResult.{SignalResult}
use Rattle.journal_protocol.specs.ValueOrFailure.{ValueOrFailure}
use Rattle.journal_protocol.specs.CallRequest.{CallRequest}
use Rattle.journal_protocol.specs.Bodies.{message_in}
use Rattle.journal_protocol.specs.Equality.{header_equal}
use Rattle.journal_protocol.specs.Frames.{type_of}
use Rattle.journal_protocol.specs.Types.{type_number}
use Rattle.vm_state.specs.declared.state_map.StateMap.{StateMap}
use Rattle.vm_state.specs.declared.counters.Counters.{Counters}
use Rattle.vm_state.specs.Counting.{missing_number, missing_indexes}
use Rattle.vm_types.specs.declared.options.PayloadOptions.{PayloadOptions}
use Rattle.vm_types.specs.declared.steps.Answer.{Answer}
use Rattle.vm_types.specs.declared.steps.Step.{Step}
use Rattle.vm_types.specs.declared.steps.Step.TheVariants as step
use Rattle.vm_types.specs.declared.values.NonEmptyValue.{NonEmptyValue}
use Rattle.vm_types.specs.declared.values.Target.{Target}
use Rattle.vm_types.specs.Values.{value_message}
use Rattle.vm_asks.specs.Asks.{answer_by, call_command, complete_awakeable_command, complete_promise_command, complete_signal_command, millis_of, name_in, output_command, send_command, set_state_command, signal_result, sleep_command, target_fault, time_fault, value_fault}
use Rattle.vm_asks.specs.Requests.{changed, ids_of, with_ids}
use Rattle.vm_asks.specs.declared.asks.AnswerKind.{AnswerKind}
use Rattle.vm_asks.specs.declared.asks.AnswerKind.TheVariants as kind
use Rattle.vm_asks.specs.declared.asks.Ask.TheVariants as ask
use Rattle.vm_asks.specs.declared.command.Command.{Command}
use Rattle.vm_types.specs.Options.{ignores_payloads}
use Rattle.vm_model.specs.Alike.{Alike, AlikeHandlers, AlikeSteps, FoundAlike, LeaveAlike}
use Rattle.vm_model.specs.Calls.{Setup, Meaning, Derived, Demand, answer_of, asked, behind_command, call_of, commanding, demand_of, numbered, part_unless, refused_before, turn_after, turn_taken}
use Rattle.vm_model.specs.Calls.Demand.{Exactly}
use Rattle.vm_model.specs.Calls.Move.{Needs}
use Rattle.vm_model.specs.Moves.{reads_as, said_of}
use Rattle.vm_model.proofs.Likeness.{alike_along, alike_back}

-- ---- alike in all

pub steps_same : (s : Setup) (one : Step) → AlikeSteps s one one
steps_same s one d = (inl refl, λ state. refl)

pub steps_back : (s : Setup) (one other : Step) → AlikeSteps s one other → AlikeSteps s other one
steps_back s one other h d = (alike_back (call_of s one d) (call_of s other d) (h d).0, λ state. sym ((h d).1 state))

pub steps_along : (s : Setup) (one other last : Step) → AlikeSteps s one other → AlikeSteps s other last → AlikeSteps s one last
steps_along s one other last h k d = (alike_along (call_of s one d) (call_of s other d) (call_of s last d) (h d).0 (k d).0, λ state. (h d).1 state ∙ (k d).1 state)

-- ---- what is found

reads_same : (ignore : Bool) (m n : Message) (o : Option Message) → ((a : Message) → header_equal a m ignore ≡ header_equal a n ignore) → reads_as ignore m o ≡ reads_as ignore n o
reads_same ignore m n None h = refl
reads_same ignore m n (Some a) h = ap (λ (b : Bool). if b then Ok None else Err fault.CommandMismatch) (h a)

found_same : (ignore : Bool) (m n : Message) → type_of m ≡ type_of n → ((a : Message) → header_equal a m ignore ≡ header_equal a n ignore) → FoundAlike (Exactly m ignore) (Exactly n ignore)
found_same ignore m n ty h raw = λ i. if type_number raw.ty == type_number (ty i) then reads_same ignore m n (message_in raw.ty raw.body) h i else Err fault.CommandTypeMismatch

-- the time at which a sleep wakes isn't looked at
sleep_header : (ignore : Bool) (t u id : ℕ) (name : List ℕ) (a : Message) → header_equal a (message.Sleep (record { wake_up_time = t; result_completion_id = id; name = name })) ignore ≡ header_equal a (message.Sleep (record { wake_up_time = u; result_completion_id = id; name = name })) ignore
unfolding header_equal
sleep_header ignore t u id name (message.Sleep a) = refl
sleep_header ignore t u id name a = refl

-- nor that of a delayed call
send_header : (ignore : Bool) (t u : ℕ) (r : CallRequest) (a : Message) → header_equal a (message.OneWayCall (record { request = r; invoke_time = t })) ignore ≡ header_equal a (message.OneWayCall (record { request = r; invoke_time = u })) ignore
unfolding header_equal
send_header ignore t u r (message.OneWayCall a) = refl
send_header ignore t u r a = refl

-- nor payloads that aren't compared
send_payload : (t u : ℕ) (x y : List ℕ) (r : CallRequest) (a : Message) → header_equal a (message.OneWayCall (record { request = record r { parameter = x }; invoke_time = t })) true ≡ header_equal a (message.OneWayCall (record { request = record r { parameter = y }; invoke_time = u })) true
unfolding header_equal
send_payload t u x y r (message.OneWayCall a) = refl
send_payload t u x y r a = refl

call_payload : (id : ℕ) (x y : List ℕ) (r : CallRequest) (a : Message) → header_equal a (message.Call (record { request = record r { parameter = x }; result_completion_id = id })) true ≡ header_equal a (message.Call (record { request = record r { parameter = y }; result_completion_id = id })) true
unfolding header_equal
call_payload id x y r (message.Call a) = refl
call_payload id x y r a = refl

output_payload : (x y : ValueOrFailure) (a : Message) → header_equal a (message.Output (record { result = x })) true ≡ header_equal a (message.Output (record { result = y })) true
unfolding header_equal
output_payload x y (message.Output a) = refl
output_payload x y a = refl

awakeable_payload : (id : List ℕ) (x y : ValueOrFailure) (a : Message) → header_equal a (message.CompleteAwakeable (record { awakeable_id = id; result = x })) true ≡ header_equal a (message.CompleteAwakeable (record { awakeable_id = id; result = y })) true
unfolding header_equal
awakeable_payload id x y (message.CompleteAwakeable a) = refl
awakeable_payload id x y a = refl

promise_payload : (key : List ℕ) (id : ℕ) (x y : ValueOrFailure) (a : Message) → header_equal a (message.CompletePromise (record { key = key; completion = x; result_completion_id = id })) true ≡ header_equal a (message.CompletePromise (record { key = key; completion = y; result_completion_id = id })) true
unfolding header_equal
promise_payload key id x y (message.CompletePromise a) = refl
promise_payload key id x y a = refl

set_payload : (name key x y : List ℕ) (a : Message) → header_equal a (message.SetState (record { name = name; key = key; value = x })) true ≡ header_equal a (message.SetState (record { name = name; key = key; value = y })) true
unfolding header_equal
set_payload name key x y (message.SetState a) = refl
set_payload name key x y a = refl

signal_payload : (target : List ℕ) (signal : Signal) (x y : SignalResult) (a : Message) → header_equal a (message.SendSignal (record { target_invocation_id = target; signal = signal; result = x })) true ≡ header_equal a (message.SendSignal (record { target_invocation_id = target; signal = signal; result = y })) true
unfolding header_equal
signal_payload target signal x y (message.SendSignal a) = refl
signal_payload target signal x y a = refl

-- ---- commands

-- two commands are alike: both are refused for the same reason or neither is, they are counted and answered alike, and replay can't
-- tell them apart
record AreAlike (s : Setup) (c o : Command) : Type 0 where
  refusal : c.refusal ≡ o.refusal
  ids : ids_of c.message ≡ ids_of o.message
  gives : (d : Derived) → answer_of c d ≡ answer_of o d
  behind : (d : Derived) → behind_command s c d ≡ behind_command s o d
  same : (d : Derived) → FoundAlike (demand_of s c d) (demand_of s o d)

-- and they leave the same of each state
abbrev LeaveSame : Setup → Command → Command → Type 0
LeaveSame s c o = (d : Derived) (state : StateMap) → changed (said_of (demand_of s c d)) state ≡ changed (said_of (demand_of s o d)) state

need_alike : (one other : Demand) (gives also : List Answer) (d e : Derived) → FoundAlike one other → gives ≡ also → d ≡ e → Alike (Needs one gives d) (Needs other also e)
need_alike one other gives also d e same g b = inr (one, other, gives, d, refl, (λ i. Needs other (sym g i) (sym b i)), same)

numbered_alike : (s : Setup) (c o : Command) (missing : Option NamedFault) (d : Derived) → AreAlike s c o → Alike (numbered s c missing d) (numbered s o missing d)
numbered_alike s c o (Some name) d a = inl refl
numbered_alike s c o None d a = need_alike (demand_of s c d) (demand_of s o d) (answer_of c d ∷ []) (answer_of o d ∷ []) (behind_command s c d) (behind_command s o d) (a.same d) (ap (λ z. z ∷ []) (a.gives d)) (a.behind d)

commanding_alike : (s : Setup) (c o : Command) (refusal : Option NamedFault) (d : Derived) → AreAlike s c o → Alike (commanding s c refusal d) (commanding s o refusal d)
commanding_alike s c o (Some name) d a = inl refl
commanding_alike s c o None d a =
    subst (λ n. Alike (numbered s c (missing_number (ids_of c.message) 0 (ids_of c.message) d.counters) d) (numbered s o (missing_number n 0 n d.counters) d)) a.ids (numbered_alike s c o (missing_number (ids_of c.message) 0 (ids_of c.message) d.counters) d a)

command_alike : (s : Setup) (c o : Command) (d : Derived) → AreAlike s c o → Alike (asked s (ask.Command c) d) (asked s (ask.Command o) d)
command_alike s c o d a = subst (λ r. Alike (commanding s c c.refusal d) (commanding s o r d)) a.refusal (commanding_alike s c o c.refusal d a)

numbered_leaves : (s : Setup) (c o : Command) (missing : Option NamedFault) (d : Derived) → LeaveSame s c o → LeaveAlike (numbered s c missing d) (numbered s o missing d)
numbered_leaves s c o (Some name) d l state = refl
numbered_leaves s c o None d l state = l d state

commanding_leaves : (s : Setup) (c o : Command) (refusal : Option NamedFault) (d : Derived) → AreAlike s c o → LeaveSame s c o → LeaveAlike (commanding s c refusal d) (commanding s o refusal d)
commanding_leaves s c o (Some name) d a l = λ state. refl
commanding_leaves s c o None d a l =
    subst (λ n. LeaveAlike (numbered s c (missing_number (ids_of c.message) 0 (ids_of c.message) d.counters) d) (numbered s o (missing_number n 0 n d.counters) d)) a.ids (numbered_leaves s c o (missing_number (ids_of c.message) 0 (ids_of c.message) d.counters) d l)

command_leaves : (s : Setup) (c o : Command) (d : Derived) → AreAlike s c o → LeaveSame s c o → LeaveAlike (asked s (ask.Command c) d) (asked s (ask.Command o) d)
command_leaves s c o d a l = subst (λ r. LeaveAlike (commanding s c c.refusal d) (commanding s o r d)) a.refusal (commanding_leaves s c o c.refusal d a l)

-- ---- steps with one command

sleeps_alike : (s : Setup) (name : List ℕ) (t u : ℕ) → time_fault t ≡ time_fault u → AreAlike s (sleep_command t name) (sleep_command u name)
sleeps_alike s name t u fits = record {
  refusal = fits;
  ids = refl;
  gives = λ d. refl;
  behind = λ d. refl;
  same = λ d. found_same (ignores_payloads s.options.non_determinism_checks false) (with_ids d.counters.completion (sleep_command t name).message) (with_ids d.counters.completion (sleep_command u name).message) refl (sleep_header (ignores_payloads s.options.non_determinism_checks false) (min t 18446744073709551615) (min u 18446744073709551615) d.counters.completion name);
}

pub sleeps : (s : Setup) (name : List ℕ) (t u : Duration) (now later : Option Duration) → time_fault (as_nanos t / 1000000) ≡ time_fault (as_nanos u / 1000000) → AlikeSteps s (step.Sleep name t now) (step.Sleep name u later)
sleeps s name t u now later fits d =
    let c = sleep_command (as_nanos t / 1000000) name in
    let o = sleep_command (as_nanos u / 1000000) name in
    let a = sleeps_alike s name (as_nanos t / 1000000) (as_nanos u / 1000000) fits in
    (command_alike s c o d a, command_leaves s c o d a (λ e state. refl))

sends_alike : (s : Setup) (target : Target) (input name : List ℕ) (t u : ℕ) (options : PayloadOptions) → time_fault t ≡ time_fault u → AreAlike s (send_command target input t name options s.version) (send_command target input u name options s.version)
sends_alike s target input name t u options fits =
    let c = send_command target input t name options s.version in
    let o = send_command target input u name options s.version in
    let ignore = ignores_payloads s.options.non_determinism_checks options.unstable_serialization in
    record {
      refusal = ap (option_or (target_fault target s.version)) fits;
      ids = refl;
      gives = λ d. refl;
      behind = λ d. refl;
      same = λ d. found_same ignore (with_ids d.counters.completion c.message) (with_ids d.counters.completion o.message) refl (λ a. send_header ignore (min t 18446744073709551615) (min u 18446744073709551615) (record {
        service_name = target.service;
        handler_name = target.handler;
        key = name_in target.key;
        idempotency_key = target.idempotency_key;
        scope = target.scope;
        limit_key = target.limit_key;
        headers = target.headers;
        parameter = input;
        invocation_id_notification_idx = d.counters.completion;
        name = name;
      }) a);
    }

pub sends : (s : Setup) (target : Target) (input : List ℕ) (t u : Option Duration) (name : Option (List ℕ)) (options : PayloadOptions) → time_fault (millis_of t) ≡ time_fault (millis_of u) → AlikeSteps s (step.Send target input t name options) (step.Send target input u name options)
sends s target input t u name options fits d =
    let c = send_command target input (millis_of t) (name_in name) options s.version in
    let o = send_command target input (millis_of u) (name_in name) options s.version in
    let a = sends_alike s target input (name_in name) (millis_of t) (millis_of u) options fits in
    (command_alike s c o d a, command_leaves s c o d a (λ e state. refl))

-- a handler that first sleeps until a time which it takes anew
pub first_sleeps : (s : Setup) (m : Meaning) (name : List ℕ) (t u : Duration) → time_fault (as_nanos t / 1000000) ≡ time_fault (as_nanos u / 1000000)
    → AlikeHandlers s (λ answers. if length answers == 1 then step.Sleep name t None else m answers) (λ answers. if length answers == 1 then step.Sleep name u None else m answers)
first_sleeps s m name t u fits answers = by_test (length answers == 1)
  where
    by_test : (b : Bool) → AlikeSteps s (if b then step.Sleep name t None else m answers) (if b then step.Sleep name u None else m answers)
    by_test true = sleeps s name t u None None fits
    by_test false = steps_same s (m answers)

-- ---- payloads that aren't compared

-- commands whose headers are the same if payloads are ignored
by_payload : (s : Setup) (c o : Command) → ignores_payloads s.options.non_determinism_checks c.unstable ≡ true → ignores_payloads s.options.non_determinism_checks o.unstable ≡ true → ((id : ℕ) → type_of (with_ids id c.message) ≡ type_of (with_ids id o.message))
    → ((id : ℕ) (a : Message) → header_equal a (with_ids id c.message) true ≡ header_equal a (with_ids id o.message) true) → (d : Derived) → FoundAlike (demand_of s c d) (demand_of s o d)
by_payload s c o here there ty same d =
    let id = d.counters.completion in
    subst (λ b. FoundAlike (demand_of s c d) (Exactly (with_ids id o.message) b)) (sym there) (subst (λ b. FoundAlike (Exactly (with_ids id c.message) b) (Exactly (with_ids id o.message) true)) (sym here) (found_same true (with_ids id c.message) (with_ids id o.message) (ty id) (same id)))

calls_alike : (s : Setup) (target : Target) (x y name : List ℕ) (options : PayloadOptions) → ignores_payloads s.options.non_determinism_checks options.unstable_serialization ≡ true → AreAlike s (call_command target x name options s.version) (call_command target y name options s.version)
calls_alike s target x y name options ignored = record {
  refusal = refl;
  ids = refl;
  gives = λ d. refl;
  behind = λ d. refl;
  same = by_payload s (call_command target x name options s.version) (call_command target y name options s.version) ignored ignored (λ id. refl) (λ id a. call_payload (id + 1) x y (record {
    service_name = target.service;
    handler_name = target.handler;
    key = name_in target.key;
    idempotency_key = target.idempotency_key;
    scope = target.scope;
    limit_key = target.limit_key;
    headers = target.headers;
    parameter = x;
    invocation_id_notification_idx = id;
    name = name;
  }) a);
}

pub call_payloads : (s : Setup) (target : Target) (x y : List ℕ) (name : Option (List ℕ)) (options : PayloadOptions) → ignores_payloads s.options.non_determinism_checks options.unstable_serialization ≡ true → AlikeSteps s (step.Call target x name options) (step.Call target y name options)
call_payloads s target x y name options ignored d =
    let c = call_command target x (name_in name) options s.version in
    let o = call_command target y (name_in name) options s.version in
    let a = calls_alike s target x y (name_in name) options ignored in
    (command_alike s c o d a, command_leaves s c o d a (λ e state. refl))

pub send_payloads : (s : Setup) (target : Target) (x y : List ℕ) (t u : Option Duration) (name : Option (List ℕ)) (options : PayloadOptions) → time_fault (millis_of t) ≡ time_fault (millis_of u) → ignores_payloads s.options.non_determinism_checks options.unstable_serialization ≡ true
    → AlikeSteps s (step.Send target x t name options) (step.Send target y u name options)
send_payloads s target x y t u name options fits ignored d =
    let c = send_command target x (millis_of t) (name_in name) options s.version in
    let o = send_command target y (millis_of u) (name_in name) options s.version in
    let a : AreAlike s c o = record {
      refusal = ap (option_or (target_fault target s.version)) fits;
      ids = refl;
      gives = λ d. refl;
      behind = λ d. refl;
      same = by_payload s c o ignored ignored (λ id. refl) (λ id a. send_payload (min (millis_of t) 18446744073709551615) (min (millis_of u) 18446744073709551615) x y (record {
        service_name = target.service;
        handler_name = target.handler;
        key = name_in target.key;
        idempotency_key = target.idempotency_key;
        scope = target.scope;
        limit_key = target.limit_key;
        headers = target.headers;
        parameter = x;
        invocation_id_notification_idx = id;
        name = name_in name;
      }) a);
    } in
    (command_alike s c o d a, command_leaves s c o d a (λ e state. refl))

pub output_payloads : (s : Setup) (x y : NonEmptyValue) (options : PayloadOptions) → value_fault x s.version ≡ value_fault y s.version → ignores_payloads s.options.non_determinism_checks options.unstable_serialization ≡ true → AlikeSteps s (step.WriteOutput x options) (step.WriteOutput y options)
output_payloads s x y options fits ignored d =
    let c = output_command x options s.version in
    let o = output_command y options s.version in
    let a : AreAlike s c o = record {
      refusal = fits;
      ids = refl;
      gives = λ d. refl;
      behind = λ d. refl;
      same = by_payload s c o ignored ignored (λ id. refl) (λ id. output_payload (value_message x) (value_message y));
    } in
    (command_alike s c o d a, command_leaves s c o d a (λ e state. refl))

pub awakeable_payloads : (s : Setup) (id : List ℕ) (x y : NonEmptyValue) (options : PayloadOptions) → value_fault x s.version ≡ value_fault y s.version → ignores_payloads s.options.non_determinism_checks options.unstable_serialization ≡ true → AlikeSteps s (step.CompleteAwakeable id x options) (step.CompleteAwakeable id y options)
awakeable_payloads s id x y options fits ignored d =
    let c = complete_awakeable_command id x options s.version in
    let o = complete_awakeable_command id y options s.version in
    let a : AreAlike s c o = record {
      refusal = fits;
      ids = refl;
      gives = λ d. refl;
      behind = λ d. refl;
      same = by_payload s c o ignored ignored (λ n. refl) (λ n. awakeable_payload id (value_message x) (value_message y));
    } in
    (command_alike s c o d a, command_leaves s c o d a (λ e state. refl))

pub promise_payloads : (s : Setup) (key : List ℕ) (x y : NonEmptyValue) (options : PayloadOptions) → value_fault x s.version ≡ value_fault y s.version → ignores_payloads s.options.non_determinism_checks options.unstable_serialization ≡ true → AlikeSteps s (step.CompletePromise key x options) (step.CompletePromise key y options)
promise_payloads s key x y options fits ignored d =
    let c = complete_promise_command key x options s.version in
    let o = complete_promise_command key y options s.version in
    let a : AreAlike s c o = record {
      refusal = fits;
      ids = refl;
      gives = λ d. refl;
      behind = λ d. refl;
      same = by_payload s c o ignored ignored (λ n. refl) (λ n. promise_payload key n (value_message x) (value_message y));
    } in
    (command_alike s c o d a, command_leaves s c o d a (λ e state. refl))

-- a named signal's value is compared unless the options leave all payloads out
pub signal_payloads : (s : Setup) (target name : List ℕ) (x y : NonEmptyValue) → value_fault x s.version ≡ value_fault y s.version → ignores_payloads s.options.non_determinism_checks false ≡ true → AlikeSteps s (step.CompleteSignal target name x) (step.CompleteSignal target name y)
signal_payloads s target name x y fits ignored d =
    let c = complete_signal_command target name x s.version in
    let o = complete_signal_command target name y s.version in
    let a : AreAlike s c o = record {
      refusal = fits;
      ids = refl;
      gives = λ d. refl;
      behind = λ d. refl;
      same = by_payload s c o ignored ignored (λ n. refl) (λ n. signal_payload target (Name name) (signal_result (value_message x)) (signal_result (value_message y)));
    } in
    (command_alike s c o d a, command_leaves s c o d a (λ e state. refl))

-- replay can't tell sets of other values apart, but they leave another state
pub set_payloads : (s : Setup) (key x y : List ℕ) (name : Option (List ℕ)) (options : PayloadOptions) → ignores_payloads s.options.non_determinism_checks options.unstable_serialization ≡ true → (d : Derived) → Alike (call_of s (step.StateSet key x name options) d) (call_of s (step.StateSet key y name options) d)
set_payloads s key x y name options ignored d =
    let c = set_state_command key x (name_in name) options in
    let o = set_state_command key y (name_in name) options in
    command_alike s c o d (record {
      refusal = refl;
      ids = refl;
      gives = λ d. refl;
      behind = λ d. refl;
      same = by_payload s c o ignored ignored (λ n. refl) (λ n. set_payload (name_in name) key x y);
    })

-- ---- a call with a deadline

first_refused : (s : Setup) (c b o u : Command) (k : Counters) → AreAlike s c o → AreAlike s b u → refused_before c (b ∷ []) k ≡ refused_before o (u ∷ []) k
first_refused s c b o u k x y = λ i. option_or (option_or (option_or (x.refusal i) (y.refusal i)) (option_or (missing_number (x.ids i + y.ids i) 0 (x.ids i + y.ids i) k) (missing_indexes (suc (suc zero)) k))) (option_or (x.refusal i) (missing_number (x.ids i) 0 (x.ids i) k))

last_refused : (s : Setup) (b u : Command) (k : Counters) → AreAlike s b u → refused_before b [] k ≡ refused_before u [] k
last_refused s b u k y = λ i. option_or (y.refusal i) (missing_number (y.ids i) 0 (y.ids i) k)

-- a call with two commands, by the one that comes next: the first,
first_part : (s : Setup) (kind : AnswerKind) (c b o u : Command) (d : Derived) (r : Option NamedFault) → AreAlike s c o → LeaveSame s c o → Alike (part_unless r s kind (record { command = c; behind = b ∷ []; before = d }) d) (part_unless r s kind (record { command = o; behind = u ∷ []; before = d }) d)
    × LeaveAlike (part_unless r s kind (record { command = c; behind = b ∷ []; before = d }) d) (part_unless r s kind (record { command = o; behind = u ∷ []; before = d }) d)
first_part s kind c b o u d (Some name) x l = (inl refl, λ state. refl)
first_part s kind c b o u d None x l = (need_alike (demand_of s c d) (demand_of s o d) [] [] (record d { parts = suc d.parts }) (record d { parts = suc d.parts }) (x.same d) refl refl, l d)

-- or the last
last_part : (s : Setup) (kind : AnswerKind) (b u : Command) (before d : Derived) (r : Option NamedFault) → AreAlike s b u → LeaveSame s b u → Alike (part_unless r s kind (record { command = b; behind = []; before = before }) d) (part_unless r s kind (record { command = u; behind = []; before = before }) d)
    × LeaveAlike (part_unless r s kind (record { command = b; behind = []; before = before }) d) (part_unless r s kind (record { command = u; behind = []; before = before }) d)
last_part s kind b u before d (Some name) y l = (inl refl, λ state. refl)
last_part s kind b u before d None y l =
    let gives = answer_by kind (record { 0 = d.counters.handle }) ∷ [] in
    (need_alike (demand_of s b before) (demand_of s u before) gives gives (record (behind_command s b before) { parts = 0 }) (record (behind_command s u before) { parts = 0 }) (y.same before) refl (ap (λ (z : Derived). record z { parts = 0 }) (y.behind before)), l before)

turns_alike : (s : Setup) (kind : AnswerKind) (c b o u : Command) (d : Derived) (n : ℕ) → AreAlike s c o → AreAlike s b u → LeaveSame s c o → LeaveSame s b u → Alike (turn_taken s kind (turn_after s n c (b ∷ []) d) d) (turn_taken s kind (turn_after s n o (u ∷ []) d) d)
    × LeaveAlike (turn_taken s kind (turn_after s n c (b ∷ []) d) d) (turn_taken s kind (turn_after s n o (u ∷ []) d) d)
turns_alike s kind c b o u d n x y l k = go n
  where
    behind : (before : Derived) → Alike (turn_taken s kind (record { command = b; behind = []; before = before }) d) (turn_taken s kind (record { command = u; behind = []; before = before }) d) × LeaveAlike (turn_taken s kind (record { command = b; behind = []; before = before }) d) (turn_taken s kind (record { command = u; behind = []; before = before }) d)
    behind before =
        let r = refused_before b [] before.counters in
        subst (λ (z : Option NamedFault). Alike (part_unless r s kind (record { command = b; behind = []; before = before }) d) (part_unless z s kind (record { command = u; behind = []; before = before }) d) × LeaveAlike (part_unless r s kind (record { command = b; behind = []; before = before }) d) (part_unless z s kind (record { command = u; behind = []; before = before }) d)) (last_refused s b u before.counters y) (last_part s kind b u before d r y k)

    last : Alike (turn_taken s kind (record { command = b; behind = []; before = behind_command s c d }) d) (turn_taken s kind (record { command = u; behind = []; before = behind_command s o d }) d) × LeaveAlike (turn_taken s kind (record { command = b; behind = []; before = behind_command s c d }) d) (turn_taken s kind (record { command = u; behind = []; before = behind_command s o d }) d)
    last = subst (λ (z : Derived). Alike (turn_taken s kind (record { command = b; behind = []; before = behind_command s c d }) d) (turn_taken s kind (record { command = u; behind = []; before = z }) d) × LeaveAlike (turn_taken s kind (record { command = b; behind = []; before = behind_command s c d }) d) (turn_taken s kind (record { command = u; behind = []; before = z }) d)) (x.behind d) (behind (behind_command s c d))

    go : (n : ℕ) → Alike (turn_taken s kind (turn_after s n c (b ∷ []) d) d) (turn_taken s kind (turn_after s n o (u ∷ []) d) d) × LeaveAlike (turn_taken s kind (turn_after s n c (b ∷ []) d) d) (turn_taken s kind (turn_after s n o (u ∷ []) d) d)
    go zero =
        let r = refused_before c (b ∷ []) d.counters in
        subst (λ (z : Option NamedFault). Alike (part_unless r s kind (record { command = c; behind = b ∷ []; before = d }) d) (part_unless z s kind (record { command = o; behind = u ∷ []; before = d }) d) × LeaveAlike (part_unless r s kind (record { command = c; behind = b ∷ []; before = d }) d) (part_unless z s kind (record { command = o; behind = u ∷ []; before = d }) d)) (first_refused s c b o u d.counters x y) (first_part s kind c b o u d r x l)
    go (suc zero) = last
    go (suc (suc m)) = last

-- a call is alike itself
call_itself : (s : Setup) (c : Command) → AreAlike s c c
call_itself s c = record { refusal = refl; ids = refl; gives = λ d. refl; behind = λ d. refl; same = λ d raw. refl }

pub deadlines : (s : Setup) (target : Target) (input : List ℕ) (t u : Duration) (name : Option (List ℕ)) (options : PayloadOptions) → time_fault (as_nanos t / 1000000) ≡ time_fault (as_nanos u / 1000000) → AlikeSteps s (step.CallWithDeadline target input t name options) (step.CallWithDeadline target input u name options)
deadlines s target input t u name options fits d =
    let c = call_command target input (name_in name) options s.version in
    let b = sleep_command (as_nanos t / 1000000) [] in
    let e = sleep_command (as_nanos u / 1000000) [] in
    turns_alike s kind.CallWithDeadline c b c e d d.parts (call_itself s c) (sleeps_alike s [] (as_nanos t / 1000000) (as_nanos u / 1000000) fits) (λ d state. refl) (λ d state. refl)

pub deadline_payloads : (s : Setup) (target : Target) (x y : List ℕ) (t u : Duration) (name : Option (List ℕ)) (options : PayloadOptions) → time_fault (as_nanos t / 1000000) ≡ time_fault (as_nanos u / 1000000) → ignores_payloads s.options.non_determinism_checks options.unstable_serialization ≡ true
    → AlikeSteps s (step.CallWithDeadline target x t name options) (step.CallWithDeadline target y u name options)
deadline_payloads s target x y t u name options fits ignored d =
    let c = call_command target x (name_in name) options s.version in
    let o = call_command target y (name_in name) options s.version in
    let b = sleep_command (as_nanos t / 1000000) [] in
    let e = sleep_command (as_nanos u / 1000000) [] in
    turns_alike s kind.CallWithDeadline c b o e d d.parts (calls_alike s target x y (name_in name) options ignored) (sleeps_alike s [] (as_nanos t / 1000000) (as_nanos u / 1000000) fits) (λ d state. refl) (λ d state. refl)
