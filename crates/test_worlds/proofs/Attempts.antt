-- An honest attempt of the handler that sleeps: what it is fed, so that the premise is seen to be met.
use Rattle.vm_state.specs.declared.state_map.StateCoverage.TheVariants.{Complete, Partial}
use Rattle.vm_state.specs.declared.state_map.StateMap.{StateMap}
use Rattle.std.proofs.Common.{◌≡◌, ◌≤◌, ℕ, zero, suc, Bool, true, false, cond, length, List, [], ◌∷◌, ◌++◌, Option, Some, None, refl, sym, ap, subst, ◌∙◌, append-nil, lit<, arith}
use Rattle.std.specs.Prelude.{◌==◌, ◌||◌, codes}
use Rattle.std.specs.List.{flat_map}
use Rattle.journal_protocol.specs.InputCommand.{InputCommand}
use Rattle.journal_protocol.specs.Message.{Message}
use Rattle.journal_protocol.specs.RawMessage.{RawMessage}
use Rattle.journal_protocol.specs.Message.TheVariants as message
use Rattle.journal_protocol.specs.Notification.{Notification}
use Rattle.journal_protocol.specs.NotificationId.TheVariants.{CompletionId}
use Rattle.journal_protocol.specs.NotificationResult.TheVariants as came
use Rattle.journal_protocol.specs.Start.{Start}
use Rattle.journal_protocol.specs.Version.TheVariants.{V7}
use Rattle.journal_attempt.specs.Encoding.{input as input_body, sleep_body, start_body}
use Rattle.journal_values.specs.Encoding.{notification}
use Rattle.journal_messages.specs.Message.{IsWhole}
use Rattle.wire.specs.Format.{bytes, flag, list, option, read_byte, read_bytes, read_pair, read_text, read_u16, read_u32, read_u64, u16s, u32s, u64s}
use Rattle.vm_types.specs.declared.steps.Step.TheVariants as step
use Rattle.vm_types.specs.Options.{default_options}
use Rattle.journal_attempt.specs.Bodies.{input_format}
use Rattle.journal_messages.specs.HeaderEqual.{header_equal}
use Rattle.journal_values.specs.Parts.{read_value}
use Rattle.journal_messages.specs.Reading.{body_as, input_in, message_in}
use Rattle.std.specs.Str.{chars, is_utf8}
use Rattle.wire.proofs.Read.{all_read}
use Rattle.std.proofs.lemmas.Option.{same_Some}
use Rattle.vm_model.specs.Calls.{Meaning, Setup, call_of}
use Rattle.vm_parts.specs.Deliveries.{same_id}
use Rattle.vm_model.specs.Carried.{AreCarried, AreOfTheirKind, ComeOnce, is_for_invocation}
use Rattle.vm_model.specs.Deliveries.{HasNoTwo}
use Rattle.vm_model.specs.Histories.{Handed, History, Made}
use Rattle.vm_model.proofs.Once.{run_once}
use Rattle.vm_attempt.proofs.Replayed.{tail_same}
use Rattle.journal_entries.specs.Journal.{Entry, Recorded, Notified, input_read_from, stored_form}
use Rattle.vm_model.specs.Moves.{Point, after, longer, moved, next, start as began, supplied}
use Rattle.vm_attempt.specs.Blames.{IsHonest}
use Rattle.vm_attempt.proofs.Honest.{honestly_fed}
use Rattle.vm_attempt.specs.Heard.{Heard}
use Rattle.vm_attempt.specs.Honest.{FeedsHonestly, frame_bytes, honest_frames}
use Rattle.vm_model.specs.Setups.{setup_with}
use Rattle.vm_model.specs.Fixed.{fixed_by}

abbrev first : Start
first = record { id = codes "abc"; debug_id = codes "abc"; key = []; known_entries = 3; state = []; partial = false; retry_count = 0; duration = 0; random_seed = 0; scope = None; limit_key = None; idempotency_key = None }

abbrev pub input : InputCommand
input = record { headers = []; value = codes "Till" }

abbrev pub slept : Message
slept = message.Sleep (record { wake_up_time = 1000; result_completion_id = 1; name = [] })

abbrev void : Notification
void = record { id = CompletionId 1; result = came.Void }

start_is_whole : IsWhole (message.Start first)
unfolding start_body u32s u64s bytes list option flag lib.Utf8.encode
start_is_whole = ((lit< tt, ((lit< tt, (codes "abc", (refl, refl))), ((lit< tt, ([], (refl, refl))), (lit< tt, ((lit< tt, tt), (tt, (lit< tt, (lit< tt, (lit< tt, (tt, (tt, tt))))))))))), lit< tt)

pub input_is_whole : IsWhole (message.Input input)
unfolding input_body u32s u64s bytes list
input_is_whole = (((lit< tt, tt), lit< tt), lit< tt)

pub slept_is_whole : IsWhole slept
unfolding sleep_body u32s u64s bytes
slept_is_whole = ((lit< tt, (lit< tt, (lit< tt, ([], (refl, refl))))), lit< tt)

void_is_whole : IsWhole (message.Notification void)
unfolding notification u32s u64s bytes
void_is_whole = ((lit< tt, tt), lit< tt)

-- it sleeps, and ends
sleeper : Meaning
sleeper (i ∷ []) = step.Sleep [] (record { secs = 1; nanos = 0 }) None
sleeper _ = step.End

abbrev journal : List Entry
journal = Recorded (stored_form (message.Input input)) ∷ Recorded (stored_form slept) ∷ Notified void ∷ []

abbrev setup : Setup
setup = setup_with V7 default_options first

abbrev begin : Point
begin = began setup input (void ∷ []) (stored_form slept ∷ [])

point_in : Option Point → Point
point_in None = begin
point_in (Some p) = p

reads_input : input_read_from (stored_form (message.Input input)) ≡ Some input
unfolding input_in body_as
reads_input = all_read input_format input (input_format.spelling input) input_is_whole.0 refl

-- nothing is known of the state
abbrev no_state : StateMap
no_state = record { entries = []; coverage = Partial }

-- the journal is a history of it: the input, its sleep, and the sleep's completion
is_history : History setup sleeper no_state journal
unfolding sleeper point_in is_utf8 chars header_equal message_in body_as sleep_body read_value bytes read_byte read_bytes read_text read_pair read_u16 read_u32 read_u64 u16s u32s u64s
is_history = record {
  first = stored_form (message.Input input);
  input = input;
  reads = reads_input;
  rest = stored_form slept ∷ [];
  begins = refl;
  at = point_in (after setup sleeper 1 begin);
  told = (1, refl);
  uses_all = refl;
  eager = (tt, tt);
}

abbrev stream : List ℕ
stream = flat_map frame_bytes (honest_frames first journal [])

-- the one completion comes once, and is the sleep's
comes_once : ComeOnce (void ∷ [])
comes_once id = by_test (same_id (CompletionId 1) (CompletionId id))
  where
    by_test : (b : Bool) → length (cond b (came.Void ∷ []) []) ≤ 1
    by_test true = omega arith
    by_test false = omega arith

is_carried_once : AreCarried (void ∷ []) (stored_form slept ∷ [])
unfolding message_in body_as sleep_body read_value bytes read_byte read_bytes read_text read_pair read_u16 read_u32 read_u64 u16s u32s u64s is_utf8 chars
is_carried_once id = by_test (1 == id)
  where
    by_test : (b : Bool) → ((b || false) || false) ≡ false → cond b (came.Void ∷ []) [] ≡ []
    by_test true none = absurd (cc)
    by_test false none = refl

-- the state is handed out whole, and has no keys
abbrev all_state : StateMap
all_state = record { entries = []; coverage = Complete }

none_two : (h : History setup sleeper no_state journal) (n : ℕ) (made : List RawMessage) (p : Point) → Made setup sleeper (Handed all_state) n (began setup h.input (void ∷ []) h.rest) made p → HasNoTwo p
none_two h =
    let rest : stored_form slept ∷ [] ≡ h.rest = tail_same (stored_form (message.Input input)) h.first (stored_form slept ∷ []) h.rest h.begins in
    run_once setup sleeper all_state h.input (void ∷ []) h.rest h.told.0 h.at h.told.1 h.uses_all comes_once 0 [] (began setup h.input (void ∷ []) h.rest) (refl, refl)
    (subst (AreCarried (void ∷ [])) (rest ∙ sym (append-nil h.rest)) is_carried_once)

-- ---- it makes no call

-- after its sleep it ends
then_ends : (i : InputCommand) (p : Point) → next setup sleeper (began setup i (void ∷ []) (stored_form slept ∷ [])) ≡ Some p → sleeper p.answers ≡ step.End
unfolding sleeper is_utf8 chars header_equal message_in body_as sleep_body read_value bytes read_byte read_bytes read_text read_pair read_u16 read_u32 read_u64 u16s u32s u64s
then_ends i p e = ap (λ (z : Point). sleeper z.answers) (sym (same_Some _ p e))

-- so it makes no command
makes_none : (i : InputCommand) (n : ℕ) (made : List RawMessage) (p : Point) → Made setup sleeper (Handed all_state) n (began setup i (void ∷ []) (stored_form slept ∷ [])) made p → made ≡ []
unfolding sleeper
makes_none i zero made p run = run.0
makes_none i (suc zero) made p (state, r, rest, knows, is, goes, on) = is ∙ on.0
makes_none i (suc (suc n)) made p (state, r, rest, knows, is, goes, (state', r', rest', knows', is', goes', on)) =
    let none : next setup sleeper (longer (supplied setup sleeper state' r) r) ≡ None = ap (λ st. moved (call_of setup st r.derived) (longer (supplied setup sleeper state' r) r)) (then_ends i r goes) in
    absurd (let z : None ≡ Some r' = sym none ∙ goes' in cc)

-- no result is one of an invocation's id
none_named : (id : ℕ) → is_for_invocation id (stored_form slept ∷ []) ≡ false
unfolding message_in body_as sleep_body read_value bytes read_byte read_bytes read_text read_pair read_u16 read_u32 read_u64 u16s u32s u64s is_utf8 chars
none_named id = refl

rightly_kinded : (h : History setup sleeper no_state journal) (n : ℕ) (made : List RawMessage) (p : Point) → Made setup sleeper (Handed all_state) n (began setup h.input (void ∷ []) h.rest) made p → AreOfTheirKind (void ∷ []) (h.rest ++ made)
rightly_kinded h n made p run id named =
    let rest : h.rest ≡ stored_form slept ∷ [] = sym (tail_same (stored_form (message.Input input)) h.first (stored_form slept ∷ []) h.rest h.begins) in
    let none = makes_none h.input n made p (subst (λ cs. Made setup sleeper (Handed all_state) n (began setup h.input (void ∷ []) cs) made p) rest run) in
    absurd (let z : false ≡ true = sym (none_named id) ∙ ap (is_for_invocation id) (sym (append-nil (stored_form slept ∷ [])) ∙ λ j. sym rest j ++ sym none j) ∙ named in cc)

-- all of it in one piece
abbrev in_one : Heard
in_one = record { pieces = record { piece = stream; answers = 0; output = 0 } ∷ []; proposed = [] }

-- an attempt that is fed all of it in one piece is an honest one
feeds : FeedsHonestly (fixed_by sleeper V7 default_options) in_one
feeds = record {
  start = first;
  journal = journal;
  more = [];
  unfed = [];
  bytes = append-nil (stream ++ []) ∙ append-nil stream;
  start_is_whole = start_is_whole;
  known = refl;
  state = [];
  reads_state = refl;
  journal_is_whole = ((refl, input_is_whole.1), ((refl, slept_is_whole.1), (void_is_whole, tt)));
  more_is_whole = tt;
  found = tt;
  base = no_state;
  history = is_history;
  replays = refl;
  queues = refl;
  once = none_two is_history;
  kinds = rightly_kinded is_history;
}

is_honest : IsHonest (fixed_by sleeper V7 default_options) in_one
is_honest = honestly_fed (fixed_by sleeper V7 default_options) in_one feeds
