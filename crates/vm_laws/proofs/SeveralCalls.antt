-- What a call of several commands leaves, and a call with a deadline.
use Rattle.std.proofs.Common.{◌≡◌, inl, inr, ℕ, ◌+◌, Bool, true, false, List, [], ◌∷◌, ◌++◌, Option, Some, None, Result, Ok, Err, refl, sym, ap, subst, ◌∙◌, add_assoc, append_assoc}
use native.Mathlib.Nat.{add-zero}
use Rattle.std.specs.Prelude.{◌⊎◌, if◌then◌else◌, ◌==◌, min}
use Rattle.journal_protocol.specs.Error.{Error}
use Rattle.journal_protocol.specs.Errors.{no_memory}
use Rattle.journal_protocol.specs.NamedFault.{NamedFault}
use Rattle.journal_protocol.specs.NamedFault.TheVariants as fault
use Rattle.journal_protocol.specs.Types.{type_number}
use Rattle.journal_protocol.specs.Equality.{header_equal}
use Rattle.journal_protocol.specs.SleepCommand.{SleepCommand}
use Rattle.journal_protocol.specs.CallCommand.{CallCommand}
use Rattle.journal_protocol.specs.Message.{Message}
use Rattle.journal_protocol.specs.Message.TheVariants as message
use Rattle.journal_protocol.specs.RawMessage.{RawMessage}
use Rattle.journal_protocol.specs.Frames.{type_of}
use Rattle.journal_protocol.specs.Bodies.{message_in}
use Rattle.await_trees.specs.declared.handle.NotificationHandle.{NotificationHandle}
use Rattle.vm_types.specs.declared.types.DeadlineCallHandle.{DeadlineCallHandle}
use Rattle.vm_parts.specs.declared.async_results.Mapping.{Mapping}
use Rattle.vm_state.specs.Counting.{missing_number}
use Rattle.vm_asks.specs.declared.command.Command.{Command}
use Rattle.vm_asks.specs.Asks.{all_ids, any_refusal, deadline_handles, sleep_command, missing_for}
use Rattle.vm_asks.specs.GivenIds.{IsCallWith}
use Rattle.vm_asks.specs.Requests.{ids_of, name_of, shown_type, with_ids}
use Rattle.vm_machine.specs.declared.machine.Machine.{Machine}
use Rattle.vm_machine.specs.Commands.{carried_out, commanded, commanded_unless, compared, command_if_counted, entered, issued, phase_after, popped, popped_from, prepared, replayed, written}
use Rattle.vm_parts.specs.Mappings.{mapped_from}
use Rattle.vm_types.specs.Options.{ignores_payloads}
use Rattle.vm_machine.specs.Outcomes.{Does, Done, Failed, Outcome, ◌>>>◌, about_last, called, called_at}
use Rattle.vm_machine.specs.Phases.{is_processing, is_running, state_fault}
use Rattle.vm_machine.proofs.Calling.{answers_first}
use Rattle.vm_machine.specs.Several.{BehindFirst, MakesAll, MakesOne, answered_so, commanded_before, foreseen, foreseen_unless, numbers_left}
use Rattle.invocation_vm.specs.Calls.{CallsAll, CallsAllFor, result_by}
use Rattle.invocation_vm.specs.Views.{AnswersFirst, View}
use Rattle.invocation_vm.proofs.Failing.{viewed}
use Rattle.vm_state.specs.declared.counters.Counters.{Counters}
use Rattle.vm_laws.specs.Numbers.{Counted}
use Rattle.vm_laws.specs.Deadlines.{DeadlineCalled, IsEntered, IsSleepWith, MakesBoth, stands_for}
use Rattle.vm_laws.specs.Replays.{ignores}
use Rattle.vm_laws.proofs.Carried.{IsDone, answered, no_answer, same_machine}

-- ---- one command

-- a popped command, before it is compared
abbrev without : List RawMessage → Machine → Machine
without rest u = record u { commands = rest; phase = phase_after rest }

-- the command is entered, and what calls give besides stays
record Enters (m : Message) (ignore : Bool) (u w : Machine) : Type 0 where
  how : IsEntered m ignore u w
  results : w.results ≡ u.results
  options : w.options ≡ u.options
  counters : w.counters ≡ u.counters

equal_at : (m : Message) (ignore b : Bool) (raw : RawMessage) (recorded : Message) (rest : List RawMessage) (u w : Machine)
    → u.commands ≡ raw ∷ rest → message_in raw.ty raw.body ≡ Some recorded → header_equal recorded m ignore ≡ b
    → IsDone (if b then Done tt (without rest u) else Failed (about_last fault.CommandMismatch (without rest u)) (without rest u)) w → Enters m ignore u w
equal_at m ignore true raw recorded rest u w c i e h =
    subst (Enters m ignore u) (same_machine (tt {0}) tt (without rest u) w h) (record {
      how = inr (record { raw = raw; recorded = recorded; read = i; equal = e; commands = c; output = refl });
      results = refl;
      options = refl;
      counters = refl;
    })
equal_at m ignore false raw recorded rest u w c i e h = absurd (no_answer _ (tt {0}) (without rest u) w h)

read_at : (m : Message) (ignore : Bool) (raw : RawMessage) (o : Option Message) (rest : List RawMessage) (u w : Machine)
    → u.commands ≡ raw ∷ rest → message_in raw.ty raw.body ≡ o → IsDone (compared m ignore o (without rest u)) w → Enters m ignore u w
read_at m ignore raw None rest u w c i h = absurd (no_answer _ (tt {0}) (without rest u) w h)
read_at m ignore raw (Some recorded) rest u w c i h = equal_at m ignore (header_equal recorded m ignore) raw recorded rest u w c i refl h

typed_at : (m : Message) (ignore b : Bool) (raw : RawMessage) (rest : List RawMessage) (u w : Machine) → u.commands ≡ raw ∷ rest
    → IsDone ((if b then Done raw (without rest u) else Failed (about_last fault.CommandTypeMismatch (without rest u)) (without rest u)) >>> λ x y. compared m ignore (message_in x.ty x.body) y) w
    → Enters m ignore u w
typed_at m ignore true raw rest u w c h = read_at m ignore raw (message_in raw.ty raw.body) rest u w c refl h
typed_at m ignore false raw rest u w c h = absurd (no_answer _ (tt {0}) (without rest u) w h)

popped_so : (m : Message) (ignore : Bool) (raws : List RawMessage) (u w : Machine) → u.commands ≡ raws
    → IsDone (popped_from raws (type_of m) u >>> λ raw x. compared m ignore (message_in raw.ty raw.body) x) w → Enters m ignore u w
popped_so m ignore [] u w c h = absurd (no_answer _ (tt {0}) u w h)
popped_so m ignore (raw ∷ rest) u w c h = typed_at m ignore (type_number raw.ty == type_number (type_of m)) raw rest u w c h

carried_at : (m : Message) (ignore b : Bool) (u w : Machine) → IsDone (if b then Done tt (written m u) else replayed m ignore u) w → Enters m ignore u w
unfolding replayed popped
carried_at m ignore true u w h =
    subst (Enters m ignore u) (same_machine (tt {0}) tt (written m u) w h)
    (record { how = inl (record { output = refl; commands = refl }); results = refl; options = refl; counters = refl })
carried_at m ignore false u w h = popped_so m ignore u.commands u w refl h

carried : (m : Message) (ignore : Bool) (u w : Machine) → IsDone (carried_out m ignore u) w → Enters m ignore u w
unfolding carried_out
carried m ignore u w h = carried_at m ignore (is_processing u.phase) u w h

-- what a command's call leaves: the next ids are given, with a handle for each
record Made (m : Message) (unstable : Bool) (h : NotificationHandle) (v w : Machine) : Type 0 where
  how : IsEntered (with_ids v.counters.completion m) (ignores v unstable) v w
  handles : w.results.handles ≡ v.results.handles ++ mapped_from (ids_of m) v.counters.handle v.counters.completion
  options : w.options ≡ v.options
  signals : w.counters.signal ≡ v.counters.signal
  completion : w.counters.completion ≡ v.counters.completion + ids_of m
  next_handle : w.counters.handle ≡ v.counters.handle + ids_of m
  first : h.0 ≡ v.counters.handle

-- what a call prepares is neither output nor recorded commands
entered_from : (c m : Message) (ignore : Bool) (v w : Machine) → IsEntered c ignore (prepared m v) w → IsEntered c ignore v w
entered_from c m ignore v w (inl x) = inl (record { output = x.output; commands = x.commands })
entered_from c m ignore v w (inr x) =
    inr (record { raw = x.raw; recorded = x.recorded; read = x.read; equal = x.equal; commands = x.commands; output = x.output })

counted_makes : (o : Option NamedFault) (m : Message) (unstable : Bool) (h : NotificationHandle) (v w : Machine) → command_if_counted o m unstable v ≡ Done h w → Made m unstable h v w
counted_makes (Some name) m unstable h v w d = absurd (no_answer _ h v w d)
counted_makes None m unstable h v w d =
    let c = with_ids v.counters.completion m in
    let a = answered (carried_out c (ignores v unstable) (prepared m v)) (record { 0 = v.counters.handle }) h w d in
    let k = carried c (ignores v unstable) (prepared m v) w a.0 in
    record {
      how = entered_from c m (ignores v unstable) v w k.how;
      handles = ap (λ r. r.handles) k.results;
      options = k.options;
      signals = ap (λ x. x.signal) k.counters;
      completion = ap (λ x. x.completion) k.counters;
      next_handle = ap (λ x. x.handle) k.counters;
      first = ap (λ x. x.0) a.1;
    }

issued_makes : (m : Message) (unstable : Bool) (h : NotificationHandle) (v w : Machine) → issued m unstable v ≡ Done h w → Made m unstable h v w
unfolding issued
issued_makes m unstable h v w = by_phase (is_running v.phase)
  where
    by_phase : (b : Bool) → (if b then command_if_counted (missing_number (ids_of m) 0 (ids_of m) v.counters) m unstable v else (let u = entered (shown_type m) (name_of m) v in Failed (about_last (state_fault v.phase) u) u)) ≡ Done h w → Made m unstable h v w
    by_phase true d = counted_makes (missing_number (ids_of m) 0 (ids_of m) v.counters) m unstable h v w d
    by_phase false d = absurd (no_answer _ h _ w d)

commanded_makes : (o : Option NamedFault) (m : Message) (unstable : Bool) (h : NotificationHandle) (v w : Machine) → commanded_unless o m unstable v ≡ Done h w → Made m unstable h v w
commanded_makes (Some name) m unstable h v w d = absurd (no_answer _ h _ w d)
commanded_makes None m unstable h v w d = issued_makes m unstable h v w d

-- ---- one of several

foreseen_makes : (c : Command) (cs : List Command) (h : NotificationHandle) (v w : Machine) → (foreseen c cs v >>> λ _ u. commanded c u) ≡ Done h w → Made c.message c.unstable h v w
unfolding foreseen
foreseen_makes c cs h v w = by_refusal (any_refusal c cs)
  where
    by_numbers : (o : Option NamedFault) → (numbers_left o c v >>> λ _ u. commanded c u) ≡ Done h w → Made c.message c.unstable h v w
    by_numbers (Some name) d = absurd (no_answer _ h _ w d)
    by_numbers None d = commanded_makes c.refusal c.message c.unstable h v w d

    by_running : (b : Bool) → ((if b then numbers_left (missing_for c cs v.counters) c v else (let u = entered (shown_type c.message) (name_of c.message) v in Failed (about_last (state_fault v.phase) u) u)) >>> λ _ u. commanded c u) ≡ Done h w → Made c.message c.unstable h v w
    by_running true d = by_numbers (missing_for c cs v.counters) d
    by_running false d = absurd (no_answer _ h _ w d)

    by_refusal : (o : Option NamedFault) → (foreseen_unless o c cs v >>> λ _ u. commanded c u) ≡ Done h w → Made c.message c.unstable h v w
    by_refusal (Some name) d = absurd (no_answer _ h _ w d)
    by_refusal None d = by_running (is_running v.phase) d

before_makes : (c : Command) (cs : List Command) (h : NotificationHandle) (v w : Machine) → commanded_before c cs v ≡ Done h w → Made c.message c.unstable h v w
before_makes c [] h v w d = commanded_makes c.refusal c.message c.unstable h v w d
before_makes c (b ∷ bs) h v w d = foreseen_makes c (b ∷ bs) h v w d

-- a call that is answered did its event
called_done : {A : Type 0} (o : Outcome A) (a : A) (v w : Machine) → called o v ≡ Done a w → o ≡ Done a w
unfolding called
called_done {A} o a v w = by_failure v.failure o
  where
    by_failure : (f : Option Error) (o : Outcome A) → called_at f o v ≡ Done a w → o ≡ Done a w
    by_failure (Some e) o d = absurd (no_answer e a v w d)
    by_failure None (Done b u) d = d
    by_failure None (Failed e u) d = absurd (no_answer _ a _ w d)

-- ---- a call and a sleep

is_call_with : (id : ℕ) (m : Message) (c : CallCommand) → m ≡ message.Call c → IsCallWith id (id + 1) (with_ids id m)
is_call_with id m c is = let P : Message → Type 0 = λ x. IsCallWith id (id + 1) (with_ids id x) in subst P (sym is) (refl, refl)

is_sleep_with : (id : ℕ) (m : Message) (c : SleepCommand) → m ≡ message.Sleep c → IsSleepWith id (with_ids id m)
is_sleep_with id m c is = let P : Message → Type 0 = λ x. IsSleepWith id (with_ids id x) in subst P (sym is) refl

is_two : (m : Message) (c : CallCommand) → m ≡ message.Call c → ids_of m ≡ 2
is_two m c is = ap ids_of is

is_one : (m : Message) (c : SleepCommand) → m ≡ message.Sleep c → ids_of m ≡ 1
is_one m c is = ap ids_of is

-- two mappings and then one
three : (before between after : List Mapping) (n id next_n next_id : ℕ) → between ≡ before ++ mapped_from 2 n id → after ≡ between ++ mapped_from 1 next_n next_id
    → next_n ≡ n + 2 → next_id ≡ id + 2
    → after ≡ before ++ stands_for (record { 0 = n }) id ∷ stands_for (record { 0 = n + 1 }) (id + 1) ∷ stands_for (record { 0 = n + 2 }) (id + 2) ∷ []
three before between after n id next_n next_id two one counted given =
    one ∙ ap (λ x. x ++ mapped_from 1 next_n next_id) two
    ∙ ap (λ x. (before ++ mapped_from 2 n id) ++ mapped_from 1 x next_id) counted
    ∙ ap (λ x. (before ++ mapped_from 2 n id) ++ mapped_from 1 (n + 2) x) given
    ∙ append_assoc before (mapped_from 2 n id) (mapped_from 1 (n + 2) (id + 2))

made_both : (c b : Command) (call : CallCommand) (sleep : SleepCommand) (h g : NotificationHandle) (v u w : Machine)
    → c.message ≡ message.Call call → b.message ≡ message.Sleep sleep → b.unstable ≡ false
    → Made c.message c.unstable h v u → Made b.message b.unstable g u w → DeadlineCalled c.unstable (deadline_handles h) v w
made_both c b call sleep h g v u w is_call is_sleep stable x y =
    let two = is_two c.message call is_call in
    let given : u.counters.completion ≡ v.counters.completion + 2 = x.completion ∙ ap (λ n. v.counters.completion + n) two in
    let counted : u.counters.handle ≡ v.counters.handle + 2 = x.next_handle ∙ ap (λ n. v.counters.handle + n) two in
    let first = let P : ℕ → Type 0 = λ n. u.results.handles ≡ v.results.handles ++ mapped_from n v.counters.handle v.counters.completion in subst P two x.handles in
    let last = let P : ℕ → Type 0 = λ n. w.results.handles ≡ u.results.handles ++ mapped_from n u.counters.handle u.counters.completion in subst P (is_one b.message sleep is_sleep) y.handles in
    let ids = three v.results.handles u.results.handles w.results.handles v.counters.handle v.counters.completion u.counters.handle u.counters.completion first last counted given in
    let Sleeps : ℕ → Type 0 = λ n. IsSleepWith n (with_ids u.counters.completion b.message) in
    let Enters : Bool → Type 0 = λ i. IsEntered (with_ids u.counters.completion b.message) i u w in
    let Given : ℕ → Type 0 = λ n. w.results.handles ≡ v.results.handles
    ++ stands_for (record { 0 = n }) v.counters.completion ∷ stands_for (record { 0 = n + 1 }) (v.counters.completion + 1) ∷ stands_for (record { 0 = n + 2 }) (v.counters.completion + 2) ∷ [] in
    record {
      call = with_ids v.counters.completion c.message;
      deadline = with_ids u.counters.completion b.message;
      between = u;
      is_call = is_call_with v.counters.completion c.message call is_call;
      is_deadline = subst Sleeps given (is_sleep_with u.counters.completion b.message sleep is_sleep);
      call_is_entered = x.how;
      deadline_is_entered = subst Enters (ap (λ o. ignores_payloads o.non_determinism_checks b.unstable) x.options ∙ ap (λ s. ignores v s) stable) y.how;
      handles = subst Given (sym x.first) ids;
    }

-- the handle of the whole is the first one's
handle_so : (a h : NotificationHandle) (given : Result NotificationHandle Error) → Ok h ≡ answered_so a given → (g : NotificationHandle) × (given ≡ Ok g) × (a ≡ h)
handle_so a h (Ok g) so = (g, refl, (let z : Ok h ≡ Ok a = so in cc))
handle_so a h (Err e) so = absurd (let z : Ok h ≡ Err e = so in cc)

behind_makes : (c b : Command) (call : CallCommand) (sleep : SleepCommand) (h : NotificationHandle) (v w u : Machine) (first : Result NotificationHandle Error)
    → c.message ≡ message.Call call → b.message ≡ message.Sleep sleep → b.unstable ≡ false
    → Does (called (commanded_before c (b ∷ []) v) v) first v u → BehindFirst (MakesAll b []) first (Ok h) u w → DeadlineCalled c.unstable (deadline_handles h) v w
behind_makes c b call sleep h v w u (Err e) is_call is_sleep stable does behind = absurd (let z : Ok h ≡ Err e = behind.0 in cc)
behind_makes c b call sleep h v w u (Ok a) is_call is_sleep stable does (given, second, so) =
    let x = handle_so a h given so in
    let Makes : Result NotificationHandle Error → Type 0 = λ r. MakesAll b [] r u w in
    let made = subst Makes x.1 second in
    let Handles : NotificationHandle → Type 0 = λ n. DeadlineCalled c.unstable (deadline_handles n) v w in
    subst Handles x.2
    (made_both c b call sleep a x.0 v u w is_call is_sleep stable (before_makes c (b ∷ []) a v u (called_done (commanded_before c (b ∷ []) v) a v u does)) (before_makes b [] x.0 u w (called_done (commanded_before b [] u) x.0 u w made.0)))

pub deadline_calls : (c b : Command) (call : CallCommand) (sleep : SleepCommand) (h : NotificationHandle) (v w : Machine)
    → c.message ≡ message.Call call → b.message ≡ message.Sleep sleep → b.unstable ≡ false → MakesAll c (b ∷ []) (Ok h) v w → DeadlineCalled c.unstable (deadline_handles h) v w
deadline_calls c b call sleep h v w is_call is_sleep stable (first, u, one, behind) = behind_makes c b call sleep h v w u first is_call is_sleep stable one.0 behind

-- the handles that are answered are those of the first handle
pub deadline_answers : (c b : Command) (call : CallCommand) (sleep : SleepCommand) (h : DeadlineCallHandle) (old new : View)
    → c.message ≡ message.Call call → b.message ≡ message.Sleep sleep → b.unstable ≡ false
    → CallsAllFor deadline_handles c (b ∷ []) (Ok h) old new → DeadlineCalled c.unstable h old.machine new.machine
deadline_answers c b call sleep h old new is_call is_sleep stable (given, makes, same, so) = by_given given makes so
  where
    by_given : (given : Result NotificationHandle Error) → MakesAll c (b ∷ []) given old.machine new.machine → Ok h ≡ result_by deadline_handles given → DeadlineCalled c.unstable h old.machine new.machine
    by_given (Ok a) makes so =
        let Handles : DeadlineCallHandle → Type 0 = λ x. DeadlineCalled c.unstable x old.machine new.machine in
        let e : deadline_handles a ≡ h = (let z : Ok h ≡ Ok (deadline_handles a) = so in cc) in
        subst Handles e (deadline_calls c b call sleep a old.machine new.machine is_call is_sleep stable makes)
    by_given (Err e) makes so = absurd (let z : Ok h ≡ Err e = so in cc)

pub makes_both : (c : Command) (call : CallCommand) (millis : ℕ) → c.message ≡ message.Call call → MakesBoth c millis
makes_both c call millis is h old new made =
    let sleep : SleepCommand = record { wake_up_time = min millis 18446744073709551615; result_completion_id = 0; name = [] } in
    deadline_answers c (sleep_command millis []) call sleep h old new is refl refl made

-- ---- the numbers of all

sum_counts : (i n : ℕ) (a b c : Counters) → b.completion ≡ a.completion + i → b.signal ≡ a.signal → b.handle ≡ a.handle + i → Counted n 0 n b c → Counted (i + n) 0 (i + n) a c
sum_counts i n a b c completion signal handle x = record {
  completions = x.completions ∙ ap (λ k. k + n) completion ∙ add_assoc a.completion i n;
  signals = x.signals ∙ ap (λ k. k + 0) signal;
  handles = x.handles ∙ ap (λ k. k + n) handle ∙ add_assoc a.handle i n;
}

one_counts : (m : Message) (unstable : Bool) (h : NotificationHandle) (v w : Machine) → Made m unstable h v w → Counted (ids_of m) 0 (ids_of m) v.counters w.counters × (h.0 ≡ v.counters.handle)
one_counts m unstable h v w x = (
  record { completions = x.completion; signals = x.signals ∙ sym (add-zero v.counters.signal); handles = x.next_handle },
  x.first,
)

pub several_count : (c : Command) (cs : List Command) (h : NotificationHandle) (v w : Machine) → MakesAll c cs (Ok h) v w → Counted (all_ids c cs) 0 (all_ids c cs) v.counters w.counters × (h.0 ≡ v.counters.handle)
several_count c [] h v w makes =
    one_counts c.message c.unstable h v w (before_makes c [] h v w (called_done (commanded_before c [] v) h v w makes.0))
several_count c (b ∷ bs) h v w (Err e, mid, one, behind) = absurd (let z : Ok h ≡ Err e = behind.0 in cc)
several_count c (b ∷ bs) h v w (Ok a, mid, one, (given, rest, so)) =
    let x = handle_so a h given so in
    let made : Made c.message c.unstable a v mid = before_makes c (b ∷ bs) a v mid (called_done (commanded_before c (b ∷ bs) v) a v mid one.0) in
    let Makes : Result NotificationHandle Error → Type 0 = λ r. MakesAll b bs r mid w in
    let others = several_count b bs x.0 mid w (subst Makes x.1 rest) in (
      sum_counts (ids_of c.message) (all_ids b bs) v.counters mid.counters w.counters made.completion made.signals made.next_handle others.0,
      ap (λ (n : NotificationHandle). n.0) (sym x.2) ∙ made.first,
    )

-- ---- a machine that has failed

same_failed : (o : Outcome NotificationHandle) (d e : Error) (v w : Machine) → o ≡ Failed d v → o ≡ Failed e w → (e ≡ d) × (w ≡ v)
same_failed o d e v w h k = (cc, cc)

-- the first error is answered, or out of memory, and the machine stays
abbrev Stays : Error → Result NotificationHandle Error → Machine → Machine → Type 0
Stays e r v w = ((r ≡ Err e) ⊎ (r ≡ Err no_memory)) × (w ≡ v)

one_stays : (c : Command) (cs : List Command) (r : Result NotificationHandle Error) (e : Error) (v w : Machine) → v.failure ≡ Some e → MakesOne c cs r v w → Stays e r v w
one_stays c cs (Ok a) e v w is (does, whole) = absurd (no_answer e a v w (sym (answers_first (commanded_before c cs v) e v is) ∙ does))
one_stays c cs (Err x) e v w is (does, whole) =
    elim does as (λ _. Stays e (Err x) v w) [
      | inl h ↦ (let s = same_failed (called (commanded_before c cs v) v) e x v w (answers_first (commanded_before c cs v) e v is) h in (inl (ap (λ y. Err y) s.0), s.1))
      | inr h ↦ (inr (ap (λ y. Err y) h.error), h.stays e is)
    ]

all_stay : (c : Command) (cs : List Command) (r : Result NotificationHandle Error) (e : Error) (v w : Machine) → v.failure ≡ Some e → MakesAll c cs r v w → Stays e r v w
all_stay c [] r e v w is makes = one_stays c [] r e v w is makes
all_stay c (b ∷ bs) r e v w is (Ok a, mid, one, behind) =
    elim (one_stays c (b ∷ bs) (Ok a) e v mid is one).0 as (λ _. Stays e r v w) [
      | inl h ↦ absurd (let z : Ok a ≡ Err e = h in cc)
      | inr h ↦ absurd (let z : Ok a ≡ Err no_memory = h in cc)
    ]
all_stay c (b ∷ bs) r e v w is (Err x, mid, one, behind) =
    let o = one_stays c (b ∷ bs) (Err x) e v mid is one in
    elim o.0 as (λ _. Stays e r v w) [
      | inl h ↦ (inl (behind.0 ∙ h), behind.1 ∙ o.1)
      | inr h ↦ (inr (behind.0 ∙ h), behind.1 ∙ o.1)
    ]

pub several_answer_first : (c : Command) (cs : List Command) (r : Result NotificationHandle Error) (e : Error) (old new : View) → old.machine.failure ≡ Some e → CallsAll c cs r old new → AnswersFirst e r old new
several_answer_first c cs r e old new is calls =
    let stays = all_stay c cs r e old.machine new.machine is calls.0 in
    (stays.0, viewed old new old.machine stays.1 calls.1)
