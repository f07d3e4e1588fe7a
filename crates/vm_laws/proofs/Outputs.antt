-- Each call leaves all that was written so that it ends once.
use Rattle.std.proofs.Common.{◌≡◌, ℕ, Bool, true, false, List, [], ◌∷◌, ◌++◌, Option, refl, sym, ap, subst, ◌∙◌, append_assoc, inl, inr, Global}
use Rattle.std.specs.Prelude.{if◌then◌else◌, map, is_some, Result, Ok, Err}
use Rattle.std.specs.List.{concat, flat_map}
use Rattle.std.proofs.lemmas.List.{append-nil}
use Rattle.std.proofs.lemmas.List.Folds.{concat-append}
use Rattle.std.proofs.lemmas.Grind.{flat_map-append}
use Rattle.std.specs.declared.alloc.AllocError.{AllocError}
use Rattle.journal_protocol.specs.Error.{Error}
use Rattle.journal_protocol.specs.NamedFault.TheVariants as fault
use Rattle.journal_protocol.specs.Message.{Message}
use Rattle.journal_protocol.specs.RawMessage.{RawMessage}
use Rattle.journal_protocol.specs.Version.{Version}
use Rattle.journal_protocol.specs.Frames.{encoding}
use Rattle.vm_types.specs.declared.command_type.CommandRelationship.{CommandRelationship}
use Rattle.vm_types.specs.declared.options.VMOptions.{VMOptions}
use Rattle.vm_types.specs.declared.types.AwaitResponse.{AwaitResponse}
use Rattle.vm_types.specs.declared.types.AwakeableHandle.{AwakeableHandle}
use Rattle.vm_types.specs.declared.types.DeadlineCallHandle.{DeadlineCallHandle}
use Rattle.await_trees.specs.declared.handle.NotificationHandle.{NotificationHandle}
use Rattle.await_trees.specs.declared.tree.UnresolvedFuture.{UnresolvedFuture}
use Rattle.await_trees.specs.Tree.{Tree, tree_of}
use Rattle.vm_types.specs.declared.values.Input.{Input}
use Rattle.vm_types.specs.declared.values.Value.{Value}
use Rattle.vm_machine.specs.declared.machine.Machine.{Machine}
use Rattle.vm_asks.specs.declared.command.Command.{Command}
use Rattle.vm_asks.specs.Asks.{cancel_invocation_command, deadline_handles}
use Rattle.vm_awaits.specs.Awaits.{Awaits}
use Rattle.vm_awaits.specs.Cancels.{AwaitsWhole, Cancels, FinishesIf, Onward, SendsCancel, cancel_taken, sends_cancels}
use Rattle.vm_parts.specs.Tracked.{invocation_ids}
use Rattle.vm_machine.specs.Commands.{answered_by, commanded}
use Rattle.vm_machine.specs.Several.{BehindFirst, MakesAll, MakesOne, commanded_before}
use Rattle.vm_laws.specs.Endings.{EndsIf, EndsOnce, EventWrites, Writes, is_over, is_terminal}
use Rattle.vm_types.specs.declared.types.EphemeralCompletionId.{EphemeralCompletionId}
use Rattle.vm_machine.specs.Ephemerals.{answers_ready, ephemeral_step, take_ephemeral_step}
use Rattle.vm_machine.specs.Takes.{take_step}
use Rattle.vm_machine.specs.Inputs.{close_step, end_step, input_step, malformed_step, message_step}
use Rattle.vm_machine.specs.Signals.{awakeable_step, signal_step}
use Rattle.vm_machine.specs.Outcomes.{CalledBy, Does, DoesBy, Done, Failed, IsStarved, Outcome, called, refused}
use Rattle.vm_machine.specs.Reports.{report_step}
use Rattle.vm_laws.proofs.Endings.{answered, awaited_writes, awakeable_writes, signal_writes, read_writes, before_event, called_writes, close_writes, end_writes, ends_nothing, input_writes, commanded_event, malformed_writes, message_writes, nothing_behind, proposed_write, report_writes, same, take_writes, writes_nothing}
use Rattle.vm_laws.proofs.Ephemerals.{ephemeral_writes, take_ephemeral_writes}
use Rattle.vm_asks.specs.declared.state_read.StateRead.{StateRead}
use Rattle.vm_machine.specs.Reads.{read_step}
use Rattle.vm_retries.specs.declared.policy.RetryPolicy.{RetryPolicy}
use Rattle.vm_types.specs.declared.runs.RunExitResult.{RunExitResult}
use Rattle.vm_machine.specs.Proposals.{Proposes}
use Rattle.invocation_vm.specs.Calls.{AnswersReady, CallsAwaitBy, CallsCommand, CallsFlatAwait, CallsFor, CallsProposal, CallsRead, new_awakeable_step, CallsAllFor}
use Rattle.vm_types.specs.Options.{skips_replay}
use Rattle.vm_laws.specs.Outputs.{EndsOnceAfter, StaysSo}
use Rattle.journal_entries.specs.Frames.{Tail, Rest, Garbage, frames_of}
use Rattle.invocation_vm.specs.Making.{made}
use Rattle.invocation_vm.specs.Views.{View, Calls, Leaves, TakesOutput, after_closing, after_error, after_input, all_received, messages_in_bytes, consumed, has_failed, left_by, left_over, received, spoiled}
use Rattle.invocation_vm.proofs.Feeds.{among_failed, among_output}

-- ---- one after another

ends_after : (b : Bool) (ns : List Message) (c : Bool) → EndsOnce b ns c → EndsOnce false ns c
ends_after false ns c e = e
ends_after true ns c e = subst (λ xs. EndsOnce false xs c) (sym e.0) tt

then_ends : (t : Bool) (ms ns : List Message) (b c : Bool) → EndsOnce b ns c → EndsIf t ms b (EndsOnce false ms b) → (EndsOnce false ms b → EndsOnce false (ms ++ ns) c) → EndsIf t (ms ++ ns) c (EndsOnce false (ms ++ ns) c)
then_ends true ms ns b c e d more =
    let f = subst (λ x. EndsOnce x ns c) d.1 e in
    ((λ i. d.0 i ++ f.0 i), f.1)
then_ends false ms ns b c e d more = more d

both_end : (ms ns : List Message) (b c : Bool) → EndsOnce false ms b → EndsOnce b ns c → EndsOnce false (ms ++ ns) c
both_end [] ns b c d e = ends_after b ns c e
both_end (m ∷ ms) ns b c d e = then_ends (is_terminal m) ms ns b c e d (λ x. both_end ms ns b c x e)

joins_at : (a : Bool) (ms ns : List Message) (b c : Bool) → EndsOnce a ms b → EndsOnce b ns c → EndsOnce a (ms ++ ns) c
joins_at true ms ns b c d e =
    let f = subst (λ x. EndsOnce x ns c) d.1 e in
    ((λ i. d.0 i ++ f.0 i), f.1)
joins_at false ms ns b c d e = both_end ms ns b c d e

map_append : (ms ns : List Message) → map encoding (ms ++ ns) ≡ map encoding ms ++ map encoding ns
map_append [] ns = refl
map_append (m ∷ ms) ns = ap (λ t. encoding m ∷ t) (map_append ms ns)

append_both : (xs ys zs : List (List ℕ)) → (xs ++ ys) ++ zs ≡ xs ++ (ys ++ zs)
append_both [] ys zs = refl
append_both (x ∷ xs) ys zs = ap (λ t. x ∷ t) (append_both xs ys zs)

pub writes_then : (u v w : Machine) → Writes u v → Writes v w → Writes u w
writes_then u v w a b = record {
  messages = a.messages ++ b.messages;
  output = b.output ∙ ap (λ t. t ++ map encoding b.messages) a.output ∙ append_both u.output (map encoding a.messages) (map encoding b.messages)
      ∙ ap (λ t. u.output ++ t) (sym (map_append a.messages b.messages));
  ends_once = joins_at (is_over u) a.messages b.messages (is_over v) (is_over w) a.ends_once b.ends_once;
}

-- ---- a call

over_failed : (w : Machine) → is_some w.failure ≡ true → is_over w ≡ true
over_failed w e = rw e refl

quiet_writes : (v w : Machine) → w.output ≡ v.output → is_some w.failure ≡ true → Writes v w
quiet_writes v w output failed = record {
  messages = [];
  output = output ∙ sym (append-nil v.output);
  ends_once = subst (λ b. EndsOnce (is_over v) [] b) (sym (over_failed w failed)) (nothing_behind (is_over v));
}

starved_writes : (e : Error) (v w : Machine) → IsStarved v e w → Writes v w
starved_writes e v w s = quiet_writes v w s.output (ap is_some s.failure)

does_writes : {A : Type 0} (o : Outcome A) (r : Result A Error) (v w : Machine) → EventWrites v o → Does o r v w → Writes v w
does_writes o (Ok a) v w h d = subst (EventWrites v) d h
does_writes o (Err e) v w h d = elim d as (λ _. Writes v w) [ inl x ↦ subst (EventWrites v) x h | inr x ↦ starved_writes e v w x ]

does_by_writes : {A : Type 0} (R : Outcome A → Type 0) (r : Result A Error) (v w : Machine) → ((o : Outcome A) → R o → EventWrites v o) → DoesBy R r v w → Writes v w
does_by_writes R (Ok a) v w h d = h (Done a w) d
does_by_writes R (Err e) v w h d = elim d as (λ _. Writes v w) [ inl x ↦ h (Failed e w) x | inr x ↦ starved_writes e v w x ]

left_writes : {A : Type 0} (o : Outcome A) (v : Machine) → EventWrites v o → Writes v (left_by o)
left_writes (Done a w) v h = h
left_writes (Failed e w) v h = h

-- ---- what is written in all

bytes_of : (ms : List Message) → concat (map encoding ms) ≡ flat_map encoding ms
bytes_of [] = refl
bytes_of (m ∷ ms) = ap (λ t. encoding m ++ t) (bytes_of ms)

pub stays : (old new : View) → Writes old.machine new.machine → StaysSo old new
stays old new w taken e = record {
  messages = e.messages ++ w.messages;
  bytes = ap (λ t. taken ++ concat t) w.output ∙ ap (λ t. taken ++ t) (concat-append old.machine.output (map encoding w.messages) ∙ ap (λ t. concat old.machine.output ++ t) (bytes_of w.messages))
      ∙ sym (append_assoc taken (concat old.machine.output) (flat_map encoding w.messages)) ∙ ap (λ t. t ++ flat_map encoding w.messages) e.bytes ∙ sym (flat_map-append encoding e.messages w.messages);
  once = both_end e.messages w.messages (is_over old.machine) (is_over new.machine) e.once w.ends_once;
}

pub calls_stay : {A : Type 0} (step : Machine → Outcome A) (r : Result A Error) (old new : View) → EventWrites old.machine (called (step old.machine) old.machine) → Calls step r old new → StaysSo old new
calls_stay step r old new h c = stays old new (does_writes (called (step old.machine) old.machine) r old.machine new.machine h c.0)

pub leaves_stay : (raws : List RawMessage) (after : View) (r : Result Unit AllocError) (old new : View) → Writes old.machine after.machine → Leaves raws after r old new → StaysSo old new
leaves_stay raws after (Ok t) old new w l = stays old new (subst (λ (x : View). Writes old.machine x.machine) (sym l.ok) w)
leaves_stay raws after (Err e) old new w l = stays old new (quiet_writes old.machine new.machine (among_output raws old.machine new.machine l.err) (among_failed raws old.machine new.machine l.err))

-- ---- each call

pub command_stays : (c : Command) (r : Result NotificationHandle Error) (old new : View) → CallsCommand c r old new → StaysSo old new
command_stays c r old new h = calls_stay (commanded c) r old new (called_writes old.machine (commanded c old.machine) (commanded_event c old.machine (ends_nothing c))) h.0

pub answer_stays : {A : Type 0} (f : NotificationHandle → A) (c : Command) (r : Result A Error) (old new : View) → CallsFor f c r old new → StaysSo old new
answer_stays f c r old new h =
    calls_stay (λ v. answered_by f (commanded c v)) r old new (called_writes old.machine (answered_by f (commanded c old.machine)) (λ live. answered old.machine (commanded c old.machine) f (commanded_event c old.machine (ends_nothing c) live))) h.0

new_awakeable_writes : (b : Bool) (v : Machine) → EventWrites v (called (if b then refused fault.UnsupportedFeature v else awakeable_step v) v)
new_awakeable_writes true v = called_writes v (refused {A = AwakeableHandle} fault.UnsupportedFeature v) (λ live. same v)
new_awakeable_writes false v = awakeable_writes v

pub awakeable_stays : (r : Result AwakeableHandle Error) (old new : View) → Calls new_awakeable_step r old new → StaysSo old new
awakeable_stays r old new c = calls_stay new_awakeable_step r old new (new_awakeable_writes (skips_replay old.machine.options.journal_replay) old.machine) c

pub signal_stays : (name : List ℕ) (r : Result NotificationHandle Error) (old new : View) → Calls (signal_step name) r old new → StaysSo old new
signal_stays name r old new c = calls_stay (signal_step name) r old new (signal_writes name old.machine) c

pub read_stays : (read : StateRead) (r : Result NotificationHandle Error) (old new : View) → CallsRead read r old new → StaysSo old new
read_stays read r old new c = calls_stay (read_step read) r old new (read_writes read old.machine) c.0

pub proposal_stays : (handle : NotificationHandle) (exit : RunExitResult) (policy : RetryPolicy) (r : Result Unit Error) (old new : View) → CallsProposal handle exit policy r old new → StaysSo old new
proposal_stays handle exit policy r old new c =
    stays old new (does_by_writes (CalledBy (Proposes handle exit policy old.machine) old.machine) r old.machine new.machine (λ o. proposed_write handle exit policy old.machine o) c.0)

pub input_stays : (r : Result Input Error) (old new : View) → Calls input_step r old new → StaysSo old new
input_stays r old new c = calls_stay input_step r old new (input_writes old.machine) c

pub end_stays : (r : Result Unit Error) (old new : View) → Calls end_step r old new → StaysSo old new
end_stays r old new c = calls_stay end_step r old new (end_writes old.machine) c

pub take_stays : (handle : ℕ) (r : Result (Option Value) Error) (old new : View) → Calls (take_step handle) r old new → StaysSo old new
take_stays handle r old new c = calls_stay (take_step handle) r old new (take_writes handle old.machine) c

pub ephemeral_stays : (key : List ℕ) (r : Result EphemeralCompletionId Error) (old new : View) → Calls (ephemeral_step key) r old new → StaysSo old new
ephemeral_stays key r old new c = calls_stay (ephemeral_step key) r old new (ephemeral_writes key old.machine) c

pub take_ephemeral_stays : (id : ℕ) (r : Result (Option Value) Error) (old new : View) → Calls (take_ephemeral_step id) r old new → StaysSo old new
take_ephemeral_stays id r old new c = calls_stay (take_ephemeral_step id) r old new (take_ephemeral_writes id old.machine) c

-- ---- several commands

one_writes : (c : Command) (cs : List Command) (r : Result NotificationHandle Error) (v w : Machine) → MakesOne c cs r v w → Writes v w
one_writes c cs r v w h = does_writes (called (commanded_before c cs v) v) r v w (called_writes v (commanded_before c cs v) (λ live. before_event c cs v (ends_nothing c) live)) h.0

first_writes : (Next : Result NotificationHandle Error → Machine → Machine → Type 0) (first r : Result NotificationHandle Error) (v mid w : Machine) → Writes v mid → ((given : Result NotificationHandle Error) → Next given mid w → Writes mid w) → BehindFirst Next first r mid w → Writes v w
first_writes Next (Ok handle) r v mid w first more on = writes_then v mid w first (more on.0 on.1)
first_writes Next (Err e) r v mid w first more on = subst (Writes v) (sym on.1) first

-- the whole call
pub all_writes : (c : Command) (cs : List Command) (r : Result NotificationHandle Error) (v w : Machine) → MakesAll c cs r v w → Writes v w
all_writes c [] r v w h = one_writes c [] r v w h
all_writes c (b ∷ bs) r v w (first, mid, one, on) = first_writes (MakesAll b bs) first r v mid w (one_writes c (b ∷ bs) first v mid one) (λ given. all_writes b bs given mid w) on

pub several_stay : {A : Type 0} (f : NotificationHandle → A) (c : Command) (cs : List Command) (r : Result A Error) (old new : View) → CallsAllFor f c cs r old new → StaysSo old new
several_stay f c cs r old new (given, made, same, is) = stays old new (all_writes c cs given old.machine new.machine made)

pub deadlines_stay : (call deadline : Command) (r : Result DeadlineCallHandle Error) (old new : View) → CallsAllFor deadline_handles call (deadline ∷ []) r old new → StaysSo old new
deadlines_stay call deadline r old new h = several_stay deadline_handles call (deadline ∷ []) r old new h

-- ---- awaits

sends_write : (id : List ℕ) (sent : Result NotificationHandle Error) (v w : Machine) → SendsCancel id sent v w → Writes v w
sends_write id sent v w h = does_writes (called (commanded (cancel_invocation_command id) v) v) sent v w (called_writes v (commanded (cancel_invocation_command id) v) (commanded_event (cancel_invocation_command id) v refl)) h.0

onward_writes : (Next : Result (Result AwaitResponse Error) Error → Machine → Machine → Type 0) (sent : Result NotificationHandle Error) (r : Result (Result AwaitResponse Error) Error) (v mid w : Machine) → Writes v mid → (Next r mid w → Writes mid w) → Onward Next sent r mid w → Writes v w
onward_writes Next (Ok handle) r v mid w first more on = writes_then v mid w first (more on)
onward_writes Next (Err e) r v mid w first more on = subst (Writes v) (sym on.1) first

cancels_write : (ids : List (List ℕ)) (r : Result (Result AwaitResponse Error) Error) (v w : Machine) → Cancels ids r v w → Writes v w
cancels_write [] r v w h = subst (Writes v) (sym h.1) (writes_nothing v (cancel_taken v) (record { output = refl; closed = refl; failure = refl }))
cancels_write (id ∷ ids) r v w (sent, mid, sends, on) = onward_writes (Cancels ids) sent r v mid w (sends_write id sent v mid sends) (cancels_write ids r mid w) on

finishes_write : (b : Bool) (first r : Result (Result AwaitResponse Error) Error) (v mid w : Machine) → Writes v mid → FinishesIf b first r mid w → Writes v w
finishes_write true first r v mid w h on =
    let cleared : Machine = record mid { tracked = [] } in
    writes_then v mid w h (writes_then mid cleared w (writes_nothing mid cleared (record { output = refl; closed = refl; failure = refl })) (cancels_write (invocation_ids mid.tracked) r cleared w on))
finishes_write false first r v mid w h on = subst (Writes v) (sym on.1) h

-- the whole call of an await
pub whole_writes : (t : Tree) (r : Result (Result AwaitResponse Error) Error) (v w : Machine) → AwaitsWhole t r v w → Writes v w
whole_writes t r v w (first, mid, does, fin) = finishes_write (sends_cancels first) first r v mid w (does_by_writes (CalledBy (Awaits t v) v) first v mid (λ o. awaited_writes t v o) does) fin

ready_stays : (r : Result AwaitResponse Error) (old new : View) → AnswersReady r old new → StaysSo old new
ready_stays r old new (id, may, is, left) =
    stays old new (subst (λ (x : View). Writes old.machine x.machine) (sym left) (writes_nothing old.machine old.machine (same old.machine)))

await_by : (b : Bool) (future : UnresolvedFuture) (r : Result AwaitResponse Error) (old new : View) → CallsAwaitBy b future r old new → StaysSo old new
await_by true future r old new h = ready_stays r old new h
await_by false future r old new (answered, (whole, u), is) = stays old new (whole_writes (tree_of future) answered old.machine new.machine whole)

pub await_stays : (future : UnresolvedFuture) (r : Result AwaitResponse Error) (old new : View) → CallsFlatAwait future r old new → StaysSo old new
await_stays future r old new h = await_by (answers_ready old.machine) future r old new h

-- ---- what comes in

received_writes : (raw : RawMessage) (v : Machine) → Writes v (received raw v)
unfolding received
received_writes raw v = left_writes (called (message_step raw v) v) v (message_writes raw v)

spoiled_writes : (v : Machine) → Writes v (spoiled v)
unfolding spoiled
spoiled_writes v = left_writes (called (malformed_step v) v) v (malformed_writes v)

all_write : (raws : List RawMessage) (v : Machine) → Writes v (all_received raws v)
all_write [] v = writes_nothing v v (same v)
all_write (raw ∷ raws) v = writes_then v (received raw v) (all_received raws (received raw v)) (received_writes raw v) (all_write raws (received raw v))

left_over_writes : (tail : Tail) (u v : Machine) → Writes u v → Writes u (left_over tail v).machine
left_over_writes (Rest bytes) u v w = w
left_over_writes Garbage u v w = writes_then u v (spoiled v) w (spoiled_writes v)

input_at : (b : Bool) (v : View) (bytes : List ℕ) → Writes v.machine (if b then v else consumed (frames_of (v.undecoded ++ bytes)) v.machine).machine
input_at true v bytes = writes_nothing v.machine v.machine (same v.machine)
input_at false v bytes =
    let frames = frames_of (v.undecoded ++ bytes) in
    left_over_writes frames.1 v.machine (all_received frames.0 v.machine) (all_write frames.0 v.machine)

pub bytes_stay : (bytes : List ℕ) (r : Result Unit AllocError) (old new : View) → Leaves (messages_in_bytes old bytes) (after_input old bytes) r old new → StaysSo old new
bytes_stay bytes r old new l = leaves_stay (messages_in_bytes old bytes) (after_input old bytes) r old new (input_at (has_failed old.machine) old bytes) l

pub closing_stays : (r : Result Unit AllocError) (old new : View) → Leaves [] (after_closing old) r old new → StaysSo old new
closing_stays r old new l = leaves_stay [] (after_closing old) r old new (left_writes (called (close_step old.machine) old.machine) old.machine (close_writes old.machine)) l

pub error_stays : (e : Error) (relationship : Option CommandRelationship) (r : Result Unit AllocError) (old new : View) → Leaves [] (after_error old e relationship) r old new → StaysSo old new
error_stays e relationship r old new l =
    leaves_stay [] (after_error old e relationship) r old new (left_writes (called (report_step e relationship old.machine) old.machine) old.machine (report_writes e relationship old.machine)) l

-- ---- a new VM, and what is taken

pub made_ends : (alloc : Global) (options : VMOptions) (version : Version) → EndsOnceAfter [] (made alloc options version)
made_ends alloc options version = record { messages = []; bytes = refl; once = tt }

pub taken_ends : (bytes taken : List ℕ) (old new : View) → TakesOutput (Ok bytes) old new → EndsOnceAfter taken old → EndsOnceAfter (taken ++ bytes) new
taken_ends bytes taken old new t e =
    let emptied : View = record old { machine = record old.machine { output = [] } } in
    let left : EndsOnceAfter (taken ++ bytes) emptied = record {
      messages = e.messages;
      bytes = append-nil (taken ++ bytes) ∙ ap (λ b. taken ++ b) t.bytes ∙ e.bytes;
      once = e.once;
    } in
    subst (EndsOnceAfter (taken ++ bytes)) (sym t.ok) left

pub untaken_stays : (e : AllocError) (old new : View) → TakesOutput (Err e) old new → StaysSo old new
untaken_stays e old new t taken h = subst (EndsOnceAfter taken) (sym t.err) h
