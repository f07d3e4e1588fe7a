-- A take that was answered with a value removes its handle, and what its call's invocation was is known.
use Rattle.std.proofs.Common.{◌≡◌, ◌≢◌, ℕ, Bool, true, false, cond, List, [], ◌∷◌, ◌++◌, Option, Some, None, refl, sym, ap, ◌∙◌, subst, arith}
use Rattle.std.specs.Prelude.{◌==◌, ◌||◌, if◌then◌else◌, option_map}
use Rattle.std.proofs.lemmas.Bool.{eqb-true}
use Rattle.std.proofs.lemmas.Option.{same_Some}
use Rattle.journal_protocol.specs.InputCommand.{InputCommand}
use Rattle.journal_protocol.specs.RawMessage.{RawMessage}
use Rattle.journal_protocol.specs.Notification.{Notification}
use Rattle.journal_protocol.specs.NotificationId.{NotificationId}
use Rattle.journal_protocol.specs.NotificationResult.{NotificationResult}
use Rattle.vm_types.specs.declared.steps.Answer.{Answer}
use Rattle.vm_types.specs.declared.steps.Answer.TheVariants as answer
use Rattle.vm_types.specs.declared.values.Value.{Value}
use Rattle.await_trees.specs.declared.handle.NotificationHandle.{NotificationHandle}
use Rattle.vm_parts.specs.declared.async_results.Mapping.{Mapping}
use Rattle.vm_state.specs.declared.tracked_call.TrackedCall.{TrackedCall}
use Rattle.vm_parts.specs.Deliveries.{id_at, present_result_for, unmapped}
use Rattle.vm_parts.specs.Tracked.{TrackedAbove, TrackedAscend, if_unresolved, is_tracked, id_noted, unresolved_handles, with_invocation_id}
use Rattle.vm_types.specs.Values.{id_of_value, value_of}
use Rattle.vm_model.specs.Calls.{Meaning, Setup, call_of, ready_in, take_of_result, take_noting_id, take_of_value}
use Rattle.vm_model.specs.Calls.Move.{Answers}
use Rattle.vm_model.specs.Moves.{Point, after, moved, start}
use Rattle.vm_model.specs.TakenHandles.{IsGone, TookValue, without_handle}
use Rattle.vm_model.proofs.Runs.{none_some}
use Rattle.vm_model.proofs.Spans.{InOrder, Span, none_once_gone, told_in_order}

-- ---- the calls whose invocations aren't known

above_unresolved : (handle : ℕ) (ts : List TrackedCall) → TrackedAbove handle ts → without_handle handle (unresolved_handles ts) ≡ unresolved_handles ts
above_unresolved handle [] h = refl
above_unresolved handle (t ∷ ts) h = by_known t.invocation_id (above_unresolved handle ts h.1)
  where
    not_it : (b : Bool) → (t.handle == handle) ≡ b → b ≡ false
    not_it true e = let less = h.0 in let same = eqb-true t.handle handle e in absurd (omega (arith, less, same))
    not_it false e = refl

    by_known : (o : Option (List ℕ)) → without_handle handle (unresolved_handles ts) ≡ unresolved_handles ts → without_handle handle (if_unresolved o t.handle (unresolved_handles ts)) ≡ if_unresolved o t.handle (unresolved_handles ts)
    by_known None ih = ap (λ b. if b then without_handle handle (unresolved_handles ts) else t.handle ∷ without_handle handle (unresolved_handles ts)) (not_it (t.handle == handle) refl) ∙ ap (λ l. t.handle ∷ l) ih
    by_known (Some id) ih = ih

without_known : (handle : ℕ) (id : List ℕ) (ts : List TrackedCall) → TrackedAscend ts → unresolved_handles (with_invocation_id handle id ts) ≡ without_handle handle (unresolved_handles ts)
without_known handle id [] h = refl
without_known handle id (t ∷ ts) h = by_test (t.handle == handle) refl (without_known handle id ts h.1)
  where
    here : (o : Option (List ℕ)) → (t.handle == handle) ≡ true → unresolved_handles ts ≡ without_handle handle (if_unresolved o t.handle (unresolved_handles ts))
    here None e =
        let gone = sym (above_unresolved handle ts (subst (λ x. TrackedAbove x ts) (eqb-true t.handle handle e) h.0)) in
        gone ∙ sym (ap (λ b. if b then without_handle handle (unresolved_handles ts) else t.handle ∷ without_handle handle (unresolved_handles ts)) e)
    here (Some other) e = sym (above_unresolved handle ts (subst (λ x. TrackedAbove x ts) (eqb-true t.handle handle e) h.0))

    there : (o : Option (List ℕ)) → (t.handle == handle) ≡ false → unresolved_handles (with_invocation_id handle id ts) ≡ without_handle handle (unresolved_handles ts) → if_unresolved o t.handle (unresolved_handles (with_invocation_id handle id ts)) ≡ without_handle handle (if_unresolved o t.handle (unresolved_handles ts))
    there None e ih = ap (λ l. t.handle ∷ l) ih ∙ sym (ap (λ b. if b then without_handle handle (unresolved_handles ts) else t.handle ∷ without_handle handle (unresolved_handles ts)) e)
    there (Some other) e ih = ih

    by_test : (b : Bool) → (t.handle == handle) ≡ b → unresolved_handles (with_invocation_id handle id ts) ≡ without_handle handle (unresolved_handles ts) → unresolved_handles (if b then record { handle = t.handle; invocation_id = Some id } ∷ ts else t ∷ with_invocation_id handle id ts) ≡ without_handle handle (unresolved_handles (t ∷ ts))
    by_test true e ih = here t.invocation_id e
    by_test false e ih = there t.invocation_id e ih

without_untracked : (handle : ℕ) (ts : List TrackedCall) → is_tracked handle ts ≡ false → unresolved_handles ts ≡ without_handle handle (unresolved_handles ts)
without_untracked handle [] e = refl
without_untracked handle (t ∷ ts) e = by_test (t.handle == handle) refl e (without_untracked handle ts)
  where
    by_known : (o : Option (List ℕ)) → (t.handle == handle) ≡ false → unresolved_handles ts ≡ without_handle handle (unresolved_handles ts) → if_unresolved o t.handle (unresolved_handles ts) ≡ without_handle handle (if_unresolved o t.handle (unresolved_handles ts))
    by_known None is ih = ap (λ l. t.handle ∷ l) ih ∙ sym (ap (λ b. if b then without_handle handle (unresolved_handles ts) else t.handle ∷ without_handle handle (unresolved_handles ts)) is)
    by_known (Some id) is ih = ih

    by_test : (b : Bool) → (t.handle == handle) ≡ b → (b || is_tracked handle ts) ≡ false → (is_tracked handle ts ≡ false → unresolved_handles ts ≡ without_handle handle (unresolved_handles ts)) → unresolved_handles (t ∷ ts) ≡ without_handle handle (unresolved_handles (t ∷ ts))
    by_test true is e more = absurd (cc)
    by_test false is e more = by_known t.invocation_id is (more e)

noted_without : (handle : ℕ) (id : Option (List ℕ)) (ts now : List TrackedCall) → TrackedAscend ts → id_noted handle id ts ≡ Some now → unresolved_handles now ≡ without_handle handle (unresolved_handles ts)
noted_without handle id ts now h e = by_test (is_tracked handle ts) refl id e
  where
    by_test : (b : Bool) → is_tracked handle ts ≡ b → (o : Option (List ℕ)) → (if b then option_map (λ known. with_invocation_id handle known ts) o else Some ts) ≡ Some now → unresolved_handles now ≡ without_handle handle (unresolved_handles ts)
    by_test true is None e = none_some e
    by_test true is (Some known) e = ap unresolved_handles (sym (same_Some _ now e)) ∙ without_known handle known ts h
    by_test false is o e = ap unresolved_handles (sym (same_Some ts now e)) ∙ without_untracked handle ts is

-- ---- the take

-- an answer with a value isn't one with none
other_answer : (l : List Answer) (value : Value) {P : Type 0} → l ++ answer.Taken None ∷ [] ≡ l ++ answer.Taken (Some value) ∷ [] → P
other_answer [] value e = absurd (cc)
other_answer (a ∷ l) value e = other_answer l value (ap (λ x. tail_of x) e)
  where
    tail_of : List Answer → List Answer
    tail_of [] = []
    tail_of (x ∷ xs) = xs

gone_handle : (handle high : ℕ) (ms : List Mapping) → Span 0 ms high → handle ≢ 1 → id_at handle (cond (handle == 1) ms (unmapped handle ms)) ≡ None
gone_handle handle high ms h other = by_test (handle == 1) refl
  where
    by_test : (b : Bool) → (handle == 1) ≡ b → id_at handle (cond b ms (unmapped handle ms)) ≡ None
    by_test true e = absurd (other (eqb-true handle 1 e))
    by_test false e = none_once_gone handle 0 high ms h

noted_gone : (handle : NotificationHandle) (id : NotificationId) (value : Value) (o : Option (List TrackedCall)) (p q : Point) → InOrder p.derived → ((now : List TrackedCall) → o ≡ Some now → unresolved_handles now ≡ without_handle handle.0 (unresolved_handles p.derived.tracked)) → moved (take_noting_id handle id value o p.derived) p ≡ Some q → IsGone handle p q
noted_gone handle id value None p q h k m = none_some m
noted_gone handle id value (Some now) p q h k m =
    let is = same_Some _ q m in
    record {
      handles = λ other. ap (λ z. id_at handle.0 z.derived.handles) (sym is) ∙ gone_handle handle.0 p.derived.counters.handle p.derived.handles h.handles other;
      calls = ap (λ z. unresolved_handles z.derived.tracked) (sym is) ∙ k now refl;
    }

value_gone : (handle : NotificationHandle) (id : NotificationId) (o : Option Value) (p q : Point) → InOrder p.derived → moved (take_of_value handle id o p.derived) p ≡ Some q → IsGone handle p q
value_gone handle id None p q h m = none_some m
value_gone handle id (Some value) p q h m = noted_gone handle id value (id_noted handle.0 (id_of_value value) p.derived.tracked) p q h (λ now e. noted_without handle.0 (id_of_value value) p.derived.tracked now h.tracked e) m

nothing_gone : (handle : NotificationHandle) (p q : Point) (value : Value) → q.answers ≡ p.answers ++ answer.Taken (Some value) ∷ [] → moved (Answers (answer.Taken None ∷ []) p.derived) p ≡ Some q → IsGone handle p q
nothing_gone handle p q value gives m = other_answer p.answers value (ap (λ z. z.answers) (same_Some _ q m) ∙ gives)

result_gone : (handle : NotificationHandle) (id : Option NotificationId) (o : Option NotificationResult) (p q : Point) (value : Value) → InOrder p.derived → q.answers ≡ p.answers ++ answer.Taken (Some value) ∷ [] → moved (take_of_result handle id o p.derived) p ≡ Some q → IsGone handle p q
result_gone handle (Some id) (Some result) p q value h gives m = value_gone handle id (value_of result) p q h m
result_gone handle (Some id) None p q value h gives m = nothing_gone handle p q value gives m
result_gone handle None o p q value h gives m = nothing_gone handle p q value gives m

pub taken_gone : (s : Setup) (m : Meaning) (n : ℕ) (input : InputCommand) (ns : List Notification) (cs : List RawMessage) (p q : Point) (handle : NotificationHandle) → after s m n (start s input ns cs) ≡ Some p → TookValue s m handle p q → IsGone handle p q
taken_gone s m n input ns cs p q handle e t =
    result_gone handle (id_at handle.0 p.derived.handles) (present_result_for s.options.signal_delivery (id_at handle.0 p.derived.handles) (ready_in s p.derived)) p q t.value (told_in_order s m n input ns cs p e) t.answers (ap (λ st. moved (call_of s st p.derived) p) (sym t.asks) ∙ t.moves)
