-- The moves of an await of a cancelled handler.
use Rattle.std.proofs.Common.{◌≡◌, ℕ, zero, suc, Bool, true, false, cond, ◌&&◌, is_some, List, [], ◌∷◌, ◌++◌, Option, Some, None, refl, sym, ap, ◌∙◌, subst, append_assoc, append-nil}
use native.Mathlib.Nat.{add-zero}
use Rattle.std.specs.Prelude.{◌==◌, if◌then◌else◌, option_and_then, Result, Ok, Err}
use Rattle.std.specs.Option.{option_or}
use Rattle.std.proofs.lemmas.Option.{same_Some}
use Rattle.await_arrivals.specs.Results.{first, newest, results_of}
use Rattle.journal_protocol.specs.Equality.{header_equal}
use Rattle.journal_protocol.specs.NamedFault.{NamedFault}
use Rattle.journal_protocol.specs.NamedFault.TheVariants as fault
use Rattle.journal_protocol.specs.Types.{type_number}
use Rattle.journal_protocol.specs.Message.{Message}
use Rattle.journal_protocol.specs.RawMessage.{RawMessage}
use Rattle.journal_protocol.specs.Frames.{type_of}
use Rattle.journal_protocol.specs.Bodies.{message_in}
use Rattle.journal_protocol.specs.Notification.{Notification}
use Rattle.journal_protocol.specs.NotificationId.{NotificationId}
use Rattle.journal_protocol.specs.NotificationResult.{NotificationResult}
use Rattle.journal_protocol.specs.SignalDelivery.{SignalDelivery}
use Rattle.vm_types.specs.declared.steps.Answer.TheVariants as answer
use Rattle.await_trees.specs.declared.tree.UnresolvedFuture.{UnresolvedFuture}
use Rattle.vm_parts.specs.Arrived.{Ready}
use Rattle.vm_state.specs.Counting.{missing_number}
use Rattle.vm_parts.specs.Deliveries.{id_at, is_listed, present_among, present_result_for, same_id, with_delivered}
use Rattle.vm_types.specs.Options.{ends_awaits, ignores_payloads}
use Rattle.vm_parts.specs.Tracked.{id_of_result, invocation_ids, unresolved_handles, with_next_id, without_first_call}
use Rattle.vm_asks.specs.Asks.{cancel_invocation_command}
use Rattle.vm_model.specs.Calls.{Setup, Meaning, Derived, Demand, awaited, call_of, counted, cancel_sent, with_cancel_taken, cancelled, cancelling, id_awaited, id_read, is_cancelled_in, ready_in}
use Rattle.vm_model.specs.Calls.Demand.{Exactly}
use Rattle.vm_model.specs.Cancels.{id_in, present_in}
use Rattle.vm_model.specs.Histories.{IsAwaiting, arrivals_used}
use Rattle.vm_model.specs.Moves.{Point, after, arrival_used, command_used, found, moved, next, reads_as, uses_arrival, uses_command}
use Rattle.vm_model.proofs.Compared.{after_answers}
use Rattle.vm_model.proofs.Results.{newest_behind, results_behind}
use Rattle.vm_model.proofs.Runs.{and_then_some, none_some}
use Rattle.vm_model.proofs.Sums.{Given}

-- ---- a present result stays there while arrivals are used

-- one of two stays there where the first does
or_some : {A : Type 0} (a b c : Option A) → (is_some a ≡ true → is_some b ≡ true) → is_some (option_or a c) ≡ true → is_some (option_or b c) ≡ true
or_some None None c f h = h
or_some None (Some y) c f h = refl
or_some (Some x) None c f h = absurd (let z : false ≡ true = f refl in cc)
or_some (Some x) (Some y) c f h = refl

-- a list with one more item has a first one
some_first : {A : Type 0} (xs : List A) (x : A) → is_some (first (xs ++ x ∷ [])) ≡ true
some_first [] x = refl
some_first (y ∷ xs) x = refl

-- among the results of an id one stays, where there may be one more
some_behind : {A : Type 0} (listed same : Bool) (xs : List A) (x : A) → is_some (cond listed (first xs) (newest xs)) ≡ true → is_some (cond listed (first (cond same (xs ++ x ∷ []) xs)) (newest (cond same (xs ++ x ∷ []) xs))) ≡ true
some_behind true true xs x h = some_first xs x
some_behind false true xs x h = ap is_some (newest_behind None xs x)
some_behind listed false xs x h = h

-- an id keeps a present result among notifications, where one more comes
among_stays : (delivery : SignalDelivery) (id : NotificationId) (ns : List Notification) (n : Notification) → is_some (present_among delivery id ns) ≡ true → is_some (present_among delivery id (ns ++ n ∷ [])) ≡ true
among_stays delivery id ns n h =
    ap (λ l. is_some (cond (is_listed delivery id) (first l) (newest l))) (results_behind id ns n) ∙ some_behind (is_listed delivery id) (same_id n.id id) (results_of id ns) n.result h

-- and among all that is ready
for_stays : (delivery : SignalDelivery) (o : Option NotificationId) (n : Notification) (r : Ready) → is_some (present_result_for delivery o r) ≡ true → is_some (present_result_for delivery o (with_delivered n r)) ≡ true
for_stays delivery None n r h = h
for_stays delivery (Some id) n r h = or_some (present_among delivery id r.delivered) (present_among delivery id (r.delivered ++ n ∷ [])) (present_among delivery id r.eager) (among_stays delivery id r.delivered n) h

-- a handle keeps a present result
pub handle_stays : (s : Setup) (handle : ℕ) (ns : List Notification) (d : Derived) → is_some (present_in s handle d) ≡ true → is_some (present_in s handle (arrivals_used ns d)) ≡ true
handle_stays s handle [] d h = h
handle_stays s handle (n ∷ ns) d h = handle_stays s handle ns (arrival_used n d) (for_stays s.options.signal_delivery (id_at handle d.handles) n (ready_in s d) h)

-- both of two tests hold
pub both_parts : (a b : Bool) → (a && b) ≡ true → (a ≡ true) × (b ≡ true)
both_parts true b h = (refl, h)
both_parts false b h = absurd (cc)

-- the second of two tests gives way to another
both_map : (a b c : Bool) → (b ≡ true → c ≡ true) → (a && b) ≡ true → (a && c) ≡ true
both_map true b c f h = f h
both_map false b c f h = h

-- a cancelled handler stays so
pub cancelled_next : (s : Setup) (n : Notification) (d : Derived) → is_cancelled_in s d ≡ true → is_cancelled_in s (arrival_used n d) ≡ true
cancelled_next s n d h = both_map (ends_awaits s.options.implicit_cancellation) _ _ (for_stays s.options.signal_delivery (id_at 1 d.handles) n (ready_in s d)) h

-- it is so by its handles and what was used
pub cancelled_same : (s : Setup) (d e : Derived) → e.handles ≡ d.handles → e.usage ≡ d.usage → is_cancelled_in s d ≡ true → is_cancelled_in s e ≡ true
cancelled_same s d e handles usage h = ap (λ (z : Derived). is_cancelled_in s z) (λ i. record d { handles = handles i; usage = usage i }) ∙ h

-- ---- one move

-- what is needed where the cancel signal is sent to an invocation
abbrev pub cancel_demand : Setup → List ℕ → Demand
cancel_demand s id = Exactly (cancel_invocation_command id).message (ignores_payloads s.options.non_determinism_checks (cancel_invocation_command id).unstable)

-- a cancel command was used
pub record Sent (s : Setup) (id : List ℕ) (p r : Point) : Type 0 where
  pub used : RawMessage
  pub left : p.left ≡ used ∷ r.left
  pub stands : found (cancel_demand s id) used ≡ Ok None
  pub answers : r.answers ≡ p.answers
  pub said : r.said ≡ p.said ++ (cancel_invocation_command id).message ∷ []
  pub queue : r.queue ≡ p.queue
  pub usage : r.derived.usage ≡ p.derived.usage
  pub handles : r.derived.handles ≡ p.derived.handles
  pub tracked : r.derived.tracked ≡ without_first_call p.derived.tracked
  pub numbers : Given 0 0 0 p.derived r.derived

-- A move of the await: while a call's id isn't known, an arrival is used or the call's result is read; while calls are tracked, a
-- cancel command is used; then it is answered.
pub data CancelMove (s : Setup) (p r : Point) : Type 0 where
  Arrives : (handle : ℕ) (handles : List ℕ) (n : Notification) (queue : List Notification) → unresolved_handles p.derived.tracked ≡ handle ∷ handles → present_in s handle p.derived ≡ None → p.queue ≡ n ∷ queue → record p { derived = arrival_used n p.derived; queue = queue } ≡ r → CancelMove s p r
  Learns : (handle : ℕ) (handles id : List ℕ) → unresolved_handles p.derived.tracked ≡ handle ∷ handles → id_in s handle p.derived ≡ Some id → record p { derived = record p.derived { tracked = with_next_id id p.derived.tracked } } ≡ r → CancelMove s p r
  Sends : (id : List ℕ) (ids : List (List ℕ)) → unresolved_handles p.derived.tracked ≡ [] → invocation_ids p.derived.tracked ≡ id ∷ ids → Sent s id p r → CancelMove s p r
  Finishes : unresolved_handles p.derived.tracked ≡ [] → invocation_ids p.derived.tracked ≡ [] → record p { answers = p.answers ++ answer.Cancelled ∷ []; derived = with_cancel_taken (id_at 1 p.derived.handles) (record p.derived { tracked = [] }) } ≡ r → CancelMove s p r

-- a command that is needed exactly brings no result
reads_none : (ignore : Bool) (command : Message) (o : Option Message) (result : Option NotificationResult) → reads_as ignore command o ≡ Ok result → None ≡ result
reads_none ignore command None result e = absurd (cc)
reads_none ignore command (Some n) result e = by_test (header_equal n command ignore) e
  where
    by_test : (b : Bool) → (if b then Ok None else Err fault.CommandMismatch) ≡ Ok result → None ≡ result
    by_test true h = (cc)
    by_test false h = absurd (cc)

pub exactly_none : (command : Message) (ignore : Bool) (raw : RawMessage) (result : Option NotificationResult) → found (Exactly command ignore) raw ≡ Ok result → None ≡ result
exactly_none command ignore raw result e = by_test (type_number raw.ty == type_number (type_of command)) e
  where
    by_test : (b : Bool) → (if b then reads_as ignore command (message_in raw.ty raw.body) else Err fault.CommandTypeMismatch) ≡ Ok result → None ≡ result
    by_test true h = reads_none ignore command (message_in raw.ty raw.body) result h
    by_test false h = absurd (cc)

module _ (s : Setup) (m : Meaning) (p r : Point) where
  abbrev d : Derived
  d = p.derived

  -- the numbers and handles after a cancel command
  abbrev behind_command : Derived
  behind_command = record (counted 0 d) { tracked = without_first_call d.tracked }

  -- a recorded command that stands for the cancel command is used
  sends_command : (id : List ℕ) (c : RawMessage) (left : List RawMessage) (o : Result (Option NotificationResult) NamedFault) → found (cancel_demand s id) c ≡ o → p.left ≡ c ∷ left → command_used o (cancel_demand s id) [] behind_command left p ≡ Some r → Sent s id p r
  sends_command id c left (Err name) is at moves = none_some moves
  sends_command id c left (Ok result) is at moves =
      let none = exactly_none (cancel_invocation_command id).message (ignores_payloads s.options.non_determinism_checks (cancel_invocation_command id).unstable) c result is in
      let now = same_Some _ r (subst (λ o. command_used (Ok o) (cancel_demand s id) [] behind_command left p ≡ Some r) (sym none) moves) in
      record {
        used = c;
        left = at ∙ ap (λ z. c ∷ z.left) now;
        stands = is ∙ ap Ok (sym none);
        answers = ap (λ z. z.answers) (sym now) ∙ append-nil p.answers;
        said = ap (λ z. z.said) (sym now);
        queue = ap (λ z. z.queue) (sym now);
        usage = ap (λ z. z.derived.usage) (sym now);
        handles = ap (λ z. z.derived.handles) (sym now) ∙ append-nil d.handles;
        tracked = ap (λ z. z.derived.tracked) (sym now);
        numbers = subst (λ z. Given 0 0 0 d z.derived) now (record { completion = refl; signal = sym (add-zero d.counters.signal); handle = refl });
      }

  -- the next recorded command is used
  sends_next : (id : List ℕ) (left : List RawMessage) → p.left ≡ left → uses_command (cancel_demand s id) [] behind_command left p ≡ Some r → Sent s id p r
  sends_next id [] at moves = none_some moves
  sends_next id (c ∷ left) at moves = sends_command id c left (found (cancel_demand s id) c) refl at moves

  -- unless no command index is left
  pub sends_unless : (id : List ℕ) (o : Option NamedFault) → moved (cancel_sent s id o d) p ≡ Some r → Sent s id p r
  sends_unless id (Some name) moves = none_some moves
  sends_unless id None moves = sends_next id p.left refl moves

  -- where all ids are known
  cancels_next : (ids : List (List ℕ)) → unresolved_handles d.tracked ≡ [] → invocation_ids d.tracked ≡ ids → moved (cancelling s ids d) p ≡ Some r → CancelMove s p r
  cancels_next [] known is moves = Finishes known is (same_Some _ r moves)
  cancels_next (id ∷ ids) known is moves = Sends id ids known is (sends_unless id (missing_number 0 0 0 d.counters) moves)

  module _ (handle : ℕ) (handles : List ℕ) (first : unresolved_handles d.tracked ≡ handle ∷ handles) where
    -- a present result is read
    learns_next : (result : NotificationResult) (o : Option (List ℕ)) → present_in s handle d ≡ Some result → id_of_result result ≡ o → moved (id_read o d) p ≡ Some r → CancelMove s p r
    learns_next result None there is moves = none_some moves
    learns_next result (Some id) there is moves = Learns handle handles id first (ap (option_and_then id_of_result) there ∙ is) ((λ i. record p { answers = sym (append-nil p.answers) i; derived = record d { tracked = with_next_id id d.tracked } }) ∙ same_Some _ r moves)

    -- else the next arrival is used
    arrives_next : (queue : List Notification) → present_in s handle d ≡ None → p.queue ≡ queue → uses_arrival queue p ≡ Some r → CancelMove s p r
    arrives_next [] none at moves = none_some moves
    arrives_next (n ∷ queue) none at moves = Arrives handle handles n queue first none at (same_Some _ r moves)

    -- by what is present
    awaits_id : (o : Option NotificationResult) → present_in s handle d ≡ o → moved (id_awaited o d) p ≡ Some r → CancelMove s p r
    awaits_id None is moves = arrives_next p.queue is refl moves
    awaits_id (Some result) is moves = learns_next result (id_of_result result) is refl moves

  -- by the handles whose calls' ids aren't known
  cancelled_move : (handles : List ℕ) → unresolved_handles d.tracked ≡ handles → moved (cancelled s handles d) p ≡ Some r → CancelMove s p r
  cancelled_move [] is moves = cancels_next (invocation_ids d.tracked) is refl moves
  cancelled_move (handle ∷ handles) is moves = awaits_id handle handles is (present_in s handle d) refl moves

  -- each move of the await is one of these
  pub cancel_move : (future : UnresolvedFuture) → IsAwaiting m p future → is_cancelled_in s d ≡ true → next s m p ≡ Some r → CancelMove s p r
  cancel_move future at cancelled moves = cancelled_move (unresolved_handles d.tracked) refl (sym (ap (λ b. moved (awaited s b future d) p) cancelled) ∙ sym (ap (λ st. moved (call_of s st d) p) at) ∙ moves)

-- ---- several moves

-- no list is longer than itself
pub longer_list : {A : Type 0} (xs : List A) (y : A) (ys : List A) → xs ≡ xs ++ y ∷ ys → ⊥
longer_list [] y ys e = absurd (cc)
longer_list (x ∷ xs) y ys e = longer_list xs y ys (cc)

-- two equal lists have the same item after the same beginning
pub same_item : {A : Type 0} (xs : List A) (a b : A) (ys zs : List A) → xs ++ a ∷ ys ≡ xs ++ b ∷ zs → a ≡ b
same_item [] a b ys zs e = (cc)
same_item (x ∷ xs) a b ys zs e = same_item xs a b ys zs (cc)

-- where the await isn't answered its handler stays cancelled
pub cancelled_stays : (s : Setup) (m : Meaning) (future : UnresolvedFuture) (k : ℕ) (p q : Point) → IsAwaiting m p future → is_cancelled_in s p.derived ≡ true → after s m k p ≡ Some q → q.answers ≡ p.answers → is_cancelled_in s q.derived ≡ true
cancelled_stays s m future zero p q at c h same = ap (λ z. is_cancelled_in s z.derived) (sym (same_Some p q h)) ∙ c
cancelled_stays s m future (suc k) p q at c h same =
    let x = and_then_some (next s m p) (after s m k) q h in
    by_move x.0 x.2 (cancel_move s m p x.0 future at c x.1) (λ here there. cancelled_stays s m future k x.0 q (ap m here ∙ at) there x.2 (same ∙ sym here))
  where
    by_move : (r : Point) → after s m k r ≡ Some q → CancelMove s p r → (r.answers ≡ p.answers → is_cancelled_in s r.derived ≡ true → is_cancelled_in s q.derived ≡ true) → is_cancelled_in s q.derived ≡ true
    by_move r on (Arrives handle handles n queue first none is now) ih = ih (ap (λ z. z.answers) (sym now)) (ap (λ z. is_cancelled_in s z.derived) (sym now) ∙ cancelled_next s n p.derived c)
    by_move r on (Learns handle handles id first is now) ih = ih (ap (λ z. z.answers) (sym now)) (ap (λ z. is_cancelled_in s z.derived) (sym now) ∙ c)
    by_move r on (Sends id ids known is sent) ih = ih sent.answers (cancelled_same s p.derived r.derived sent.handles sent.usage c)
    by_move r on (Finishes known is now) ih =
        let more = after_answers s m k r q on in
        absurd (longer_list p.answers answer.Cancelled more.0 (sym same ∙ more.1 ∙ ap (λ z. z.answers ++ more.0) (sym now) ∙ append_assoc p.answers (answer.Cancelled ∷ []) more.0))
