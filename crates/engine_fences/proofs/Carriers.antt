-- Which command carries an id, and by what it is completed: by what becomes of what waits, or by a proposal.
use Rattle.std.proofs.Common.{◌≡◌, ◌⊎◌, inl, inr, ℕ, Bool, true, false, List, [], ◌∷◌, Option, Some, None, refl, sym, ap, ◌∙◌, subst, arith}
use Rattle.std.specs.Prelude.{◌==◌, ◌||◌, if◌then◌else◌, is_some, nat_le}
use Rattle.std.proofs.lemmas.Bool.Decides.{nat_tests}
use Rattle.journal_protocol.specs.Message.{Message}
use Rattle.journal_protocol.specs.Message.TheVariants as message
use Rattle.journal_protocol.specs.Notification.{Notification}
use Rattle.journal_protocol.specs.NotificationId.TheVariants.{CompletionId}
use Rattle.journal_protocol.specs.NotificationResult.{NotificationResult}
use Rattle.journal_protocol.specs.NotificationResult.TheVariants as result
use Rattle.journal_protocol.specs.Signal.{Signal}
use Rattle.journal_protocol.specs.Signal.TheVariants as signal
use Rattle.journal_protocol.specs.ValueOrFailure.{ValueOrFailure}
use Rattle.journal_protocol.specs.RunCommand.{RunCommand}
use Rattle.journal_entries.specs.Arrivals.{completes_among, completes_by, if_same}
use Rattle.vm_asks.specs.Carried.{carried}
use Rattle.journal_entries.specs.declared.completions.Completes.{Completes}
use Rattle.journal_entries.specs.declared.completions.Completes.TheVariants as completes
use Rattle.journal_entries.specs.Entries.{said_at, said_in}
use Rattle.journal_entries.specs.Journal.{read_before}
use Rattle.vm_model.specs.Carried.{is_id_among}
use Rattle.world_rounds.proofs.Once.{completes_not}
use Rattle.world_rounds.specs.Outside.{IsRunIn}
use Rattle.journal_store.specs.Awakeables.{awakeable_named}
use Rattle.journal_store.specs.Effects.{awoken, completing_result, effect_of, timer_of}
use Rattle.engine_inboxes.specs.declared.types.Brought.{Brought}
use Rattle.engine_inboxes.specs.declared.types.Brought.TheVariants as brought
use Rattle.engine_inboxes.specs.declared.types.Waiting.{Waiting}
use Rattle.engine_inboxes.specs.declared.types.Waiting.TheVariants as waiting
use Rattle.engine_inboxes.specs.Deliverable.{effect_at, effect_said, waited_by, waits_for_id}
use Rattle.engine_inboxes.specs.Notes.{completion, note_by, signal_id}
use Rattle.engine_inboxes.proofs.Coming.{none_some, same_id, some_same}
use Rattle.engines.specs.Between.{IsOneOf, waited_in}
use Rattle.engines.proofs.Among.{among_either, among_left, among_right}
use Rattle.engine_fences.specs.Completions.{BringsId, BringsResult, IsCompletionOf, IsOfOwnCommand, IsOwnCompletionOf}

same_test : (a b : ℕ) → b ≡ a → (a == b) ≡ true
same_test a b e = grind (arith, nat_tests)

-- ---- what stored commands wait for

-- a stored command waits for it
abbrev IsWaitedBy : Waiting → List Message → Type 0
IsWaitedBy w ms = (m : Message) × IsOneOf m ms × IsOneOf w (waited_by (effect_of m))

pub waited_command : (journal : List (List ℕ)) (w : Waiting) → IsOneOf w (waited_in journal) → IsWaitedBy w (said_in journal)
waited_command [] w h = absurd h
waited_command (x ∷ xs) w h = of (said_at x) (among_either (waited_by (effect_at x)) (waited_in xs) w h) (λ k. waited_command xs w k)
  where
    of : (o : Option Message) → IsOneOf w (waited_by (effect_said o)) ⊎ IsOneOf w (waited_in xs) → (IsOneOf w (waited_in xs) → IsWaitedBy w (said_in xs)) → IsWaitedBy w (read_before o (said_in xs))
    of None (inl a) more = absurd a
    of None (inr a) more = more a
    of (Some m) (inl a) more = (m, inl refl, a)
    of (Some m) (inr a) more = let (c, among, waits) = more a in (c, inr among, waits)

pub command_waited : (journal : List (List ℕ)) (m : Message) (w : Waiting) → IsOneOf m (said_in journal) → IsOneOf w (waited_by (effect_of m)) → IsOneOf w (waited_in journal)
command_waited [] m w h waits = absurd h
command_waited (x ∷ xs) m w h waits = of (said_at x) refl h (λ k. command_waited xs m w k waits)
  where
    of : (o : Option Message) → said_at x ≡ o → IsOneOf m (read_before o (said_in xs)) → (IsOneOf m (said_in xs) → IsOneOf w (waited_in xs)) → IsOneOf w (waited_in (x ∷ xs))
    of None said k more = among_right (waited_by (effect_at x)) (waited_in xs) w (more k)
    of (Some c) said (inl e) more = among_left (waited_by (effect_at x)) (waited_in xs) w (subst (λ o. IsOneOf w (waited_by (effect_said o))) (sym said) (subst (λ z. IsOneOf w (waited_by (effect_of z))) e waits))
    of (Some c) said (inr k) more = among_right (waited_by (effect_at x)) (waited_in xs) w (more k)

-- ---- the command that carries an id

listed_id : (id : ℕ) (ids : List ℕ) → is_id_among id ids ≡ true → IsOneOf id ids
listed_id id [] h = absurd (let x : false ≡ true = h in cc)
listed_id id (own ∷ ids) h = of (own == id) refl h (λ k. listed_id id ids k)
  where
    of : (b : Bool) → (own == id) ≡ b → (b || is_id_among id ids) ≡ true → (is_id_among id ids ≡ true → IsOneOf id ids) → IsOneOf id (own ∷ ids)
    of true e k more = inl (sym (same_id own id e))
    of false e k more = inr (more k)

-- a command carries each id of whose completion it says something
carries_by : (id : ℕ) (m : Message) (before : Option Completes) → is_some (completes_by id m before) ≡ true → IsOneOf id (carried m) ⊎ (is_some before ≡ true)
carries_by id m before h = of (is_id_among id (carried m)) refl
  where
    of : (b : Bool) → is_id_among id (carried m) ≡ b → IsOneOf id (carried m) ⊎ (is_some before ≡ true)
    of true e = inl (listed_id id (carried m) e)
    of false e = inr (sym (ap is_some (completes_not id m before e)) ∙ h)

-- a command of these carries it
abbrev IsCarriedAmong : ℕ → List Message → Type 0
IsCarriedAmong id ms = (m : Message) × IsOneOf m ms × IsOneOf id (carried m)

carried_among : (id : ℕ) (ms : List Message) (before : Option Completes) → is_some (completes_among id ms before) ≡ true → IsCarriedAmong id ms ⊎ (is_some before ≡ true)
carried_among id [] before h = inr h
carried_among id (m ∷ ms) before h = of (carried_among id ms (completes_by id m before) h)
  where
    here : IsOneOf id (carried m) ⊎ (is_some before ≡ true) → IsCarriedAmong id (m ∷ ms) ⊎ (is_some before ≡ true)
    here (inl own) = inl (m, inl refl, own)
    here (inr k) = inr k

    of : IsCarriedAmong id ms ⊎ (is_some (completes_by id m before) ≡ true) → IsCarriedAmong id (m ∷ ms) ⊎ (is_some before ≡ true)
    of (inl (c, among, own)) = inl (c, inr among, own)
    of (inr k) = here (carries_by id m before k)

pub carrier : (id : ℕ) (ms : List Message) → is_some (completes_among id ms None) ≡ true → IsCarriedAmong id ms
carrier id ms h = of None refl (carried_among id ms None h)
  where
    of : (before : Option Completes) → before ≡ None → IsCarriedAmong id ms ⊎ (is_some before ≡ true) → IsCarriedAmong id ms
    of before none (inl c) = c
    of before none (inr k) = absurd (let x : false ≡ true = sym (ap is_some none) ∙ k in cc)

-- ---- the run that carries an id

-- it is a run's command, which carries the id
abbrev IsRunOf : ℕ → Message → Type 0
IsRunOf id m = (c : RunCommand) × (m ≡ message.Run c) × (id ≡ c.result_completion_id)

any_not : completes.AnyResult ≡ completes.Proposal → ⊥
any_not e = cc

id_not : completes.InvocationId ≡ completes.Proposal → ⊥
id_not e = cc

-- an id that something else completes is a run's only if it was before
other_kind : (b : Bool) (kind : Completes) (before : Option Completes) → (kind ≡ completes.Proposal → ⊥) → if_same b kind before ≡ Some completes.Proposal → before ≡ Some completes.Proposal
other_kind false kind before not h = h
other_kind true kind before not h = absurd (not (some_same kind completes.Proposal h))

run_by : (id : ℕ) (m : Message) (before : Option Completes) → completes_by id m before ≡ Some completes.Proposal → IsRunOf id m ⊎ (before ≡ Some completes.Proposal)
run_by id (message.Sleep c) before h = inr (other_kind (c.result_completion_id == id) completes.AnyResult before any_not h)
run_by id (message.GetLazyState c) before h = inr (other_kind (c.result_completion_id == id) completes.AnyResult before any_not h)
run_by id (message.GetLazyStateKeys c) before h = inr (other_kind (c.result_completion_id == id) completes.AnyResult before any_not h)
run_by id (message.GetPromise c) before h = inr (other_kind (c.result_completion_id == id) completes.AnyResult before any_not h)
run_by id (message.PeekPromise c) before h = inr (other_kind (c.result_completion_id == id) completes.AnyResult before any_not h)
run_by id (message.CompletePromise c) before h = inr (other_kind (c.result_completion_id == id) completes.AnyResult before any_not h)
run_by id (message.AttachInvocation c) before h = inr (other_kind (c.result_completion_id == id) completes.AnyResult before any_not h)
run_by id (message.GetInvocationOutput c) before h = inr (other_kind (c.result_completion_id == id) completes.AnyResult before any_not h)
run_by id (message.Call c) before h =
    inr (other_kind (c.request.invocation_id_notification_idx == id) completes.InvocationId before id_not
    (other_kind (c.result_completion_id == id) completes.AnyResult (if_same (c.request.invocation_id_notification_idx == id) completes.InvocationId before) any_not h))
run_by id (message.OneWayCall c) before h = inr (other_kind (c.request.invocation_id_notification_idx == id) completes.InvocationId before id_not h)
run_by id (message.Run c) before h = of (c.result_completion_id == id) refl h
  where
    of : (b : Bool) → (c.result_completion_id == id) ≡ b → if_same b completes.Proposal before ≡ Some completes.Proposal → IsRunOf id (message.Run c) ⊎ (before ≡ Some completes.Proposal)
    of true e k = inl (c, refl, sym (same_id c.result_completion_id id e))
    of false e k = inr k
run_by id m before h = inr h

-- a run of these commands carries it
abbrev IsOfRunAmong : ℕ → List Message → Type 0
IsOfRunAmong id ms = (c : RunCommand) × IsOneOf (message.Run c) ms × (id ≡ c.result_completion_id)

run_among : (id : ℕ) (ms : List Message) (before : Option Completes) → completes_among id ms before ≡ Some completes.Proposal → IsOfRunAmong id ms ⊎ (before ≡ Some completes.Proposal)
run_among id [] before h = inr h
run_among id (m ∷ ms) before h = of (run_among id ms (completes_by id m before) h)
  where
    here : IsRunOf id m ⊎ (before ≡ Some completes.Proposal) → IsOfRunAmong id (m ∷ ms) ⊎ (before ≡ Some completes.Proposal)
    here (inl (c, is, own)) = inl (c, inl (sym is), own)
    here (inr k) = inr k

    of : IsOfRunAmong id ms ⊎ (completes_by id m before ≡ Some completes.Proposal) → IsOfRunAmong id (m ∷ ms) ⊎ (before ≡ Some completes.Proposal)
    of (inl (c, among, own)) = inl (c, inr among, own)
    of (inr k) = here (run_by id m before k)

run_of : (id : ℕ) (ms : List Message) → completes_among id ms None ≡ Some completes.Proposal → IsOfRunAmong id ms
run_of id ms h = of None refl (run_among id ms None h)
  where
    of : (before : Option Completes) → before ≡ None → IsOfRunAmong id ms ⊎ (before ≡ Some completes.Proposal) → IsOfRunAmong id ms
    of before none (inl c) = c
    of before none (inr k) = absurd (none_some completes.Proposal (sym none ∙ k))

-- ---- what waits becomes a completion of its command

-- how it completes an id
abbrev pub CompletesBy : Waiting → ℕ → NotificationResult → Type 0
CompletesBy (waiting.Id own) id r = (id ≡ own) × BringsId r
CompletesBy (waiting.Outcome own call) id r = (id ≡ own) × BringsResult r
CompletesBy (waiting.Clock timer) id r = (id ≡ timer.completes) × (r ≡ result.Void)
CompletesBy (waiting.Signal s brings) id r = ⊥

own_id : (own : ℕ) (r : NotificationResult) (n : Notification) (id : ℕ) → completion own r ≡ n → n.id ≡ CompletionId id → id ≡ own
own_id own r n id same is = let e : CompletionId own ≡ CompletionId id = ap (λ (x : Notification). x.id) same ∙ is in cc

own_result : (own : ℕ) (r : NotificationResult) (n : Notification) → completion own r ≡ n → n.result ≡ r
own_result own r n same = ap (λ (x : Notification). x.result) (sym same)

no_signal : (s : Signal) (id : ℕ) → signal_id s ≡ CompletionId id → ⊥
no_signal (signal.Index index) id e = cc
no_signal (signal.Name name) id e = cc

pub completes_so : (w : Waiting) (b : Brought) (n : Notification) (id : ℕ) → note_by w b ≡ Some n → n.id ≡ CompletionId id → CompletesBy w id n.result
completes_so (waiting.Id own) (brought.Id text) n id e is = (own_id own (result.InvocationId text) n id (some_same _ n e) is, (text, own_result own (result.InvocationId text) n (some_same _ n e)))
completes_so (waiting.Id own) (brought.Outcome ends) n id e is = absurd (none_some n e)
completes_so (waiting.Id own) (brought.Time now) n id e is = absurd (none_some n e)
completes_so (waiting.Outcome own call) (brought.Id text) n id e is = absurd (none_some n e)
completes_so (waiting.Outcome own call) (brought.Outcome ends) n id e is = (own_id own (completing_result ends) n id (some_same _ n e) is, (ends, own_result own (completing_result ends) n (some_same _ n e)))
completes_so (waiting.Outcome own call) (brought.Time now) n id e is = absurd (none_some n e)
completes_so (waiting.Clock timer) (brought.Id text) n id e is = absurd (none_some n e)
completes_so (waiting.Clock timer) (brought.Outcome ends) n id e is = absurd (none_some n e)
completes_so (waiting.Clock timer) (brought.Time now) n id e is = by (nat_le timer.due now) e
  where
    by : (z : Bool) → (if z then Some (completion timer.completes result.Void) else None) ≡ Some n → (id ≡ timer.completes) × (n.result ≡ result.Void)
    by true g = (own_id timer.completes result.Void n id (some_same _ n g) is, own_result timer.completes result.Void n (some_same _ n g))
    by false g = absurd (none_some n g)
completes_so (waiting.Signal s brings) (brought.Id text) n id e is = absurd (none_some n e)
completes_so (waiting.Signal s brings) (brought.Outcome ends) n id e is = absurd (none_some n e)
completes_so (waiting.Signal s brings) (brought.Time now) n id e is = no_signal s id (ap (λ (x : Notification). x.id) (some_same _ n e) ∙ is)

-- it waits for the id that it completes
pub waits_so : (w : Waiting) (id : ℕ) (r : NotificationResult) → CompletesBy w id r → waits_for_id id w ≡ true
waits_so (waiting.Id own) id r h = same_test own id h.0
waits_so (waiting.Outcome own call) id r h = same_test own id h.0
waits_so (waiting.Clock timer) id r h = same_test timer.completes id h.0
waits_so (waiting.Signal s brings) id r h = absurd h

awoken_none : (o : Option (List ℕ × ℕ)) (ends : ValueOrFailure) (w : Waiting) → IsOneOf w (waited_by (awoken o ends)) → ⊥
awoken_none None ends w a = a
awoken_none (Some p) ends w a = a

-- what a command waits for completes its ids
pub delivered_kind : (m : Message) (w : Waiting) (id : ℕ) (r : NotificationResult) → IsOneOf w (waited_by (effect_of m)) → CompletesBy w id r → IsCompletionOf m id r
delivered_kind (message.Sleep c) w id r a h = of a
  where
    of : IsOneOf w (waiting.Clock (timer_of c) ∷ []) → IsCompletionOf (message.Sleep c) id r
    of (inl e) = subst (λ v. CompletesBy v id r) e h
    of (inr none) = absurd none
delivered_kind (message.Call c) w id r a h = of a
  where
    of : IsOneOf w (waiting.Id c.request.invocation_id_notification_idx ∷ waiting.Outcome c.result_completion_id c.request.invocation_id_notification_idx ∷ []) → IsCompletionOf (message.Call c) id r
    of (inl e) = inl (subst (λ v. CompletesBy v id r) e h)
    of (inr (inl e)) = inr (subst (λ v. CompletesBy v id r) e h)
    of (inr (inr none)) = absurd none
delivered_kind (message.OneWayCall c) w id r a h = of a
  where
    of : IsOneOf w (waiting.Id c.request.invocation_id_notification_idx ∷ []) → IsCompletionOf (message.OneWayCall c) id r
    of (inl e) = subst (λ v. CompletesBy v id r) e h
    of (inr none) = absurd none
delivered_kind (message.CompleteAwakeable c) w id r a h = absurd (awoken_none (awakeable_named c.awakeable_id) c.result w a)
delivered_kind m w id r a h = absurd a

-- and of a call, a one-way call or a sleep: no other command waits
pub delivered_own : (m : Message) (w : Waiting) (id : ℕ) (r : NotificationResult) → IsOneOf w (waited_by (effect_of m)) → CompletesBy w id r → IsOwnCompletionOf m id r
delivered_own (message.Sleep c) w id r a h = delivered_kind (message.Sleep c) w id r a h
delivered_own (message.Call c) w id r a h = delivered_kind (message.Call c) w id r a h
delivered_own (message.OneWayCall c) w id r a h = delivered_kind (message.OneWayCall c) w id r a h
delivered_own (message.CompleteAwakeable c) w id r a h = absurd (awoken_none (awakeable_named c.awakeable_id) c.result w a)
delivered_own m w id r a h = absurd a

-- ---- a proposal

-- a run's result completes its id
pub proposed_own : (journal : List (List ℕ)) (id : ℕ) (r : NotificationResult) → IsRunIn id journal → BringsResult r → IsOfOwnCommand journal id r
proposed_own journal id r run brings =
    let (c, among, own) = run_of id (said_in journal) run in
    record { command = message.Run c; stored = among; completes = (own, brings) }

-- an attempt's result completes an id of a command that waits for nothing by it
pub proposed_kind : (m : Message) (id : ℕ) (r : NotificationResult) → IsOneOf id (carried m) → BringsResult r → ((w : Waiting) → IsOneOf w (waited_by (effect_of m)) → waits_for_id id w ≡ true → ⊥) → IsCompletionOf m id r
proposed_kind (message.Sleep c) id r own brings none = of own
  where
    of : IsOneOf id (c.result_completion_id ∷ []) → IsCompletionOf (message.Sleep c) id r
    of (inl e) = absurd (none (waiting.Clock (timer_of c)) (inl refl) (same_test c.result_completion_id id e))
    of (inr k) = absurd k
proposed_kind (message.Call c) id r own brings none = of own
  where
    of : IsOneOf id (c.request.invocation_id_notification_idx ∷ c.result_completion_id ∷ []) → IsCompletionOf (message.Call c) id r
    of (inl e) = absurd (none (waiting.Id c.request.invocation_id_notification_idx) (inl refl) (same_test c.request.invocation_id_notification_idx id e))
    of (inr (inl e)) = absurd (none (waiting.Outcome c.result_completion_id c.request.invocation_id_notification_idx) (inr (inl refl)) (same_test c.result_completion_id id e))
    of (inr (inr k)) = absurd k
proposed_kind (message.OneWayCall c) id r own brings none = of own
  where
    of : IsOneOf id (c.request.invocation_id_notification_idx ∷ []) → IsCompletionOf (message.OneWayCall c) id r
    of (inl e) = absurd (none (waiting.Id c.request.invocation_id_notification_idx) (inl refl) (same_test c.request.invocation_id_notification_idx id e))
    of (inr k) = absurd k
proposed_kind m id r own brings none = (own, brings)
