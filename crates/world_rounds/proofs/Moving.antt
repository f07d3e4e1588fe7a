-- The moves of an execution as those of a run in which nothing is recorded, and the other way round.
use Rattle.std.proofs.Common.{◌≡◌, ◌⊎◌, ℕ, zero, suc, Bool, true, false, List, [], ◌∷◌, ◌++◌, Option, Some, None, refl, sym, ap, ◌∙◌, subst, inl, inr, ⊎_elim}
use Rattle.std.specs.Prelude.{◌==◌, if◌then◌else◌, Result, Ok, Err}
use Rattle.std.specs.List.Sorted.{IsStrictlySortedBy}
use Rattle.std.proofs.lemmas.Bool.{eq-eqb}
use Rattle.std.proofs.lemmas.Option.{same_Some}
use Rattle.journal_protocol.specs.NamedFault.{NamedFault}
use Rattle.journal_protocol.specs.NamedFault.TheVariants as fault
use Rattle.journal_protocol.specs.Message.{Message}
use Rattle.journal_protocol.specs.Message.TheVariants as message
use Rattle.journal_protocol.specs.RawMessage.{RawMessage}
use Rattle.journal_protocol.specs.Notification.{Notification}
use Rattle.journal_protocol.specs.NotificationResult.{NotificationResult}
use Rattle.journal_protocol.specs.VoidOrValue.{VoidOrValue}
use Rattle.journal_protocol.specs.VoidOrValue.TheVariants as stands
use Rattle.journal_protocol.specs.Bodies.{message_in}
use Rattle.journal_protocol.specs.Equality.{header_equal}
use Rattle.journal_protocol.specs.Frames.{body, type_of}
use Rattle.journal_protocol.specs.Types.{type_number}
use Rattle.journal_entries.specs.Journal.{stored_form}
use Rattle.vm_state.specs.declared.state_map.Known.{Known}
use Rattle.vm_state.specs.declared.state_map.Known.TheVariants.{Unknown, Empty, Value}
use Rattle.vm_state.specs.declared.state_map.StateCoverage.TheVariants.{Partial}
use Rattle.vm_state.specs.declared.state_map.StateMap.{StateMap}
use Rattle.vm_state.specs.Entries.{IsInOrder}
use Rattle.vm_state.specs.States.{known_keys, value_known}
use Rattle.vm_types.specs.declared.steps.Answer.{Answer}
use Rattle.vm_asks.specs.declared.state_read.StateRead.{StateRead}
use Rattle.vm_asks.specs.declared.state_read.StateRead.TheVariants as read_of
use Rattle.vm_asks.specs.Requests.{changed}
use Rattle.vm_asks.specs.StateReads.{eager_form, keys_form, lazy_form, own_form, read_by, result_in, value_form}
use Rattle.vm_model.specs.Calls.{Derived, Meaning, Move, Setup, call_of}
use Rattle.vm_model.specs.Calls.Demand.{Exactly, Reads}
use Rattle.vm_model.specs.Calls.Move.{Answers, Awaits, Ends, Needs, Refuses}
use Rattle.vm_model.specs.Histories.{Honest, IsTrueOf, Made}
use Rattle.vm_model.specs.Moves.{Point, arrival_used, changed_by, command_used, found, longer, move_at, moved, reads_as, supply, uses_arrival, with_read_result}
use Rattle.vm_model.proofs.Runs.{none_some}
use Rattle.vm_model.proofs.States.{changed_by-append, many_in_order}
use Rattle.vm_model.proofs.Stored.{read_says, unread}
use Rattle.world_rounds.specs.Executions.{GetsAnswer, IsStoredAs, Stage, UsesNext}

-- ---- the moves

-- A move leads from one stage to another and makes these commands.
abbrev pub MoveLeads : Move → Stage → List RawMessage → Stage → Type 0
MoveLeads (Answers gives d) p made q = GetsAnswer gives d p made q
MoveLeads (Needs (Exactly own ignore) gives d) p made q = (read : Message) × IsStoredAs own ignore made read × (q ≡ record p { answers = p.answers ++ gives; derived = d; state = changed own p.state })
MoveLeads (Needs (Reads r id) gives d) p made q =
    (own : Message) × (read : Message) × (result : Option NotificationResult) × ((own ≡ lazy_form r id) ⊎ (own ≡ own_form r id p.state)) × IsStoredAs own true made read × (result_in read ≡ Ok result) × (q ≡ record p { answers = p.answers ++ gives; derived = with_read_result p.derived.counters.completion result d })
MoveLeads Awaits p made q = UsesNext p made q
MoveLeads Ends p made q = ⊥
MoveLeads (Refuses name) p made q = ⊥

-- a number of them
abbrev pub TableLeads : Setup → Meaning → ℕ → Stage → List RawMessage → Stage → Type 0
TableLeads s m zero p made q = (made ≡ []) × (p ≡ q)
TableLeads s m (suc n) p made q =
    (first : List RawMessage) × (r : Stage) × (rest : List RawMessage) × (made ≡ first ++ rest)
    × MoveLeads (call_of s (m p.answers) p.derived) p first r × TableLeads s m n r rest q

abbrev pub stage : List Answer → Derived → StateMap → List Notification → Stage
stage answers derived state queue = record { answers = answers; derived = derived; state = state; queue = queue }

-- the stage of a point
abbrev pub stage_of : StateMap → Point → Stage
stage_of base p = stage p.answers p.derived (changed_by p.said base) p.queue

-- a point with no recorded command
abbrev pub bare : List Answer → Derived → List Message → List Notification → Point
bare answers derived said queue = record { answers = answers; derived = derived; said = said; queue = queue; left = [] }

-- ---- what is read of a stored command

none_brought : (own : Message) (ignore b : Bool) (o : Option Message) (result : Option NotificationResult) → (if b then reads_as ignore own o else Err fault.CommandTypeMismatch) ≡ Ok result → result ≡ None
none_brought own ignore false o result e = absurd (cc)
none_brought own ignore true None result e = absurd (cc)
none_brought own ignore true (Some n) result e = by_test (header_equal n own ignore) e
  where
    by_test : (t : Bool) → (if t then Ok None else Err fault.CommandMismatch) ≡ Ok result → result ≡ None
    by_test true e = cc
    by_test false e = absurd (cc)

stands_so : (own : Message) (ignore : Bool) (read : Message) → message_in (type_of own) (body own) ≡ Some read → header_equal read own ignore ≡ true → found (Exactly own ignore) (stored_form own) ≡ Ok None
stands_so own ignore read reads same =
    ap (λ b. if b then reads_as ignore own (message_in (type_of own) (body own)) else Err fault.CommandTypeMismatch) (eq-eqb (type_number (type_of own)) (type_number (type_of own)) refl)
    ∙ ap (reads_as ignore own) reads
    ∙ ap (λ b. if b then Ok None else Err fault.CommandMismatch) same

form_read : (form : Message) (o : Option Message) (result : Option NotificationResult) → read_by form o ≡ Ok result → (n : Message) × (o ≡ Some n) × (header_equal n form true ≡ true) × (result_in n ≡ Ok result)
form_read form None result e = absurd (cc)
form_read form (Some n) result e =
    let x = by_test (header_equal n form true) e in
    (n, refl, x.0, x.1)
  where
    by_test : (t : Bool) → (if t then result_in n else Err fault.CommandMismatch) ≡ Ok result → (t ≡ true) × (result_in n ≡ Ok result)
    by_test true e = (refl, e)
    by_test false e = absurd (cc)

read_in : (form : Message) (o : Option Message) (n : Message) (result : Option NotificationResult) → o ≡ Some n → header_equal n form true ≡ true → result_in n ≡ Ok result → read_by form o ≡ Ok result
read_in form o n result is same brings = ap (read_by form) is ∙ ap (λ b. if b then result_in n else Err fault.CommandMismatch) same ∙ brings

-- a read's result isn't compared
value_same : (key name : List ℕ) (x y : Option VoidOrValue) (n : Message) → header_equal n (message.GetEagerState (record { name = name; key = key; result = x })) true ≡ true → header_equal n (message.GetEagerState (record { name = name; key = key; result = y })) true ≡ true
unfolding header_equal
value_same key name x y (message.GetEagerState c) h = h
value_same key name x y n h = h

keys_same : (name : List ℕ) (x y : Option (List (List ℕ))) (n : Message) → header_equal n (message.GetEagerStateKeys (record { value = x; name = name })) true ≡ true → header_equal n (message.GetEagerStateKeys (record { value = y; name = name })) true ≡ true
unfolding header_equal
keys_same name x y (message.GetEagerStateKeys c) h = h
keys_same name x y n h = h

-- ---- a state read, from what is known of the state

-- its own command is the lazy form or has what the state has, and brings this result
abbrev ReadMakes : StateRead → ℕ → StateMap → Message → Option NotificationResult → Type 0
ReadMakes r id now own result = (read : Message) × ((own ≡ lazy_form r id) ⊎ (own ≡ own_form r id now)) × IsStoredAs own true (stored_form own ∷ []) read × (result_in read ≡ Ok result)

value_makes : (key name : List ℕ) (id : ℕ) (now : StateMap) (k : Known) (result : Option NotificationResult) → (k ≡ Unknown) ⊎ (k ≡ value_known key now) → found (Reads (read_of.Value key name) id) (stored_form (value_form key name id k)) ≡ Ok result → ReadMakes (read_of.Value key name) id now (value_form key name id k) result
value_makes key name id now Unknown result so f =
    let own = value_form key name id Unknown in
    let x = form_read own (message_in (type_of own) (body own)) result f in
    (x.0, inl refl, (refl, x.1, x.2), x.3)
value_makes key name id now Empty result so f =
    let own = value_form key name id Empty in
    let x = form_read (eager_form (read_of.Value key name)) (message_in (type_of own) (body own)) result f in
    let is : Empty ≡ value_known key now = ⊎_elim (λ (u : Empty ≡ Unknown). absurd (cc)) (λ (u : Empty ≡ value_known key now). u) so in
    (x.0, inr (ap (value_form key name id) is), (refl, x.1, value_same key name None (Some stands.Void) x.0 x.2), x.3)
value_makes key name id now (Value value) result so f =
    let own = value_form key name id (Value value) in
    let x = form_read (eager_form (read_of.Value key name)) (message_in (type_of own) (body own)) result f in
    let is : Value value ≡ value_known key now = ⊎_elim (λ (u : Value value ≡ Unknown). absurd (cc)) (λ (u : Value value ≡ value_known key now). u) so in
    (x.0, inr (ap (value_form key name id) is), (refl, x.1, value_same key name None (Some (stands.Value value)) x.0 x.2), x.3)

keys_make : (name : List ℕ) (id : ℕ) (now : StateMap) (keys : Option (List (List ℕ))) (result : Option NotificationResult) → (keys ≡ None) ⊎ (keys ≡ known_keys now) → found (Reads (read_of.Keys name) id) (stored_form (keys_form name id keys)) ≡ Ok result → ReadMakes (read_of.Keys name) id now (keys_form name id keys) result
keys_make name id now None result so f =
    let own = keys_form name id None in
    let x = form_read own (message_in (type_of own) (body own)) result f in
    (x.0, inl refl, (refl, x.1, x.2), x.3)
keys_make name id now (Some keys) result so f =
    let own = keys_form name id (Some keys) in
    let x = form_read (eager_form (read_of.Keys name)) (message_in (type_of own) (body own)) result f in
    let is : Some keys ≡ known_keys now = ⊎_elim (λ (u : Some keys ≡ None). absurd (cc)) (λ (u : Some keys ≡ known_keys now). u) so in
    (x.0, inr (ap (keys_form name id) is), (refl, x.1, keys_same name None (Some keys) x.0 x.2), x.3)

read_makes : (r : StateRead) (id : ℕ) (now known : StateMap) → IsTrueOf now known → (result : Option NotificationResult) → found (Reads r id) (stored_form (own_form r id known)) ≡ Ok result → ReadMakes r id now (own_form r id known) result
read_makes (read_of.Value key name) id now known h result f = value_makes key name id now (value_known key known) result (h.at key) f
read_makes (read_of.Keys name) id now known h result f = keys_make name id now (known_keys known) result h.keys f

-- ---- and back: a state of which so much is known

-- nothing is known
abbrev nothing : StateMap
nothing = record { entries = []; coverage = Partial }

nothing_true : (now : StateMap) → IsTrueOf now nothing
unfolding IsStrictlySortedBy
nothing_true now = record { in_order = tt; at = λ key. inl refl; keys = inl refl }

all_true : (now : StateMap) → IsInOrder now.entries → IsTrueOf now now
all_true now ordered = record { in_order = ordered; at = λ key. inr refl; keys = inr refl }

-- what a read's own command is, by what is known, and that it stands for itself
abbrev Stands : StateRead → ℕ → StateMap → List RawMessage → Option NotificationResult → Type 0
Stands r id known first result = (first ≡ stored_form (own_form r id known) ∷ []) × (found (Reads r id) (stored_form (own_form r id known)) ≡ Ok result)

lazy_stands : (r : StateRead) (id : ℕ) (first : List RawMessage) (read : Message) (result : Option NotificationResult) → IsStoredAs (lazy_form r id) true first read → result_in read ≡ Ok result → Stands r id nothing first result
lazy_stands (read_of.Value key name) id first read result stored brings =
    let own = lazy_form (read_of.Value key name) id in
    (stored.0, read_in own (message_in (type_of own) (body own)) read result stored.1 stored.2 brings)
lazy_stands (read_of.Keys name) id first read result stored brings =
    let own = lazy_form (read_of.Keys name) id in
    (stored.0, read_in own (message_in (type_of own) (body own)) read result stored.1 stored.2 brings)

value_stands : (key name : List ℕ) (id : ℕ) (k : Known) (first : List RawMessage) (read : Message) (result : Option NotificationResult) → IsStoredAs (value_form key name id k) true first read → result_in read ≡ Ok result → found (Reads (read_of.Value key name) id) (stored_form (value_form key name id k)) ≡ Ok result
value_stands key name id Unknown first read result stored brings =
    let own = value_form key name id Unknown in
    read_in own (message_in (type_of own) (body own)) read result stored.1 stored.2 brings
value_stands key name id Empty first read result stored brings =
    let own = value_form key name id Empty in
    read_in (eager_form (read_of.Value key name)) (message_in (type_of own) (body own)) read result stored.1 (value_same key name (Some stands.Void) None read stored.2) brings
value_stands key name id (Value value) first read result stored brings =
    let own = value_form key name id (Value value) in
    read_in (eager_form (read_of.Value key name)) (message_in (type_of own) (body own)) read result stored.1 (value_same key name (Some (stands.Value value)) None read stored.2) brings

keys_stand : (name : List ℕ) (id : ℕ) (keys : Option (List (List ℕ))) (first : List RawMessage) (read : Message) (result : Option NotificationResult) → IsStoredAs (keys_form name id keys) true first read → result_in read ≡ Ok result → found (Reads (read_of.Keys name) id) (stored_form (keys_form name id keys)) ≡ Ok result
keys_stand name id None first read result stored brings =
    let own = keys_form name id None in
    read_in own (message_in (type_of own) (body own)) read result stored.1 stored.2 brings
keys_stand name id (Some keys) first read result stored brings =
    let own = keys_form name id (Some keys) in
    read_in (eager_form (read_of.Keys name)) (message_in (type_of own) (body own)) read result stored.1 (keys_same name (Some keys) None read stored.2) brings

own_stands : (r : StateRead) (id : ℕ) (now : StateMap) (first : List RawMessage) (read : Message) (result : Option NotificationResult) → IsStoredAs (own_form r id now) true first read → result_in read ≡ Ok result → Stands r id now first result
own_stands (read_of.Value key name) id now first read result stored brings = (stored.0, value_stands key name id (value_known key now) first read result stored brings)
own_stands (read_of.Keys name) id now first read result stored brings = (stored.0, keys_stand name id (known_keys now) first read result stored brings)

-- ---- one move

-- what a run's move leaves, as a move of an execution
abbrev Forward : StateMap → Move → List Answer → Derived → List Message → List Notification → List RawMessage → Point → Type 0
Forward base mv answers derived said queue made r = (r.left ≡ []) × MoveLeads mv (stage_of base (bare answers derived said queue)) made (stage_of base r)

command_forward : (base : StateMap) (own : Message) (ignore : Bool) (gives : List Answer) (d : Derived) (answers : List Answer) (derived : Derived) (said : List Message) (queue : List Notification) (r : Point) (f : Result (Option NotificationResult) NamedFault) → found (Exactly own ignore) (stored_form own) ≡ f → command_used f (Exactly own ignore) gives d [] (longer (stored_form own ∷ []) (bare answers derived said queue)) ≡ Some r
    → Forward base (Needs (Exactly own ignore) gives d) answers derived said queue (stored_form own ∷ []) r
command_forward base own ignore gives d answers derived said queue r (Err name) f e = none_some e
command_forward base own ignore gives d answers derived said queue r (Ok result) f e =
    let x = unread own ignore (type_number (type_of own) == type_number (type_of own)) (message_in (type_of own) (body own)) result f in
    let none : result ≡ None = none_brought own ignore (type_number (type_of own) == type_number (type_of own)) (message_in (type_of own) (body own)) result f in
    let is : bare (answers ++ gives) (with_read_result derived.counters.completion result d) (said ++ own ∷ []) queue ≡ r = same_Some _ _ e in
    let there : stage_of base (bare (answers ++ gives) (with_read_result derived.counters.completion result d) (said ++ own ∷ []) queue) ≡ stage (answers ++ gives) d (changed own (changed_by said base)) queue = λ i. stage (answers ++ gives) (with_read_result derived.counters.completion (none i) d) (changed_by-append said (own ∷ []) base i) queue in
    (sym (ap (λ (p : Point). p.left) is), (x.0, (refl, x.1, x.2), sym (ap (stage_of base) is) ∙ there))

read_forward : (base state : StateMap) (r : StateRead) (id : ℕ) (gives : List Answer) (d : Derived) (answers : List Answer) (derived : Derived) (said : List Message) (queue : List Notification) (q : Point) (f : Result (Option NotificationResult) NamedFault) → IsTrueOf (changed_by said base) state → found (Reads r id) (stored_form (own_form r id state)) ≡ f → command_used f (Reads r id) gives d [] (longer (stored_form (own_form r id state) ∷ []) (bare answers derived said queue)) ≡ Some q
    → Forward base (Needs (Reads r id) gives d) answers derived said queue (stored_form (own_form r id state) ∷ []) q
read_forward base state r id gives d answers derived said queue q (Err name) h f e = none_some e
read_forward base state r id gives d answers derived said queue q (Ok result) h f e =
    let x = read_makes r id (changed_by said base) state h result f in
    let is : bare (answers ++ gives) (with_read_result derived.counters.completion result d) (said ++ lazy_form r id ∷ []) queue ≡ q = same_Some _ _ e in
    let same : changed_by (said ++ lazy_form r id ∷ []) base ≡ changed_by said base = changed_by-append said (lazy_form r id ∷ []) base ∙ read_says r id (changed_by said base) in
    let there : stage_of base (bare (answers ++ gives) (with_read_result derived.counters.completion result d) (said ++ lazy_form r id ∷ []) queue) ≡ stage (answers ++ gives) (with_read_result derived.counters.completion result d) (changed_by said base) queue = λ i. stage (answers ++ gives) (with_read_result derived.counters.completion result d) (same i) queue in
    (sym (ap (λ (p : Point). p.left) is), (own_form r id state, x.0, result, x.1, x.2, x.3, sym (ap (stage_of base) is) ∙ there))

arrival_forward : (base : StateMap) (answers : List Answer) (derived : Derived) (said : List Message) (queue : List Notification) (r : Point) → uses_arrival queue (bare answers derived said queue) ≡ Some r → Forward base Awaits answers derived said queue [] r
arrival_forward base answers derived said [] r e = none_some e
arrival_forward base answers derived said (n ∷ others) r e =
    let is : bare answers (arrival_used n derived) said others ≡ r = same_Some _ _ e in
    (sym (ap (λ (p : Point). p.left) is), (n, others, refl, refl, sym (ap (stage_of base) is)))

forward : (base state : StateMap) (mv : Move) (answers : List Answer) (derived : Derived) (said : List Message) (queue : List Notification) (r : Point) → IsTrueOf (changed_by said base) state → moved mv (longer (supply state mv []) (bare answers derived said queue)) ≡ Some r → Forward base mv answers derived said queue (supply state mv []) r
forward base state (Answers gives d) answers derived said queue r h e =
    let is : bare (answers ++ gives) d said queue ≡ r = same_Some _ _ e in
    (sym (ap (λ (p : Point). p.left) is), (refl, sym (ap (stage_of base) is)))
forward base state (Needs (Exactly own ignore) gives d) answers derived said queue r h e = command_forward base own ignore gives d answers derived said queue r (found (Exactly own ignore) (stored_form own)) refl e
forward base state (Needs (Reads read id) gives d) answers derived said queue r h e = read_forward base state read id gives d answers derived said queue r (found (Reads read id) (stored_form (own_form read id state))) h refl e
forward base state Awaits answers derived said queue r h e = arrival_forward base answers derived said queue r e
forward base state Ends answers derived said queue r h e = none_some e
forward base state (Refuses name) answers derived said queue r h e = none_some e

-- a move of an execution, as a run's, by a state of which so much is known
abbrev Backward : StateMap → Move → List Answer → Derived → List Message → List Notification → List RawMessage → Stage → Type 0
Backward base mv answers derived said queue first q =
    (state : StateMap) × (r : Point) × IsTrueOf (changed_by said base) state × (first ≡ supply state mv []) × (moved mv (longer (supply state mv []) (bare answers derived said queue)) ≡ Some r) × (r.left ≡ []) × (q ≡ stage_of base r)

read_backward : (base state : StateMap) (r : StateRead) (id : ℕ) (gives : List Answer) (d : Derived) (answers : List Answer) (derived : Derived) (said : List Message) (queue : List Notification) (first : List RawMessage) (result : Option NotificationResult) (q : Stage) → IsTrueOf (changed_by said base) state → Stands r id state first result → q ≡ stage (answers ++ gives) (with_read_result derived.counters.completion result d) (changed_by said base) queue
    → Backward base (Needs (Reads r id) gives d) answers derived said queue first q
read_backward base state r id gives d answers derived said queue first result q h (is, f) there =
    let same : changed_by said base ≡ changed_by (said ++ lazy_form r id ∷ []) base = sym (changed_by-append said (lazy_form r id ∷ []) base ∙ read_says r id (changed_by said base)) in (
      state,
      bare (answers ++ gives) (with_read_result derived.counters.completion result d) (said ++ lazy_form r id ∷ []) queue,
      h,
      is,
      ap (λ x. command_used x (Reads r id) gives d [] (longer (stored_form (own_form r id state) ∷ []) (bare answers derived said queue))) f,
      refl,
      there ∙ (λ i. stage (answers ++ gives) (with_read_result derived.counters.completion result d) (same i) queue),
    )

backward : (base : StateMap) → IsInOrder base.entries → (mv : Move) (answers : List Answer) (derived : Derived) (said : List Message) (queue : List Notification) (first : List RawMessage) (q : Stage) → MoveLeads mv (stage_of base (bare answers derived said queue)) first q → Backward base mv answers derived said queue first q
backward base ordered (Answers gives d) answers derived said queue first q (none, is) = (nothing, bare (answers ++ gives) d said queue, nothing_true (changed_by said base), none, refl, refl, is)
backward base ordered (Needs (Exactly own ignore) gives d) answers derived said queue first q (read, stored, is) = (
  nothing,
  bare (answers ++ gives) d (said ++ own ∷ []) queue,
  nothing_true (changed_by said base),
  stored.0,
  ap (λ x. command_used x (Exactly own ignore) gives d [] (longer (stored_form own ∷ []) (bare answers derived said queue))) (stands_so own ignore read stored.1 stored.2),
  refl,
  is ∙ (λ i. stage (answers ++ gives) d (sym (changed_by-append said (own ∷ []) base) i) queue),
)
backward base ordered (Needs (Reads r id) gives d) answers derived said queue first q (own, read, result, which, stored, brings, is) =
    ⊎_elim
    (λ (lazy : own ≡ lazy_form r id). read_backward base nothing r id gives d answers derived said queue first result q (nothing_true (changed_by said base)) (lazy_stands r id first read result (subst (λ o. IsStoredAs o true first read) lazy stored) brings) is)
    (λ (known : own ≡ own_form r id (changed_by said base)). read_backward base (changed_by said base) r id gives d answers derived said queue first result q (all_true (changed_by said base) (many_in_order said base ordered)) (own_stands r id (changed_by said base) first read result (subst (λ o. IsStoredAs o true first read) known stored) brings) is)
    which
backward base ordered Awaits answers derived said queue first q (n, others, none, came, is) = (nothing, bare answers (arrival_used n derived) said others, nothing_true (changed_by said base), none, ap (λ ns. uses_arrival ns (bare answers derived said queue)) came, refl, is)
backward base ordered Ends answers derived said queue first q h = absurd h
backward base ordered (Refuses name) answers derived said queue first q h = absurd h

-- ---- all moves

pub executes : (s : Setup) (m : Meaning) (base : StateMap) (n : ℕ) (answers : List Answer) (derived : Derived) (said : List Message) (queue : List Notification) (made : List RawMessage) (q : Point) → Made s m (Honest base) n (bare answers derived said queue) made q → TableLeads s m n (stage_of base (bare answers derived said queue)) made (stage_of base q)
executes s m base zero answers derived said queue made q (none, is) = (none, ap (stage_of base) is)
executes s m base (suc n) answers derived said queue made q (state, r, rest, knows, is, moves, further) =
    let mv = move_at s m (bare answers derived said queue) in
    let step = forward base state mv answers derived said queue r knows moves in
    let bared : r ≡ bare r.answers r.derived r.said r.queue = λ i. record r { left = step.0 i } in
    (supply state mv [], stage_of base r, rest, is, step.1, executes s m base n r.answers r.derived r.said r.queue rest q (subst (λ p. Made s m (Honest base) n p rest q) bared further))

pub runs : (s : Setup) (m : Meaning) (base : StateMap) → IsInOrder base.entries → (n : ℕ) (answers : List Answer) (derived : Derived) (said : List Message) (queue : List Notification) (made : List RawMessage) (q : Stage) → TableLeads s m n (stage_of base (bare answers derived said queue)) made q → (r : Point) × Made s m (Honest base) n (bare answers derived said queue) made r
runs s m base ordered zero answers derived said queue made q (none, is) = (bare answers derived said queue, (none, refl))
runs s m base ordered (suc n) answers derived said queue made q (first, r, rest, is, leads, further) =
    let b = backward base ordered (move_at s m (bare answers derived said queue)) answers derived said queue first r leads in
    let p : Point = b.1 in
    let bared : p ≡ bare p.answers p.derived p.said p.queue = λ i. record p { left = b.5 i } in
    let on = runs s m base ordered n p.answers p.derived p.said p.queue rest q (subst (λ x. TableLeads s m n x rest q) b.6 further) in
    (on.0, (b.0, p, rest, b.2, is ∙ ap (λ l. l ++ rest) b.3, b.4, subst (λ x. Made s m (Honest base) n x rest on.0) (sym bared) on.1))
