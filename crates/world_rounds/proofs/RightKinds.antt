-- Each result of an invocation's id that a journal holds is one, where the ids that its commands carry rise.
use Rattle.std.proofs.Common.{◌≡◌, ℕ, Bool, true, false, cond, ◌||◌, List, [], ◌∷◌, ◌++◌, Option, Some, None, refl, sym, ap, ◌∙◌, subst, append_assoc, append-nil, arith}
use Rattle.std.specs.Prelude.{◌==◌}
use Rattle.std.specs.List.{AllByRecursion}
use Rattle.std.proofs.lemmas.Bool.{eqb-true}
use Rattle.await_arrivals.specs.Ids.{same_id}
use Rattle.await_arrivals.specs.Results.{results_of}
use Rattle.journal_protocol.specs.InputCommand.{InputCommand}
use Rattle.journal_protocol.specs.Message.{Message}
use Rattle.journal_protocol.specs.Message.TheVariants as message
use Rattle.journal_protocol.specs.RawMessage.{RawMessage}
use Rattle.journal_protocol.specs.Bodies.{message_in}
use Rattle.journal_protocol.specs.Notification.{Notification}
use Rattle.journal_protocol.specs.NotificationId.TheVariants.{CompletionId}
use Rattle.journal_protocol.specs.NotificationResult.{NotificationResult}
use Rattle.journal_protocol.specs.NotificationResult.TheVariants as result
use Rattle.vm_asks.specs.Carried.{all_carried, carried, carried_by, read_carried}
use Rattle.vm_state.specs.declared.state_map.StateMap.{StateMap}
use Rattle.vm_model.specs.Calls.{Meaning, Setup}
use Rattle.vm_model.specs.Carried.{AreOfTheirKind, IsInvocationId, is_id_among, is_carried, is_for_invocation, names_invocation, read_carries}
use Rattle.vm_model.specs.Histories.{History, IsPrefix}
use Rattle.journal_entries.specs.Journal.{input_read_from, messages_in, notifications_in, read_before}
use Rattle.vm_model.proofs.Results.{same_is}
use Rattle.journal_entries.specs.JournalFrames.{commands_among, notified_by}
use Rattle.vm_attempt.proofs.Pieces.{commands_append}
use Rattle.vm_attempt.proofs.Replayed.{commands_same}
use Rattle.journal_entries.specs.declared.completions.Completes.{Completes}
use Rattle.journal_entries.specs.declared.completions.Completes.TheVariants as completes
use Rattle.journal_entries.specs.Arrivals.{completes_among, completes_by, if_same, is_invocation_id}
use Rattle.journal_entries.specs.Completions.{EachOfItsKind, IsOfItsKind, IsOfKind, NoteIsOfItsKind}
use Rattle.journal_entries.specs.Entries.{journal_entries, journal_frames, note_in, notes_in, said_in}
use Rattle.world_rounds.specs.Worlds.{IsJournal}
use Rattle.journal_entries.proofs.Framing.{frames_append, said_are}
use Rattle.world_rounds.proofs.Completing.{input_carries_none}
use Rattle.world_rounds.proofs.Once.{completes_none, completes_not}
use Rattle.world_rounds.proofs.Rising.{Rises, carried_is, only_once, rises_behind, told_rises}

-- ---- what completes an invocation's id

first_of : (a b : Bool) → a ≡ true → (a || b) ≡ true
first_of true b h = refl
first_of false b h = absurd (cc)

-- what names an id for its invocation carries it
named_carries : (id : ℕ) (o : Option Message) → names_invocation id o ≡ true → read_carries id o ≡ true
named_carries id None h = absurd (cc)
named_carries id (Some (message.Call c)) h = first_of (c.request.invocation_id_notification_idx == id) _ h
named_carries id (Some (message.OneWayCall c)) h = first_of (c.request.invocation_id_notification_idx == id) _ h
named_carries id (Some m) h = absurd (let z : false ≡ true = h in cc)

-- so what isn't carried is for no invocation
unnamed : (id : ℕ) (cs : List RawMessage) → is_carried id cs ≡ false → is_for_invocation id cs ≡ false
unnamed id [] h = refl
unnamed id (c ∷ cs) h = by_test (names_invocation id (message_in c.ty c.body)) refl (read_carries id (message_in c.ty c.body)) refl h (unnamed id cs)
  where
    by_test : (a : Bool) → names_invocation id (message_in c.ty c.body) ≡ a → (b : Bool) → read_carries id (message_in c.ty c.body) ≡ b → (b || is_carried id cs) ≡ false → (is_carried id cs ≡ false → is_for_invocation id cs ≡ false) → (a || is_for_invocation id cs) ≡ false
    by_test true named b carries none ih = absurd (let z : false ≡ true = sym none ∙ first_of b (is_carried id cs) (sym carries ∙ named_carries id (message_in c.ty c.body) named) in cc)
    by_test false named true carries none ih = absurd (let z : true ≡ false = none in cc)
    by_test false named false carries none ih = ih none

-- a command that names an id for its invocation, and whose ids rise, is completed by an invocation's id
named_completes : (low id : ℕ) (m : Message) (ids : List ℕ) → Rises low (carried m ++ ids) → names_invocation id (Some m) ≡ true → completes_by id m None ≡ Some completes.InvocationId
named_completes low id (message.Call c) ids h named = by_tests (c.request.invocation_id_notification_idx == id) (c.result_completion_id == id) refl refl named
  where
    by_tests : (a b : Bool) → (c.request.invocation_id_notification_idx == id) ≡ a → (c.result_completion_id == id) ≡ b → a ≡ true → if_same b completes.AnyResult (if_same a completes.InvocationId None) ≡ Some completes.InvocationId
    by_tests true false x y t = refl
    by_tests true true x y t =
        let a = eqb-true c.request.invocation_id_notification_idx id x in
        let b = eqb-true c.result_completion_id id y in
        let l = h.1.0 in
        absurd (omega (arith, a, b, l))
    by_tests false b x y t = absurd (cc)
named_completes low id (message.OneWayCall c) ids h named = ap (λ b. if_same b completes.InvocationId None) named
named_completes low id m ids h named = absurd (let z : false ≡ true = named in cc)

-- Of commands whose ids rise, the first of which complete an id that is an invocation's: it is completed by an invocation's id.
pub invocation_completes : (low id : ℕ) (us vs : List RawMessage) → Rises low (all_carried (us ++ vs)) → is_for_invocation id (us ++ vs) ≡ true → (completes_among id (messages_in us) None ≡ None → ⊥) → completes_among id (messages_in us) None ≡ Some completes.InvocationId
invocation_completes low id [] vs h named some = absurd (some refl)
invocation_completes low id (c ∷ us) vs h named some =
    by_read (message_in c.ty c.body) h named some (invocation_completes low id us vs (rises_behind low (carried_by c) (all_carried (us ++ vs)) h))
  where
    none_behind : (m : Message) → Rises low (carried m ++ all_carried (us ++ vs)) → is_id_among id (carried m) ≡ true → is_carried id (us ++ vs) ≡ false
    none_behind m rises among = carried_is id (us ++ vs) ∙ only_once low id (carried m) (all_carried (us ++ vs)) rises among

    front_none : (xs ys : List RawMessage) → is_carried id (xs ++ ys) ≡ false → is_carried id xs ≡ false
    front_none [] ys e = refl
    front_none (x ∷ xs) ys e = by_carried (read_carries id (message_in x.ty x.body)) e (front_none xs ys)
      where
        by_carried : (b : Bool) → (b || is_carried id (xs ++ ys)) ≡ false → (is_carried id (xs ++ ys) ≡ false → is_carried id xs ≡ false) → (b || is_carried id xs) ≡ false
        by_carried true z ih = absurd (let t : true ≡ false = z in cc)
        by_carried false z ih = ih z

    is_named : (a b : Bool) → (a || b) ≡ true → b ≡ false → a ≡ true
    is_named true b e f = refl
    is_named false b e f = absurd (let z : false ≡ true = sym f ∙ e in cc)

    by_carries : (m : Message) (b : Bool) → is_id_among id (carried m) ≡ b → Rises low (carried m ++ all_carried (us ++ vs)) → (names_invocation id (Some m) || is_for_invocation id (us ++ vs)) ≡ true
        → (completes_among id (messages_in us) (completes_by id m None) ≡ None → ⊥)
        → (is_for_invocation id (us ++ vs) ≡ true → (completes_among id (messages_in us) None ≡ None → ⊥) → completes_among id (messages_in us) None ≡ Some completes.InvocationId)
        → completes_among id (messages_in us) (completes_by id m None) ≡ Some completes.InvocationId
    by_carries m true among rises named some ih =
        let none = none_behind m rises among in
        let by : completes_by id m None ≡ Some completes.InvocationId = named_completes low id m (all_carried (us ++ vs)) rises (is_named (names_invocation id (Some m)) (is_for_invocation id (us ++ vs)) named (unnamed id (us ++ vs) none)) in
        ap (completes_among id (messages_in us)) by ∙ completes_none id us (Some completes.InvocationId) (front_none us vs none)
    by_carries m false among rises named some ih =
        let same : completes_by id m None ≡ None = completes_not id m None among in
        ap (completes_among id (messages_in us)) same
        ∙ ih (by_name (names_invocation id (Some m)) refl named) (λ none. some (ap (completes_among id (messages_in us)) same ∙ none))
      where
        by_name : (a : Bool) → names_invocation id (Some m) ≡ a → (a || is_for_invocation id (us ++ vs)) ≡ true → is_for_invocation id (us ++ vs) ≡ true
        by_name false e t = t
        by_name true e t = absurd (let z : false ≡ true = sym among ∙ named_carries id (Some m) e in cc)

    by_read : (o : Option Message) → Rises low (read_carried o ++ all_carried (us ++ vs)) → (names_invocation id o || is_for_invocation id (us ++ vs)) ≡ true
        → (completes_among id (read_before o (messages_in us)) None ≡ None → ⊥)
        → (is_for_invocation id (us ++ vs) ≡ true → (completes_among id (messages_in us) None ≡ None → ⊥) → completes_among id (messages_in us) None ≡ Some completes.InvocationId)
        → completes_among id (read_before o (messages_in us)) None ≡ Some completes.InvocationId
    by_read None rises named some ih = ih named some
    by_read (Some m) rises named some ih = by_carries m (is_id_among id (carried m)) refl rises named some ih

-- ---- the results of a journal

is_one : (r : NotificationResult) → is_invocation_id r ≡ true → IsInvocationId r
is_one (result.InvocationId id) h = refl
is_one result.Void h = absurd (cc)
is_one (result.Value value) h = absurd (cc)
is_one (result.Failure failure) h = absurd (cc)
is_one (result.StateKeys keys) h = absurd (cc)

-- what is of a kind completes
kind_some : (kind : Option Completes) (r : NotificationResult) → IsOfKind kind r → kind ≡ None → ⊥
kind_some None r h e = h
kind_some (Some kind) r h e = absurd (cc)

kind_is : (kind : Option Completes) (r : NotificationResult) → IsOfKind kind r → kind ≡ Some completes.InvocationId → IsInvocationId r
kind_is kind r h e = is_one r (subst (λ k. IsOfKind k r) e h)

module _ (low id : ℕ) (all : List RawMessage) (rises : Rises low (all_carried all)) (named : is_for_invocation id all ≡ true) where
  -- the result of a completion, where the commands in front of it are the first of all
  right : (before : List (List ℕ)) (more : List RawMessage) → all ≡ commands_among (journal_frames before) ++ more → (r : NotificationResult) → IsOfKind (completes_among id (said_in before) None) r → IsInvocationId r
  right before more is r h =
      let us = commands_among (journal_frames before) in
      let said : completes_among id (said_in before) None ≡ completes_among id (messages_in us) None = ap (λ l. completes_among id l None) (said_are before) in
      kind_is (completes_among id (said_in before) None) r h
      (said ∙ invocation_completes low id us more (subst (λ l. Rises low (all_carried l)) is rises) (subst (λ l. is_for_invocation id l ≡ true) is named) (λ none. kind_some (completes_among id (said_in before) None) r h (said ∙ none)))

  pub each_right : (before xs : List (List ℕ)) → IsPrefix (commands_among (journal_frames (before ++ xs))) all → EachOfItsKind before xs → AllByRecursion IsInvocationId (results_of (CompletionId id) (notes_in xs))
  each_right before [] p h = tt
  each_right before (x ∷ xs) p h = by_note (note_in x) h.0 (each_right (before ++ x ∷ []) xs (subst (λ l. IsPrefix (commands_among (journal_frames l)) all) (sym (append_assoc before (x ∷ []) xs)) p) h.1)
    where
      front : (more : List RawMessage) × (all ≡ commands_among (journal_frames before) ++ more)
      front = (
        commands_among (journal_frames (x ∷ xs)) ++ p.0,
        p.1 ∙ ap (λ l. l ++ p.0) (ap commands_among (frames_append before (x ∷ xs)) ∙ commands_append (journal_frames before) (journal_frames (x ∷ xs))) ∙ append_assoc (commands_among (journal_frames before)) (commands_among (journal_frames (x ∷ xs))) p.0,
      )

      by_id : (n : Notification) (b : Bool) → same_id n.id (CompletionId id) ≡ b → NoteIsOfItsKind (Some n) before → AllByRecursion IsInvocationId (results_of (CompletionId id) (notes_in xs)) → AllByRecursion IsInvocationId (cond b (n.result ∷ results_of (CompletionId id) (notes_in xs)) (results_of (CompletionId id) (notes_in xs)))
      by_id n false is kind more = more
      by_id n true is kind more = (right before front.0 front.1 n.result (subst (λ i. IsOfItsKind i n.result before) (same_is n.id (CompletionId id) is) kind), more)

      by_note : (o : Option Notification) → NoteIsOfItsKind o before → AllByRecursion IsInvocationId (results_of (CompletionId id) (notes_in xs)) → AllByRecursion IsInvocationId (results_of (CompletionId id) (notified_by o (notes_in xs)))
      by_note None kind more = more
      by_note (Some n) kind more = by_id n (same_id n.id (CompletionId id)) refl kind more

-- ---- of a history

-- the commands after an input carry ids that rise, and so do they with it
pub with_input : (raw : RawMessage) (input : InputCommand) (cs : List RawMessage) → input_read_from raw ≡ Some input → Rises 1 (all_carried cs) → Rises 1 (all_carried (raw ∷ cs))
with_input raw input cs reads h = subst (λ l. Rises 1 (l ++ all_carried cs)) (sym (input_carries_none raw input reads)) h

-- a journal that can be replayed holds results of their kinds
pub history_kinds : (s : Setup) (m : Meaning) (base : StateMap) (journal : List (List ℕ)) → IsJournal journal → History s m base (journal_entries journal) → AreOfTheirKind (notes_in journal) (commands_among (journal_frames journal))
history_kinds s m base journal j h id named =
    let is : commands_among (journal_frames journal) ≡ h.first ∷ h.rest = sym (commands_same (journal_frames journal)) ∙ h.begins in
    let rises = with_input h.first h.input h.rest h.reads (told_rises s m h.told.0 h.input (notifications_in (journal_entries journal)) h.rest h.at h.told.1 h.uses_all) in
    let all = commands_among (journal_frames journal) in
    each_right 1 id all (subst (λ l. Rises 1 (all_carried l)) (sym is) rises) named [] journal ([], sym (append-nil all)) j.kinds
