-- If each delivery takes the signal that has waited longest, signals come in the order in which they were sent.
use Rattle.std.proofs.Common.{◌≡◌, ◌⊎◌, inl, inr, zero, suc, ℕ, ◌+◌, arith, true, List, [], ◌∷◌, ◌++◌, take, Option, Some, None, refl, sym, ap, ◌∙◌, subst, append-nil, append_assoc}
use Rattle.std.specs.Prelude.{slice_get}
use Rattle.std.specs.List.{remove}
use Rattle.std.proofs.lemmas.List.{flat_map_more}
use Rattle.std.proofs.lemmas.Option.{get_or_from_slice_get}
use Rattle.journal_protocol.specs.Notification.{Notification}
use Rattle.journal_protocol.specs.NotificationId.{NotificationId}
use Rattle.journal_protocol.specs.NotificationId.TheVariants.{CompletionId, SignalId, SignalName}
use Rattle.journal_protocol.specs.NotificationResult.{NotificationResult}
use Rattle.journal_protocol.specs.Signal.{Signal}
use Rattle.journal_protocol.specs.Signal.TheVariants as signal
use Rattle.journal_entries.specs.Entries.{note_in}
use Rattle.vm_model.specs.Calls.{Meaning}
use Rattle.journal_store.specs.declared.effect.Effect.{Effect}
use Rattle.journal_store.specs.declared.effect.Effect.TheVariants as effect
use Rattle.engine_inboxes.specs.declared.types.Brought.{Brought}
use Rattle.engine_inboxes.specs.declared.types.Waiting.{Waiting}
use Rattle.engine_inboxes.specs.declared.types.Waiting.TheVariants as waiting
use Rattle.engine_inboxes.specs.Notes.{signal_id, signal_note}
use Rattle.engine_inboxes.specs.Deliverable.{effect_at, waited_by, waits_for_outcome}
use Rattle.engine_inboxes.proofs.Coming.{some_same}
use Rattle.engines.specs.declared.engine.Engine.{Engine}
use Rattle.engines.specs.declared.engine.Invocation.{Invocation}
use Rattle.engines.specs.declared.types.Happening.{Happening}
use Rattle.engines.specs.declared.types.Happening.TheVariants as happening
use Rattle.engines.specs.Engines.{AllHappen}
use Rattle.engines.specs.Members.{Delivers, MemberView, NoEntry, StoresEntry, StoresNextEntry, with_signal}
use Rattle.engines.proofs.Growing.{some_in}
use Rattle.engine_fences.specs.Ordering.{AllInOrder, HappenInTurn, IsFirstAfter, IsFirstSignal, IsInTurn}
use Rattle.engine_fences.specs.Signals.{passing, signal_by, signal_read, signal_waiting, signals_came, signals_of, signals_to, signals_waiting}
use Rattle.engine_fences.proofs.Counting.{passes_by, passing_both}
use Rattle.engine_fences.proofs.Events.{AllHold, Always, Holds, MayHappen, event_holds, hold_then, none_holds}
use Rattle.engine_fences.proofs.Signalling.{ComesAs, IsApart, came_as, signals_come, store_apart}

-- ---- lists

came_more : (journal : List (List ℕ)) (x : List ℕ) → signals_came (journal ++ x ∷ []) ≡ signals_came journal ++ signal_read (note_in x)
came_more journal x = sym (flat_map_more (λ entry. signal_read (note_in entry)) [] journal x)

waits_more : (ws : List Waiting) (w : Waiting) → signals_waiting (ws ++ w ∷ []) ≡ signals_waiting ws ++ signal_waiting w
waits_more ws w = sym (flat_map_more signal_waiting [] ws w)

both_none : (xs ys : List Notification) → xs ++ ys ≡ [] → (xs ≡ []) × (ys ≡ [])
both_none [] ys e = (refl, e)
both_none (x ∷ xs) ys e = absurd (cc)

-- the first signal is taken out, or what is no signal
taken_out : (ws : List Waiting) (i : ℕ) (w : Waiting) → slice_get ws i ≡ Some w → IsFirstAfter (signals_waiting (take i ws)) (signal_waiting w) → signals_waiting ws ≡ signal_waiting w ++ signals_waiting (remove ws i)
taken_out [] i w e f = absurd (cc)
taken_out (v ∷ ws) zero w e f = ap (λ x. signal_waiting x ++ signals_waiting ws) (some_same v w e)
taken_out (v ∷ ws) (suc i) w e f = by (signal_waiting w) refl f (taken_out ws i w e)
  where
    by : (l : List Notification) → signal_waiting w ≡ l → IsFirstAfter (signal_waiting v ++ signals_waiting (take i ws)) l → (IsFirstAfter (signals_waiting (take i ws)) (signal_waiting w) → signals_waiting ws ≡ signal_waiting w ++ signals_waiting (remove ws i))
        → signal_waiting v ++ signals_waiting ws ≡ signal_waiting w ++ (signal_waiting v ++ signals_waiting (remove ws i))
    by [] is h more =
        let rest : signals_waiting ws ≡ signals_waiting (remove ws i) = more (subst (IsFirstAfter (signals_waiting (take i ws))) (sym is) tt) ∙ ap (λ l. l ++ signals_waiting (remove ws i)) is in
        ap (λ l. signal_waiting v ++ l) rest ∙ ap (λ l. l ++ (signal_waiting v ++ signals_waiting (remove ws i))) (sym is)
    by (n ∷ ns) is h more =
        let none = both_none (signal_waiting v) (signals_waiting (take i ws)) h in
        ap (λ l. l ++ signals_waiting ws) none.0 ∙ more (subst (IsFirstAfter (signals_waiting (take i ws))) (sym is) none.1)
        ∙ ap (λ l. signal_waiting w ++ (l ++ signals_waiting (remove ws i))) (sym none.0)

-- what a stored command waits for is no signal
waits_on : (ws : List Waiting) (o : Option Effect) → signals_waiting (ws ++ waited_by o) ≡ signals_waiting ws
waits_on ws None = ap signals_waiting (append-nil ws)
waits_on ws (Some (effect.Wait timer)) = waits_more ws (waiting.Clock timer) ∙ append-nil (signals_waiting ws)
waits_on ws (Some (effect.Send s)) = ap signals_waiting (append-nil ws)
waits_on ws (Some (effect.Result r)) = ap signals_waiting (append-nil ws)
waits_on ws (Some (effect.Begin b)) = by b.result_completes
  where
    first : signals_waiting (ws ++ waiting.Id b.id_completes ∷ []) ≡ signals_waiting ws
    first = waits_more ws (waiting.Id b.id_completes) ∙ append-nil (signals_waiting ws)

    by : (o : Option ℕ) → signals_waiting (ws ++ waiting.Id b.id_completes ∷ waits_for_outcome b.id_completes o) ≡ signals_waiting ws
    by None = first
    by (Some id) =
        ap signals_waiting (sym (append_assoc ws (waiting.Id b.id_completes ∷ []) (waiting.Outcome id b.id_completes ∷ [])))
        ∙ waits_more (ws ++ waiting.Id b.id_completes ∷ []) (waiting.Outcome id b.id_completes) ∙ append-nil (signals_waiting (ws ++ waiting.Id b.id_completes ∷ [])) ∙ first

signal_comes : (s : Signal) (r : NotificationResult) → signal_by (signal_id s) (signal_note s r) ≡ signal_note s r ∷ []
signal_comes (signal.Index index) r = refl
signal_comes (signal.Name name) r = refl

came_so : (w : Waiting) (n : Notification) → ComesAs w n → signal_by n.id n ≡ signal_waiting w
came_so (waiting.Id own) n h = ap (λ i. signal_by i n) h.1
came_so (waiting.Outcome own call) n h = ap (λ i. signal_by i n) h.1
came_so (waiting.Clock timer) n h = ap (λ i. signal_by i n) h.1
came_so (waiting.Signal s r) n h = ap (λ (x : Notification). signal_by x.id x) h ∙ signal_comes s r

-- what an attempt wrote is no signal
read_none : (o : Option Notification) → IsApart o → signal_read o ≡ []
read_none None h = refl
read_none (Some n) h = by n.id (h (λ _. true))
  where
    by : (id : NotificationId) → passes_by (λ _. true) id n ≡ 0 → signal_by id n ≡ []
    by (CompletionId id) e = refl
    by (SignalId index) e = absurd (let x : 1 ≡ 0 = e in cc)
    by (SignalName name) e = absurd (let x : 1 ≡ 0 = e in cc)

-- ---- one invocation

-- its signals stay in order, and others come after them
abbrev InLine : {H : Type 0} → Invocation H → Invocation H → Type 0
InLine {H} a b = (m : MemberView H) → a.member ≡ Some m → (m' : MemberView H) × (b.member ≡ Some m') × (more : List Notification) × (signals_of m' ≡ signals_of m ++ more)

line_on : {H : Type 0} (it : Invocation H) (m m' : MemberView H) (more : List Notification) → it.member ≡ Some m → signals_of m' ≡ signals_of m ++ more → InLine it (record it { member = Some m' })
line_on {H} it m m' more was e x is = (m', refl, more, e ∙ ap (λ (z : MemberView H). signals_of z ++ more) (some_in it.member m x was is))

line_same : {H : Type 0} (it : Invocation H) (m m' : MemberView H) → it.member ≡ Some m → signals_of m' ≡ signals_of m → InLine it (record it { member = Some m' })
line_same it m m' was e = line_on it m m' [] was (e ∙ sym (append-nil (signals_of m)))

line_then : {H : Type 0} (a b c : Invocation H) → InLine a b → InLine b c → InLine a c
line_then a b c f g m is =
    let (x, there, more, e) = f m is in
    let (y, after, rest, h) = g x there in
    (y, after, more ++ rest, h ∙ ap (λ l. l ++ rest) e ∙ append_assoc (signals_of m) more rest)

both : (xs ys vs ws : List Notification) → xs ≡ ys → vs ≡ ws → xs ++ vs ≡ ys ++ ws
both xs ys vs ws e f = ap (λ l. l ++ vs) e ∙ ap (λ l. ys ++ l) f

line_comes : {H : Type 0} (it : Invocation H) (m m' : MemberView H) (at : ℕ) (w : Waiting) (b : Brought) (f : Meaning) → it.member ≡ Some m → slice_get m.waiting at ≡ Some w → IsFirstSignal m at → Delivers at b f m m' → InLine it (record it { member = Some m' })
line_comes {H} it m m' at w b f was there first (inl c) = line_same it m m' was (ap (λ (z : MemberView H). signals_of z) c.1)
line_comes {H} it m m' at w b f was there first (inr a) =
    let becomes = sym (a.becomes w (sym (get_or_from_slice_get m.waiting at w w there))) in
    let came : signals_came m'.course.journal ≡ signals_came m.course.journal ++ signal_waiting w = ap signals_came a.stored ∙ came_more m.course.journal a.entry ∙ ap (λ o. signals_came m.course.journal ++ signal_read o) a.reads ∙ ap (λ l. signals_came m.course.journal ++ l) (came_so w a.note (came_as w b a.note becomes)) in
    line_same it m m' was
    (both (signals_came m'.course.journal) (signals_came m.course.journal ++ signal_waiting w) (signals_waiting m'.waiting) (signals_waiting (remove m.waiting at)) came (ap signals_waiting a.rest.0)
    ∙ append_assoc (signals_came m.course.journal) (signal_waiting w) (signals_waiting (remove m.waiting at))
    ∙ ap (λ l. signals_came m.course.journal ++ l) (sym (taken_out m.waiting at w there (first w there))))

line_stores : {H : Type 0} (it : Invocation H) (m m' : MemberView H) (asks : Option Effect) (f : Meaning) → it.member ≡ Some m → StoresNextEntry f m m' asks → InLine it (record it { member = Some m' })
line_stores {H} it m m' asks f was d = by d.entry
  where
    by : NoEntry m m' asks ⊎ StoresEntry m m' asks → InLine it (record it { member = Some m' })
    by (inl n) = line_same it m m' was (both (signals_came m'.course.journal) (signals_came m.course.journal) (signals_waiting m'.waiting) (signals_waiting m.waiting) (ap signals_came n.stored) (ap signals_waiting n.stays.0))
    by (inr n) =
        let none : signal_read (note_in n.entry) ≡ [] = read_none (note_in n.entry) (store_apart f m.course.live m.course m'.course n.entry d.course n.stored) in
        line_same it m m' was
        (both (signals_came m'.course.journal) (signals_came m.course.journal) (signals_waiting m'.waiting) (signals_waiting m.waiting)
        (ap signals_came n.stored ∙ came_more m.course.journal n.entry ∙ ap (λ l. signals_came m.course.journal ++ l) none ∙ append-nil (signals_came m.course.journal))
        (ap signals_waiting n.entered.waits ∙ waits_on m.waiting (effect_at n.entry)))

-- its rounds stay
line_kept : {H : Type 0} (a b : Invocation H) → b.member ≡ a.member → InLine a b
line_kept a b same m is = (m, same ∙ is, [], sym (append-nil (signals_of m)))

stays_in_line : {H : Type 0} → Holds (InLine {H = H}) IsFirstSignal Always
stays_in_line {H} = record {
  same = λ it. line_kept it it refl;
  next = line_then;
  goes = λ it m m' was journal waits ids options on. line_same it m m' was (both (signals_came m'.course.journal) (signals_came m.course.journal) (signals_waiting m'.waiting) (signals_waiting m.waiting) (ap signals_came journal) (ap signals_waiting waits));
  gets = λ it m s was. line_on it m (with_signal s.signal s.brings m) (signal_note s.signal s.brings ∷ []) was
      (ap (λ l. signals_came m.course.journal ++ l) (waits_more m.waiting (waiting.Signal s.signal s.brings)) ∙ sym (append_assoc (signals_came m.course.journal) (signals_waiting m.waiting) (signal_note s.signal s.brings ∷ [])));
  comes = λ it m m' at w b f was going there first d. line_comes it m m' at w b f was there first d;
  stores = λ it m m' asks f was going d. line_stores it m m' asks f was d;
  ends = λ it r. line_kept it (record it { ended = Some r }) refl;
  calls = λ a b is. line_kept a b (ap (λ (z : Invocation H). z.member) is);
}

-- ---- all events

in_turn : {H : Type 0} (e : Engine H) (h : Happening) → IsInTurn e h → MayHappen (InLine {H = H}) IsFirstSignal Always stays_in_line e h
in_turn e (happening.Submit order) t = tt
in_turn e (happening.Begin place) t = tt
in_turn e (happening.Act place x) t = tt
in_turn e (happening.Deliver place at) t = t
in_turn e (happening.Store place) t = tt
in_turn e (happening.Stop place) t = tt
in_turn e happening.StopAll t = tt
in_turn e (happening.Clock time) t = tt

all_in_line : {H : Type 0} (meaning : H → Meaning) (es : List Happening) (old new : Engine H) → HappenInTurn meaning es old new → AllHold InLine old new
all_in_line meaning [] old new d = none_holds InLine IsFirstSignal Always stays_in_line old new d
all_in_line meaning (e ∷ es) old new (mid, first, turn, more) = hold_then InLine IsFirstSignal Always stays_in_line old mid new (event_holds InLine IsFirstSignal Always stays_in_line meaning e old mid (in_turn old e turn) first) (all_in_line meaning es mid new more)

-- what stands in front has waited longest
pub front_in_turn : {H : Type 0} (e : Engine H) (place : ℕ) → IsInTurn e (happening.Deliver place 0)
front_in_turn e place it m was is w there = by (signal_waiting w)
  where
    by : (l : List Notification) → IsFirstAfter [] l
    by [] = tt
    by (n ∷ ns) = refl

they_happen : {H : Type 0} (meaning : H → Meaning) (es : List Happening) (old new : Engine H) → HappenInTurn meaning es old new → AllHappen meaning es old new
they_happen meaning [] old new d = d
they_happen meaning (e ∷ es) old new (mid, first, turn, more) = (mid, first, they_happen meaning es mid new more)

rest_counted : (all few rest old new : ℕ) → all ≡ few + rest → all + old ≡ few + new → rest + old ≡ new
rest_counted all few rest old new e f = omega (arith, e, f)

-- so signals stay in order, and those that come after them are those that were sent
pub all_in_order : {H : Type 0} (meaning : H → Meaning) (es : List Happening) (old new : Engine H) → HappenInTurn meaning es old new → AllInOrder old new
all_in_order {H} meaning es old new d place it m was is =
    let (later, there, line) = (all_in_line meaning es old new d).each place it was in
    let (rounds, has, more, order) = line m is in
    record {
      later = later;
      there = there;
      rounds = rounds;
      is = has;
      more = more;
      order = order;
      sent = λ first test.
          let c = signals_come meaning es old new (they_happen meaning es old new d) place it m was is first in
          let same : c.rounds ≡ rounds = some_in later.member c.rounds rounds (ap (λ (z : Invocation H). z.member) (some_in (slice_get new.invocations.items place) later c.later there c.there) ∙ c.is) has in
          rest_counted (passing test (signals_of rounds)) (passing test (signals_of m)) (passing test more) (passing test (signals_to it.id old.invocations.items)) (passing test (signals_to it.id new.invocations.items))
          (ap (passing test) order ∙ passing_both test (signals_of m) more)
          (subst (λ (z : MemberView H). passing test (signals_of z) + passing test (signals_to it.id old.invocations.items) ≡ passing test (signals_of m) + passing test (signals_to it.id new.invocations.items)) same (c.once test));
    }
