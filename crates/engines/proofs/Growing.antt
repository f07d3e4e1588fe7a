-- What stays of an engine over each event: its invocations, what they have called, and their results.
use Rattle.std.proofs.Common.{◌≡◌, ◌⊎◌, inl, inr, zero, suc, ℕ, ◌<◌, ◌≤◌, Bool, true, false, List, [], ◌∷◌, length, take, Option, Some, None, refl, sym, ap, ◌∙◌, subst, arith}
use Rattle.std.specs.Prelude.{◌&&◌, ◌||◌, is_none, nat_le, not, slice_get}
use Rattle.std.specs.List.{list_any}
use Rattle.std.specs.Option.{option_and_then, option_map}
use Rattle.std.proofs.lemmas.Bool.{cases_eq}
use Rattle.journal_protocol.specs.NotificationResult.{NotificationResult}
use Rattle.journal_protocol.specs.ValueOrFailure.{ValueOrFailure}
use Rattle.journal_store.specs.declared.effect.Beginning.{Beginning}
use Rattle.engine_inboxes.specs.declared.types.Waiting.{Waiting}
use Rattle.engine_inboxes.specs.declared.types.Waiting.TheVariants as waiting
use Rattle.engines.specs.declared.engine.Engine.{Engine}
use Rattle.engines.specs.declared.engine.Invocation.{Invocation}
use Rattle.engine_inboxes.specs.declared.order.Begun.{Begun}
use Rattle.engine_inboxes.specs.declared.order.Callee.{Callee}
use Rattle.engines.specs.Between.{HasTurn, IsBegunOnce, IsCalleeOf, IsRight, IsRowOf, WasBegun, WasFound}
use Rattle.engines.specs.Engines.{ChangesOne, NoneAt}
use Rattle.engine_inboxes.specs.Targets.{is_text, share, handler_named}
use Rattle.engines.specs.Lookups.{callee_in, callee_of, can_begin, has_turn, callee_id, is_before, is_same, may_begin, callee_result}
use Rattle.engines.specs.Members.{MemberView}
use Rattle.engines.proofs.Among.{get_other, get_past, get_read, get_set, get_within}

-- ---- one invocation

-- its journal begins with this
abbrev pub HasFirst : {H : Type 0} → List ℕ → Option (MemberView H) → Type 0
HasFirst x None = ⊥
HasFirst x (Some m) = slice_get m.course.journal 0 ≡ Some x

pub record GrowsOne {H : Type 0} (old new : Invocation H) : Type 0 where
  pub same : new ≡ record old { callees = new.callees; ended = new.ended; member = new.member }
  pub rows : (call : ℕ) (row : Callee) → callee_in call old.callees.items ≡ Some row → callee_in call new.callees.items ≡ Some row
  pub ended : (r : ValueOrFailure) → old.ended ≡ Some r → new.ended ≡ Some r
  pub first : (x : List ℕ) → HasFirst x old.member → HasFirst x new.member

pub grows_not : {H : Type 0} (it : Invocation H) → GrowsOne it it
grows_not it = record { same = refl; rows = λ call row e. e; ended = λ r e. e; first = λ x h. h }

-- ---- an engine

pub record Grows {H : Type 0} (old new : Engine H) : Type 0 where
  pub clock : old.clock ≤ new.clock
  pub targets : new.targets ≡ old.targets
  pub each : (i : ℕ) (it : Invocation H) → slice_get old.invocations.items i ≡ Some it → (it' : Invocation H) × (slice_get new.invocations.items i ≡ Some it') × GrowsOne it it'

pub one_then : {H : Type 0} (a b c : Invocation H) → GrowsOne a b → GrowsOne b c → GrowsOne a c
one_then {H} a b c g h = record {
  same = h.same ∙ ap {A = Invocation H} (λ z. record z { callees = c.callees; ended = c.ended; member = c.member }) g.same;
  rows = λ call row e. h.rows call row (g.rows call row e);
  ended = λ r e. h.ended r (g.ended r e);
  first = λ x f. h.first x (g.first x f);
}

pub grows_then : {H : Type 0} (a b c : Engine H) → Grows a b → Grows b c → Grows a c
grows_then a b c g h = record {
  clock = omega (arith, g.clock, h.clock);
  targets = h.targets ∙ g.targets;
  each = λ i it e.
      let (x, is, f) = g.each i it e in
      let (y, there, k) = h.each i x is in
      (y, there, one_then it x y f k);
}

-- ---- a change at a place, by the elements

pub record Seen {H : Type 0} (place : ℕ) (R : Invocation H → Invocation H → Type 0) (old new : List (Invocation H)) : Type 0 where
  pub before : Invocation H
  pub after : Invocation H
  pub was : slice_get old place ≡ Some before
  pub is : slice_get new place ≡ Some after
  pub does : R before after
  pub others : (k : ℕ) → (k ≡ place → ⊥) → slice_get new k ≡ slice_get old k

-- there is none at this place
pub record Unseen {H : Type 0} (place : ℕ) (old new : List (Invocation H)) : Type 0 where
  pub none : slice_get old place ≡ None
  pub far : length old ≤ place
  pub same : new ≡ old

pub seen_one : {H : Type 0} (place : ℕ) (R : Invocation H → Invocation H → Type 0) (old new : List (Invocation H)) → ChangesOne place R old new → Seen place R old new
seen_one place R old new c = record {
  before = c.before;
  after = c.after;
  was = get_read old place c.before c.there c.is;
  is = ap (λ l. slice_get l place) c.becomes ∙ get_set old place c.after c.there;
  does = c.does;
  others = λ k ne. ap (λ l. slice_get l k) c.becomes ∙ get_other old place k c.after ne;
}

pub seen_at : {H : Type 0} (place : ℕ) (R : Invocation H → Invocation H → Type 0) (old new : List (Invocation H)) → NoneAt place old new ⊎ ChangesOne place R old new → Unseen place old new ⊎ Seen place R old new
seen_at place R old new (inl h) = inl (record { none = get_past old place h.0; far = h.0; same = h.1 })
seen_at place R old new (inr c) = inr (seen_one place R old new c)

pub some_in : {A : Type 0} (o : Option A) (x y : A) → o ≡ Some x → o ≡ Some y → x ≡ y
some_in o x y e f = let g : Some x ≡ Some y = sym e ∙ f in cc

pub grows_seen : {H : Type 0} (place : ℕ) (R : Invocation H → Invocation H → Type 0) (old new : Engine H) → old.clock ≤ new.clock → new.targets ≡ old.targets → (s : Seen place R old.invocations.items new.invocations.items) → GrowsOne s.before s.after → Grows old new
grows_seen place R old new clock targets s g = record {
  clock = clock;
  targets = targets;
  each = λ i it e. elim (cases_eq i place) as (λ _. (it' : Invocation _) × (slice_get new.invocations.items i ≡ Some it') × GrowsOne it it') [
    | inl same ↦
        let b : s.before ≡ it = some_in (slice_get old.invocations.items place) s.before it s.was (ap (slice_get old.invocations.items) (sym same) ∙ e) in
        (s.after, ap (slice_get new.invocations.items) same ∙ s.is, subst (λ z. GrowsOne z s.after) b g)
    | inr ne ↦ (it, s.others i ne ∙ e, grows_not it)
  ];
}

pub grows_same : {H : Type 0} (old new : Engine H) → old.clock ≤ new.clock → new.targets ≡ old.targets → new.invocations.items ≡ old.invocations.items → Grows old new
grows_same old new clock targets same = record {
  clock = clock;
  targets = targets;
  each = λ i it e. (it, ap (λ l. slice_get l i) same ∙ e, grows_not it);
}

-- ---- what is looked up stays

and_then_some : {A B : Type 0} (f : A → Option B) (o : Option A) (y : B) → option_and_then f o ≡ Some y → (x : A) × (o ≡ Some x) × (f x ≡ Some y)
and_then_some f None y e = absurd (cc)
and_then_some f (Some x) y e = (x, refl, e)

map_some : {A B : Type 0} (f : A → B) (o : Option A) (y : B) → option_map f o ≡ Some y → (x : A) × (o ≡ Some x) × (f x ≡ y)
map_some f None y e = absurd (cc)
map_some f (Some x) y e = (x, refl, cc)

pub callee_grows : {H : Type 0} (old new : Engine H) (by call : ℕ) (row : Callee) → Grows old new → callee_of old.invocations.items by call ≡ Some row → callee_of new.invocations.items by call ≡ Some row
callee_grows old new by call row g e =
    let (it, was, f) = and_then_some (λ (it : Invocation _). callee_in call it.callees.items) (slice_get old.invocations.items by) row e in
    let (it', is, h) = g.each by it was in
    ap (option_and_then (λ (it : Invocation _). callee_in call it.callees.items)) is ∙ h.rows call row f

pub id_grows : {H : Type 0} (old new : Engine H) (place : Option ℕ) (text : List ℕ) → Grows old new → callee_id old.invocations.items place ≡ Some text → callee_id new.invocations.items place ≡ Some text
id_grows old new None text g e = e
id_grows old new (Some place) text g e =
    let (it, was, f) = map_some (λ (it : Invocation _). it.id) (slice_get old.invocations.items place) text e in
    let (it', is, h) = g.each place it was in
    ap (option_map (λ (it : Invocation _). it.id)) is ∙ ap (λ t. Some t) (ap (λ (z : Invocation _). z.id) h.same ∙ f)

pub result_grows : {H : Type 0} (old new : Engine H) (place : Option ℕ) (ends : ValueOrFailure) → Grows old new → callee_result old.invocations.items place ≡ Some ends → callee_result new.invocations.items place ≡ Some ends
result_grows old new None ends g e = e
result_grows old new (Some place) ends g e =
    let (it, was, f) = and_then_some (λ (it : Invocation _). it.ended) (slice_get old.invocations.items place) ends e in
    let (it', is, h) = g.each place it was in
    ap (option_and_then (λ (it : Invocation _). it.ended)) is ∙ h.ended ends f

pub right_grows : {H : Type 0} (old new : Engine H) (by : ℕ) (w : Waiting) (r : NotificationResult) → Grows old new → IsRight old by w r → IsRight new by w r
right_grows old new by (waiting.Id call) r g h = record {
  row = h.row;
  called = callee_grows old new by call h.row g h.called;
  text = h.text;
  named = id_grows old new h.row.place h.text g h.named;
  gets = h.gets;
}
right_grows old new by (waiting.Outcome id call) r g h = record {
  row = h.row;
  called = callee_grows old new by call h.row g h.called;
  ends = h.ends;
  ended = result_grows old new h.row.place h.ends g h.ended;
  gets = h.gets;
}
right_grows old new by (waiting.Clock timer) r g h = (h.0, omega (arith, h.1, g.clock))
right_grows old new by (waiting.Signal s brings) r g h = tt

first_of : {H : Type 0} (x : List ℕ) (o : Option (MemberView H)) → HasFirst x o → (m : MemberView H) × (o ≡ Some m) × (slice_get m.course.journal 0 ≡ Some x)
first_of x None h = absurd h
first_of x (Some m) h = (m, refl, h)

begun_grows : {H : Type 0} (by target : ℕ) (b : Beginning) (it it' : Invocation H) → GrowsOne it it' → WasBegun by target b it → WasBegun by target b it'
begun_grows by target b it it' g w =
    let (m, there, input) = first_of _ it'.member (g.first _ (subst (HasFirst _) (sym w.there) w.input)) in
    record {
      begun = ap (λ (z : Invocation _). z.begun) g.same ∙ w.begun;
      target_is = ap (λ (z : Invocation _). z.target) g.same ∙ w.target_is;
      begins = ap (λ (z : Invocation _). z.begins) g.same ∙ w.begins;
      key = ap (λ (z : Invocation _). z.key) g.same ∙ w.key;
      asked = ap (λ (z : Invocation _). z.idempotency_key) g.same ∙ w.asked;
      rounds = m;
      there = there;
      input = input;
    }

pub found_grows : {H : Type 0} (target : ℕ) (b : Beginning) (it it' : Invocation H) → GrowsOne it it' → WasFound target b it → WasFound target b it'
found_grows target b it it' g w = record {
  asked = w.asked;
  keyed = w.keyed;
  same = ap (λ (z : Invocation _). is_same target b.key w.asked z) g.same ∙ w.same;
}

pub place_grows : {H : Type 0} (old new : Engine H) (by : ℕ) (b : Beginning) (place : Option ℕ) → Grows old new → IsCalleeOf old by b place → IsCalleeOf new by b place
place_grows old new by b None g h = ap (λ t. handler_named t.now b.service b.handler) g.targets ∙ h
place_grows old new by b (Some place) g h =
    let (it', is, k) = g.each place h.it h.there in
    record {
      target = h.target;
      called = ap (λ t. handler_named t.now b.service b.handler) g.targets ∙ h.called;
      it = it';
      there = is;
      meant = elim h.meant as (λ _. WasBegun by h.target b it' ⊎ WasFound h.target b it') [ inl w ↦ inl (begun_grows by h.target b h.it it' k w) | inr w ↦ inr (found_grows h.target b h.it it' k w) ];
    }

pub row_grows : {H : Type 0} (old new : Engine H) (by : ℕ) (b : Beginning) (row : Callee) → Grows old new → IsRowOf old by b row → IsRowOf new by b row
row_grows old new by b row g h = (h.0, place_grows old new by b row.place g h.1)

pub once_grows : {H : Type 0} (old new : Engine H) (place : ℕ) (begun : Option Begun) → Grows old new → IsBegunOnce old place begun → IsBegunOnce new place begun
once_grows old new place None g h = tt
once_grows old new place (Some b) g h = callee_grows old new b.by b.call (record { call = b.call; place = Some place }) g h

-- ---- turns

none_third : (b c d : Bool) → (true && c && d) ≡ false → (b && c && d) ≡ false
none_third true c d e = e
none_third false c d e = refl

-- what isn't before it stays so
apart_grows : {H : Type 0} (old new : Engine H) (own own' it it' : Invocation H) → new.targets ≡ old.targets → GrowsOne own own' → GrowsOne it it' → is_before old.targets.now own it ≡ false → is_before new.targets.now own' it' ≡ false
apart_grows {H} old new own own' it it' targets g h e =
    ap (λ t. is_before t.now own' it') targets ∙ ap (λ (z : Invocation _). is_before old.targets.now z it') g.same ∙ by it.ended refl e
  where
    is_rest : is_before old.targets.now own it' ≡ (is_none it'.ended && is_text it.key own.key && share old.targets.now it.target own.target)
    is_rest = ap (λ (z : Invocation _). is_none it'.ended && is_text z.key own.key && share old.targets.now z.target own.target) h.same

    by : (o : Option ValueOrFailure) → it.ended ≡ o → (is_none o && is_text it.key own.key && share old.targets.now it.target own.target) ≡ false → is_before old.targets.now own it' ≡ false
    by None was f = is_rest ∙ none_third (is_none it'.ended) (is_text it.key own.key) (share old.targets.now it.target own.target) f
    by (Some r) was f = is_rest ∙ ap (λ o. is_none o && is_text it.key own.key && share old.targets.now it.target own.target) (h.ended r was)

pub turn_grows : {H : Type 0} (old new : Engine H) (place : ℕ) (own own' : Invocation H) → Grows old new → GrowsOne own own' → HasTurn old place own → HasTurn new place own'
turn_grows old new place own own' g h t j lt =
    let (it, was, apart) = t j lt in
    let (it', is, k) = g.each j it was in
    (it', is, apart_grows old new own own' it it' g.targets h k apart)

first_false : (b c : Bool) → (b || c) ≡ false → b ≡ false
first_false true c e = e
first_false false c e = refl

second_false : (b c : Bool) → (b || c) ≡ false → c ≡ false
second_false true c e = let x : true ≡ false = e in absurd (cc)
second_false false c e = e

-- by the test of all that were made before it
none_before : {A : Type 0} (p : A → Bool) (xs : List A) (place : ℕ) → place ≤ length xs → list_any p (take place xs) ≡ false → (j : ℕ) → j < place → (x : A) × (slice_get xs j ≡ Some x) × (p x ≡ false)
none_before p xs zero le e j lt = absurd (omega (arith, lt))
none_before p [] (suc n) le e j lt = absurd (omega (arith, le))
none_before p (x ∷ xs) (suc n) le e zero lt = (x, refl, first_false (p x) (list_any p (take n xs)) e)
none_before p (x ∷ xs) (suc n) le e (suc j) lt = none_before p xs n (omega (arith, le)) (second_false (p x) (list_any p (take n xs)) e) j (omega (arith, lt))

not_true : (b : Bool) → not b ≡ true → b ≡ false
not_true true e = let x : false ≡ true = e in absurd (cc)
not_true false e = refl

and_second : (b c : Bool) → (b && c) ≡ true → c ≡ true
and_second true c e = e
and_second false c e = let x : false ≡ true = e in absurd (cc)

-- what may begin has its turn
pub begins_in_turn : {H : Type 0} (e : Engine H) (place : ℕ) (own : Invocation H) → slice_get e.invocations.items place ≡ Some own → may_begin e place ≡ true → HasTurn e place own
begins_in_turn e place own was may =
    let all : (is_none own.ended && nat_le own.begins e.clock && has_turn e place own) ≡ true = sym (ap (can_begin e place) was) ∙ may in
    let lt : place < length e.invocations.items = get_within e.invocations.items place own was in
    none_before (is_before e.targets.now own) e.invocations.items place (omega (arith, lt)) (not_true (list_any (is_before e.targets.now own) (take place e.invocations.items)) (and_second (is_none own.ended && nat_le own.begins e.clock) (has_turn e place own) all))
