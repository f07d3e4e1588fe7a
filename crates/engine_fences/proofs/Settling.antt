-- What has ended stays as it is, so what it leaves to later invocations of its key is settled.
use Rattle.std.proofs.Common.{◌≡◌, zero, suc, ℕ, ◌<◌, Bool, true, false, List, [], ◌∷◌, take, Option, Some, None, refl, sym, ap, ◌∙◌, subst, arith}
use Rattle.std.specs.Prelude.{◌&&◌, is_none, is_some, slice_get}
use Rattle.journal_entries.specs.Entries.{said_in}
use Rattle.vm_model.specs.Calls.{Meaning}
use Rattle.vm_model.specs.Moves.{changed_by}
use Rattle.vm_state.specs.declared.state_map.StateMap.{StateMap}
use Rattle.journal_protocol.specs.ValueOrFailure.{ValueOrFailure}
use Rattle.engine_inboxes.proofs.Coming.{none_some, some_same}
use Rattle.engines.specs.declared.engine.Engine.{Engine}
use Rattle.engines.specs.declared.engine.Invocation.{Invocation}
use Rattle.engines.specs.declared.types.Happening.{Happening}
use Rattle.engine_inboxes.specs.declared.target.Target.{Target}
use Rattle.engines.specs.Between.{AllKept, HasBegun, HasTurn}
use Rattle.engines.specs.Engines.{AllHappen}
use Rattle.engine_inboxes.specs.Targets.{is_text, share}
use Rattle.engines.specs.Lookups.{is_before}
use Rattle.engines.specs.Members.{MemberView}
use Rattle.engines.proofs.Growing.{some_in}
use Rattle.engines.specs.HandedOn.{left_along, no_values, shares_key, state_left, stored_of}
use Rattle.engine_fences.specs.KeyStates.{AreSettled, IsHandedAlike}
use Rattle.engine_fences.proofs.Events.{AllHold, Always, Any, Holds, any_may, event_holds, hold_then, none_holds}

-- ---- over all events

-- Its key and its handler stay; if it has ended, so do its end and what it has stored.
pub record StaysEnded {H : Type 0} (a b : Invocation H) : Type 0 where
  pub key : b.key ≡ a.key
  pub target : b.target ≡ a.target
  pub ended : is_some a.ended ≡ true → (is_some b.ended ≡ true) × (stored_of b.member ≡ stored_of a.member)

ended_then : {H : Type 0} (a b c : Invocation H) → StaysEnded a b → StaysEnded b c → StaysEnded a c
ended_then a b c f g = record {
  key = g.key ∙ f.key;
  target = g.target ∙ f.target;
  ended = λ e.
      let x = f.ended e in
      let y = g.ended x.0 in
      (y.0, y.1 ∙ x.1);
}

-- its rounds change, and it has ended only if nothing is stored by that
rounds_change : {H : Type 0} (it : Invocation H) (m m' : MemberView H) → it.member ≡ Some m → (is_some it.ended ≡ true → m'.course.journal ≡ m.course.journal) → StaysEnded it (record it { member = Some m' })
rounds_change it m m' was same = record { key = refl; target = refl; ended = λ e. (e, same e ∙ ap stored_of (sym was)) }

not_both : (b : Bool) → b ≡ false → b ≡ true → ⊥
not_both b is_not is = let x : true ≡ false = sym is ∙ is_not in cc

so_stays : {H : Type 0} → Holds (StaysEnded {H = H}) Any Always
so_stays {H} = record {
  same = λ it. record { key = refl; target = refl; ended = λ e. (e, refl) };
  next = ended_then;
  goes = λ it m m' was journal waits ids options on. rounds_change it m m' was (λ e. journal);
  gets = λ it m s was. rounds_change it m _ was (λ e. refl);
  comes = λ it m m' at w b f was going waits may d. rounds_change it m m' was (λ e. absurd (not_both (is_some it.ended) going e));
  stores = λ it m m' asks f was going d. rounds_change it m m' was (λ e. absurd (not_both (is_some it.ended) going e));
  ends = λ it r. record { key = refl; target = refl; ended = λ e. (refl, refl) };
  calls = λ a b is. record {
    key = ap (λ (z : Invocation H). z.key) is;
    target = ap (λ (z : Invocation H). z.target) is;
    ended = λ e. (ap (λ (z : Invocation H). is_some z.ended) is ∙ e, ap (λ (z : Invocation H). stored_of z.member) is);
  };
}

pub all_stay : {H : Type 0} (meaning : H → Meaning) (es : List Happening) (old new : Engine H) → AllHappen meaning es old new → AllHold StaysEnded old new
all_stay {H} meaning [] old new d = none_holds StaysEnded Any Always so_stays old new d
all_stay {H} meaning (e ∷ es) old new (mid, first, more) = hold_then StaysEnded Any Always so_stays old mid new (event_holds StaysEnded Any Always so_stays meaning e old mid (any_may so_stays old e) first) (all_stay meaning es mid new more)

-- ---- the state that is handed on

-- what one leaves to an invocation that it has to end before
left_same : {H : Type 0} (targets : List (Target H)) (own own' it it' : Invocation H) (state : StateMap) → own'.key ≡ own.key → own'.target ≡ own.target → StaysEnded it it' → is_before targets own it ≡ false → state_left (shares_key targets own' it') it' state ≡ state_left (shares_key targets own it) it state
left_same {H} targets own own' it it' state key target s none =
    ap (λ b. state_left b it' state) shares ∙ by (shares_key targets own it) refl
  where
    shares : shares_key targets own' it' ≡ shares_key targets own it
    shares = λ i. is_text (s.key i) (key i) && share targets (s.target i) (target i)

    has_ended : (o : Option ValueOrFailure) → it.ended ≡ o → shares_key targets own it ≡ true → is_some it.ended ≡ true
    has_ended None was same =
        let x : is_before targets own it ≡ true = ap (λ o. is_none o && is_text it.key own.key && share targets it.target own.target) was ∙ same in
        absurd (let y : true ≡ false = sym x ∙ none in cc)
    has_ended (Some r) was same = ap (λ o. is_some o) was

    by : (b : Bool) → shares_key targets own it ≡ b → state_left b it' state ≡ state_left b it state
    by false e = refl
    by true e = ap (λ (journal : List (List ℕ)). changed_by (said_in journal) state) (s.ended (has_ended it.ended refl e)).1

-- what all those before it leave
along_same : {H : Type 0} (targets : List (Target H)) (own own' : Invocation H) (place : ℕ) (old new : List (Invocation H)) (state : StateMap) → own'.key ≡ own.key → own'.target ≡ own.target
    → ((j : ℕ) → j < place → (it : Invocation H) × (it' : Invocation H) × (slice_get old j ≡ Some it) × (slice_get new j ≡ Some it') × StaysEnded it it' × (is_before targets own it ≡ false))
    → left_along targets own' (take place new) state ≡ left_along targets own (take place old) state
along_same targets own own' zero old new state key target each = refl
along_same targets own own' (suc n) [] new state key target each =
    let (it, it', was, is, s, none) = each 0 (omega arith) in
    absurd (none_some it was)
along_same targets own own' (suc n) (x ∷ xs) [] state key target each =
    let (it, it', was, is, s, none) = each 0 (omega arith) in
    absurd (none_some it' is)
along_same {H} targets own own' (suc n) (x ∷ xs) (y ∷ ys) state key target each =
    let (it, it', was, is, s, none) = each 0 (omega arith) in
    let a : x ≡ it = some_same x it was in
    let b : y ≡ it' = some_same y it' is in
    let one : state_left (shares_key targets own' y) y state ≡ state_left (shares_key targets own x) x state =
    subst (λ (z : Invocation H). state_left (shares_key targets own' z) z state ≡ state_left (shares_key targets own x) x state) (sym b)
    (subst (λ (z : Invocation H). state_left (shares_key targets own' it') it' state ≡ state_left (shares_key targets own z) z state) (sym a) (left_same targets own own' it it' state key target s none)) in
    ap (left_along targets own' (take n ys)) one ∙ along_same targets own own' n xs ys (state_left (shares_key targets own x) x state) key target (λ j lt. each (suc j) (omega (arith, lt)))

-- so it is settled once it is an invocation's turn
pub turn_settles : {H : Type 0} (place : ℕ) (it : Invocation H) (old new : Engine H) → slice_get old.invocations.items place ≡ Some it → HasTurn old place it → AllHold StaysEnded old new → IsHandedAlike place it old new
turn_settles {H} place it old new was turn all =
    let (it', there, s) = all.each place it was in
    record {
      later = it';
      there = there;
      handed =
          ap (λ t. left_along t.now it' (take place new.invocations.items) no_values) all.targets
          ∙ along_same old.targets.now it it' place old.invocations.items new.invocations.items no_values s.key s.target
          (λ j lt.
          let (x, had, none) = turn j lt in
          let (y, has, stay) = all.each j x had in
          (x, y, had, has, stay, none));
    }

-- and once it has begun
pub begun_settles : {H : Type 0} (old new : Engine H) → AllKept old → AllHold StaysEnded old new → AreSettled old new
begun_settles old new kept all place it m was is begun =
    let k = kept place it was in
    turn_settles place it old new was (k.turn (subst HasBegun (some_in it.member m k.rounds is k.there) begun)) all

pub settled : {H : Type 0} (meaning : H → Meaning) (es : List Happening) (old new : Engine H) → AllKept old → AllHappen meaning es old new → AreSettled old new
settled meaning es old new kept d = begun_settles old new kept (all_stay meaning es old new d)
