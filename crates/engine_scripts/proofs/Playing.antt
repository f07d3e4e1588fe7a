-- Events of a script, one after another, and what they leave.
use Rattle.std.proofs.Common.{◌≡◌, ◌<◌, ◌≤◌, ◌+◌, ◌-◌, ◌^◌, ◌∙◌, ℕ, zero, suc, Bool, true, false, List, [], ◌∷◌, ◌++◌, length, refl, sym, subst, arith}
use Rattle.std.specs.Prelude.{if◌then◌else◌, nat_lt}
use Rattle.std.specs.List.{AllByRecursion}
use Rattle.call_lines.specs.declared.plan.Plan.{Plan}
use Rattle.engines.proofs.Keeping.{kept_from_nothing}
use Rattle.engines.specs.Between.{AllKept}
use Rattle.engines.specs.Deliveries.{AllDelivered, AreDelivered, inbox_at, next_at}
use Rattle.engines.specs.Engines.{AllHappen}
use Rattle.engines.specs.declared.engine.Engine.{Engine}
use Rattle.engines.specs.declared.types.Happening.{Happening}
use Rattle.engines.specs.declared.types.Happening.TheVariants as happening
use Rattle.engine_lines.specs.declared.said.Deed.{Deed}
use Rattle.engine_lines.specs.declared.said.Deed.TheVariants as deed
use Rattle.engine_lines.specs.declared.said.Event.{Event}
use Rattle.engine_lines.specs.declared.said.Event.TheVariants as event
use Rattle.engine_lines.specs.declared.script.Numbered.{Numbered}
use Rattle.engine_scripts.specs.Events.{DeedDoes, EventDoes, HappenOf, HappensOnce, SettlesTimes, SettlesAtMost, SettlesFrom, SettlesOnce, SettlesOne, plan_meaning}
use Rattle.engine_scripts.specs.Runs.{AllDo, TellsEvent}

-- ---- events of an engine

-- events after others
pub happen_both : (es fs : List Happening) (a b c : Engine Plan) → AllHappen plan_meaning es a b → AllHappen plan_meaning fs b c → AllHappen plan_meaning (es ++ fs) a c
happen_both [] fs a b c is more = subst (λ e. AllHappen plan_meaning fs e c) is more
happen_both (e ∷ es) fs a b c (mid, one, rest) more = (mid, one, happen_both es fs mid b c rest more)

such_both : (Such : Happening → Type 0) (es fs : List Happening) → AllByRecursion Such es → AllByRecursion Such fs → AllByRecursion Such (es ++ fs)
such_both Such [] fs all more = more
such_both Such (e ∷ es) fs (one, all) more = (one, such_both Such es fs all more)

-- nothing happens
pub happens_none : (Such : Happening → Type 0) (e : Engine Plan) → HappenOf Such e e
happens_none Such e = record { events = []; happen = refl; such = tt }

-- one event happens
pub happens_one : (Such : Happening → Type 0) (it : Happening) (old new : Engine Plan) → Such it → HappensOnce it old new → HappenOf Such old new
happens_one Such it old new is does = record { events = it ∷ []; happen = (new, does.does, refl); such = (is, tt) }

-- more happens
pub happens_then : (Such : Happening → Type 0) (a b c : Engine Plan) → HappenOf Such a b → HappenOf Such b c → HappenOf Such a c
happens_then Such a b c first second = record {
  events = first.events ++ second.events;
  happen = happen_both first.events second.events a b c first.happen second.happen;
  such = such_both Such first.events second.events first.such second.such;
}

-- such events are others too
such_all : (Such Other : Happening → Type 0) (es : List Happening) → ((e : Happening) → Such e → Other e) → AllByRecursion Such es → AllByRecursion Other es
such_all Such Other [] turns all = tt
such_all Such Other (e ∷ es) turns (one, all) = (turns e one, such_all Such Other es turns all)

pub happens_as : (Such Other : Happening → Type 0) (old new : Engine Plan) → ((e : Happening) → Such e → Other e) → HappenOf Such old new → HappenOf Other old new
happens_as Such Other old new turns h = record { events = h.events; happen = h.happen; such = such_all Such Other h.events turns h.such }

-- one store more
pub stored_more : (place : ℕ) (first now next : Engine Plan) → HappenOf (λ it. it ≡ happening.Store place) first now → HappensOnce (happening.Store place) now next → HappenOf (λ it. it ≡ happening.Store place) first next
stored_more place first now next so_far does = happens_then (λ it. it ≡ happening.Store place) first now next so_far (happens_one (λ it. it ≡ happening.Store place) (happening.Store place) now next refl does)

-- ---- deliveries of all that waits

-- What the deliveries that are left do after those so far, all do.
abbrev pub DeliversOn : ℕ → Engine Plan → ℕ → ℕ → Engine Plan → Type 0
DeliversOn place first at left now = (last : Engine Plan) → AreDelivered plan_meaning place left at now last → AllDelivered plan_meaning place first last

pub delivers_none : (place left : ℕ) (first : Engine Plan) → left ≡ length (inbox_at first place) → DeliversOn place first 0 left first
delivers_none place left first is last h = subst (λ n. AreDelivered plan_meaning place n 0 first last) is h

pub delivers_more : (place at left fewer moved : ℕ) (first now next : Engine Plan) → DeliversOn place first at left now → left ≡ suc fewer → HappensOnce (happening.Deliver place at) now next → moved ≡ next_at place at now next → DeliversOn place first moved fewer next
delivers_more place at left fewer moved first now next on is does moves last h =
    on last (subst (λ n. AreDelivered plan_meaning place n at now last) (sym is) (next, does.does, subst (λ k. AreDelivered plan_meaning place fewer k next last) moves h))

-- where to look next, by the lengths of the inbox before and after a delivery
pub moves_to : (place at was is to : ℕ) (now next : Engine Plan) → was ≡ length (inbox_at now place) → is ≡ length (inbox_at next place) → to ≡ (if nat_lt is was then at else suc at) → to ≡ next_at place at now next
moves_to place at was is to now next before after e = e ∙ (λ i. if nat_lt (after i) (before i) then at else suc at)

-- there is room for the places to come
pub room_left : (at left to is was : ℕ) → at + left < 2 ^ 64 → 0 < left → to ≡ (if nat_lt is was then at else suc at) → to + (left - 1) < 2 ^ 64
room_left at left to is was room some e = by_test (nat_lt is was) e
  where
    by_test : (b : Bool) → to ≡ (if b then at else suc at) → to + (left - 1) < 2 ^ 64
    by_test true same = omega (arith, room, some, same)
    by_test false next = omega (arith, room, some, next)

pub one_less : (left : ℕ) → 0 < left → left ≡ suc (left - 1)
one_less left some = omega (arith, some)

pub delivers_all : (place at left : ℕ) (first now : Engine Plan) → DeliversOn place first at left now → left ≡ 0 → AllDelivered plan_meaning place first now
delivers_all place at left first now on none = on now (subst (λ n. AreDelivered plan_meaning place n at now now) (sym none) refl)

-- ---- invocations settle

-- What the invocations that are left do after those so far, all do.
abbrev pub SettlesOn : ℕ → Engine Plan → Engine Plan → Type 0
SettlesOn place first now = (last : Engine Plan) → SettlesFrom place (length first.invocations.items - place) now last → SettlesOnce first last

pub settles_none : (first : Engine Plan) → SettlesOn 0 first first
settles_none first last h =
    let all : length first.invocations.items - 0 ≡ length first.invocations.items = omega arith in
    subst (λ n. SettlesFrom 0 n first last) all h

pub settles_more : (place : ℕ) (first now next : Engine Plan) → SettlesOn place first now → place < length first.invocations.items → SettlesOne place now next → SettlesOn (place + 1) first next
settles_more place first now next on lt one last h =
    let left : length first.invocations.items - place ≡ suc (length first.invocations.items - (place + 1)) = omega (arith, lt) in
    let step : place + 1 ≡ suc place = omega arith in
    on last (subst (λ n. SettlesFrom place n now last) (sym left) (next, one, subst (λ k. SettlesFrom k (length first.invocations.items - (place + 1)) next last) step h))

pub settles_all : (place : ℕ) (first now : Engine Plan) → SettlesOn place first now → length first.invocations.items ≤ place → SettlesOnce first now
settles_all place first now on le =
    let none : length first.invocations.items - place ≡ 0 = omega (arith, le) in
    on now (subst (λ n. SettlesFrom place n now now) (sym none) refl)

-- Some number of times so far, and this number are left.
pub record SettlesSome (most left : ℕ) (old new : Engine Plan) : Type 0 where
  pub count : ℕ
  pub few : count + left ≤ most
  pub settles : SettlesTimes count old new

pub some_none : (most : ℕ) (old : Engine Plan) → SettlesSome most most old old
some_none most old = record { count = 0; few = omega arith; settles = refl }

pub some_more : (most left fewer : ℕ) (old now next : Engine Plan) → SettlesSome most left old now → left ≡ suc fewer → SettlesOnce now next → SettlesSome most fewer old next
some_more most left fewer old now next so_far is once =
    let few : so_far.count + left ≤ most = so_far.few in
    record { count = suc so_far.count; few = omega (arith, few, is); settles = (now, so_far.settles, once) }

pub some_at_most : (most left : ℕ) (old new : Engine Plan) → SettlesSome most left old new → SettlesAtMost most old new
some_at_most most left old new h = let few : h.count + left ≤ most = h.few in record { count = h.count; few = omega (arith, few); settles = h.settles }

-- ---- events of a script

abbrev Any : Happening → Type 0
Any e = Unit {0}

once : (it : Happening) (old new : Engine Plan) → HappensOnce it old new → HappenOf Any old new
once it old new does = happens_one Any it old new tt does

any : (Such : Happening → Type 0) (old new : Engine Plan) → HappenOf Such old new → HappenOf Any old new
any Such old new h = happens_as Such Any old new (λ e is. tt) h

-- deliveries are events
deliveries : (place count at : ℕ) (old new : Engine Plan) → AreDelivered plan_meaning place count at old new → HappenOf Any old new
deliveries place zero at old new same = subst (λ e. HappenOf Any old e) (sym same) (happens_none Any old)
deliveries place (suc count) at old new (mid, one, more) = happens_then Any old mid new (happens_one Any (happening.Deliver place at) old mid tt (record { does = one })) (deliveries place count (next_at place at old mid) mid new more)

-- and so are all by which invocations settle
settled_one : (place : ℕ) (old new : Engine Plan) → SettlesOne place old new → HappenOf Any old new
settled_one place old new s =
    happens_then Any old s.stored new (happens_then Any old s.stepped s.stored (happens_then Any old s.fed s.stepped (happens_then Any old s.begun s.fed (once _ old s.begun s.begins) (once _ s.begun s.fed s.feeds)) (once _ s.fed s.stepped s.steps)) (any _ s.stepped s.stored s.stores))
    (deliveries place (length (inbox_at s.stored place)) 0 s.stored new s.delivers)

settled_from : (place count : ℕ) (old new : Engine Plan) → SettlesFrom place count old new → HappenOf Any old new
settled_from place zero old new same = subst (λ e. HappenOf Any old e) (sym same) (happens_none Any old)
settled_from place (suc count) old new (mid, one, more) = happens_then Any old mid new (settled_one place old mid one) (settled_from (suc place) count mid new more)

settled : (count : ℕ) (old new : Engine Plan) → SettlesTimes count old new → HappenOf Any old new
settled zero old new same = subst (λ e. HappenOf Any old e) (sym same) (happens_none Any old)
settled (suc count) old new (mid, so_far, last) = happens_then Any old mid new (settled count old mid so_far) (settled_from 0 (length mid.invocations.items) mid new last)

deed_happens : (place : ℕ) (does : Deed) (old new : Engine Plan) → DeedDoes place does old new → HappenOf Any old new
deed_happens place deed.Begin old new h = once _ old new h
deed_happens place (deed.Piece n) old new h = once _ old new h
deed_happens place deed.Close old new h = once _ old new h
deed_happens place (deed.Steps n) old new h = once _ old new h
deed_happens place (deed.RunResult p) old new h = once _ old new h
deed_happens place (deed.Deliver at) old new h = once _ old new h
deed_happens place deed.DeliverAll old new h = deliveries place (length (inbox_at old place)) 0 old new h
deed_happens place (deed.Store n) old new h = any _ old new h
deed_happens place deed.Stop old new h = once _ old new h

event_happens : (e : Event) (old new : Engine Plan) → EventDoes e old new → HappenOf Any old new
event_happens (event.Submit asked) old new h = once _ old new h
event_happens (event.To number does) old new h = deed_happens number does old new h
event_happens event.Crash old new h = once _ old new h
event_happens (event.Clock time) old new h = once _ old new h
event_happens (event.Settle times) old new h = settled h.count old new h.settles

all_happen : (ns : List Numbered) (old : Engine Plan) (told : List ℕ) (new : Engine Plan) (report : List ℕ) → AllDo ns old told new report → HappenOf Any old new
all_happen [] old told new report h = subst (λ e. HappenOf Any old e) (sym h.0) (happens_none Any old)
all_happen (n ∷ ns) old told new report (mid, next, one, rest) = happens_then Any old mid new (event_happens n.event old mid one.does) (all_happen ns mid next new report rest)

-- what all events leave keeps calls
pub all_kept : (ns : List Numbered) (old : Engine Plan) (told : List ℕ) (new : Engine Plan) (report : List ℕ) → old.invocations.items ≡ [] → AllDo ns old told new report → AllKept new
all_kept ns old told new report none h =
    let all = all_happen ns old told new report h in
    kept_from_nothing plan_meaning all.events old new none all.happen

-- ---- one event after another

-- What the other events do after those so far, all do.
abbrev pub DoesOn : List Numbered → List Numbered → Engine Plan → List ℕ → Engine Plan → List ℕ → Type 0
DoesOn all rest first told now so_far = (last : Engine Plan) (report : List ℕ) → AllDo rest now so_far last report → AllDo all first told last report

pub does_none : (all : List Numbered) (first : Engine Plan) (told : List ℕ) → DoesOn all all first told first told
does_none all first told last report h = h

pub does_more : (all left rest : List Numbered) (n : Numbered) (first : Engine Plan) (told : List ℕ) (now : Engine Plan) (so_far : List ℕ) (later : Engine Plan) (more : List ℕ) → DoesOn all left first told now so_far → left ≡ n ∷ rest → TellsEvent n now so_far later more
    → DoesOn all rest first told later more
does_more all left rest n first told now so_far later more on is one last report h = on last report (subst (λ ns. AllDo ns now so_far last report) (sym is) (later, more, one, h))

pub does_all : (all left : List Numbered) (first : Engine Plan) (told : List ℕ) (now : Engine Plan) (so_far : List ℕ) → DoesOn all left first told now so_far → length left ≡ 0 → AllDo all first told now so_far
does_all all [] first told now so_far on none = on now so_far (refl, refl)
does_all all (n ∷ left) first told now so_far on none = absurd (omega arith)
