-- A call of a machine that returns an error has failed it.
use Rattle.std.proofs.Common.{◌≡◌, List, [], ◌∷◌, Option, Some, None, Result, Ok, Err, inl, inr, refl, sym, ap, subst, ◌∙◌}
use Rattle.std.specs.Prelude.{OnErr}
use Rattle.std.specs.declared.alloc.AllocError.{AllocError}
use Rattle.await_trees.specs.declared.handle.NotificationHandle.{NotificationHandle}
use Rattle.journal_protocol.specs.Error.{Error}
use Rattle.journal_protocol.specs.Errors.{no_memory}
use Rattle.journal_protocol.specs.RawMessage.{RawMessage}
use Rattle.vm_asks.specs.declared.command.Command.{Command}
use Rattle.vm_machine.specs.declared.machine.Machine.{Machine}
use Rattle.vm_machine.specs.Outcomes.{CalledAt, CalledBy, Does, DoesBy, Done, Failed, IsStarved, Outcome, called, called_at, settled}
use Rattle.vm_machine.specs.Several.{BehindFirst, MakesAll, MakesOne, answered_so, commanded_before}
use Rattle.vm_types.specs.declared.reply.Reply.{Reply}
use Rattle.vm_types.specs.declared.reply.Reply.TheVariants as reply
use Rattle.vm_calls.specs.Called.{Answers, FeedsVm, RepliesWith, reply_of, reply_or_memory}
use Rattle.invocation_vm.specs.Calls.{CallsAllFor, result_by}
use Rattle.invocation_vm.specs.Views.{Calls, CallsBy, StarvesAmong, View, left_by}

some_none : {A : Type 0} {x : A} {o : Option A} → o ≡ Some x → o ≡ None → ⊥
some_none e h = cc

starved_fails : (reached new : Machine) (e : Error) → IsStarved reached e new → new.failure ≡ None → ⊥
starved_fails reached new e s none = some_none s.failure none

settled_fails : {A : Type 0} (o : Outcome A) (e : Error) (new : Machine) → settled o ≡ Failed e new → new.failure ≡ None → ⊥
settled_fails (Done a w) e new h none = cc
settled_fails (Failed e' w) e new h none = some_none (sym (ap (λ o. (left_by o).failure) h)) none

at_fails : {A : Type 0} (f : Option Error) (o : Outcome A) (v : Machine) (e : Error) (new : Machine) → v.failure ≡ f → called_at f o v ≡ Failed e new → new.failure ≡ None → ⊥
at_fails (Some x) o v e new fe h none = some_none (sym (ap (λ p. (left_by p).failure) h) ∙ fe) none
at_fails None o v e new fe h none = settled_fails o e new h none

called_fails : {A : Type 0} (o : Outcome A) (v : Machine) (e : Error) (new : Machine) → called o v ≡ Failed e new → new.failure ≡ None → ⊥
unfolding called
called_fails o v e new h none = at_fails v.failure o v e new refl h none

pub does_fails : {A : Type 0} (o : Outcome A) (v : Machine) (e : Error) (new : Machine) → Does (called o v) (Err e) v new → new.failure ≡ None → ⊥
does_fails o v e new d none = elim d [ inl h ↦ called_fails o v e new h none | inr s ↦ starved_fails v new e s none ]

by_fails : {A : Type 0} (f : Option Error) (R : Outcome A → Type 0) (v : Machine) (e : Error) (new : Machine) → v.failure ≡ f → CalledAt f R v (Failed e new) → new.failure ≡ None → ⊥
by_fails (Some x) R v e new fe h none = some_none (ap (λ p. (left_by p).failure) h ∙ fe) none
by_fails None R v e new fe h none = settled_fails h.0 e new (sym h.2) none

pub does_by_fails : {A : Type 0} (R : Outcome A → Type 0) (v : Machine) (e : Error) (new : Machine) → DoesBy (CalledBy R v) (Err e) v new → new.failure ≡ None → ⊥
does_by_fails R v e new d none = elim d [ inl h ↦ by_fails v.failure R v e new refl h none | inr s ↦ starved_fails v new e s none ]

-- ---- several commands

so_err : {A B : Type 0} (b : B) (r : Result A Error) (e : Error) → Err e ≡ answered_so b r → (x : Error) × (r ≡ Err x)
so_err b (Ok a) e h = absurd cc
so_err b (Err x) e h = (x, refl)

by_err : {A B : Type 0} (f : A → B) (r : Result A Error) (e : Error) → Err e ≡ result_by f r → (x : Error) × (r ≡ Err x)
by_err f (Ok a) e h = absurd cc
by_err f (Err x) e h = (x, refl)

behind_fails : (Next : Result NotificationHandle Error → Machine → Machine → Type 0) → ((e : Error) (mid new : Machine) → Next (Err e) mid new → new.failure ≡ None → ⊥)
    → (first : Result NotificationHandle Error) (e : Error) (mid new : Machine) → ((x : Error) → first ≡ Err x → mid.failure ≡ None → ⊥)
    → BehindFirst Next first (Err e) mid new → new.failure ≡ None → ⊥
behind_fails Next fails (Ok handle) e mid new stays b none =
    let x = so_err handle b.0 e b.2 in
    fails x.0 mid new (subst (λ r. Next r mid new) x.1 b.1) none
behind_fails Next fails (Err x) e mid new stays b none = stays x refl (ap (λ (m : Machine). m.failure) (sym b.1) ∙ none)

one_fails : (c : Command) (cs : List Command) (r : Result NotificationHandle Error) (old mid : Machine) → MakesOne c cs r old mid → (x : Error) → r ≡ Err x → mid.failure ≡ None → ⊥
one_fails c cs r old mid m x is none = does_fails (commanded_before c cs old) old x mid (subst (λ z. Does (called (commanded_before c cs old) old) z old mid) is m.0) none

pub all_fail : (c : Command) (cs : List Command) (e : Error) (old new : Machine) → MakesAll c cs (Err e) old new → new.failure ≡ None → ⊥
all_fail c [] e old new m none = one_fails c [] (Err e) old new m e refl none
all_fail c (b ∷ bs) e old new m none = behind_fails (MakesAll b bs) (λ x mid w. all_fail b bs x mid w) m.0 e m.1 new (one_fails c (b ∷ bs) m.0 old m.1 m.2) m.3 none

-- ---- by their replies

-- what is done where a reply is an error has failed the VM
abbrev pub FailsIn : (Reply → View → View → Type 0) → Type 0
FailsIn makes = (e : Error) (old new : View) → makes (reply.Refused e) old new → new.machine.failure ≡ None → ⊥

-- no value is replied by an error
abbrev pub NoError : {A : Type 0} → (A → Reply) → Type 0
NoError {A} f = (a : A) (e : Error) → f a ≡ reply.Refused e → ⊥

-- what is done where the result is an error has failed the VM
abbrev pub ErrFails : {A : Type 0} → (Result A Error → View → View → Type 0) → Type 0
ErrFails Made = (e : Error) (old new : View) → Made (Err e) old new → new.machine.failure ≡ None → ⊥

pub same_refusal : {x y : Error} → reply.Refused x ≡ reply.Refused y → x ≡ y
same_refusal h = cc

pub given_err : {A : Type 0} (f : A → Reply) → NoError f → (given : Result A Error) (e : Error) → reply.Refused e ≡ reply_of f given → (x : Error) × (given ≡ Err x) × (e ≡ x)
given_err f other (Ok a) e told = absurd (other a e (sym told))
given_err f other (Err x) e told = (x, refl, same_refusal told)

pub replies_fail : {A : Type 0} (f : A → Reply) (Made : Result A Error → View → View → Type 0) → NoError f → ErrFails Made → FailsIn (RepliesWith f Made)
replies_fail f Made other fails e old new r none =
    let x = given_err f other r.given e r.told in
    fails x.0 old new (subst (λ z. Made z old new) x.1 r.calls) none

pub calls_fail : {A : Type 0} (step : Machine → Outcome A) → ErrFails (Calls step)
calls_fail step e old new c none = does_fails (step old.machine) old.machine e new.machine c.0 none

pub calls_by_fail : {A : Type 0} (R : Machine → Outcome A → Type 0) → ErrFails (CallsBy R)
calls_by_fail R e old new c none = does_by_fails (R old.machine) old.machine e new.machine c.0 none

pub answers_fail : {A : Type 0} (f : A → Reply) (step : Machine → Outcome A) → NoError f → FailsIn (Answers f step)
answers_fail f step other e old new r none =
    let x = given_err f other r.given e r.told in
    calls_fail step x.0 old new (subst (λ z. Calls step z old new) x.1 r.calls) none

pub all_for_fail : {A : Type 0} (f : NotificationHandle → A) (c : Command) (cs : List Command) → ErrFails (CallsAllFor f c cs)
all_for_fail f c cs e old new m none =
    let x = by_err f m.0 e m.3 in
    all_fail c cs x.0 old.machine new.machine (subst (λ z. MakesAll c cs z old.machine new.machine) x.1 m.1) none

fed_err : (given : Result Unit AllocError) (e : Error) → reply.Refused e ≡ reply_or_memory (λ _. reply.Done) given → (x : AllocError) × (given ≡ Err x)
fed_err (Ok a) e told = absurd cc
fed_err (Err x) e told = (x, refl)

pub feeds_fail : (raws : List RawMessage) (after : View) (e : Error) (old new : View) → FeedsVm raws after (reply.Refused e) old new → new.machine.failure ≡ None → ⊥
feeds_fail raws after e old new f none =
    let x = fed_err f.given e f.told in
    let s : StarvesAmong raws old.machine new.machine = subst (λ z. OnErr z (StarvesAmong raws old.machine new.machine)) x.1 f.leaves.err in
    starved_fails s.reached new.machine no_memory s.starved none
