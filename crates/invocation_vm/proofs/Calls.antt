-- What a call does, from what its event gave and what the error rule made of it.
use Rattle.std.proofs.Common.{◌≡◌, ◌+◌, ◌<◌, ◌^◌, arith, inl, inr, ◌∙◌, sym, ap, refl, subst, Option, Some, None, Result, Ok, Err, true, false, []}
use Rattle.std.specs.Prelude.{IfOk, OnOk, OnErr, is_some, unwrap_or}
use Rattle.std.proofs.lemmas.Bool.{false≢true}
use Rattle.journal_protocol.specs.Error.{Error}
use Rattle.journal_protocol.specs.Errors.{no_memory}
use Rattle.vm_state.specs.declared.counters.Counters.{Counters}
use Rattle.await_trees.specs.declared.handle.NotificationHandle.{NotificationHandle}
use Rattle.vm_machine.specs.declared.fault.Fault.{Fault}
use Rattle.vm_machine.specs.declared.fault.Fault.TheVariants as fault
use Rattle.vm_machine.specs.declared.machine.Machine.{Machine}
use Rattle.journal_protocol.specs.Message.{Message}
use Rattle.vm_machine.specs.declared.phase.Phase.TheVariants.{Closed}
use Rattle.vm_machine.specs.Phases.{is_closed}
use Rattle.vm_asks.specs.Requests.{ids_of}
use Rattle.vm_machine.specs.Commands.{CanBeRead, HandleFits, answered_by}
use Rattle.vm_machine.specs.Ephemerals.{answers_ready, may_answer}
use Rattle.vm_types.specs.declared.types.AwaitResponse.TheVariants.{EphemeralNotificationReady}
use Rattle.vm_types.specs.declared.types.EphemeralCompletionId.{EphemeralCompletionId}
use Rattle.invocation_vm.specs.Calls.{ReturnsFirst, CallsAwait, CallsAwaitBy, CallsFlatAwait, CallsTry, result_by}
use Rattle.invocation_vm.specs.Views.{View}
use Rattle.await_trees.specs.declared.tree.UnresolvedFuture.{UnresolvedFuture}
use Rattle.vm_types.specs.declared.types.AwaitResponse.{AwaitResponse}
use Rattle.vm_parts.specs.Tracked.{invocation_ids}
use Rattle.vm_awaits.specs.Cancels.{Cancels, FinishesIf, sends_cancels}
use Rattle.vm_machine.specs.Outcomes.{CalledAt, CalledBy, Does, DoesBy, Done, Failed, Gives, GivesBy, IsStarved, Lasting, Lives, Outcome, Settles, called, called_at, failed, flattened, lasting, ruled, settled, starved}

-- a machine that hasn't failed, and finds no memory
pub starves : (old mid new : Machine) → old.failure ≡ None → lasting mid ≡ lasting old → new ≡ starved old.counters mid → IsStarved old no_memory new
starves old mid new live g s = record {
  error = refl;
  failure = ap (λ (m : Machine). m.failure) s ∙ ap (λ (f : Option Error). Some (unwrap_or f no_memory)) (sym live);
  output = ap (λ (m : Machine). m.output) s ∙ ap (λ (l : Lasting). l.output) g;
  version = ap (λ (m : Machine). m.version) s ∙ ap (λ (l : Lasting). l.version) g;
  options = ap (λ (m : Machine). m.options) s ∙ ap (λ (l : Lasting). l.options) g;
  start = ap (λ (m : Machine). m.start) s ∙ ap (λ (l : Lasting). l.start) g;
  counters = ap (λ (m : Machine). m.counters) s;
  stays = λ first is. absurd (let z : None ≡ Some first = sym live ∙ is in cc);
}

pub settles : {A : Type 0} (o : Outcome A) (given : Result A Fault) (r : Result A Error) (old mid new : Machine) → old.failure ≡ None → Gives o given old mid → Settles old.counters given r mid new → Does (settled o) r old new
settles o (Ok a) r old mid new live g s = rw (s.0, s.1, g) refl
settles o (Err fault.Memory) r old mid new live g s = rw s.0 (inr (starves old mid new live g s.1))
settles o (Err (fault.Refused e)) r old mid new live g s =
    elim s as (λ _. Does (settled o) r old new) [
      | inl h ↦ rw (h.0, h.1, g.0) (inl refl)
      | inr h ↦ rw h.0 (inr (starves old mid new live g.1 h.1))
    ]

at_failure : {A : Type 0} (f : Option Error) (o : Outcome A) (given : Result A Fault) (r : Result A Error) (old mid new : Machine) → old.failure ≡ f → Lives f (Ok tt) → Gives o given old mid → Settles old.counters given r mid new → Does (called_at f o old) r old new
at_failure None o given r old mid new is l g s = settles o given r old mid new is g s
at_failure (Some e) o given r old mid new is l g s = elim l as (λ _. Does (Failed e old) r old new) [ inl x ↦ cc | inr x ↦ cc ]

pub does_called : {A : Type 0} (o : Outcome A) (given : Result A Fault) (r : Result A Error) (old mid new : Machine) → Lives old.failure (Ok tt) → Gives o given old mid → Settles old.counters given r mid new → Does (called o old) r old new
unfolding called
does_called o given r old mid new l g s = at_failure old.failure o given r old mid new refl l g s

err_is_ok : (e : Error) → Err e ≡ Ok (tt {0}) → ⊥
err_is_ok e h = cc

stays_starved : (e d : Error) (old : Machine) → e ≡ no_memory → old.failure ≡ Some d → IsStarved old e old
stays_starved e d old error is = record {
  error = error;
  failure = is ∙ ap (λ (f : Option Error). Some (unwrap_or f no_memory)) (sym is);
  output = refl;
  version = refl;
  options = refl;
  start = refl;
  counters = refl;
  stays = λ first _. refl;
}

first_error : {A : Type 0} (f : Option Error) (o : Outcome A) (e : Error) (old : Machine) → old.failure ≡ f → Lives f (Err e) → Does (called_at f o old) (Err e) old old
first_error None o e old is l = absurd (err_is_ok e l)
first_error {A = A} (Some d) o e old is l =
    elim l as (λ _. Does {A = A} (Failed d old) (Err e) old old) [
      | inl h ↦ inl (cc)
      | inr h ↦ inr (stays_starved e d old (cc) is)
    ]

pub does_failed : {A : Type 0} (o : Outcome A) (e : Error) (old : Machine) → Lives old.failure (Err e) → Does (called o old) (Err e) old old
unfolding called
does_failed o e old l = first_error old.failure o e old refl l

-- ---- a call whose event may come to several outcomes

settles_one : {A : Type 0} (R : Outcome A → Type 0) (given : Result A Fault) (r : Result A Error) (old mid new : Machine) → old.failure ≡ None → GivesBy R given old mid → Settles old.counters given r mid new → DoesBy (CalledAt None R old) r old new
settles_one R (Ok a) r old mid new live g s = rw (s.0, s.1) (Done a mid, g, refl)
settles_one R (Err fault.Memory) r old mid new live g s = rw s.0 (inr (starves old mid new live g s.1))
settles_one {A = A} R (Err (fault.Refused e)) r old mid new live g s =
    elim s as (λ _. DoesBy (CalledAt None R old) r old new) [
      | inl h ↦ rw (h.0, h.1) (inl (Failed e mid, g.0, refl))
      | inr h ↦ rw h.0 (inr (starves old mid new live g.1 h.1))
    ]

one_at : {A : Type 0} (f : Option Error) (R : Outcome A → Type 0) (given : Result A Fault) (r : Result A Error) (old mid new : Machine) → old.failure ≡ f → Lives f (Ok tt) → GivesBy R given old mid → Settles old.counters given r mid new → DoesBy (CalledAt f R old) r old new
one_at None R given r old mid new is l g s = settles_one R given r old mid new is g s
one_at (Some e) R given r old mid new is l g s = elim l as (λ _. DoesBy (CalledAt (Some e) R old) r old new) [ inl x ↦ cc | inr x ↦ cc ]

pub does_one : {A : Type 0} (R : Outcome A → Type 0) (given : Result A Fault) (r : Result A Error) (old mid new : Machine) → Lives old.failure (Ok tt) → GivesBy R given old mid → Settles old.counters given r mid new → DoesBy (CalledBy R old) r old new
does_one R given r old mid new l g s = one_at old.failure R given r old mid new refl l g s

none_at : {A : Type 0} (f : Option Error) (R : Outcome A → Type 0) (e : Error) (old : Machine) → old.failure ≡ f → Lives f (Err e) → DoesBy (CalledAt f R old) (Err e) old old
none_at None R e old is l = absurd (err_is_ok e l)
none_at {A = A} (Some d) R e old is l =
    elim l as (λ _. DoesBy (CalledAt {A = A} (Some d) R old) (Err e) old old) [
      | inl h ↦ inl (cc)
      | inr h ↦ inr (stays_starved e d old (cc) is)
    ]

pub does_none : {A : Type 0} (R : Outcome A → Type 0) (e : Error) (old : Machine) → Lives old.failure (Err e) → DoesBy (CalledBy R old) (Err e) old old
does_none R e old l = none_at old.failure R e old refl l

-- ---- a call of a failed machine, and one by what its event gave

lives : (f : Option Error) → is_some f ≡ false → Lives f (Ok tt)
lives None h = refl
lives (Some e) h = absurd (false≢true (sym h))

first_at : {A : Type 0} (f : Option Error) (o : Outcome A) (r : Result A Error) (old : Machine) → old.failure ≡ f → is_some f ≡ true → ReturnsFirst f r → Does (called_at f o old) r old old
first_at None o r old is h l = absurd (false≢true h)
first_at {A = A} (Some e) o r old is h l =
    elim l as (λ _. Does {A = A} (Failed e old) r old old) [
      | inl x ↦ rw x (inl refl)
      | inr x ↦ rw x (inr (stays_starved no_memory e old refl is))
    ]

pub first_does : {A : Type 0} (o : Outcome A) (r : Result A Error) (old : Machine) → is_some old.failure ≡ true → ReturnsFirst old.failure r → Does (called o old) r old old
unfolding called
first_does o r old h l = first_at old.failure o r old refl h l

done_at : {A : Type 0} (f : Option Error) (o : Outcome A) (a : A) (old new : Machine) → is_some f ≡ false → o ≡ Done a new → called_at f o old ≡ Done a new
done_at None o a old new h is = ap settled is
done_at (Some e) o a old new h is = absurd (false≢true (sym h))

pub answered_does : {A : Type 0} (o : Outcome A) (given : Result A Fault) (a : A) (old new : Machine) → is_some old.failure ≡ false → given ≡ Ok a → Gives o given old new → Does (called o old) (Ok a) old new
unfolding called
answered_does o given a old new h is g = done_at old.failure o a old new h (rw is at g)

pub settled_does : {A : Type 0} (o : Outcome A) (given : Result A Fault) (r : Result A Error) (old mid new : Machine) → is_some old.failure ≡ false → Gives o given old mid → Settles old.counters given r mid new → Does (called o old) r old new
settled_does o given r old mid new h g s = does_called o given r old mid new (lives old.failure h) g s

-- a call that returns the first error says nothing of a command
pub first_sent : {A : Type 0} (whole : Type 0) (f : Option Error) (r : Result A Error) → ReturnsFirst f r → OnOk r whole
first_sent whole None r h = rw h tt
first_sent whole (Some e) r h = elim h as (λ _. OnOk r whole) [ inl x ↦ rw x tt | inr x ↦ rw x tt ]

pub first_fits : (m : Message) (f : Option Error) (r : Result NotificationHandle Error) → ReturnsFirst f r → IfOk r (HandleFits m)
first_fits m None r h = rw h tt
first_fits m (Some e) r h = elim h as (λ _. IfOk r (HandleFits m)) [ inl x ↦ rw x tt | inr x ↦ rw x tt ]

-- a call that is done wrote what can be read back, and its handles fit
pub answered_sent : {A : Type 0} (m : Message) (v : Machine) (given : Result A Fault) (a : A) → given ≡ Ok a → OnOk given (CanBeRead m v) → CanBeRead m v
answered_sent m v given a is h = rw is at h

pub answered_fits : (m : Message) (given : Result NotificationHandle Fault) (a : NotificationHandle) → given ≡ Ok a → IfOk given (HandleFits m) → HandleFits m a
answered_fits m given a is h = rw is at h

first_one_at : {A : Type 0} (f : Option Error) (R : Outcome A → Type 0) (r : Result A Error) (old : Machine) → old.failure ≡ f → is_some f ≡ true → ReturnsFirst f r → DoesBy (CalledAt f R old) r old old
first_one_at None R r old is h l = absurd (false≢true h)
first_one_at {A = A} (Some e) R r old is h l =
    elim l as (λ _. DoesBy (CalledAt {A = A} (Some e) R old) r old old) [
      | inl x ↦ rw x (inl refl)
      | inr x ↦ rw x (inr (stays_starved no_memory e old refl is))
    ]

pub first_does_one : {A : Type 0} (R : Outcome A → Type 0) (r : Result A Error) (old : Machine) → is_some old.failure ≡ true → ReturnsFirst old.failure r → DoesBy (CalledBy R old) r old old
first_does_one R r old h l = first_one_at old.failure R r old refl h l

done_one_at : {A : Type 0} (f : Option Error) (R : Outcome A → Type 0) (a : A) (old new : Machine) → is_some f ≡ false → R (Done a new) → CalledAt f R old (Done a new)
done_one_at None R a old new h done = (Done a new, done, refl)
done_one_at (Some e) R a old new h done = absurd (false≢true (sym h))

pub answered_does_one : {A : Type 0} (R : Outcome A → Type 0) (given : Result A Fault) (a : A) (old new : Machine) → is_some old.failure ≡ false → given ≡ Ok a → GivesBy R given old new → DoesBy (CalledBy R old) (Ok a) old new
answered_does_one R given a old new h is g = done_one_at old.failure R a old new h (rw is at g)

pub settled_does_one : {A : Type 0} (R : Outcome A → Type 0) (given : Result A Fault) (r : Result A Error) (old mid new : Machine) → is_some old.failure ≡ false → GivesBy R given old mid → Settles old.counters given r mid new → DoesBy (CalledBy R old) r old new
settled_does_one R given r old mid new h g s = does_one R given r old mid new (lives old.failure h) g s

-- an await whose answer may be an error, from the call that keeps it as an answer
pub flattens_call : (future : UnresolvedFuture) (answered : Result (Result AwaitResponse Error) Error) (r : Result AwaitResponse Error) (old new : View) → answers_ready old.machine ≡ false → CallsAwait future answered old new → r ≡ flattened answered → CallsFlatAwait future r old new
flattens_call future answered r old new none calls is = subst (λ b. CallsAwaitBy b future r old new) (sym none) (answered, calls, is)

-- one that an ephemeral read answers
pub answers_read : (future : UnresolvedFuture) (id : EphemeralCompletionId) (r : Result AwaitResponse Error) (old : View) → answers_ready old.machine ≡ true → may_answer id.0 old.machine ≡ true → r ≡ Ok (EphemeralNotificationReady id) → CallsFlatAwait future r old old
answers_read future id r old some may is = subst (λ b. CallsAwaitBy b future r old old) (sym some) (id.0, may, is, refl)

-- an await that sends no cancel signal stays as it is
pub finishes_so : (future : UnresolvedFuture) (first : Result (Result AwaitResponse Error) Error) (old new : View) → CallsTry future first old new → sends_cancels first ≡ false → CallsAwait future first old new
finishes_so future first old new tries stays = ((first, new.machine, tries.0, subst (λ b. FinishesIf b first first new.machine new.machine) (sym stays) (refl, refl)), tries.1)

-- one that sends them
pub finishes_by : (future : UnresolvedFuture) (first r : Result (Result AwaitResponse Error) Error) (old mid cleared new : View) → CallsTry future first old mid → sends_cancels first ≡ true → cleared ≡ record mid { machine = record mid.machine { tracked = [] } } → Cancels (invocation_ids mid.machine.tracked) r cleared.machine new.machine → new.undecoded ≡ cleared.undecoded → CallsAwait future r old new
finishes_by future first r old mid cleared new tries sends is cancels same = (
  (first, mid.machine, tries.0, subst (λ b. FinishesIf b first r mid.machine new.machine) (sym sends) (subst (λ (x : View). Cancels (invocation_ids mid.machine.tracked) r x.machine new.machine) is cancels)),
  same ∙ ap (λ (x : View). x.undecoded) is ∙ tries.1,
)

-- where a call is answered, its event was
pub settles_sent : {A : Type 0} (m : Message) (v : Machine) (given : Result A Fault) (r : Result A Error) (before : Counters) (mid new : Machine) → Settles before given r mid new → OnOk given (CanBeRead m v) → OnOk r (CanBeRead m v)
settles_sent m v (Ok a) r before mid new s h = rw s.0 h
settles_sent m v (Err fault.Memory) r before mid new s h = rw s.0 tt
settles_sent m v (Err (fault.Refused e)) r before mid new s h =
    elim s as (λ _. OnOk r (CanBeRead m v)) [ inl x ↦ rw x.0 tt | inr x ↦ rw x.0 tt ]

-- where a call is answered, its event was, and its handles fit
pub settles_fits : (m : Message) (given : Result NotificationHandle Fault) (r : Result NotificationHandle Error) (before : Counters) (mid new : Machine) → Settles before given r mid new → IfOk given (HandleFits m) → IfOk r (HandleFits m)
settles_fits m (Ok a) r before mid new s h = rw s.0 h
settles_fits m (Err fault.Memory) r before mid new s h = rw s.0 tt
settles_fits m (Err (fault.Refused e)) r before mid new s h =
    elim s as (λ _. IfOk r (HandleFits m)) [ inl x ↦ rw x.0 tt | inr x ↦ rw x.0 tt ]

-- both handles of a call fit
pub fits_both : (m : Message) (r : Result NotificationHandle Error) → ids_of m ≡ 2 → IfOk r (HandleFits m) → IfOk r (λ handle. handle.0 + 1 < 2 ^ 32)
fits_both m (Ok handle) two fits = omega (arith, two, fits)
fits_both m (Err e) two fits = tt

-- ---- a call that is answered by something of its first handle

by_at : {A B : Type 0} (f : A → B) (g : Option Error) (o : Outcome A) (r : Result A Error) (old new : Machine) → Does (called_at g o old) r old new → Does (called_at g (answered_by f o) old) (result_by f r) old new
by_at f None (Done a w) (Ok b) old new h = cc
by_at {B = B} f None (Done a w) (Err e) old new h = elim h as (λ _. Does {A = B} (Done (f a) w) (Err e) old new) [ inl x ↦ absurd (no_failure x) | inr x ↦ inr x ]
  where
    no_failure : Done a w ≡ Failed e new → ⊥
    no_failure x = cc
by_at f None (Failed d w) (Ok b) old new h = absurd (no_done h)
  where
    no_done : Failed (ruled w d) (failed (ruled w d) w) ≡ Done b new → ⊥
    no_done x = cc
by_at {B = B} f None (Failed d w) (Err e) old new h = elim h as (λ _. Does {A = B} (Failed (ruled w d) (failed (ruled w d) w)) (Err e) old new) [ inl x ↦ inl cc | inr x ↦ inr x ]
by_at f (Some d) o (Ok b) old new h = absurd (no_done h)
  where
    no_done : Failed d old ≡ Done b new → ⊥
    no_done x = cc
by_at {B = B} f (Some d) o (Err e) old new h = elim h as (λ _. Does {A = B} (Failed d old) (Err e) old new) [ inl x ↦ inl cc | inr x ↦ inr x ]

pub called_by : {A B : Type 0} (f : A → B) (o : Outcome A) (r : Result A Error) (old new : Machine) → Does (called o old) r old new → Does (called (answered_by f o) old) (result_by f r) old new
unfolding called
called_by f o r old new h = by_at f old.failure o r old new h

pub sent_by : {A B : Type 0} (f : A → B) (m : Message) (v : Machine) (r : Result A Error) → OnOk r (CanBeRead m v) → OnOk (result_by f r) (CanBeRead m v)
sent_by f m v (Ok a) h = h
sent_by f m v (Err e) h = tt

-- ---- calls that take no memory

-- the end of a closed VM
pub closed_ends : (given : Result Unit Fault) (r : Result Unit Error) (v : Machine) (before : Counters) (mid new : Machine) → Settles before given r mid new → OnErr given (is_closed v.phase ≡ false) → v.phase ≡ Closed → r ≡ Ok tt
closed_ends (Ok a) r v before mid new s h closed = s.0
closed_ends (Err e) r v before mid new s h closed = absurd (false≢true (sym h ∙ ap is_closed closed))

pub live_answers : (f : Option Error) (e : Error) (r : Result Unit Error) → Lives f (Err e) → f ≡ None → r ≡ Ok tt
live_answers None e r l is = absurd (err_is_ok e l)
live_answers (Some d) e r l is = absurd (let z : Some d ≡ None = is in cc)
