-- What the frames that come leave, one after another.
use Rattle.std.proofs.Common.{◌≡◌, inl, inr, ℕ, true, false, List, [], ◌∷◌, Option, Some, None, Result, Ok, Err, sym, ap, refl, ◌∙◌}
use Rattle.std.specs.Prelude.{IsSome, OnErr, is_some, ◌++◌}
use Rattle.std.proofs.lemmas.Bool.{false≢true}
use Rattle.std.specs.declared.alloc.AllocError.{AllocError}
use Rattle.journal_protocol.specs.RawMessage.{RawMessage}
use Rattle.journal_protocol.specs.Error.{Error}
use Rattle.journal_protocol.specs.Errors.{no_memory}
use Rattle.journal_protocol.specs.Frames.{Whole, Partial, Malformed, next_of}
use Rattle.journal_protocol.proofs.Facts.{whole_shorter}
use Rattle.vm_state.specs.declared.counters.Counters.{Counters}
use Rattle.vm_machine.specs.declared.fault.Fault.{Fault}
use Rattle.vm_machine.specs.declared.fault.Fault.TheVariants as fault
use Rattle.vm_machine.specs.declared.machine.Machine.{Machine}
use Rattle.vm_machine.specs.Inputs.{message_step, malformed_step, Quiets}
use Rattle.vm_machine.specs.Outcomes.{Outcome, Gives, called, called_at, IsStarved, starved}
use Rattle.journal_entries.specs.Frames.{frames_of}
use Rattle.invocation_vm.specs.Views.{View, received, spoiled, all_received, consumed, left_by, Goes, HaveCome, Leaves, StarvesAmong}
use Rattle.invocation_vm.proofs.Calls.{starves}
use Rattle.invocation_vm.proofs.Cuts.{consumed_failed}
use Rattle.journal_entries.proofs.Cuts.{frames_of-next}

-- no whole frame is there
pub consumed_none : (bytes : List ℕ) (m : Machine) → next_of bytes ≡ Partial → m.failure ≡ None → consumed (frames_of bytes) m ≡ record { undecoded = bytes; machine = m }
consumed_none bytes m h k = rw (frames_of-next bytes, h) (rw k refl)

-- one frame after the other
pub consumed_some : (bytes rest : List ℕ) (raw : RawMessage) (m : Machine) → next_of bytes ≡ Whole raw rest → consumed (frames_of bytes) m ≡ consumed (frames_of rest) (received raw m)
consumed_some bytes rest raw m h = rw (frames_of-next bytes, h) refl

-- the machine that a quiet call leaves
pub left_called : (o : Outcome Unit) (given : Result Unit Fault) (old mid new : Machine) → old.failure ≡ None → Gives o given old mid → Quiets old.counters given (Ok tt) mid new → left_by (called o old) ≡ new
unfolding called
left_called o (Ok a) old mid new l g s = rw (l, g, s.1) refl
left_called o (Err fault.Memory) old mid new l g s = absurd (false≢true s.0)
left_called o (Err (fault.Refused e)) old mid new l g s =
    elim s as (λ _. left_by (called o old) ≡ new) [
      | inl h ↦ rw (l, g.0, h.1) refl
      | inr h ↦ absurd (false≢true h.0)
    ]

err_ok : (e : AllocError) → Err e ≡ Ok (tt {0}) → ⊥
err_ok e h = cc

-- a quiet call that found no memory
pub starved_called : (o : Outcome Unit) (given : Result Unit Fault) (e : AllocError) (old mid new : Machine) → old.failure ≡ None → Gives o given old mid → Quiets old.counters given (Err e) mid new → IsStarved old no_memory new
starved_called o (Ok a) e old mid new l g s = absurd (err_ok e s.0)
starved_called o (Err fault.Memory) e old mid new l g s = starves old mid new l g s.1
starved_called o (Err (fault.Refused d)) e old mid new l g s =
    elim s as (λ _. IsStarved old no_memory new) [
      | inl h ↦ absurd (err_ok e h.0)
      | inr h ↦ starves old mid new l g.1 h.1
    ]

-- what became of the frames: nothing was written, and the machine has failed
pub among_output : (raws : List RawMessage) (old new : Machine) → StarvesAmong raws old new → new.output ≡ old.output
among_output raws old new s = s.starved.output ∙ s.quiet

pub among_failed : (raws : List RawMessage) (old new : Machine) → StarvesAmong raws old new → IsSome new.failure
among_failed raws old new s = rw s.starved.failure refl

-- no message came before
pub none_came : (raws : List RawMessage) (m : Machine) → HaveCome raws raws m m
none_came raws m = record { before = []; split = refl; machine = refl }

pub among_none : (raws : List RawMessage) (old new : Machine) → old.failure ≡ None → IsStarved old no_memory new → StarvesAmong raws old new
among_none raws old new live s = record {
  lives = live;
  reached = old;
  left = raws;
  came = none_came raws old;
  live = live;
  quiet = refl;
  starved = s;
}

failure_of : (o : Option Error) → is_some o ≡ false → o ≡ None
failure_of None h = refl
failure_of (Some e) h = cc

-- where a quiet call leaves no failure, it has written nothing
same_output : (given : Result Unit Fault) (before : Counters) (mid new : Machine) → Quiets before given (Ok tt) mid new → is_some new.failure ≡ false → new.output ≡ mid.output
same_output (Ok a) before mid new s h = rw s.1 refl
same_output (Err fault.Memory) before mid new s h = absurd (false≢true s.0)
same_output (Err (fault.Refused e)) before mid new s h =
    elim s as (λ _. new.output ≡ mid.output) [
      | inl k ↦ absurd (false≢true (sym h ∙ rw k.1 refl))
      | inr k ↦ absurd (false≢true k.0)
    ]

received_is : (given : Result Unit Fault) (raw : RawMessage) (m mid new : Machine) → m.failure ≡ None → Gives (message_step raw m) given m mid → Quiets m.counters given (Ok tt) mid new → received raw m ≡ new
unfolding received
received_is given raw m mid new l g s = left_called (message_step raw m) given m mid new l g s

-- a first frame, before those after it
first_of_them : (bytes rest : List ℕ) (raw : RawMessage) → next_of bytes ≡ Whole raw rest → (frames_of bytes).0 ≡ raw ∷ (frames_of rest).0
first_of_them bytes rest raw h = rw (frames_of-next bytes, h) refl

pub goes_on : (given : Result Unit Fault) (raw : RawMessage) (bytes rest : List ℕ) (m mid new : Machine) → m.failure ≡ None → next_of bytes ≡ Whole raw rest → Gives (message_step raw m) given m mid → Quiets m.counters given (Ok tt) mid new → mid.output ≡ m.output → is_some new.failure ≡ false → Goes true (record { undecoded = bytes; machine = m }) (record { undecoded = rest; machine = new })
goes_on given raw bytes rest m mid new l f g s o h = (
  failure_of new.failure h,
  whole_shorter bytes raw rest f,
  same_output given m.counters mid new s h ∙ o,
  sym (consumed_some bytes rest raw m f ∙ ap (λ (w : Machine). consumed (frames_of rest) w) (received_is given raw m mid new l g s)),
  (raw, first_of_them bytes rest raw f, sym (received_is given raw m mid new l g s)),
)

-- a frame whose event was done
pub goes_on_done : (raw : RawMessage) (bytes rest : List ℕ) (m mid : Machine) → m.failure ≡ None → next_of bytes ≡ Whole raw rest → Gives (message_step raw m) (Ok tt) m mid → mid.output ≡ m.output → mid.failure ≡ m.failure → Goes true (record { undecoded = bytes; machine = m }) (record { undecoded = rest; machine = mid })
goes_on_done raw bytes rest m mid l f g o same = goes_on (Ok tt) raw bytes rest m mid mid l f g (refl, refl) o (rw (same, l) refl)

failed_at : (o : Option Error) (bytes : List ℕ) (new : Machine) → new.failure ≡ o → is_some o ≡ true → consumed (frames_of bytes) new ≡ record { undecoded = []; machine = new }
failed_at None bytes new e h = absurd (false≢true h)
failed_at (Some e) bytes new i h = consumed_failed (frames_of bytes) new e i

pub ends : (given : Result Unit Fault) (raw : RawMessage) (bytes rest none : List ℕ) (m mid new : Machine) → m.failure ≡ None → next_of bytes ≡ Whole raw rest → Gives (message_step raw m) given m mid → Quiets m.counters given (Ok tt) mid new → is_some new.failure ≡ true → none ≡ [] → Goes false (record { undecoded = bytes; machine = m }) (record { undecoded = none; machine = new })
ends given raw bytes rest none m mid new l f g s h n =
    rw n (sym (consumed_some bytes rest raw m f ∙ (ap (λ (w : Machine). consumed (frames_of rest) w) (received_is given raw m mid new l g s) ∙ failed_at new.failure rest new refl h)))

-- a quiet call
pub leaves_called : (o : Outcome Unit) (given : Result Unit Fault) (r : Result Unit AllocError) (bytes : List ℕ) (old mid new : Machine) → is_some old.failure ≡ false → Gives o given old mid → Quiets old.counters given r mid new → Leaves [] (record { undecoded = bytes; machine = left_by (called o old) }) r (record { undecoded = bytes; machine = old }) (record { undecoded = bytes; machine = new })
leaves_called o given (Ok t) bytes old mid new l g s =
    record { ok = ap (λ (m : Machine). record { undecoded = bytes; machine = m }) (sym (left_called o given old mid new (failure_of old.failure l) g s)); err = tt }
leaves_called o given (Err e) bytes old mid new l g s = record { ok = tt; err = among_none [] old new (failure_of old.failure l) (starved_called o given e old mid new (failure_of old.failure l) g s) }

stays_left : {A : Type 0} (f : Option Error) (o : Outcome A) (old : Machine) → is_some f ≡ true → left_by (called_at f o old) ≡ old
stays_left None o old h = absurd (false≢true h)
stays_left (Some e) o old h = refl

pub stays_called : {A : Type 0} (o : Outcome A) (old : Machine) → is_some old.failure ≡ true → left_by (called o old) ≡ old
unfolding called
stays_called o old h = stays_left old.failure o old h

-- ---- bytes that no frame begins with

pub consumed_garbage : (bytes : List ℕ) (m : Machine) → next_of bytes ≡ Malformed → consumed (frames_of bytes) m ≡ record { undecoded = []; machine = spoiled m }
consumed_garbage bytes m h = rw (frames_of-next bytes, h) refl

spoiled_is : (given : Result Unit Fault) (m mid new : Machine) → m.failure ≡ None → Gives (malformed_step m) given m mid → Quiets m.counters given (Ok tt) mid new → spoiled m ≡ new
unfolding spoiled
spoiled_is given m mid new l g s = left_called (malformed_step m) given m mid new l g s

pub ends_in_garbage : (given : Result Unit Fault) (bytes none : List ℕ) (m mid new : Machine) → m.failure ≡ None → next_of bytes ≡ Malformed → Gives (malformed_step m) given m mid → Quiets m.counters given (Ok tt) mid new → none ≡ []
    → Goes false (record { undecoded = bytes; machine = m }) (record { undecoded = none; machine = new })
ends_in_garbage given bytes none m mid new l f g s n =
    rw n (sym (consumed_garbage bytes m f ∙ ap (λ (w : Machine). record { undecoded = []; machine = w }) (spoiled_is given m mid new l g s)))

-- ---- messages that have come

received_more : (before : List RawMessage) (raw : RawMessage) (m : Machine) → all_received (before ++ raw ∷ []) m ≡ received raw (all_received before m)
received_more [] raw m = refl
received_more (b ∷ before) raw m = received_more before raw (received b m)

append_one : (before : List RawMessage) (raw : RawMessage) (left : List RawMessage) → before ++ raw ∷ left ≡ (before ++ raw ∷ []) ++ left
append_one [] raw left = refl
append_one (b ∷ before) raw left = ap (λ (l : List RawMessage). b ∷ l) (append_one before raw left)

-- one message more
pub came_more : (raws left rest : List RawMessage) (raw : RawMessage) (old reached new : Machine) → HaveCome raws left old reached → left ≡ raw ∷ rest → new ≡ received raw reached → HaveCome raws rest old new
came_more raws left rest raw old reached new c l r = record {
  before = c.before ++ raw ∷ [];
  split = c.split ∙ ap (λ (x : List RawMessage). c.before ++ x) l ∙ append_one c.before raw rest;
  machine = r ∙ ap (received raw) c.machine ∙ sym (received_more c.before raw old);
}

-- a closed input
pub closes_free : (given : Result Unit Fault) (r : Result Unit AllocError) (P : Type 0) (before : Counters) (mid new : Machine) → Quiets before given r mid new → OnErr given P → OnErr r P
closes_free (Ok a) r P before mid new s h = rw s.0 tt
closes_free (Err e) (Ok t) P before mid new s h = tt
closes_free (Err e) (Err x) P before mid new s h = h

-- bytes for which there is no room
pub has_no_room : (raws : List RawMessage) (after : View) (e : AllocError) (old new : View) → is_some old.machine.failure ≡ false → new.machine ≡ starved old.machine.counters old.machine → Leaves raws after (Err e) old new
has_no_room raws after e old new l s =
    let live = failure_of old.machine.failure l in
    record { ok = tt; err = among_none raws old.machine new.machine live (starves old.machine old.machine new.machine live refl s) }
