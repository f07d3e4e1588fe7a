-- What a VM is fed over a layer, in one call.
use Rattle.std.proofs.Common.{◌≡◌, inl, inr, ℕ, true, false, List, [], ◌++◌, Option, Some, None, Result, Ok, Err, refl, sym, ap, subst, ◌∙◌}
use Rattle.std.specs.Prelude.{IsSome, OnErr, OnOk, is_some}
use Rattle.std.proofs.lemmas.Bool.{false≢true}
use Rattle.std.specs.declared.alloc.AllocError.{AllocError}
use Rattle.journal_protocol.specs.Error.{Error}
use Rattle.journal_protocol.specs.RawMessage.{RawMessage}
use Rattle.journal_protocol.specs.Errors.{no_memory}
use Rattle.journal_protocol.specs.Frames.{IsWhole, encoding}
use Rattle.vm_machine.specs.declared.fault.Fault.{Fault}
use Rattle.vm_machine.specs.declared.machine.Machine.{Machine}
use Rattle.vm_machine.specs.Inputs.{malformed_step, Quiets}
use Rattle.vm_machine.specs.Outcomes.{Gives, IsStarved, starved}
use Rattle.invocation_vm.specs.Views.{Leaves, StarvesAmong, View, after_input, messages_in_bytes, spoiled}
use Rattle.invocation_vm.proofs.Calls.{starves}
use Rattle.invocation_vm.proofs.Feeds.{among_failed, among_none, left_called, starved_called, stays_called}
use Rattle.vm_layers.specs.Layers.{Front, Moves, Stops}
use Rattle.vm_layers.specs.Steps.{IsSettled}
use Rattle.vm_layers.specs.Transcoding.{ComesOver, FeedStarves, FoundNone, HasEach, Pushed, StarvesOver, faulted, kept_by, refused_input}
use Rattle.vm_layers.specs.declared.layer.LayerFault.{LayerFault}
use Rattle.vm_layers.specs.declared.layer.LayerFault.TheVariants.{Memory, Malformed as BadBytes, NoSuchMessage, TooLong}

pub live_of : (o : Option Error) → is_some o ≡ false → o ≡ None
live_of None h = refl
live_of (Some e) h = absurd (false≢true (sym h))

-- ---- a fault

pub spoiled_none : (m : Machine) → is_some m.failure ≡ true → spoiled m ≡ m
unfolding spoiled
spoiled_none m h = stays_called (malformed_step m) m h

pub refused_none : (v : View) → is_some v.machine.failure ≡ true → refused_input v ≡ v
refused_none v h = ap (λ (m : Machine). record v { machine = m }) (spoiled_none v.machine h)

spoiled_is : (given : Result Unit Fault) (m mid new : Machine) → m.failure ≡ None → Gives (malformed_step m) given m mid → Quiets m.counters given (Ok tt) mid new → spoiled m ≡ new
unfolding spoiled
spoiled_is given m mid new l g s = left_called (malformed_step m) given m mid new l g s

pub refuses_ok : (given : Result Unit Fault) (r : Result Unit AllocError) (bytes : List ℕ) (m mid new : Machine) → is_some m.failure ≡ false → Gives (malformed_step m) given m mid → Quiets m.counters given r mid new
    → OnOk r (record { undecoded = bytes; machine = new } ≡ refused_input (record { undecoded = bytes; machine = m }))
refuses_ok given (Ok t) bytes m mid new l g s = ap (λ (w : Machine). record { undecoded = bytes; machine = w }) (sym (spoiled_is given m mid new (live_of m.failure l) g s))
refuses_ok given (Err e) bytes m mid new l g s = tt

pub refuses_err : (given : Result Unit Fault) (r : Result Unit AllocError) (m mid new : Machine) → is_some m.failure ≡ false → Gives (malformed_step m) given m mid → Quiets m.counters given r mid new
    → OnErr r ((m.failure ≡ None) × IsStarved m no_memory new)
refuses_err given (Ok t) m mid new l g s = tt
refuses_err given (Err e) m mid new l g s = let live = live_of m.failure l in (live, starved_called (malformed_step m) given e m mid new live g s)

-- ---- one call

pub no_room : (old new : Machine) → old.failure ≡ None → new ≡ starved old.counters old → IsStarved old no_memory new
no_room old new l s = starves old old new l refl s

pub feed_fails : (raws : List RawMessage) (after old new : View) (e : AllocError) (fed : List ℕ) → Leaves raws after (Err e) old new → raws ≡ messages_in_bytes old fed → FoundNone old fed new
feed_fails raws after old new e fed l h = inl (subst (λ z. StarvesAmong z old.machine new.machine) h l.err)

-- ---- what a failed VM is fed

pub input_dropped : (v : View) (bytes : List ℕ) → is_some v.machine.failure ≡ true → after_input v bytes ≡ v
input_dropped v bytes h = rw h refl

pub none_kept : (v : View) (rest : List ℕ) → is_some v.machine.failure ≡ true → kept_by v rest ≡ []
none_kept v rest h = rw h refl

pub all_kept : (v : View) (rest : List ℕ) → is_some v.machine.failure ≡ false → kept_by v rest ≡ rest
all_kept v rest h = rw h refl

not_live : (o : Option Error) → is_some o ≡ true → o ≡ None → ⊥
not_live None h e = false≢true h
not_live (Some x) h e = cc

pub dropped : (front : List ℕ → Front) (waited piece waits : List ℕ) (v : View) → is_some v.machine.failure ≡ true → waits ≡ kept_by v waited → ComesOver front waited piece v waits v
dropped front waited piece waits v h w = record {
  messages = [];
  rest = waited ++ piece;
  fault = Ok tt;
  held = refl;
  fit = tt;
  all = λ live. absurd (not_live v.machine.failure h (sym (ap (λ (x : View). x.machine.failure) (input_dropped v [] h)) ∙ live));
  vm = sym (input_dropped v [] h);
  waiting = w ∙ none_kept v waited h ∙ sym (none_kept v (waited ++ piece) h);
}

-- ---- a piece that comes

came_with : (front : List ℕ → Front) (waited piece rest waits fed : List ℕ) (came : Result (Unit {0}) LayerFault) (old new : View)
    → Moves front IsWhole encoding (waited ++ piece) rest [] fed → Stops front HasEach IsWhole rest came → IsSettled came → new ≡ faulted came (after_input old fed) → waits ≡ kept_by new rest
    → ComesOver front waited piece old waits new
came_with front waited piece rest waits fed came old new moves stops settled is w = record {
  messages = moves.messages;
  rest = rest;
  fault = came;
  held = moves.held;
  fit = moves.fit;
  all = λ live. (stops, settled);
  vm = is ∙ ap (λ z. faulted came (after_input old z)) moves.written;
  waiting = w;
}

pub comes : (front : List ℕ → Front) (waited piece rest waits fed : List ℕ) (came : Result (Unit {0}) LayerFault) (old new : View)
    → Pushed front (waited ++ piece) rest [] fed came → IsSettled came → new ≡ faulted came (after_input old fed) → waits ≡ kept_by new rest → ComesOver front waited piece old waits new
comes front waited piece rest waits fed (Ok u) old new p s is w = came_with front waited piece rest waits fed (Ok u) old new p.0 p.1 s is w
comes front waited piece rest waits fed (Err Memory) old new p s is w = absurd s
comes front waited piece rest waits fed (Err BadBytes) old new p s is w = came_with front waited piece rest waits fed (Err BadBytes) old new p.0 p.1 s is w
comes front waited piece rest waits fed (Err NoSuchMessage) old new p s is w = came_with front waited piece rest waits fed (Err NoSuchMessage) old new p.0 p.1 s is w
comes front waited piece rest waits fed (Err TooLong) old new p s is w = came_with front waited piece rest waits fed (Err TooLong) old new p.0 p.1 s is w

-- ---- a piece for which no memory is found

starved_failed : (old new : Machine) → IsStarved old no_memory new → is_some new.failure ≡ true
starved_failed old new s = rw s.failure refl

some_failed : (o : Option Error) → IsSome o → is_some o ≡ true
some_failed None h = h
some_failed (Some e) h = refl

found_failed : (old new : View) (fed : List ℕ) → FoundNone old fed new → is_some new.machine.failure ≡ true
found_failed old new fed (inl s) = some_failed new.machine.failure (among_failed (messages_in_bytes old fed) old.machine new.machine s)
found_failed old new fed (inr s) = starved_failed (after_input old fed).machine new.machine s.1

starves_with : (front : List ℕ → Front) (waited piece rest waits fed : List ℕ) (old new : View)
    → Moves front IsWhole encoding (waited ++ piece) rest [] fed → FoundNone old fed new → waits ≡ kept_by new rest → StarvesOver front waited piece old waits new
starves_with front waited piece rest waits fed old new moves s w = record {
  messages = moves.messages;
  rest = rest;
  held = moves.held;
  fit = moves.fit;
  starves = subst (λ z. FoundNone old z new) moves.written s;
  waiting = w ∙ none_kept new rest (found_failed old new fed s);
}

starves_first : (front : List ℕ → Front) (waited piece rest waits : List ℕ) (old new : View)
    → old.machine.failure ≡ None → IsStarved old.machine no_memory new.machine → waits ≡ kept_by new rest → StarvesOver front waited piece old waits new
starves_first front waited piece rest waits old new live s w = record {
  messages = [];
  rest = waited ++ piece;
  held = refl;
  fit = tt;
  starves = inl (among_none (messages_in_bytes old []) old.machine new.machine live s);
  waiting = w ∙ none_kept new rest (starved_failed old.machine new.machine s);
}

pub starves_over : (front : List ℕ → Front) (waited piece rest waits fed : List ℕ) (came : Result (Unit {0}) LayerFault) (old new : View)
    → Pushed front (waited ++ piece) rest [] fed came → old.machine.failure ≡ None → FeedStarves came old fed new → waits ≡ kept_by new rest → StarvesOver front waited piece old waits new
starves_over front waited piece rest waits fed (Ok u) old new p live s w = starves_with front waited piece rest waits fed old new p.0 s w
starves_over front waited piece rest waits fed (Err Memory) old new p live s w = starves_first front waited piece rest waits old new live s w
starves_over front waited piece rest waits fed (Err BadBytes) old new p live s w = starves_with front waited piece rest waits fed old new p.0 s w
starves_over front waited piece rest waits fed (Err NoSuchMessage) old new p live s w = starves_with front waited piece rest waits fed old new p.0 s w
starves_over front waited piece rest waits fed (Err TooLong) old new p live s w = starves_with front waited piece rest waits fed old new p.0 s w
