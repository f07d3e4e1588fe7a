-- A peer's bytes that come in several pieces, and in the VM's own bytes.
use Rattle.std.proofs.Common.{◌≡◌, ℕ, Bool, true, false, List, [], ◌∷◌, ◌++◌, map, Option, Some, None, Result, Ok, Err, refl, sym, ap, subst, ◌∙◌, append_assoc, append-nil}
use Rattle.std.specs.Prelude.{if◌then◌else◌, is_some}
use Rattle.std.specs.List.{flat_map, AllByRecursion}
use Rattle.std.proofs.lemmas.Bool.{false≢true}
use Rattle.std.proofs.lemmas.Grind.{flat_map-append}
use Rattle.journal_messages.proofs.Reading.{message_is}
use Rattle.journal_protocol.specs.Bodies.{message_in}
use Rattle.journal_protocol.specs.Error.{Error}
use Rattle.journal_protocol.specs.RawMessage.{RawMessage}
use Rattle.journal_protocol.specs.Frames.{IsWhole, NextFrame, body, encoding, next_of, type_of}
use Rattle.journal_protocol.specs.Frames as frame
use Rattle.journal_protocol.specs.Message.{Message}
use Rattle.journal_protocol.proofs.Facts.{framed}
use Rattle.journal_entries.specs.Frames.{Rest, frames_of}
use Rattle.journal_entries.specs.Journal.{stored_form}
use Rattle.journal_entries.proofs.Framing.{AreFrames, in_front, join, next_framed, none_framed}
use Rattle.journal_entries.proofs.Cuts.{frames_of-next}
use Rattle.vm_machine.specs.declared.machine.Machine.{Machine}
use Rattle.invocation_vm.specs.Views.{View, after_input, all_received, consumed, has_failed, left_over}
use Rattle.invocation_vm.proofs.Cuts.{any_cut, spoiled_fails}
use Rattle.vm_layers.specs.Layers.{Front, Whole, Partial, Malformed, HoldsMessages, Stops}
use Rattle.vm_layers.specs.Own.{front_if, front_of, own_front}
use Rattle.vm_layers.specs.Steps.{IsSettled}
use Rattle.vm_layers.specs.Transcoding.{ComesOver, HasEach, after_messages, faulted, kept_by}
use Rattle.vm_layers.specs.declared.layer.LayerFault.{LayerFault}
use Rattle.vm_layers.specs.declared.layer.LayerFault.TheVariants.{Memory, Malformed as BadBytes, NoSuchMessage, TooLong}
use Rattle.vm_layers.proofs.Translating.{WholeStays, and_more, and_then, both_fit}
use Rattle.vm_layers.proofs.Cutting.{is_stop, one_fault, same_message, same_next}
use Rattle.vm_layers.proofs.Fed.{all_kept, input_dropped, live_of, none_kept, refused_none}

abbrev pub MalformedStays : (List ℕ → Front) → Type 0
MalformedStays front = (bs more : List ℕ) → front bs ≡ Malformed → front (bs ++ more) ≡ Malformed

each_has : (Fits : Message → Type 0) (m : Message) → Fits m → HasEach m
each_has Fits m f = tt

-- ---- a VM that has failed

failed_by : (o : Option Error) (e : Error) → o ≡ Some e → is_some o ≡ true
failed_by o e h = rw h refl

still_faulted : (fault : Result (Unit {0}) LayerFault) (v : View) → is_some v.machine.failure ≡ true → faulted fault v ≡ v
still_faulted (Ok u) v h = refl
still_faulted (Err e) v h = refused_none v h

fault_fails : (e : LayerFault) (v : View) → is_some (faulted (Err e) v).machine.failure ≡ true
fault_fails e v = spoiled_fails v.machine

failed_stays : (v : View) (ms : List Message) (fault : Result (Unit {0}) LayerFault) → is_some v.machine.failure ≡ true → after_messages ms fault v ≡ v
failed_stays v ms fault h = ap (faulted fault) (input_dropped v (flat_map encoding ms) h) ∙ still_faulted fault v h

-- messages, and then others
more_come : (v : View) (ms others : List Message) → after_input v (flat_map encoding (ms ++ others)) ≡ after_input (after_input v (flat_map encoding ms)) (flat_map encoding others)
more_come v ms others = ap (after_input v) (flat_map-append encoding ms others) ∙ sym (any_cut v (flat_map encoding ms) (flat_map encoding others))

-- ---- two pieces

stop_more : (front : List ℕ → Front) → WholeStays front → MalformedStays front → (rest more : List ℕ) (e : LayerFault)
    → Stops front HasEach IsWhole rest (Err e) → Stops front HasEach IsWhole (rest ++ more) (Err e)
stop_more front whole bad rest more Memory s = tt
stop_more front whole bad rest more BadBytes s = bad rest more s
stop_more front whole bad rest more NoSuchMessage s = absurd (s.3 tt)
stop_more front whole bad rest more TooLong s = (s.0, s.1 ++ more, whole rest more s.0 s.1 s.2, s.3, s.4)

-- where the VM lives after messages and fails by what follows, that is a fault
fault_more : (front : List ℕ → Front) → WholeStays front → MalformedStays front → (rest more : List ℕ) (fault : Result (Unit {0}) LayerFault) (reached mid : View) → mid ≡ faulted fault reached
    → is_some mid.machine.failure ≡ true → reached.machine.failure ≡ None → Stops front HasEach IsWhole rest fault × IsSettled fault → Stops front HasEach IsWhole (rest ++ more) fault × IsSettled fault
fault_more front whole bad rest more (Ok u) reached mid is dead live s = absurd (false≢true (sym (ap is_some (ap (λ (x : View). x.machine.failure) is ∙ live)) ∙ dead))
fault_more front whole bad rest more (Err e) reached mid is dead live s = (stop_more front whole bad rest more e s.0, s.1)

-- the first piece failed the VM
after_failed : (front : List ℕ → Front) → WholeStays front → MalformedStays front → (waited xs ys between waits : List ℕ) (old mid new : View) → is_some mid.machine.failure ≡ true
    → ComesOver front waited xs old between mid → ComesOver front between ys mid waits new → ComesOver front waited (xs ++ ys) old waits new
after_failed front whole bad waited xs ys between waits old mid new dead a b =
    let same : new ≡ mid = b.vm ∙ failed_stays mid b.messages b.fault dead in
    let dead' : is_some new.machine.failure ≡ true = ap (λ (x : View). is_some x.machine.failure) same ∙ dead in
    record {
      messages = a.messages;
      rest = a.rest ++ ys;
      fault = a.fault;
      held = subst (λ z. HoldsMessages front z a.messages (a.rest ++ ys)) (append_assoc waited xs ys) (and_more front whole (waited ++ xs) ys a.messages a.rest a.held);
      fit = a.fit;
      all = λ live. fault_more front whole bad a.rest ys a.fault (after_input old (flat_map encoding a.messages)) mid a.vm dead live (a.all live);
      vm = same ∙ a.vm;
      waiting = b.waiting ∙ none_kept new b.rest dead' ∙ sym (none_kept new (a.rest ++ ys) dead');
    }

no_fault : (fault : Result (Unit {0}) LayerFault) (reached mid : View) → mid ≡ faulted fault reached → is_some mid.machine.failure ≡ false → mid ≡ reached
no_fault (Ok u) reached mid is live = is
no_fault (Err e) reached mid is live = absurd (false≢true (sym live ∙ ap (λ (x : View). is_some x.machine.failure) is ∙ fault_fails e reached))

-- it didn't
after_live : (front : List ℕ → Front) → WholeStays front → (waited xs ys between waits : List ℕ) (old mid new : View) → is_some mid.machine.failure ≡ false
    → ComesOver front waited xs old between mid → ComesOver front between ys mid waits new → ComesOver front waited (xs ++ ys) old waits new
after_live front whole waited xs ys between waits old mid new live a b =
    let here : mid ≡ after_input old (flat_map encoding a.messages) = no_fault a.fault (after_input old (flat_map encoding a.messages)) mid a.vm live in
    let left : between ≡ a.rest = a.waiting ∙ all_kept mid a.rest live in
    let both : after_input mid (flat_map encoding b.messages) ≡ after_input old (flat_map encoding (a.messages ++ b.messages)) = ap (λ (x : View). after_input x (flat_map encoding b.messages)) here ∙ sym (more_come old a.messages b.messages) in
    record {
      messages = a.messages ++ b.messages;
      rest = b.rest;
      fault = b.fault;
      held = subst (λ z. HoldsMessages front z (a.messages ++ b.messages) b.rest) (append_assoc waited xs ys)
          (and_then front ((waited ++ xs) ++ ys) a.messages (a.rest ++ ys) b.messages b.rest (and_more front whole (waited ++ xs) ys a.messages a.rest a.held)
          (subst (λ z. HoldsMessages front (z ++ ys) b.messages b.rest) left b.held));
      fit = both_fit IsWhole a.messages b.messages a.fit b.fit;
      all = λ lives. b.all (ap (λ (x : View). x.machine.failure) both ∙ lives);
      vm = b.vm ∙ ap (faulted b.fault) both;
      waiting = b.waiting;
    }

join_by : (front : List ℕ → Front) → WholeStays front → MalformedStays front → (waited xs ys between waits : List ℕ) (old mid new : View) (b : Bool) → is_some mid.machine.failure ≡ b
    → ComesOver front waited xs old between mid → ComesOver front between ys mid waits new → ComesOver front waited (xs ++ ys) old waits new
join_by front whole bad waited xs ys between waits old mid new true h a b = after_failed front whole bad waited xs ys between waits old mid new h a b
join_by front whole bad waited xs ys between waits old mid new false h a b = after_live front whole waited xs ys between waits old mid new h a b

pub both_come : (front : List ℕ → Front) → WholeStays front → MalformedStays front → (waited xs ys between waits : List ℕ) (old mid new : View)
    → ComesOver front waited xs old between mid → ComesOver front between ys mid waits new → ComesOver front waited (xs ++ ys) old waits new
both_come front whole bad waited xs ys between waits old mid new a b = join_by front whole bad waited xs ys between waits old mid new (is_some mid.machine.failure) refl a b

-- ---- what comes is one thing

-- how a VM takes messages, and what it keeps of the bytes that follow
record Took (front : List ℕ → Front) (ms : List Message) (rest : List ℕ) (fault : Result (Unit {0}) LayerFault) (old : View) (waits : List ℕ) (new : View) : Type 0 where
  fit : AllByRecursion IsWhole ms
  all : (after_input old (flat_map encoding ms)).machine.failure ≡ None → Stops front HasEach IsWhole rest fault × IsSettled fault
  vm : new ≡ after_messages ms fault old
  waiting : waits ≡ kept_by new rest

-- the VM failed before the first of the messages
took_failed : (front : List ℕ → Front) (ms : List Message) (rest : List ℕ) (fault : Result (Unit {0}) LayerFault) (old : View) (waits : List ℕ) (new : View) → is_some (after_input old []).machine.failure ≡ true
    → Took front ms rest fault old waits new → (waits ≡ []) × (new ≡ after_input old [])
took_failed front ms rest fault old waits new h t =
    let first : after_input old (flat_map encoding ms) ≡ after_input old [] = sym (any_cut old [] (flat_map encoding ms)) ∙ input_dropped (after_input old []) (flat_map encoding ms) h in
    let is : new ≡ after_input old [] = t.vm ∙ ap (faulted fault) first ∙ still_faulted fault (after_input old []) h in
    (t.waiting ∙ none_kept new rest (ap (λ (x : View). is_some x.machine.failure) is ∙ h), is)

-- the first of the messages comes
took_one : (front : List ℕ → Front) (m : Message) (ms : List Message) (rest : List ℕ) (fault : Result (Unit {0}) LayerFault) (old : View) (waits : List ℕ) (new : View)
    → Took front (m ∷ ms) rest fault old waits new → Took front ms rest fault (after_input old (encoding m)) waits new
took_one front m ms rest fault old waits new t =
    let more : after_input (after_input old (encoding m)) (flat_map encoding ms) ≡ after_input old (flat_map encoding (m ∷ ms)) = any_cut old (encoding m) (flat_map encoding ms) in
    record {
      fit = t.fit.1;
      all = λ live. t.all (sym (ap (λ (x : View). x.machine.failure) more) ∙ live);
      vm = t.vm ∙ ap (faulted fault) (sym more);
      waiting = t.waiting;
    }

same_kept : (a b : View) (r s : List ℕ) → a ≡ b → r ≡ s → kept_by a r ≡ kept_by b s
same_kept a b r s e d = ap (λ (x : View). kept_by x r) e ∙ ap (kept_by b) d

both_took : (front : List ℕ → Front) (rest rest' : List ℕ) (fault fault' : Result (Unit {0}) LayerFault) (old : View) (waits waits' : List ℕ) (new new' : View) → (after_input old []).machine.failure ≡ None
    → rest ≡ rest' → Took front [] rest fault old waits new → Took front [] rest' fault' old waits' new' → (waits ≡ waits') × (new ≡ new')
both_took front rest rest' fault fault' old waits waits' new new' live e a b =
    let s = a.all live in
    let t = subst (λ z. Stops front HasEach IsWhole z fault' × IsSettled fault') (sym e) (b.all live) in
    let same : fault ≡ fault' = one_fault front HasEach IsWhole rest fault fault' s.0 s.1 t.0 t.1 in
    let is : new ≡ new' = a.vm ∙ ap (λ x. faulted x (after_input old [])) same ∙ sym b.vm in
    (a.waiting ∙ same_kept new new' rest rest' is e ∙ sym b.waiting, is)

no_stop : (front : List ℕ → Front) (rest : List ℕ) (fault : Result (Unit {0}) LayerFault) (old : View) (waits : List ℕ) (new : View) (m : Message) (next : List ℕ) → (after_input old []).machine.failure ≡ None
    → Took front [] rest fault old waits new → front rest ≡ Whole m next → IsWhole m → ⊥
no_stop front rest fault old waits new m next live t e w =
    let s = t.all live in
    is_stop front HasEach IsWhole (each_has IsWhole) rest fault s.0 s.1 m next e w

one_took : (front : List ℕ → Front) (stream : List ℕ) (ms ns : List Message) (rest rest' : List ℕ) (fault fault' : Result (Unit {0}) LayerFault) (old : View) (waits waits' : List ℕ) (new new' : View) (b : Bool)
    → is_some (after_input old []).machine.failure ≡ b → HoldsMessages front stream ms rest → Took front ms rest fault old waits new
    → HoldsMessages front stream ns rest' → Took front ns rest' fault' old waits' new' → (waits ≡ waits') × (new ≡ new')
one_took front stream ms ns rest rest' fault fault' old waits waits' new new' true dead h t g u =
    let a = took_failed front ms rest fault old waits new dead t in
    let b = took_failed front ns rest' fault' old waits' new' dead u in
    (a.0 ∙ sym b.0, a.1 ∙ sym b.1)
one_took front stream [] [] rest rest' fault fault' old waits waits' new new' false live h t g u =
    both_took front rest rest' fault fault' old waits waits' new new' (live_of (after_input old []).machine.failure live) (sym h ∙ g) t u
one_took front stream [] (n ∷ ns) rest rest' fault fault' old waits waits' new new' false live h t g u =
    absurd (no_stop front rest fault old waits new n g.0 (live_of (after_input old []).machine.failure live) t (ap front (sym h) ∙ g.1) u.fit.0)
one_took front stream (m ∷ ms) [] rest rest' fault fault' old waits waits' new new' false live h t g u =
    absurd (no_stop front rest' fault' old waits' new' m h.0 (live_of (after_input old []).machine.failure live) u (ap front (sym g) ∙ h.1) t.fit.0)
one_took front stream (m ∷ ms) (n ∷ ns) rest rest' fault fault' old waits waits' new new' false live h t g u =
    let e : m ≡ n = same_message (front stream) m n h.0 g.0 h.1 g.1 in
    let d : h.0 ≡ g.0 = same_next (front stream) m n h.0 g.0 h.1 g.1 in
    let mid : View = after_input old (encoding m) in
    one_took front h.0 ms ns rest rest' fault fault' mid waits waits' new new' (is_some (after_input mid []).machine.failure) refl h.2 (took_one front m ms rest fault old waits new t)
    (subst (λ z. HoldsMessages front z ns rest') (sym d) g.2) (subst (λ z. Took front ns rest' fault' (after_input old (encoding z)) waits' new') (sym e) (took_one front n ns rest' fault' old waits' new' u))

took : (front : List ℕ → Front) (waited piece waits : List ℕ) (old new : View) (c : ComesOver front waited piece old waits new) → Took front c.messages c.rest c.fault old waits new
took front waited piece waits old new c = record { fit = c.fit; all = c.all; vm = c.vm; waiting = c.waiting }

pub one_comes : (front : List ℕ → Front) (waited piece waits waits' : List ℕ) (old new new' : View)
    → ComesOver front waited piece old waits new → ComesOver front waited piece old waits' new' → (waits ≡ waits') × (new ≡ new')
one_comes front waited piece waits waits' old new new' a b =
    one_took front (waited ++ piece) a.messages b.messages a.rest b.rest a.fault b.fault old waits waits' new new' (is_some (after_input old []).machine.failure) refl a.held
    (took front waited piece waits old new a) b.held (took front waited piece waits' old new' b)

-- ---- frames of messages

framed_alone : (m : Message) → IsWhole m → AreFrames (encoding m) (stored_form m ∷ [])
framed_alone m w = next_framed (encoding m) [] (stored_form m) (ap next_of (sym (append-nil (encoding m))) ∙ framed m [] w) ∙ ap (in_front (stored_form m ∷ [])) none_framed

all_framed : (ms : List Message) → AllByRecursion IsWhole ms → AreFrames (flat_map encoding ms) (map stored_form ms)
all_framed [] w = none_framed
all_framed (m ∷ ms) w = join (encoding m) (flat_map encoding ms) (stored_form m ∷ []) (map stored_form ms) (framed_alone m w.0) (all_framed ms w.1)

either_none : (b : Bool) (rest : List ℕ) → [] ≡ rest → (if b then [] else rest) ≡ rest
either_none true rest e = e
either_none false rest e = refl

live_input : (v : View) (bytes : List ℕ) → v.machine.failure ≡ None → after_input v bytes ≡ consumed (frames_of (v.undecoded ++ bytes)) v.machine
live_input v bytes h = rw h refl

pub come_as_messages : (v : View) (ms : List Message) → v.undecoded ≡ [] → v.machine.failure ≡ None → AllByRecursion IsWhole ms
    → after_input v (flat_map encoding ms) ≡ record { undecoded = []; machine = all_received (map stored_form ms) v.machine }
come_as_messages v ms none live w =
    let m : Machine = all_received (map stored_form ms) v.machine in
    live_input v (flat_map encoding ms) live ∙ ap (λ z. consumed (frames_of (z ++ flat_map encoding ms)) v.machine) none ∙ ap (λ f. consumed f v.machine) (all_framed ms w)
    ∙ ap (λ z. record { undecoded = z; machine = m }) (either_none (has_failed m) [] refl)

-- ---- the VM's own bytes

front_held : (o : Option Message) (rest : List ℕ) (m : Message) (next : List ℕ) → front_if o rest ≡ Whole m next → (o ≡ Some m) × (rest ≡ next)
front_held (Some n) rest m next e = (cc, cc)
front_held None rest m next e = absurd (cc)

raw_same : (raw : RawMessage) (m : Message) → message_in raw.ty raw.body ≡ Some m → raw ≡ stored_form m
raw_same raw m e =
    let is = message_is raw.ty raw.body m e in
    ap (λ t. record { ty = t; body = raw.body }) (sym is.1) ∙ ap (λ b. record { ty = type_of m; body = b }) is.2

next_held : (x : NextFrame) (m : Message) (next : List ℕ) → front_of x ≡ Whole m next → x ≡ frame.Whole (stored_form m) next
next_held (frame.Whole raw rest) m next e =
    let h = front_held (message_in raw.ty raw.body) rest m next e in
    ap (λ r. frame.Whole r rest) (raw_same raw m h.0) ∙ ap (frame.Whole (stored_form m)) h.1
next_held frame.Partial m next e = absurd (cc)
next_held frame.Malformed m next e = absurd (cc)

no_part : (o : Option Message) (rest : List ℕ) → front_if o rest ≡ Partial → ⊥
no_part (Some m) rest e = cc
no_part None rest e = cc

next_part : (x : NextFrame) → front_of x ≡ Partial → x ≡ frame.Partial
next_part (frame.Whole raw rest) e = absurd (no_part (message_in raw.ty raw.body) rest e)
next_part frame.Partial e = refl
next_part frame.Malformed e = absurd (cc)

part_framed : (rest : List ℕ) → own_front rest ≡ Partial → frames_of rest ≡ ([], Rest rest)
part_framed rest e = rw (frames_of-next rest, next_part (next_of rest) e) refl

held_framed : (stream : List ℕ) (ms : List Message) (rest : List ℕ) → HoldsMessages own_front stream ms rest → own_front rest ≡ Partial → frames_of stream ≡ (map stored_form ms, Rest rest)
held_framed stream [] rest h e = ap frames_of h ∙ part_framed rest e
held_framed stream (m ∷ ms) rest h e =
    next_framed stream h.0 (stored_form m) (next_held (next_of stream) m h.0 h.1) ∙ ap (in_front (stored_form m ∷ [])) (held_framed h.0 ms rest h.2 e)

settled_partial : (rest : List ℕ) (fault : Result (Unit {0}) LayerFault) (reached new : View) → new ≡ faulted fault reached → new.machine.failure ≡ None
    → Stops own_front HasEach IsWhole rest fault × IsSettled fault → own_front rest ≡ Partial
settled_partial rest (Ok u) reached new is live s = s.0
settled_partial rest (Err e) reached new is live s = absurd (false≢true (sym (ap is_some live) ∙ ap (λ (x : View). is_some x.machine.failure) is ∙ fault_fails e reached))

pub own_come : (waited piece waits : List ℕ) (old new : View) → old.undecoded ≡ [] → new.machine.failure ≡ None → ComesOver own_front waited piece old waits new
    → after_input (record old { undecoded = waited }) piece ≡ record new { undecoded = waits }
own_come waited piece waits old new none live c = own_by waited piece waits old new none live (is_some old.machine.failure) refl c
  where
    own_by : (waited piece waits : List ℕ) (old new : View) → old.undecoded ≡ [] → new.machine.failure ≡ None → (b : Bool) → is_some old.machine.failure ≡ b → ComesOver own_front waited piece old waits new
        → after_input (record old { undecoded = waited }) piece ≡ record new { undecoded = waits }
    own_by waited piece waits old new none live true dead c =
        absurd (false≢true (sym (ap is_some live) ∙ ap (λ (x : View). is_some x.machine.failure) (c.vm ∙ failed_stays old c.messages c.fault dead) ∙ dead))
    own_by waited piece waits old new none live false l c =
        let begun = live_of old.machine.failure l in
        let reached : View = after_input old (flat_map encoding c.messages) in
        let is : new ≡ reached = no_fault c.fault reached new c.vm (ap is_some live) in
        let m : Machine = all_received (map stored_form c.messages) old.machine in
        let there : new ≡ record { undecoded = []; machine = m } = is ∙ come_as_messages old c.messages none begun c.fit in
        let lives : m.failure ≡ None = sym (ap (λ (x : View). x.machine.failure) there) ∙ live in
        let part = settled_partial c.rest c.fault reached new c.vm live (c.all (sym (ap (λ (x : View). x.machine.failure) is) ∙ live)) in
        let left : waits ≡ c.rest = c.waiting ∙ all_kept new c.rest (ap is_some live) in
        live_input (record old { undecoded = waited }) piece begun ∙ ap (λ f. consumed f old.machine) (held_framed (waited ++ piece) c.messages c.rest c.held part)
        ∙ live_left c.rest m lives ∙ ap (λ z. record { undecoded = z; machine = m }) (sym left) ∙ ap (λ (x : View). record x { undecoded = waits }) (sym there)
      where
        live_left : (rest : List ℕ) (m : Machine) → m.failure ≡ None → left_over (Rest rest) m ≡ record { undecoded = rest; machine = m }
        live_left rest m h = rw h refl
