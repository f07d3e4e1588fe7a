-- Bytes that come in two pieces do what they do in one.
use Rattle.std.proofs.Common.{◌≡◌, ℕ, true, List, [], ◌∷◌, ◌++◌, Option, Some, None, sym, ap, refl, ◌∙◌, append_assoc}
use Rattle.std.specs.Prelude.{is_some}
use Rattle.journal_protocol.specs.Error.{Error}
use Rattle.journal_protocol.specs.RawMessage.{RawMessage}
use Rattle.vm_machine.specs.declared.machine.Machine.{Machine}
use Rattle.vm_machine.specs.Outcomes.{called, called_at}
use Rattle.vm_machine.specs.Inputs.{malformed_step}
use Rattle.journal_entries.specs.Frames.{Tail, Rest, Garbage, frames_of, frames_joined}
use Rattle.journal_entries.proofs.Cuts.{frames_of-append}
use Rattle.invocation_vm.specs.Views.{View, received, spoiled, all_received, left_over, consumed, after_input, left_by}

-- ---- a failed machine stays as it is

pub stays : (e : Error) (raw : RawMessage) (m : Machine) → m.failure ≡ Some e → received raw m ≡ m
unfolding received called
stays e raw m h = rw h refl

pub all_stay : (e : Error) (raws : List RawMessage) (m : Machine) → m.failure ≡ Some e → all_received raws m ≡ m
all_stay e [] m h = refl
all_stay e (raw ∷ raws) m h = rw (stays e raw m h) (all_stay e raws m h)

pub all_received-append : (xs ys : List RawMessage) (m : Machine) → all_received (xs ++ ys) m ≡ all_received ys (all_received xs m)
all_received-append [] ys m = refl
all_received-append (x ∷ xs) ys m = all_received-append xs ys (received x m)

pub spoiled_stays : (e : Error) (m : Machine) → m.failure ≡ Some e → spoiled m ≡ m
unfolding spoiled called
spoiled_stays e m h = rw h refl

spoiled_at : (f : Option Error) (m : Machine) → m.failure ≡ f → is_some (left_by (called_at f (malformed_step m) m)).failure ≡ true
spoiled_at None m h = refl
spoiled_at (Some e) m h = rw h refl

-- garbage fails each machine
pub spoiled_fails : (m : Machine) → is_some (spoiled m).failure ≡ true
unfolding spoiled called
spoiled_fails m = spoiled_at m.failure m refl

-- a failed machine takes any frames without a change
left_by_failed : (e : Error) (t : Tail) (m : Machine) → m.failure ≡ Some e → left_over t m ≡ record { undecoded = []; machine = m }
left_by_failed e (Rest bytes) m h = rw h refl
left_by_failed e Garbage m h = rw (spoiled_stays e m h) refl

pub consumed_failed : (p : List RawMessage × Tail) (m : Machine) (e : Error) → m.failure ≡ Some e → consumed p m ≡ record { undecoded = []; machine = m }
consumed_failed p m e h = rw (all_stay e p.0 m h) (left_by_failed e p.1 m h)

-- ---- two pieces

input_failed : (v : View) (bytes : List ℕ) → is_some v.machine.failure ≡ true → after_input v bytes ≡ v
input_failed v bytes h = rw h refl

cut_rest : (o : Option Error) (frames : List RawMessage) (rest more : List ℕ) (m : Machine) → (all_received frames m).failure ≡ o
    → after_input (consumed (frames, Rest rest) m) more ≡ consumed (frames_joined (frames, Rest rest) more) m
cut_rest (Some e) frames rest more m h =
    let w = all_received frames m in
    let f = frames_of (rest ++ more) in
    rw (all_received-append frames f.0 m, all_stay e f.0 w h, left_by_failed e f.1 w h, h) refl
cut_rest None frames rest more m h = rw (all_received-append frames (frames_of (rest ++ more)).0 m, h) refl

cut_garbage : (frames : List RawMessage) (more : List ℕ) (m : Machine) → after_input (consumed (frames, Garbage) m) more ≡ consumed (frames, Garbage) m
cut_garbage frames more m = input_failed (consumed (frames, Garbage) m) more (spoiled_fails (all_received frames m))

cut_frames : (p : List RawMessage × Tail) (more : List ℕ) (m : Machine) → after_input (consumed p m) more ≡ consumed (frames_joined p more) m
cut_frames (frames, Rest rest) more m = cut_rest (all_received frames m).failure frames rest more m refl
cut_frames (frames, Garbage) more m = cut_garbage frames more m

cut_view : (o : Option Error) (v : View) (xs ys : List ℕ) → v.machine.failure ≡ o → after_input (after_input v xs) ys ≡ after_input v (xs ++ ys)
cut_view (Some e) v xs ys h = rw h refl
cut_view None v xs ys h =
    let p = frames_of (v.undecoded ++ xs) in
    let first : after_input v xs ≡ consumed p v.machine = rw h refl in
    let both : after_input v (xs ++ ys) ≡ consumed (frames_of (v.undecoded ++ (xs ++ ys))) v.machine = rw h refl in
    let joins : frames_of (v.undecoded ++ (xs ++ ys)) ≡ frames_joined p ys = rw (← append_assoc) (frames_of-append (v.undecoded ++ xs) ys) in
    ap (λ (w : View). after_input w ys) first
    ∙ (cut_frames p ys v.machine ∙ sym (both ∙ ap (λ (f : List RawMessage × Tail). consumed f v.machine) joins))

pub any_cut : (v : View) (xs ys : List ℕ) → after_input (after_input v xs) ys ≡ after_input v (xs ++ ys)
any_cut v xs ys = cut_view v.machine.failure v xs ys refl
