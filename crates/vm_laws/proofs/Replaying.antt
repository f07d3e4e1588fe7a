-- What a call does in replay, and what a machine that is over does.
use Rattle.std.proofs.Common.{◌≡◌, Bool, true, false, List, [], ◌∷◌, ◌++◌, Option, Some, None, refl, sym, ap, subst, ◌∙◌}
use Rattle.std.specs.Prelude.{if◌then◌else◌, ◌==◌, map}
use Rattle.std.proofs.lemmas.List.{append-nil}
use Rattle.journal_protocol.specs.Error.{Error}
use Rattle.journal_protocol.specs.NamedFault.{NamedFault}
use Rattle.journal_protocol.specs.NamedFault.TheVariants as fault
use Rattle.journal_protocol.specs.Message.{Message}
use Rattle.journal_protocol.specs.RawMessage.{RawMessage}
use Rattle.journal_protocol.specs.Equality.{header_equal}
use Rattle.journal_protocol.specs.Frames.{encoding, type_of}
use Rattle.journal_protocol.specs.Bodies.{message_in}
use Rattle.journal_protocol.specs.Types.{type_number}
use Rattle.await_trees.specs.declared.handle.NotificationHandle.{NotificationHandle}
use Rattle.vm_state.specs.Counting.{missing_number}
use Rattle.vm_machine.specs.declared.machine.Machine.{Machine}
use Rattle.vm_machine.specs.declared.phase.Phase.{Phase}
use Rattle.vm_machine.specs.declared.phase.Phase.TheVariants.{Replaying}
use Rattle.vm_machine.specs.Commands.{entered, written, phase_after, popped, popped_from, compared, replayed, carried_out, prepared, command_if_counted, issued}
use Rattle.vm_laws.specs.Endings.{EndsOnce, Writes, is_over}
use Rattle.vm_machine.specs.Outcomes.{Outcome, Done, Failed, ◌>>>◌, about_last}
use Rattle.vm_machine.specs.Phases.{is_running, is_processing, state_fault}
use Rattle.vm_laws.specs.Replays.{MayReplay, Pops, Refuses, command_at, ignores, is_header_equal, is_of_its_type}
use Rattle.vm_asks.specs.Requests.{ids_of, name_of, shown_type}
use Rattle.vm_laws.proofs.Carried.{IsDone, answered, no_answer, same_machine}

-- ---- the next recorded command

-- it is looked up among these
abbrev Looked : Message → Bool → List RawMessage → Machine → Outcome Unit
Looked m ignore raws u = popped_from raws (type_of m) u >>> λ raw w. compared m ignore (message_in raw.ty raw.body) w

looked_up : (m : Message) (ignore : Bool) (raws : List RawMessage) (u : Machine) → u.phase ≡ Replaying → u.commands ≡ raws → carried_out m ignore u ≡ Looked m ignore raws u
unfolding carried_out replayed popped
looked_up m ignore raws u p c =
    ap (λ (x : Phase). if is_processing x then Done tt (written m u) else replayed m ignore u) p ∙ ap (λ (xs : List RawMessage). Looked m ignore xs u) c

-- a popped command, before it is compared
abbrev without : List RawMessage → Machine → Machine
without rest u = record u { commands = rest; phase = phase_after rest }

-- what was found
record Found (m : Message) (ignore : Bool) (raws : List RawMessage) (u w : Machine) : Type 0 where
  raw : RawMessage
  recorded : Message
  read : message_in raw.ty raw.body ≡ Some recorded
  equal : header_equal recorded m ignore ≡ true
  popped : raws ≡ raw ∷ w.commands
  output : w.output ≡ u.output

equal_at : (m : Message) (ignore b : Bool) (raw : RawMessage) (recorded : Message) (rest : List RawMessage) (u w : Machine)
    → message_in raw.ty raw.body ≡ Some recorded → header_equal recorded m ignore ≡ b
    → IsDone (if b then Done tt (without rest u) else Failed (about_last fault.CommandMismatch (without rest u)) (without rest u)) w → Found m ignore (raw ∷ rest) u w
equal_at m ignore true raw recorded rest u w i e h =
    subst (Found m ignore (raw ∷ rest) u) (same_machine (tt {0}) tt (without rest u) w h)
    (record { raw = raw; recorded = recorded; read = i; equal = e; popped = refl; output = refl })
equal_at m ignore false raw recorded rest u w i e h = absurd (no_answer _ (tt {0}) (without rest u) w h)

read_at : (m : Message) (ignore : Bool) (raw : RawMessage) (o : Option Message) (rest : List RawMessage) (u w : Machine)
    → message_in raw.ty raw.body ≡ o → IsDone (compared m ignore o (without rest u)) w → Found m ignore (raw ∷ rest) u w
read_at m ignore raw None rest u w i h = absurd (no_answer _ (tt {0}) (without rest u) w h)
read_at m ignore raw (Some recorded) rest u w i h = equal_at m ignore (header_equal recorded m ignore) raw recorded rest u w i refl h

typed_at : (m : Message) (ignore b : Bool) (raw : RawMessage) (rest : List RawMessage) (u w : Machine)
    → IsDone ((if b then Done raw (without rest u) else Failed (about_last fault.CommandTypeMismatch (without rest u)) (without rest u)) >>> λ x y. compared m ignore (message_in x.ty x.body) y) w
    → Found m ignore (raw ∷ rest) u w
typed_at m ignore true raw rest u w h = read_at m ignore raw (message_in raw.ty raw.body) rest u w refl h
typed_at m ignore false raw rest u w h = absurd (no_answer _ (tt {0}) (without rest u) w h)

found : (m : Message) (ignore : Bool) (raws : List RawMessage) (u w : Machine) → IsDone (Looked m ignore raws u) w → Found m ignore raws u w
found m ignore [] u w h = absurd (no_answer _ (tt {0}) u w h)
found m ignore (raw ∷ rest) u w h = typed_at m ignore (type_number raw.ty == type_number (type_of m)) raw rest u w h

-- ---- a call that is done

pops_at : (o : Option NamedFault) (r : Message) (unstable : Bool) (h : NotificationHandle) (v w : Machine) → v.phase ≡ Replaying → command_if_counted o r unstable v ≡ Done h w → Pops r unstable v w
pops_at (Some name) r unstable h v w p d = absurd (no_answer _ h v w d)
pops_at None r unstable h v w p d =
    let m = command_at r v in
    let ignore = ignores v unstable in
    let u = prepared r v in
    let a = answered (carried_out m ignore u) (record { 0 = v.counters.handle }) h w d in
    let f = found m ignore v.commands u w (sym (looked_up m ignore v.commands u p refl) ∙ a.0) in
    record { raw = f.raw; recorded = f.recorded; read = f.read; equal = f.equal; popped = f.popped; output = f.output }

running_at : (b : Bool) (r : Message) (unstable : Bool) (h : NotificationHandle) (v w u : Machine) (e : Error)
    → v.phase ≡ Replaying → (if b then command_if_counted (missing_number (ids_of r) 0 (ids_of r) v.counters) r unstable v else Failed e u) ≡ Done h w → Pops r unstable v w
running_at true r unstable h v w u e p d = pops_at (missing_number (ids_of r) 0 (ids_of r) v.counters) r unstable h v w p d
running_at false r unstable h v w u e p d = absurd (no_answer e h u w d)

pub pops : (r : Message) (unstable : Bool) (h : NotificationHandle) (v w : Machine) → v.phase ≡ Replaying → issued r unstable v ≡ Done h w → Pops r unstable v w
unfolding issued
pops r unstable h v w p d = running_at (is_running v.phase) r unstable h v w _ _ p d

-- ---- a call that is refused

counts : (r : Message) (unstable : Bool) (v : Machine) → MayReplay r v → issued r unstable v ≡ command_if_counted None r unstable v
unfolding issued
counts r unstable v may =
    ap
    (λ (x : Phase). if is_running x then command_if_counted (missing_number (ids_of r) 0 (ids_of r) v.counters) r unstable v
    else (let w = entered (shown_type r) (name_of r) v in Failed (about_last (state_fault v.phase) w) w))
    may.phase ∙ ap (λ (o : Option NamedFault). command_if_counted o r unstable v) may.numbers

-- the call's answer
abbrev answer : Machine → Outcome Unit → Outcome NotificationHandle
answer v o = o >>> λ _ w. Done (record { 0 = v.counters.handle }) w

-- the lookup fails with an error about the command, and so does the call
refuses : (name : NamedFault) (r : Message) (unstable : Bool) (raws : List RawMessage) (left v : Machine) → MayReplay r v → v.commands ≡ raws → left.output ≡ (prepared r v).output
    → Looked (command_at r v) (ignores v unstable) raws (prepared r v) ≡ Failed (about_last name (prepared r v)) left → Refuses name r unstable v
refuses name r unstable raws left v may c o f =
    let look = looked_up (command_at r v) (ignores v unstable) raws (prepared r v) may.phase c in
    record {
      left = left;
      outcome = counts r unstable v may ∙ ap (answer v) (look ∙ f);
      output = o;
    }

pub none_left : (r : Message) (unstable : Bool) (v : Machine) → MayReplay r v → v.commands ≡ [] → Refuses fault.UnavailableEntry r unstable v
none_left r unstable v may c = refuses fault.UnavailableEntry r unstable [] (prepared r v) v may c refl refl

pub other_type : (r : Message) (unstable : Bool) (raw : RawMessage) (rest : List RawMessage) (v : Machine) → MayReplay r v → v.commands ≡ raw ∷ rest → is_of_its_type raw r v ≡ false → Refuses fault.CommandTypeMismatch r unstable v
other_type r unstable raw rest v may c t =
    let m = command_at r v in
    let x = without rest (prepared r v) in
    refuses fault.CommandTypeMismatch r unstable (raw ∷ rest) x v may c refl
    (ap (λ b. (if b then Done raw x else Failed (about_last fault.CommandTypeMismatch x) x) >>> λ y z. compared m (ignores v unstable) (message_in y.ty y.body) z) t)

-- a recorded command of the call's type, as it was read
refuses_read : (name : NamedFault) (r : Message) (unstable : Bool) (raw : RawMessage) (rest : List RawMessage) (v : Machine) (o : Option Message)
    → MayReplay r v → v.commands ≡ raw ∷ rest → is_of_its_type raw r v ≡ true → message_in raw.ty raw.body ≡ o
    → compared (command_at r v) (ignores v unstable) o (without rest (prepared r v)) ≡ Failed (about_last name (prepared r v)) (without rest (prepared r v)) → Refuses name r unstable v
refuses_read name r unstable raw rest v o may c t i f =
    let m = command_at r v in
    let ignore = ignores v unstable in
    let x = without rest (prepared r v) in
    refuses name r unstable (raw ∷ rest) x v may c refl (
    ap (λ b. (if b then Done raw x else Failed (about_last fault.CommandTypeMismatch x) x) >>> λ y z. compared m ignore (message_in y.ty y.body) z) t
    ∙ ap (λ (y : Option Message). compared m ignore y x) i ∙ f
    )

pub not_read : (r : Message) (unstable : Bool) (raw : RawMessage) (rest : List RawMessage) (v : Machine)
    → MayReplay r v → v.commands ≡ raw ∷ rest → is_of_its_type raw r v ≡ true → message_in raw.ty raw.body ≡ None → Refuses fault.BadMessage r unstable v
not_read r unstable raw rest v may c t i = refuses_read fault.BadMessage r unstable raw rest v None may c t i refl

pub not_equal : (r : Message) (unstable : Bool) (raw : RawMessage) (rest : List RawMessage) (recorded : Message) (v : Machine)
    → MayReplay r v → v.commands ≡ raw ∷ rest → is_of_its_type raw r v ≡ true → message_in raw.ty raw.body ≡ Some recorded → is_header_equal recorded r unstable v ≡ false → Refuses fault.CommandMismatch r unstable v
not_equal r unstable raw rest recorded v may c t i n =
    let x = without rest (prepared r v) in
    refuses_read fault.CommandMismatch r unstable raw rest v (Some recorded) may c t i (ap (λ b. if b then Done tt x else Failed (about_last fault.CommandMismatch x) x) n)

-- ---- a machine that is over

none_behind : (b : Bool) (messages : List Message) (after : Bool) → b ≡ true → EndsOnce b messages after → messages ≡ []
none_behind true messages after e h = h.0
none_behind false messages after e h = absurd cc

pub nothing_more : (v w : Machine) → is_over v ≡ true → Writes v w → w.output ≡ v.output
nothing_more v w over s =
    s.output ∙ ap (λ (ms : List Message). v.output ++ map encoding ms) (none_behind (is_over v) s.messages (is_over w) over s.ends_once) ∙ append-nil v.output
