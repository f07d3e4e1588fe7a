-- A piece of input that is fed keeps what is kept of an attempt.
use Rattle.std.proofs.Common.{◌≡◌, ◌⊎◌, ℕ, suc, ◌+◌, true, false, List, [], ◌∷◌, ◌++◌, length, Option, Some, None, refl, sym, ap, ◌∙◌, subst, inl, inr, ⊎_elim, append_assoc, append-nil, arith, length-append}
use Rattle.std.specs.Prelude.{if◌then◌else◌, is_some, IsSome}
use Rattle.journal_protocol.specs.Error.{Error}
use Rattle.journal_protocol.specs.RawMessage.{RawMessage}
use Rattle.journal_protocol.specs.Notification.{Notification}
use Rattle.vm_state.specs.declared.state_map.StateMap.{StateMap}
use Rattle.vm_types.specs.declared.steps.Answer.{Answer}
use Rattle.await_trees.specs.declared.tree.UnresolvedFuture.{UnresolvedFuture}
use Rattle.vm_machine.specs.declared.machine.Machine.{Machine}
use Rattle.vm_machine.specs.Inputs.{coverage_of}
use Rattle.vm_machine.specs.Making.{fresh}
use Rattle.vm_machine.specs.Phases.{is_running}
use Rattle.journal_entries.specs.Frames.{Tail, Rest, Garbage, frames_of, frames_joined}
use Rattle.invocation_vm.specs.Views.{View, after_input, all_received, consumed, left_over}
use Rattle.invocation_vm.proofs.Cuts.{spoiled_fails}
use Rattle.journal_entries.proofs.Cuts.{frames_of-append}
use Rattle.vm_model.specs.Calls.{Setup, Meaning}
use Rattle.std.proofs.Common.{Global}
use Rattle.vm_model.specs.Histories.{Made, Knowledge, Handed}
use Rattle.vm_model.specs.Moves.{Point, later, start}
use Rattle.vm_model.proofs.Runs.{made_later}
use Rattle.vm_attempt.specs.Heard.{Heard, and_piece, with_pieces}
use Rattle.journal_protocol.specs.ProposeRunCompletion.{ProposeRunCompletion}
use Rattle.std.specs.List.{AllByRecursion}
use Rattle.vm_attempt.specs.declared.progress.Fed.{Fed}
use Rattle.vm_attempt.specs.Agreement.{Agrees, Aside}
use Rattle.vm_attempt.specs.Arrivals.{AllFound, arriving, kept_after}
use Rattle.journal_entries.specs.JournalFrames.{AcknowledgesNothing, commands_among, notifications_among}
use Rattle.vm_attempt.specs.Journals.{HasAll, StartedWith, StillWaits, aside_for, setup_for, waiting_machine}
use Rattle.vm_attempt.specs.Told.{BeforeInput, Begun, Comes, IsLive, Journal, KeepsProposals, HandlerRuns, StillAwaits, arrivals, bytes_fed, bytes_in, frames_fed, start_state}
use Rattle.vm_attempt.proofs.Arriving.{frames_come}
use Rattle.vm_attempt.proofs.Proposed.{all_keep, arriving_append, found_append, kept_append}
use Rattle.vm_attempt.proofs.Entries.{commands_behind, entries_come, journals_come, more_come, notifications_behind}
use Rattle.vm_attempt.proofs.Quiet.{input_quiet, wrote_quiet}
use Rattle.vm_attempt.proofs.Requesting.{runs_at}
use Rattle.vm_model.specs.Fixed.{Fixed}

-- ---- frames

pub pieces_behind : (fs : List Fed) (f : Fed) → bytes_in (fs ++ f ∷ []) ≡ bytes_in fs ++ f.piece
pieces_behind [] f = append-nil f.piece
pieces_behind (x ∷ fs) f = ap (λ l. x.piece ++ l) (pieces_behind fs f) ∙ sym (append_assoc x.piece (bytes_in fs) f.piece)

pub bytes_behind : (fed : Heard) (f : Fed) → bytes_fed (and_piece fed f) ≡ bytes_fed fed ++ f.piece
bytes_behind fed f = pieces_behind fed.pieces f

pub commands_append : (xs ys : List RawMessage) → commands_among (xs ++ ys) ≡ commands_among xs ++ commands_among ys
commands_append [] ys = refl
commands_append (x ∷ xs) ys = sym (commands_behind x (xs ++ ys)) ∙ ap (λ l. commands_among (x ∷ []) ++ l) (commands_append xs ys) ∙ sym (append_assoc (commands_among (x ∷ [])) (commands_among xs) (commands_among ys)) ∙ ap (λ l. l ++ commands_among ys) (commands_behind x xs)

pub notifications_append : (xs ys : List RawMessage) → notifications_among (xs ++ ys) ≡ notifications_among xs ++ notifications_among ys
notifications_append [] ys = refl
notifications_append (x ∷ xs) ys = sym (notifications_behind x (xs ++ ys)) ∙ ap (λ l. notifications_among (x ∷ []) ++ l) (notifications_append xs ys) ∙ sym (append_assoc (notifications_among (x ∷ [])) (notifications_among xs) (notifications_among ys)) ∙ ap (λ l. l ++ notifications_among ys) (notifications_behind x xs)

pub none_append : (xs ys : List RawMessage) → AllByRecursion AcknowledgesNothing xs → AllByRecursion AcknowledgesNothing ys → AllByRecursion AcknowledgesNothing (xs ++ ys)
none_append [] ys a b = b
none_append (x ∷ xs) ys a b = (a.0, none_append xs ys a.1 b)

-- the frames of a longer input are those from before and others
pub more_frames : (P : List RawMessage × Tail) (piece : List ℕ) → (G : List RawMessage) × ((frames_joined P piece).0 ≡ P.0 ++ G)
more_frames (frames, Rest bytes) piece = ((frames_of (bytes ++ piece)).0, refl)
more_frames (frames, Garbage) piece = ([], sym (append-nil frames))

-- a machine takes the frames in, or has failed
left_over_takes : (t : Tail) (m : Machine) → IsSome (left_over t m).machine.failure ⊎ ((t ≡ Rest (left_over t m).undecoded) × ((left_over t m).machine ≡ m))
left_over_takes Garbage m = inl (spoiled_fails m)
left_over_takes (Rest bytes) m = by_option m.failure refl
  where
    by_option : (f : Option Error) → m.failure ≡ f → IsSome m.failure ⊎ ((Rest bytes ≡ Rest (if is_some m.failure then [] else bytes)) × (m ≡ m))
    by_option (Some e) is = inl (ap is_some is)
    by_option None is = inr (ap (λ o. Rest (if is_some o then [] else bytes)) (sym is), refl)

-- what a piece makes of a VM that hasn't failed
abbrev TakesIn : View → View → List ℕ → Type 0
TakesIn v w piece = IsSome w.machine.failure ⊎ (((frames_of (v.undecoded ++ piece)).1 ≡ Rest w.undecoded) × (w.machine ≡ all_received (frames_of (v.undecoded ++ piece)).0 v.machine))

takes_in : (v : View) (piece : List ℕ) → v.machine.failure ≡ None → TakesIn v (after_input v piece) piece
takes_in v piece live =
    let f = frames_of (v.undecoded ++ piece) in
    subst (λ w. TakesIn v w piece) (sym (ap (λ o. if is_some o then v else consumed f v.machine) live)) (left_over_takes f.1 (all_received f.0 v.machine))

-- ---- a machine that waits

-- what more frames make of one to which entries are missing
pub waits_more : (s : Setup) (given : StateMap) (aside : Aside) (k : ℕ) (raws more : List RawMessage) (m : Machine) → StillWaits s given aside k [] [] raws m
    → IsSome (all_received more m).failure ⊎ (StillWaits s given aside k [] [] (raws ++ more) (all_received more m) ⊎ HasAll s given aside k [] [] (raws ++ more) (all_received more m))
waits_more s given aside k raws more m w =
    let cs = commands_among raws in
    let ns = notifications_among raws in
    let from = entries_come s given aside (suc w.left) cs ns more in
    subst (λ x. IsSome (all_received more x).failure ⊎ (StillWaits s given aside k [] [] (raws ++ more) (all_received more x) ⊎ HasAll s given aside k [] [] (raws ++ more) (all_received more x))) (sym w.machine)
    (⊎_elim
    (λ (f : IsSome (all_received more (waiting_machine s given aside (suc w.left) cs ns)).failure). inl f)
    (λ (o : StillWaits s given aside (suc w.left) cs ns more (all_received more (waiting_machine s given aside (suc w.left) cs ns)) ⊎ HasAll s given aside (suc w.left) cs ns more (all_received more (waiting_machine s given aside (suc w.left) cs ns))).
    inr (⊎_elim
    (λ (x : StillWaits s given aside (suc w.left) cs ns more (all_received more (waiting_machine s given aside (suc w.left) cs ns))).
    inl (record { left = x.left; none_acknowledge = none_append raws more w.none_acknowledge x.none_acknowledge; count = counts (length raws) w.left (length more) x.left w.count x.count ∙ ap (λ n. n + suc x.left) (sym (length-append raws more)); machine = x.machine ∙ λ i. waiting_machine s given aside (suc x.left) (sym (commands_append raws more) i) (sym (notifications_append raws more) i) }))
    (λ (x : HasAll s given aside (suc w.left) cs ns more (all_received more (waiting_machine s given aside (suc w.left) cs ns))).
    inr (record { entries = raws ++ x.entries; others = x.others; split = ap (λ l. raws ++ l) x.split ∙ sym (append_assoc raws x.entries x.others); none_acknowledge = none_append raws more w.none_acknowledge x.none_acknowledge; count = length-append raws x.entries ∙ ap (λ n. length raws + n) x.count ∙ sym w.count; machine = x.machine ∙ λ i. waiting_machine s given aside 0 (sym (commands_append raws x.entries) i) (sym (notifications_append raws more) i) }))
    o))
    from)
  where
    counts : (a b c d : ℕ) → k ≡ a + suc b → suc b ≡ c + suc d → k ≡ (a + c) + suc d
    counts a b c d e f = omega (arith, e, f)

-- and of one that has them all
pub has_more : (s : Setup) (given : StateMap) (aside : Aside) (k : ℕ) (raws more : List RawMessage) (m : Machine) → HasAll s given aside k [] [] raws m → IsSome (all_received more m).failure ⊎ HasAll s given aside k [] [] (raws ++ more) (all_received more m)
has_more s given aside k raws more m h =
    let cs = commands_among h.entries in
    let ns = notifications_among raws in
    subst (λ x. IsSome (all_received more x).failure ⊎ HasAll s given aside k [] [] (raws ++ more) (all_received more x)) (sym h.machine)
    (⊎_elim
    (λ (f : IsSome (all_received more (waiting_machine s given aside 0 cs ns)).failure). inl f)
    (λ (e : (all_received more (waiting_machine s given aside 0 cs ns) ≡ waiting_machine s given aside 0 cs (ns ++ notifications_among more)) × AllByRecursion AcknowledgesNothing more).
    inr (record { entries = h.entries; others = h.others ++ more; split = ap (λ l. l ++ more) h.split ∙ append_assoc h.entries h.others more; none_acknowledge = none_append raws more h.none_acknowledge e.1; count = h.count; machine = e.0 ∙ λ i. waiting_machine s given aside 0 cs (sym (notifications_append raws more) i) }))
    (more_come s given aside cs ns more))

-- ---- pieces

pub fed_frames : (fed : Heard) (f : Fed) (v : View) → (frames_of (bytes_fed fed)).1 ≡ Rest v.undecoded → frames_of (bytes_fed (and_piece fed f)) ≡ (frames_fed fed ++ (frames_of (v.undecoded ++ f.piece)).0, (frames_of (v.undecoded ++ f.piece)).1)
fed_frames fed f v tail =
    ap frames_of (bytes_behind fed f) ∙ frames_of-append (bytes_fed fed) f.piece
    ∙ ap (λ t. frames_joined (frames_fed fed, t) f.piece) tail

pub not_failed : {A : Type 0} (m : Machine) → IsSome m.failure → m.failure ≡ None → A
not_failed m some none = absurd (let z : false ≡ true = ap is_some (sym none) ∙ some in cc)

-- these frames were taken in
pub record Took (fed : Heard) (f : Fed) (v w : View) (G : List RawMessage) : Type 0 where
  pub frames : frames_fed (and_piece fed f) ≡ frames_fed fed ++ G
  pub machine : w.machine ≡ all_received G v.machine
  pub alive : w.machine.failure ≡ None

-- a Start came, and then other frames
started_as : (fixed : Fixed) (alloc : Global) (fed : Heard) (v : Machine) (first : RawMessage) (raws : List RawMessage) → frames_fed fed ≡ first ∷ raws → v.failure ≡ None → v ≡ all_received (first ∷ raws) (fresh alloc fixed.version fixed.options)
    → StartedWith alloc fixed.version fixed.options first raws (all_received (first ∷ raws) (fresh alloc fixed.version fixed.options)) → Begun fixed fed v
started_as fixed alloc fed v first raws frames alive is x =
    record {
      first_frame = first;
      others = raws;
      frames = frames;
      start = x.start;
      reads_start = x.reads;
      state = x.entries;
      reads_state = x.keys;
      aside = aside_for alloc fixed.version fixed.options x.start;
      of_start = refl;
      waits = ⊎_elim (λ (o : IsSome (all_received (first ∷ raws) (fresh alloc fixed.version fixed.options)).failure). not_failed v (ap (λ m. is_some m.failure) is ∙ o) alive) (λ (o : Waits (all_received (first ∷ raws) (fresh alloc fixed.version fixed.options))). subst Waits (sym is) o) x.fed;
    }
  where
    Waits : Machine → Type 0
    Waits m = StillWaits (setup_for fixed x.start) (record { entries = x.entries; coverage = coverage_of x.start.partial }) (aside_for alloc fixed.version fixed.options x.start) x.start.known_entries [] [] raws m
        ⊎ HasAll (setup_for fixed x.start) (record { entries = x.entries; coverage = coverage_of x.start.partial }) (aside_for alloc fixed.version fixed.options x.start) x.start.known_entries [] [] raws m

first_comes : (fixed : Fixed) (alloc : Global) (fed : Heard) (v : Machine) (raws : List RawMessage) → frames_fed fed ≡ raws → v.failure ≡ None → v ≡ all_received raws (fresh alloc fixed.version fixed.options) → Comes fixed fed v
first_comes fixed alloc fed v [] frames alive is = inl (frames, (alloc, is))
first_comes fixed alloc fed v (first ∷ raws) frames alive is =
    ⊎_elim
    (λ (x : IsSome (all_received (first ∷ raws) (fresh alloc fixed.version fixed.options)).failure). not_failed v (ap (λ m. is_some m.failure) is ∙ x) alive)
    (λ (x : StartedWith alloc fixed.version fixed.options first raws (all_received (first ∷ raws) (fresh alloc fixed.version fixed.options))). inr (started_as fixed alloc fed v first raws frames alive is x))
    (journals_come alloc fixed.version fixed.options first raws)

-- further frames come to a machine that has begun
begun_more : (fixed : Fixed) (fed : Heard) (f : Fed) (v w : View) (G : List RawMessage) → Took fed f v w G → (b : Begun fixed fed v.machine) → Begun fixed (and_piece fed f) w.machine
begun_more fixed fed f v w G t b =
    record {
      first_frame = b.first_frame;
      others = b.others ++ G;
      frames = t.frames ∙ ap (λ l. l ++ G) b.frames;
      start = b.start;
      reads_start = b.reads_start;
      state = b.state;
      reads_state = b.reads_state;
      aside = b.aside;
      of_start = b.of_start;
      waits = ⊎_elim
          (λ (x : StillWaits s given b.aside b.start.known_entries [] [] b.others v.machine). either (waits_more s given b.aside b.start.known_entries b.others G v.machine x))
          (λ (x : HasAll s given b.aside b.start.known_entries [] [] b.others v.machine). ⊎_elim (λ (o : IsSome (all_received G v.machine).failure). dead o) (λ (o : HasAll s given b.aside b.start.known_entries [] [] (b.others ++ G) (all_received G v.machine)). inr (subst (HasAll s given b.aside b.start.known_entries [] [] (b.others ++ G)) (sym t.machine) o)) (has_more s given b.aside b.start.known_entries b.others G v.machine x))
          b.waits;
    }
  where
    s : Setup
    s = setup_for fixed b.start

    given : StateMap
    given = record { entries = b.state; coverage = coverage_of b.start.partial }

    dead : {A : Type 0} → IsSome (all_received G v.machine).failure → A
    dead o = not_failed w.machine (ap (λ m. is_some m.failure) t.machine ∙ o) t.alive

    either : IsSome (all_received G v.machine).failure ⊎ (StillWaits s given b.aside b.start.known_entries [] [] (b.others ++ G) (all_received G v.machine) ⊎ HasAll s given b.aside b.start.known_entries [] [] (b.others ++ G) (all_received G v.machine))
        → StillWaits s given b.aside b.start.known_entries [] [] (b.others ++ G) w.machine ⊎ HasAll s given b.aside b.start.known_entries [] [] (b.others ++ G) w.machine
    either o =
        ⊎_elim
        (λ (x : IsSome (all_received G v.machine).failure). dead x)
        (λ (x : StillWaits s given b.aside b.start.known_entries [] [] (b.others ++ G) (all_received G v.machine) ⊎ HasAll s given b.aside b.start.known_entries [] [] (b.others ++ G) (all_received G v.machine)).
        subst (λ m. StillWaits s given b.aside b.start.known_entries [] [] (b.others ++ G) m ⊎ HasAll s given b.aside b.start.known_entries [] [] (b.others ++ G) m) (sym t.machine) x)
        o

comes_more : (fixed : Fixed) (fed : Heard) (f : Fed) (v w : View) (G : List RawMessage) → Took fed f v w G → Comes fixed fed v.machine → Comes fixed (and_piece fed f) w.machine
comes_more fixed fed f v w G t =
    ⊎_elim
    (λ (x : (frames_fed fed ≡ []) × ((alloc : Global) × (v.machine ≡ fresh alloc fixed.version fixed.options))).
    first_comes fixed x.1.0 (and_piece fed f) w.machine G (t.frames ∙ ap (λ l. l ++ G) x.0) t.alive (t.machine ∙ ap (all_received G) x.1.1))
    (λ (x : Begun fixed fed v.machine). inr (begun_more fixed fed f v w G t x))

-- what a piece makes of a VM
pub took_in : (fed : Heard) (f : Fed) (v : View) → v.machine.failure ≡ None → (frames_of (bytes_fed fed)).1 ≡ Rest v.undecoded → (after_input v f.piece).machine.failure ≡ None
    → Took fed f v (after_input v f.piece) (frames_of (v.undecoded ++ f.piece)).0 × ((frames_of (bytes_fed (and_piece fed f))).1 ≡ Rest (after_input v f.piece).undecoded)
took_in fed f v live tail alive =
    let w = after_input v f.piece in
    let F = fed_frames fed f v tail in
    ⊎_elim
    (λ (x : IsSome w.machine.failure). not_failed w.machine x alive)
    (λ (x : ((frames_of (v.undecoded ++ f.piece)).1 ≡ Rest w.undecoded) × (w.machine ≡ all_received (frames_of (v.undecoded ++ f.piece)).0 v.machine)).
    (record { frames = ap (λ p. p.0) F; machine = x.1; alive = alive }, ap (λ p. p.1) F ∙ x.0))
    (takes_in v f.piece live)

-- before the input
pub before_fed : (fixed : Fixed) (fed : Heard) (answers : List Answer) (waiting_machine : Option UnresolvedFuture) (taken : List (List ℕ)) (v : View) (f : Fed) → BeforeInput fixed fed answers waiting_machine taken v → v.machine.failure ≡ None → BeforeInput fixed (and_piece fed f) answers waiting_machine taken (after_input v f.piece)
before_fed fixed fed answers waiting_machine taken v f b live =
    let w = after_input v f.piece in
    record {
      answers = b.answers;
      none_proposed = b.none_proposed;
      waits_not = b.waits_not;
      wrote = wrote_quiet taken v.machine w.machine [] (input_quiet v f.piece) b.wrote;
      comes = λ alive. comes_more fixed fed f v w (frames_of (v.undecoded ++ f.piece)).0 (took_in fed f v live (b.tail live) alive).0 (b.comes live);
      tail = λ alive. (took_in fed f v live (b.tail live) alive).1;
    }

-- ---- after the input

-- the journal with further frames
abbrev pub journal_to : (fed : Heard) (to : List Fed) (G : List RawMessage) → frames_fed (with_pieces to fed) ≡ frames_fed fed ++ G → Journal fed → Journal (with_pieces to fed)
journal_to fed to G frames j = record {
  first_frame = j.first_frame;
  entries = j.entries;
  others = j.others ++ G;
  frames = frames ∙ ap (λ l. l ++ G) j.frames ∙ ap (λ l. j.first_frame ∷ l) (append_assoc j.entries j.others G);
  start = j.start;
  reads_start = j.reads_start;
  count = j.count;
  none_acknowledge = j.none_acknowledge;
  state = j.state;
  reads_state = j.reads_state;
  first = j.first;
  rest = j.rest;
  commands = j.commands;
  input = j.input;
  reads_input = j.reads_input;
}

-- the arrivals that further frames bring
abbrev pub more_arrivals : {fed : Heard} → Journal fed → List RawMessage → List Notification
more_arrivals {fed} j G = arriving (kept_after fed.proposed (j.entries ++ j.others)) G

pub arrivals_more : (kept : List ProposeRunCompletion) (es others G : List RawMessage) → arriving kept (es ++ (others ++ G)) ≡ arriving kept (es ++ others) ++ arriving (kept_after kept (es ++ others)) G
arrivals_more kept es others G = ap (arriving kept) (sym (append_assoc es others G)) ∙ arriving_append kept (es ++ others) G

-- the run with further arrivals
pub run_to : (s : Setup) (m : Meaning) (K : Knowledge) (fed : Heard) (j : Journal fed) (G : List RawMessage) (moves : ℕ) (written : List RawMessage) (at : Point) → Made s m K moves (start s j.input (arrivals j) j.rest) written at
    → Made s m K moves (start s j.input (arriving fed.proposed (j.entries ++ (j.others ++ G))) j.rest) written (later (more_arrivals j G) at)
run_to s m K fed j G moves written at run =
    let N = more_arrivals j G in
    subst (λ ns. Made s m K moves (start s j.input ns j.rest) written (later N at)) (sym (arrivals_more fed.proposed j.entries j.others G)) (made_later s m K N moves (start s j.input (arrivals j) j.rest) written at run)

pub still_awaits : (m : Meaning) (p : Point) (ns : List Notification) (waiting_machine : Option UnresolvedFuture) → StillAwaits m p waiting_machine → StillAwaits m (later ns p) waiting_machine
still_awaits m p ns None a = a
still_awaits m p ns (Some future) a = a

-- an agreeing machine runs
pub agrees_running : (s : Setup) (given : StateMap) (written : List RawMessage) (v : Machine) (p : Point) → Agrees s given written v p → is_running v.phase ≡ true
agrees_running s given written v p a = ap (λ m. is_running m.phase) a.machine ∙ runs_at p.left

-- what is kept once further frames have come to a machine that stays alive
pub keeps_more : (fed : Heard) (to : List Fed) (G : List RawMessage) (frames : frames_fed (with_pieces to fed) ≡ frames_fed fed ++ G) (j : Journal fed) (v w : Machine) → IsLive v → w ≡ all_received G v → w.failure ≡ None → KeepsProposals j v → KeepsProposals (journal_to fed to G frames j) w
keeps_more fed to G frames j v w live is alive (kept, found) =
    let more = all_keep G v live.failure live.phase (ap (λ (m : Machine). m.failure) (sym is) ∙ alive) in
    let split = append_assoc j.entries j.others G in (
      ap (λ (m : Machine). m.proposals) is ∙ more.0 ∙ ap (λ l. kept_after l G) kept ∙ sym (kept_append fed.proposed (j.entries ++ j.others) G) ∙ ap (kept_after fed.proposed) split,
      subst (AllFound fed.proposed) split (found_append fed.proposed (j.entries ++ j.others) G found (subst (λ l. AllFound l G) kept more.1)),
    )

pub running_fed : (fixed : Fixed) (fed : Heard) (answers : List Answer) (waiting_machine : Option UnresolvedFuture) (taken : List (List ℕ)) (v : View) (f : Fed) → HandlerRuns fixed fed answers waiting_machine taken v → IsLive v.machine → HandlerRuns fixed (and_piece fed f) answers waiting_machine taken (after_input v f.piece)
running_fed fixed fed answers waiting_machine taken v f k live =
    let w = after_input v f.piece in
    let to = fed.pieces ++ f ∷ [] in
    let G = (frames_of (v.undecoded ++ f.piece)).0 in
    let N = more_arrivals k.journal G in
    let s = setup_for fixed k.journal.start in
    let given = start_state k.journal in
    let frames : frames_fed (and_piece fed f) ≡ frames_fed fed ++ G = ap (λ p. p.0) (fed_frames fed f v (k.tail live)) in
    let took = took_in fed f v live.failure (k.tail live) in
    let brings : arriving v.machine.proposals G ≡ N = ap (λ kept. arriving kept G) (k.keeps live).0 in
    let agrees : w.machine.failure ≡ None → Agrees s given k.written w.machine (later N k.at) = λ alive.
    ⊎_elim
    (λ (x : Agrees s given k.written (all_received G v.machine) (later (arriving v.machine.proposals G) k.at) × ((all_received G v.machine).proposals ≡ kept_after v.machine.proposals G)).
    subst (λ (y : Machine × List Notification). Agrees s given k.written y.0 (later y.1 k.at)) (λ i. (sym (took alive).0.machine i, brings i)) x.0)
    (λ (x : IsSome (all_received G v.machine).failure). not_failed w.machine (ap (λ u. is_some u.failure) (took alive).0.machine ∙ x) alive)
    (frames_come s given k.written v.machine k.at G (k.agrees live))
    in
    record {
      journal = journal_to fed to G frames k.journal;
      written = k.written;
      wrote = wrote_quiet taken v.machine w.machine k.written (input_quiet v f.piece) k.wrote;
      at = later N k.at;
      moves = k.moves;
      run = run_to s fixed.handler (Handed given) fed k.journal G k.moves k.written k.at k.run;
      answers = k.answers;
      awaits = still_awaits fixed.handler k.at N waiting_machine k.awaits;
      agrees = λ alive. agrees alive.failure;
      rests = λ _. k.rests live;
      keeps = λ alive. keeps_more fed to G frames k.journal v.machine w.machine live (took alive.failure).0.machine alive.failure (k.keeps live);
      phase = λ alive. inl (agrees_running s given k.written w.machine (later N k.at) (agrees alive));
      tail = λ alive. (took alive.failure).1;
    }
