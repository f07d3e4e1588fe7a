-- A call with several commands, in a machine that agrees with a point: the outcome of the whole
-- call.
use Rattle.std.proofs.Common.{◌≡◌, ◌⊎◌, suc, Bool, true, false, List, [], ◌∷◌, ◌++◌, Option, Some, None, refl, sym, ap, ◌∙◌, subst, inl, inr, ⊎_elim, append-nil, Ok, Err, Result}
use Rattle.std.specs.Prelude.{if◌then◌else◌}
use Rattle.std.specs.Option.{option_or}
use Rattle.await_trees.specs.declared.handle.NotificationHandle.{NotificationHandle}
use Rattle.journal_protocol.specs.Error.{Error}
use Rattle.journal_protocol.specs.NamedFault.{NamedFault}
use Rattle.journal_protocol.specs.RawMessage.{RawMessage}
use Rattle.journal_protocol.specs.Commands.{IsCommand}
use Rattle.journal_protocol.specs.NotificationResult.{NotificationResult}
use Rattle.vm_state.specs.Counting.{missing_number}
use Rattle.vm_state.specs.declared.state_map.StateMap.{StateMap}
use Rattle.vm_types.specs.declared.steps.Answer.{Answer}
use Rattle.vm_asks.specs.declared.asks.AnswerKind.{AnswerKind}
use Rattle.vm_asks.specs.declared.asks.Ask.TheVariants as ask
use Rattle.vm_asks.specs.declared.command.Command.{Command}
use Rattle.vm_asks.specs.Asks.{EachIs, answer_by, any_refusal, ask_of, command_answer, missing_for}
use Rattle.vm_asks.specs.Requests.{ids_of, name_of, shown_type, with_ids}
use Rattle.vm_machine.specs.declared.machine.Machine.{Machine}
use Rattle.vm_machine.specs.Commands.{CanBeRead, commanded, entered}
use Rattle.vm_types.specs.Options.{ignores_payloads}
use Rattle.vm_machine.specs.Outcomes.{Done, Failed, IsStarved, Outcome, ◌>>>◌, about_last, called, called_at, failed, ruled}
use Rattle.vm_machine.specs.Phases.{is_running, state_fault}
use Rattle.vm_machine.specs.Several.{BehindFirst, MakesAll, MakesOne, answered_so, commanded_before, foreseen, foreseen_unless, numbers_left}
use Rattle.vm_machine.proofs.Foreseeing.{before_first}
use Rattle.vm_model.specs.Calls.{Demand, Derived, Meaning, Move, Setup, Turn, answer_of, asked, behind_command, call_of, calling, commanding, demand_of, identity_of, numbered, part, part_unless, refused_before, turn_after, turn_taken}
use Rattle.vm_model.specs.Calls.Move.{Needs, Refuses}
use Rattle.vm_model.specs.Histories.{Handed, Made}
use Rattle.vm_model.specs.Moves.{Point, command_used, found, longer, move_at, moved, next, supplied, supply, uses_command}
use Rattle.vm_model.specs.Refusals.{IsRefusedFor}
use Rattle.vm_model.proofs.Cancelling.{exactly_none}
use Rattle.vm_model.proofs.Parts.{next_turn, turn_apart}
use Rattle.vm_model.proofs.Runs.{none_some}
use Rattle.vm_attempt.specs.declared.progress.Reply.{Reply}
use Rattle.vm_attempt.specs.Steps.{AllCarried, IfDone}
use Rattle.vm_attempt.specs.Agreement.{Answered, Aside, CallFollows, IsCutShort, CallRefused, MakesMany, MovesOn, command_frames, machine_at}
use Rattle.vm_attempt.proofs.Behind.{answered_behind, either_behind, settled_done, settled_failed}
use Rattle.vm_attempt.proofs.Commanding.{LeadsOn, commands_follow}
use Rattle.vm_attempt.proofs.Leading.{Leads, Refusing, error_written, no_move, none_or_spent, one_move, open_after, same_rule, state_at, with_beside, with_frames}
use Rattle.vm_attempt.proofs.Requesting.{runs_at}

some_same : (x q : Point) → Some x ≡ Some q → x ≡ q
some_same x q h = cc

if_done : {A : Type 0} (o : Outcome A) (P : Type 0) → P → IfDone o P
if_done (Done a w) P h = h
if_done (Failed e w) P h = tt

failed_done : {A : Type 0} (o : Outcome A) (P : Type 0) (e : Error) (w : Machine) → o ≡ Failed e w → IfDone o P
failed_done o P e w h = subst (λ x. IfDone x P) (sym h) tt

-- ---- one command, by itself and in the call

-- The same command as a call of its own, at the point where the numbers of those before it are given, and as a part of its call.
module _ (s : Setup) (kind : AnswerKind) (p : Point) (c : Command) (cs : List Command) (before : Derived) where
  abbrev there : Point
  there = record p { derived = before }

  -- by itself, by why its arguments refuse it and by the first kind of number that is missing
  abbrev alone : Option NamedFault → Option NamedFault → Move
  alone (Some name) o = Refuses name
  alone None o = numbered s c o before

  alone_is : (refusal : Option NamedFault) → commanding s c refusal before ≡ alone refusal (missing_number (ids_of c.message) 0 (ids_of c.message) before.counters)
  alone_is (Some name) = refl
  alone_is None = refl

  -- in the call
  abbrev within : Option NamedFault → Move
  within o = part_unless o s kind (record { command = c; behind = cs; before = before }) p.derived

  -- what a part of a call is answered by, and what follows
  abbrev given_by : List Command → List Answer
  given_by [] = answer_by kind (record { 0 = p.derived.counters.handle }) ∷ []
  given_by (b ∷ bs) = []

  abbrev left_by : List Command → Derived
  left_by [] = record (behind_command s c before) { parts = 0 }
  left_by (b ∷ bs) = record p.derived { parts = suc p.derived.parts }

  part_is : (bs : List Command) → part s kind c bs before p.derived ≡ Needs (demand_of s c before) (given_by bs) (left_by bs)
  part_is [] = refl
  part_is (b ∷ bs) = refl

  -- the point after it
  abbrev back : Point → Point
  back q = record q { answers = p.answers ++ given_by cs; derived = left_by cs }

  needs_supply : (state : StateMap) (d : Demand) (a b : List Answer) (e f : Derived) (left : List RawMessage) → supply state (Needs d a e) left ≡ supply state (Needs d b f) left
  needs_supply state d a b e f [] = refl
  needs_supply state d a b e f (x ∷ left) = refl

  supplies_same : (state : StateMap) (refusal o : Option NamedFault) (left : List RawMessage) → supply state (within (option_or refusal o)) left ≡ supply state (alone refusal o) left
  supplies_same state (Some name) o left = refl
  supplies_same state None (Some name) left = refl
  supplies_same state None None left = ap (λ mv. supply state mv left) (part_is cs) ∙ needs_supply state (demand_of s c before) (given_by cs) (answer_of c before ∷ []) (left_by cs) (behind_command s c before) left

  needs_refused : (d : Demand) (a b : List Answer) (e f : Derived) (left : List RawMessage) (why : NamedFault) → IsRefusedFor (Needs d a e) left p.queue why → IsRefusedFor (Needs d b f) left p.queue why
  needs_refused d a b e f [] why h = h
  needs_refused d a b e f (x ∷ left) why h = h

  refused_same : (refusal o : Option NamedFault) (left : List RawMessage) (why : NamedFault) → IsRefusedFor (alone refusal o) left p.queue why → IsRefusedFor (within (option_or refusal o)) left p.queue why
  refused_same (Some name) o left why h = h
  refused_same None (Some name) left why h = h
  refused_same None None left why h = subst (λ mv. IsRefusedFor mv left p.queue why) (sym (part_is cs)) (needs_refused (demand_of s c before) (answer_of c before ∷ []) (given_by cs) (behind_command s c before) (left_by cs) left why h)

  used_same : (raw : RawMessage) (o : Result (Option NotificationResult) NamedFault) (left whole : List RawMessage) (q : Point) → found (demand_of s c before) raw ≡ o → command_used o (demand_of s c before) (answer_of c before ∷ []) (behind_command s c before) left (record there { left = whole }) ≡ Some q
      → (command_used o (demand_of s c before) (given_by cs) (left_by cs) left (record p { left = whole }) ≡ Some (back q)) × (q.derived ≡ behind_command s c before)
  used_same raw (Err name) left whole q is h = none_some h
  used_same raw (Ok None) left whole q is h =
      let e = some_same _ q h in
      (ap (λ (x : Point). Some (record x { answers = p.answers ++ given_by cs; derived = left_by cs })) e, ap (λ (x : Point). x.derived) (sym e))
  used_same raw (Ok (Some result)) left whole q is h =
      absurd (let z : None ≡ Some result = exactly_none (with_ids before.counters.completion c.message) (ignores_payloads s.options.non_determinism_checks c.unstable) raw (Some result) is in cc)

  uses_same : (whole left : List RawMessage) (q : Point) → uses_command (demand_of s c before) (answer_of c before ∷ []) (behind_command s c before) left (record there { left = whole }) ≡ Some q
      → (uses_command (demand_of s c before) (given_by cs) (left_by cs) left (record p { left = whole }) ≡ Some (back q)) × (q.derived ≡ behind_command s c before)
  uses_same whole [] q h = none_some h
  uses_same whole (raw ∷ left) q h = used_same raw (found (demand_of s c before) raw) left whole q refl h

  moves_same : (refusal o : Option NamedFault) (whole : List RawMessage) (q : Point) → moved (alone refusal o) (record there { left = whole }) ≡ Some q → (moved (within (option_or refusal o)) (record p { left = whole }) ≡ Some (back q)) × (q.derived ≡ behind_command s c before)
  moves_same (Some name) o whole q h = none_some h
  moves_same None (Some name) whole q h = none_some h
  moves_same None None whole q h =
      let x = uses_same whole whole q h in
      (ap (λ mv. moved mv (record p { left = whole })) (part_is cs) ∙ x.0, x.1)

-- ---- one command of the call

module _ (s : Setup) (m : Meaning) (given : StateMap) (kind : AnswerKind) (first : Command) (others : List Command) where
  -- the machine at a point where these numbers are given
  abbrev at_with : List RawMessage → Aside → Point → Derived → Machine
  at_with written aside p before = machine_at s given written aside (record p { derived = before })

  -- the call stands before this command
  record StandsBefore (p : Point) (c : Command) (cs : List Command) (before : Derived) : Type 0 where
    asks : (d : Derived) → call_of s (m p.answers) d ≡ calling s kind first others d
    many : MakesMany (ask_of s.version (m p.answers))
    turn : turn_after s p.derived.parts first others p.derived ≡ record { command = c; behind = cs; before = record before { parts = p.derived.parts } }

  -- one was made
  record HasMade (written : List RawMessage) (aside : Aside) (p : Point) (c : Command) (cs : List Command) (before : Derived) (w : Machine) : Type 0 where
    at : Point
    made : List RawMessage
    none_before : (made ≡ []) ⊎ (at.left ≡ [])
    moves : MovesOn s m given p (given_by s kind p c cs before cs) made at
    derived : at.derived ≡ left_by s kind p c cs before cs
    beside : Aside
    machine : w ≡ at_with (written ++ made) beside at (behind_command s c before)
    output : beside.output ≡ aside.output ++ command_frames made
    start : beside.start ≡ aside.start
    kept : beside.proposals ≡ aside.proposals

  abbrev OneTo : List RawMessage → Aside → Point → Command → List Command → Derived → Result NotificationHandle Error → Machine → Type 0
  OneTo written aside p c cs before (Ok handle) w = HasMade written aside p c cs before w
  OneTo written aside p c cs before (Err e) w = CallRefused s m given p (at_with written aside p before) e w ⊎ IsCutShort s m given p (at_with written aside p before) e w

  module _ (written : List RawMessage) (aside : Aside) (p : Point) (c : Command) (cs : List Command) (before : Derived) (is : StandsBefore p c cs before) (command : IsCommand c.message) where
    abbrev v : Machine
    v = at_with written aside p before

    abbrev state : StateMap
    state = state_at given p

    abbrev lacks : Option NamedFault
    lacks = missing_number (ids_of c.message) 0 (ids_of c.message) before.counters

    abbrev own_fault : Option NamedFault
    own_fault = option_or c.refusal lacks

    abbrev Alone : Move
    Alone = alone s kind p c cs before c.refusal lacks

    abbrev Within : Option NamedFault → Move
    Within o = within s kind p c cs before o

    move_is : move_at s m p ≡ Within (refused_before c cs before.counters)
    move_is = is.asks p.derived ∙ ap (λ t. turn_taken s kind t p.derived) is.turn ∙ apart (refused_before c cs before.counters)
      where
        -- how many parts are made doesn't matter
        behind_so : (bs : List Command) → part s kind c bs (record before { parts = p.derived.parts }) p.derived ≡ part s kind c bs before p.derived
        behind_so [] = refl
        behind_so (b ∷ bs) = refl

        apart : (o : Option NamedFault) → part_unless o s kind (record { command = c; behind = cs; before = record before { parts = p.derived.parts } }) p.derived ≡ part_unless o s kind (record { command = c; behind = cs; before = before }) p.derived
        apart (Some name) = refl
        apart None = behind_so cs

    -- what the event leads to, by the move of the call
    abbrev PartLeads : Option NamedFault → Outcome NotificationHandle → Type 0
    PartLeads o (Done a w) =
        (q : Point) × (beside : Aside) × (moved (Within o) (longer (supply state (Within o) p.left) p) ≡ Some (back s kind p c cs before q))
        × (w ≡ at_with (written ++ supply state (Within o) p.left) beside q (behind_command s c before))
        × (beside.output ≡ aside.output ++ command_frames (supply state (Within o) p.left)) × (beside.start ≡ aside.start) × (beside.proposals ≡ aside.proposals)
    PartLeads o (Failed e w) = Refusing s aside.output p.queue (Within o) p.left e w

    -- what the command by itself leads to is what the part leads to
    alone_leads : (o : Outcome NotificationHandle) → LeadsOn s given written aside (there s kind p c cs before) (command_answer c.message) (alone s kind p c cs before c.refusal lacks) o → PartLeads (option_or c.refusal lacks) o
    alone_leads o leads = by_case o (moved (alone s kind p c cs before c.refusal lacks) (longer (supply state (alone s kind p c cs before c.refusal lacks) p.left) (there s kind p c cs before))) refl leads
      where
        same : supply state (Within (option_or c.refusal lacks)) p.left ≡ supply state Alone p.left
        same = supplies_same s kind p c cs before state c.refusal lacks p.left

        by_case : (o : Outcome NotificationHandle) (to : Option Point) → moved Alone (longer (supply state Alone p.left) (there s kind p c cs before)) ≡ to
            → Leads s given written aside (there s kind p c cs before) Alone p.left (supply state Alone p.left) (λ a. command_answer c.message a ∷ []) to o → PartLeads (option_or c.refusal lacks) o
        by_case (Done a w) (Some q) e g =
            let x = moves_same s kind p c cs before c.refusal lacks (p.left ++ supply state Alone p.left) q e in
            let beside = with_beside g.1.0 (with_frames (supply state Alone p.left) aside) in (
              q,
              with_beside g.1.0 (with_frames (supply state (Within (option_or c.refusal lacks)) p.left) aside),
              ap (λ l. moved (Within (option_or c.refusal lacks)) (longer l p)) same ∙ x.0,
              g.1.1 ∙ (λ i. at_with (written ++ sym same i) (with_beside g.1.0 (with_frames (sym same i) aside)) q (x.1 i)),
              refl,
              refl,
              refl,
            )
        by_case (Failed f w) None e g = record { why = g.why; related = g.related; reason = refused_same s kind p c cs before c.refusal lacks p.left g.why g.reason; error = g.error; output = g.output; open_yet = g.open_yet; version = g.version; options = g.options }
        by_case (Done a w) None e g = absurd g
        by_case (Failed f w) (Some q) e g = absurd g

    abbrev Readable : Type 0
    Readable = CanBeRead c.message v

    -- the command, once all that is needed was found
    itself : IfDone (commanded c v) Readable → PartLeads (option_or c.refusal lacks) (commanded c v)
    itself own = alone_leads (commanded c v) (subst (λ mv. LeadsOn s given written aside (there s kind p c cs before) (command_answer c.message) mv (commanded c v)) (alone_is s kind p c cs before c.refusal) (commands_follow s given written aside (there s kind p c cs before) c command c.refusal own))

    -- if commands follow, all that is needed is looked for first
    foreseen_leads : (b : Command) (bs : List Command) → IfDone (commanded_before c (b ∷ bs) v) Readable → PartLeads (refused_before c (b ∷ bs) before.counters) (commanded_before c (b ∷ bs) v)
    unfolding foreseen
    foreseen_leads b bs = by_refusal (any_refusal c (b ∷ bs))
      where
        by_numbers : (o : Option NamedFault) → IfDone (numbers_left o c v >>> λ _ w. commanded c w) Readable → PartLeads (option_or o own_fault) (numbers_left o c v >>> λ _ w. commanded c w)
        by_numbers (Some name) own = record { why = name; related = Some _; reason = refl; error = refl; output = refl; open_yet = open_after p.left; version = refl; options = refl }
        by_numbers None own = itself own

        by_running : (r : Bool) → r ≡ true → (k : Option NamedFault) → IfDone ((if r then numbers_left k c v else (let w = entered (shown_type c.message) (name_of c.message) v in Failed (about_last (state_fault v.phase) w) w)) >>> λ _ w. commanded c w) Readable
            → PartLeads (option_or k own_fault) ((if r then numbers_left k c v else (let w = entered (shown_type c.message) (name_of c.message) v in Failed (about_last (state_fault v.phase) w) w)) >>> λ _ w. commanded c w)
        by_running true e k own = by_numbers k own
        by_running false e k own = absurd cc

        by_refusal : (o : Option NamedFault) → IfDone (foreseen_unless o c (b ∷ bs) v >>> λ _ w. commanded c w) Readable → PartLeads (option_or (option_or o (missing_for c (b ∷ bs) before.counters)) (option_or c.refusal lacks)) (foreseen_unless o c (b ∷ bs) v >>> λ _ w. commanded c w)
        by_refusal (Some name) own = record { why = name; related = None; reason = refl; error = refl; output = refl; open_yet = open_after p.left; version = refl; options = refl }
        by_refusal None own = by_running (is_running v.phase) (runs_at p.left) (missing_for c (b ∷ bs) before.counters) own

    by_list : (xs : List Command) → IfDone (commanded_before c xs v) Readable → PartLeads (refused_before c xs before.counters) (commanded_before c xs v)
    by_list [] own = itself own
    by_list (b ∷ bs) own = foreseen_leads b bs own

    -- ---- the whole call of the command

    abbrev refusal : Option NamedFault
    refusal = refused_before c cs before.counters

    abbrev brought : List RawMessage
    brought = supply state (Within refusal) p.left

    supplies_is : supplied s m state p ≡ brought
    supplies_is = ap (λ mv. supply state mv p.left) move_is

    has_made : (handle : NotificationHandle) (w : Machine) → PartLeads refusal (Done handle w) → HasMade written aside p c cs before w
    has_made handle w (q, beside, moves, machine, output, started, kept) =
        let to = back s kind p c cs before q in
        let leads : next s m (longer (supplied s m state p) p) ≡ Some to = ap (λ l. next s m (longer l p)) supplies_is ∙ ap (λ mv. moved mv (longer brought p)) move_is ∙ moves in
        record {
          at = to;
          made = brought;
          none_before = subst (λ l. (l ≡ []) ⊎ (to.left ≡ [])) supplies_is (none_or_spent s m state p to leads);
          moves = record { moves = 1; run = subst (λ l. Made s m (Handed given) 1 p l to) supplies_is (one_move s m given p to leads); answers = answers_so q };
          derived = derived_so q;
          beside = beside;
          machine = machine ∙ machine_so q beside;
          output = output;
          start = started;
          kept = kept;
        }
      where
        answers_so : (q : Point) → (back s kind p c cs before q).answers ≡ p.answers ++ given_by s kind p c cs before cs
        answers_so q = refl

        derived_so : (q : Point) → (back s kind p c cs before q).derived ≡ left_by s kind p c cs before cs
        derived_so q = refl

        machine_so : (q : Point) (beside : Aside) → at_with (written ++ brought) beside q (behind_command s c before) ≡ at_with (written ++ brought) beside (back s kind p c cs before q) (behind_command s c before)
        machine_so q beside = refl

    is_refused : (f : Error) (w : Machine) → PartLeads refusal (Failed f w) → CallRefused s m given p v (ruled w f) (failed (ruled w f) w)
    is_refused f w g = record {
      at = p;
      made = [];
      none_before = inl refl;
      moves = no_move s m given p;
      why = g.why;
      reason = subst (λ x. IsRefusedFor x p.left p.queue g.why) (sym move_is) g.reason;
      related = g.related;
      error = same_rule v w f g.version g.options ∙ ap (ruled v) g.error;
      output = error_written (ruled w f) w aside.output g.output g.open_yet;
      failure = refl;
    }

    one_to : (r : Result NotificationHandle Error) (w : Machine) → MakesOne c cs r v w → OneTo written aside p c cs before r w
    unfolding called
    one_to (Ok handle) w (does, readable) = has_made handle w (subst (PartLeads refusal) (settled_done (commanded_before c cs v) handle w does) (by_list cs (if_done (commanded_before c cs v) Readable readable)))
    one_to (Err e) w (does, readable) = ⊎_elim
        (λ (x : called (commanded_before c cs v) v ≡ Failed e w).
        let f = settled_failed (commanded_before c cs v) e w x in
        inl (subst (λ (z : Error × Machine). CallRefused s m given p v z.0 z.1) (λ i. (sym f.3 i, sym f.4 i)) (is_refused f.0 f.1 (subst (PartLeads refusal) f.2 (by_list cs (failed_done (commanded_before c cs v) Readable f.0 f.1 f.2))))))
        (λ (x : IsStarved v e w). inr (record { at = p; made = []; none_before = inl refl; moves = no_move s m given p; many = is.many; error = x.error; output = x.output ∙ sym (append-nil aside.output); failure = x.failure ∙ ap Some (sym x.error) }))
        does

  -- ---- all of them

  -- it is answered, and no part of a call is made there
  record AllAnswered (written : List RawMessage) (aside : Aside) (p : Point) (before : Derived) (w : Machine) : Type 0 where
    answered : Answered s m given written p (at_with written aside p before) (answer_by kind (record { 0 = p.derived.counters.handle })) w
    rests : answered.at.derived.parts ≡ 0

  abbrev AllTo : List RawMessage → Aside → Point → Derived → Result NotificationHandle Error → Machine → Type 0
  AllTo written aside p before (Ok handle) w = AllAnswered written aside p before w
  AllTo written aside p before (Err e) w = CallRefused s m given p (at_with written aside p before) e w ⊎ IsCutShort s m given p (at_with written aside p before) e w

  -- with the last the call is answered
  last_to : (written : List RawMessage) (aside : Aside) → s.identity ≡ identity_of aside.start → (p : Point) (c : Command) (before : Derived) (r : Result NotificationHandle Error) (w : Machine) → OneTo written aside p c [] before r w → AllTo written aside p before r w
  last_to written aside identity p c before (Ok handle) w x = record {
    answered = record {
      at = x.at;
      made = x.made;
      none_before = x.none_before;
      moves = x.moves;
      agrees = record { aside = x.beside; machine = x.machine ∙ (λ i. at_with (written ++ x.made) x.beside x.at (sym x.derived i)); identity = identity ∙ ap identity_of (sym x.start) };
      kept = ap (λ (z : Machine). z.proposals) x.machine ∙ x.kept;
      output = ap (λ (z : Machine). z.output) x.machine ∙ x.output;
      rests = λ _. ap (λ (e : Derived). e.parts) x.derived;
    };
    rests = ap (λ (e : Derived). e.parts) x.derived;
  }
  last_to written aside identity p c before (Err e) w x = x

  -- after one that was made, the call is at the next
  stands_next : (written : List RawMessage) (aside : Aside) (p : Point) (c b : Command) (bs : List Command) (before : Derived) (mid : Machine) → StandsBefore p c (b ∷ bs) before → (x : HasMade written aside p c (b ∷ bs) before mid) → StandsBefore x.at b bs (behind_command s c before)
  stands_next written aside p c b bs before mid is x =
      let same : x.at.answers ≡ p.answers = x.moves.answers ∙ append-nil p.answers in
      let n = p.derived.parts in
      let next : turn_after s (suc n) first others p.derived ≡ record { command = b; behind = bs; before = behind_command s (turn_after s n first others p.derived).command (turn_after s n first others p.derived).before } =
      next_turn s n first others p.derived b bs (ap (λ (t : Turn). t.behind) is.turn) in
      record {
        asks = λ d. ap (λ l. call_of s (m l) d) same ∙ is.asks d;
        many = subst (λ l. MakesMany (ask_of s.version (m l))) (sym same) is.many;
        turn = (λ i. turn_after s (x.derived i).parts first others (x.derived i)) ∙ turn_apart s (suc n) first others p.derived (suc n)
            ∙ ap (λ (t : Turn). record { command = t.command; behind = t.behind; before = record t.before { parts = suc n } }) next
            ∙ ap (λ (t : Turn). record { command = b; behind = bs; before = record (behind_command s t.command t.before) { parts = suc n } }) is.turn
            ∙ (λ i. record { command = b; behind = bs; before = record (behind_command s c before) { parts = (sym x.derived i).parts } });
      }

  -- the outcome of the rest, after one that was made
  behind_to : (written : List RawMessage) (aside : Aside) (p : Point) (c b : Command) (bs : List Command) (before : Derived) (mid : Machine) (x : HasMade written aside p c (b ∷ bs) before mid) (handle : NotificationHandle) (r : Result NotificationHandle Error) (w : Machine)
      → AllTo (written ++ x.made) x.beside x.at (behind_command s c before) r w → AllTo written aside p before (answered_so handle r) w
  unfolding answered_behind
  behind_to written aside p c b bs before mid x handle (Ok other) w h =
      let v = at_with written aside p before in
      let u = at_with (written ++ x.made) x.beside x.at (behind_command s c before) in
      let answer : answer_by kind (record { 0 = x.at.derived.counters.handle }) ≡ answer_by kind (record { 0 = p.derived.counters.handle }) = ap (λ (e : Derived). answer_by kind (record { 0 = e.counters.handle })) x.derived in
      let whole = subst (λ a. (y : Answered s m given written p v a w) × (y.at.derived.parts ≡ 0)) answer
      (answered_behind s m given written p x.at x.made v u x.moves x.output x.kept (answer_by kind (record { 0 = x.at.derived.counters.handle })) w h.answered (λ _. h.rests), h.rests) in
      record { answered = whole.0; rests = whole.1 }
  behind_to written aside p c b bs before mid x handle (Err e) w h =
      either_behind s m given p x.at x.made (at_with written aside p before) (at_with (written ++ x.made) x.beside x.at (behind_command s c before)) x.moves x.output refl refl e w h

  all_to : (c : Command) (cs : List Command) (written : List RawMessage) (aside : Aside) → s.identity ≡ identity_of aside.start → (p : Point) (before : Derived) → StandsBefore p c cs before → EachIs (λ x. IsCommand x.message) c cs
      → (r : Result NotificationHandle Error) (w : Machine) → MakesAll c cs r (at_with written aside p before) w → AllTo written aside p before r w
  all_to c [] written aside identity p before is commands r w made = last_to written aside identity p c before r w (one_to written aside p c [] before is commands r w made)
  all_to c (b ∷ bs) written aside identity p before is commands r w (one, mid, makes, on) = by_first (all_to b bs) one (one_to written aside p c (b ∷ bs) before is commands.0 one mid makes) on
    where
      by_first : ((written : List RawMessage) (aside : Aside) → s.identity ≡ identity_of aside.start → (p : Point) (before : Derived) → StandsBefore p b bs before → EachIs (λ x. IsCommand x.message) b bs → (r : Result NotificationHandle Error) (w : Machine) → MakesAll b bs r (at_with written aside p before) w → AllTo written aside p before r w)
          → (one : Result NotificationHandle Error) → OneTo written aside p c (b ∷ bs) before one mid → BehindFirst (MakesAll b bs) one r mid w → AllTo written aside p before r w
      by_first further (Ok handle) x (more, makes, answered) =
          let next = stands_next written aside p c b bs before mid is x in
          let h = further (written ++ x.made) x.beside (identity ∙ ap identity_of (sym x.start)) x.at (behind_command s c before) next commands.1 more w (subst (λ (u : Machine). MakesAll b bs more u w) x.machine makes) in
          subst (λ y. AllTo written aside p before y w) (sym answered) (behind_to written aside p c b bs before mid x handle more w h)
      by_first further (Err e) x on = subst (λ (z : Result NotificationHandle Error × Machine). AllTo written aside p before z.0 z.1) (λ i. (sym on.0 i, sym on.1 i)) x

-- ---- the whole call

-- what was answered, or else this
abbrev handle_in : NotificationHandle → Result NotificationHandle Error → NotificationHandle
handle_in d (Ok a) = a
handle_in d (Err e) = d

-- the answer is by the first one's handle
first_handle : (c b : Command) (bs : List Command) (handle : NotificationHandle) (v w : Machine) → v.failure ≡ None → MakesAll c (b ∷ bs) (Ok handle) v w → handle ≡ record { 0 = v.counters.handle }
unfolding called
first_handle c b bs handle v w live (one, mid, makes, on) = by_first one makes on
  where
    by_given : (h : NotificationHandle) (more : Result NotificationHandle Error) → Ok handle ≡ answered_so h more → handle ≡ h
    by_given h (Ok other) is = ap (handle_in handle) is
    by_given h (Err e) is = absurd (let z : Ok handle ≡ Err e = is in cc)

    by_first : (one : Result NotificationHandle Error) → MakesOne c (b ∷ bs) one v mid → BehindFirst (MakesAll b bs) one (Ok handle) mid w → handle ≡ record { 0 = v.counters.handle }
    by_first (Ok h) made (more, makes, answered) = by_given h more answered ∙ before_first c (b ∷ bs) v h mid (settled_done (commanded_before c (b ∷ bs) v) h mid (ap (λ f. called_at f (commanded_before c (b ∷ bs) v) v) (sym live) ∙ made.0))
    by_first (Err e) made (answered, same) = absurd (let z : Ok handle ≡ Err e = answered in cc)

pub several_follow : (s : Setup) (m : Meaning) (given : StateMap) (written : List RawMessage) (aside : Aside) (p : Point) (kind : AnswerKind) (first second : Command) → s.identity ≡ identity_of aside.start → p.derived.parts ≡ 0 → ask_of s.version (m p.answers) ≡ ask.Commands kind first second → EachIs (λ x. IsCommand x.message) first (second ∷ [])
    → (o : Outcome Reply) → AllCarried kind first (second ∷ []) (machine_at s given written aside p) o → CallFollows s m given written p (machine_at s given written aside p) o
several_follow s m given written aside p kind first second identity rests is commands o does = by_outcome o does
  where
    stands : StandsBefore s m given kind first (second ∷ []) p first (second ∷ []) p.derived
    stands = record {
      asks = λ d. ap (λ a. asked s a d) is;
      many = subst MakesMany (sym is) tt;
      turn = ap (λ n. turn_after s n first (second ∷ []) p.derived) rests;
    }

    to : (r : Result NotificationHandle Error) (w : Machine) → MakesAll first (second ∷ []) r (machine_at s given written aside p) w → AllTo s m given kind first (second ∷ []) written aside p p.derived r w
    to = all_to s m given kind first (second ∷ []) first (second ∷ []) written aside identity p p.derived stands commands

    by_outcome : (o : Outcome Reply) → AllCarried kind first (second ∷ []) (machine_at s given written aside p) o → CallFollows s m given written p (machine_at s given written aside p) o
    by_outcome (Done given_reply w) (handle, made, replied) =
        let same = first_handle first second [] handle (machine_at s given written aside p) w refl made in
        subst (λ (x : Reply). CallFollows s m given written p (machine_at s given written aside p) (Done x w)) (sym replied)
        (subst (λ h. Answered s m given written p (machine_at s given written aside p) (answer_by kind h) w) (sym same) (to (Ok handle) w made).answered)
    by_outcome (Failed e w) made = to (Err e) w made
