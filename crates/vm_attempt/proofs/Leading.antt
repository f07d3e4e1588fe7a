-- An event of a machine that agrees with a point does what the next move does.
use Rattle.std.proofs.Common.{◌≡◌, ◌⊎◌, ⊎_elim, ℕ, zero, suc, false, List, [], ◌∷◌, ◌++◌, Option, Some, None, refl, sym, ap, ◌∙◌, subst, inl, inr, append-nil}
use Rattle.journal_protocol.specs.Error.{Error}
use Rattle.journal_protocol.specs.RelatedCommand.{RelatedCommand}
use Rattle.journal_protocol.specs.NamedFault.{NamedFault}
use Rattle.journal_protocol.specs.Notification.{Notification}
use Rattle.journal_protocol.specs.Message.TheVariants as message
use Rattle.journal_protocol.specs.RawMessage.{RawMessage}
use Rattle.journal_protocol.specs.Errors.{error_message, named_error}
use Rattle.journal_protocol.specs.Frames.{encoding}
use Rattle.vm_state.specs.declared.state_map.StateMap.{StateMap}
use Rattle.vm_types.specs.declared.steps.Answer.{Answer}
use Rattle.vm_machine.specs.declared.machine.Machine.{Machine}
use Rattle.vm_machine.specs.Outcomes.{Outcome, Done, Failed, called, failed, ruled}
use Rattle.vm_machine.specs.Phases.{is_closed}
use Rattle.vm_machine.specs.Commands.{phase_after}
use Rattle.vm_model.specs.Calls.{Setup, Meaning, Move, identity_of}
use Rattle.vm_model.specs.Calls.Move.{Answers, Needs, Awaits, Ends, Refuses}
use Rattle.vm_model.specs.Moves.{Point, longer, move_at, moved, next, supplied, supply, changed_by}
use Rattle.vm_model.specs.Histories.{Made, Handed, Knowledge}
use Rattle.vm_asks.specs.Asks.{ask_of}
use Rattle.vm_model.proofs.Parts.{IsOfOne, next_keeps}
use Rattle.vm_model.proofs.Runs.{made_spent, next_spent}
use Rattle.vm_model.specs.Refusals.{IsRefusedFor}
use Rattle.vm_attempt.specs.declared.progress.Reply.TheVariants as reply
use Rattle.vm_attempt.specs.Agreement.{Aside, Beside, CallFollows, MovesOn, command_frames, machine_at}
use Rattle.vm_attempt.specs.Steps.{mapped}

-- what stands aside, with these frames written
abbrev pub with_frames : List RawMessage → Aside → Aside
with_frames made aside = record aside { output = aside.output ++ command_frames made }

-- what stands aside, with this left by the last call
abbrev pub with_beside : Beside → Aside → Aside
with_beside beside aside = record aside { beside = beside }

-- the state that an attempt knows at a point
abbrev pub state_at : StateMap → Point → StateMap
state_at given p = changed_by p.said given

-- a refusal for a reason, which has written nothing and ends by the error rule of its setup
pub record Refusing (s : Setup) (before : List (List ℕ)) (queue : List Notification) (mv : Move) (left : List RawMessage) (e : Error) (w : Machine) : Type 0 where
  pub why : NamedFault
  pub related : Option RelatedCommand
  pub reason : IsRefusedFor mv left queue why
  pub error : e ≡ named_error why related
  pub output : w.output ≡ before
  pub open_yet : is_closed w.phase ≡ false
  pub version : w.version ≡ s.version
  pub options : w.options ≡ s.options

-- The outcome of an event is that of a move: the machine at the next point, or a refusal if there
-- is no next point.
abbrev pub Leads : {A : Type 0} → Setup → StateMap → List RawMessage → Aside → Point → Move → List RawMessage → List RawMessage → (A → List Answer) → Option Point → Outcome A → Type 0
Leads s given written aside p mv left made gives (Some q) (Done a w) =
    (q.answers ≡ p.answers ++ gives a) × ((beside : Beside) × (w ≡ machine_at s given (written ++ made) (with_beside beside (with_frames made aside)) q))
Leads s given written aside p mv left made gives None (Failed e w) = Refusing s aside.output p.queue mv left e w
Leads s given written aside p mv left made gives (Some q) (Failed e w) = ⊥
Leads s given written aside p mv left made gives None (Done a w) = ⊥

-- the error rule depends on the version and the options alone
pub same_rule : (v w : Machine) (e : Error) → w.version ≡ v.version → w.options ≡ v.options → ruled w e ≡ ruled v e
same_rule v w e version options = λ i. ruled (record w { version = version i; options = options i }) e

pub open_after : (left : List RawMessage) → is_closed (phase_after left) ≡ false
open_after [] = refl
open_after (c ∷ left) = refl

-- the error rule writes one Error
pub error_written : (e : Error) (w : Machine) (output : List (List ℕ)) → w.output ≡ output → is_closed w.phase ≡ false → (failed e w).output ≡ output ++ encoding (message.Error (error_message e)) ∷ []
error_written e w output is runs = rw runs (ap (λ l. l ++ encoding (message.Error (error_message e)) ∷ []) is)

-- one move, with what the call brings itself
pub one_move : (s : Setup) (m : Meaning) (given : StateMap) (p q : Point) → next s m (longer (supplied s m (state_at given p) p) p) ≡ Some q → Made s m (Handed given) 1 p (supplied s m (state_at given p) p) q
one_move s m given p q h = (state_at given p, q, [], refl, sym (append-nil (supplied s m (state_at given p) p)), h, (refl, refl))

-- no move
pub no_move : (s : Setup) (m : Meaning) (given : StateMap) (p : Point) → MovesOn s m given p [] [] p
no_move s m given p = record { moves = 0; run = (refl, refl); answers = sym (append-nil p.answers) }

-- a call brings its own command only if no recorded one is left
supplies_behind : (state : StateMap) (mv : Move) (left : List RawMessage) → (supply state mv left ≡ []) ⊎ (left ≡ [])
supplies_behind state mv [] = inr refl
supplies_behind state (Needs demand gives d) (c ∷ left) = inl refl
supplies_behind state (Answers gives d) (c ∷ left) = inl refl
supplies_behind state Awaits (c ∷ left) = inl refl
supplies_behind state Ends (c ∷ left) = inl refl
supplies_behind state (Refuses name) (c ∷ left) = inl refl

-- commands are made only if no recorded one is left
pub none_or_spent : (s : Setup) (m : Meaning) (state : StateMap) (p q : Point) → next s m (longer (supplied s m state p) p) ≡ Some q → (supplied s m state p ≡ []) ⊎ (q.left ≡ [])
none_or_spent s m state p q h = ⊎_elim (λ (none : supplied s m state p ≡ []). inl none) (λ (spent : p.left ≡ []). inr (next_spent s m state p q spent h)) (supplies_behind state (move_at s m p) p.left)

pub made_or_spent : (s : Setup) (m : Meaning) (K : Knowledge) (n : ℕ) (p : Point) (made : List RawMessage) (q : Point) → Made s m K n p made q → (made ≡ []) ⊎ (q.left ≡ [])
made_or_spent s m K zero p made q h = inl h.0
made_or_spent s m K (suc n) p made q (state, r, rest, knows, is, moves, further) = ⊎_elim
    (λ (none : supplied s m state p ≡ []). ⊎_elim (λ (x : rest ≡ []). inl (is ∙ (λ i. none i ++ x i))) (λ (x : q.left ≡ []). inr x) (made_or_spent s m K n r rest q further))
    (λ (spent : r.left ≡ []). inr (made_spent s m K n r rest q spent further))
    (none_or_spent s m state p r moves)

-- a call whose outcome is what its move leads to
pub follows_from : {A : Type 0} (s : Setup) (m : Meaning) (given : StateMap) (written : List RawMessage) (aside : Aside) (p : Point) (gives : A → Answer) (mv : Move) (o : Outcome A) → s.identity ≡ identity_of aside.start → IsOfOne (ask_of s.version (m p.answers)) → move_at s m p ≡ mv
    → Leads s given written aside p mv p.left (supply (state_at given p) mv p.left) (λ a. gives a ∷ []) (moved mv (longer (supply (state_at given p) mv p.left) p)) o → CallFollows s m given written p (machine_at s given written aside p) (mapped (λ a. reply.Answer (gives a)) (called o (machine_at s given written aside p)))
unfolding called
follows_from s m given written aside p gives mv o identity one is h = by_cases (moved mv (longer (supply (state_at given p) mv p.left) p)) refl o h
  where
    supplies : supplied s m (state_at given p) p ≡ supply (state_at given p) mv p.left
    supplies = ap (λ x. supply (state_at given p) x p.left) is

    leads : (to : Option Point) → moved mv (longer (supply (state_at given p) mv p.left) p) ≡ to → next s m (longer (supplied s m (state_at given p) p) p) ≡ to
    leads to e = ap (λ l. next s m (longer l p)) supplies ∙ ap (λ x. moved x (longer (supply (state_at given p) mv p.left) p)) is ∙ e

    by_cases : (to : Option Point) → moved mv (longer (supply (state_at given p) mv p.left) p) ≡ to → (x : Outcome _) → Leads s given written aside p mv p.left (supply (state_at given p) mv p.left) (λ a. gives a ∷ []) to x → CallFollows s m given written p (machine_at s given written aside p) (mapped (λ a. reply.Answer (gives a)) (called x (machine_at s given written aside p)))
    by_cases (Some q) e (Done a w) g =
        record {
          at = q;
          made = supply (state_at given p) mv p.left;
          none_before = subst (λ l. (l ≡ []) ⊎ (q.left ≡ [])) supplies (none_or_spent s m (state_at given p) p q (leads (Some q) e));
          moves = record { moves = 1; run = subst (λ l. Made s m (Handed given) 1 p l q) supplies (one_move s m given p q (leads (Some q) e)); answers = g.0 };
          agrees = record { aside = with_beside g.1.0 (with_frames (supply (state_at given p) mv p.left) aside); machine = g.1.1; identity = identity };
          kept = ap (λ w. w.proposals) g.1.1;
          output = ap (λ w. w.output) g.1.1;
          rests = λ none. next_keeps s m (longer (supplied s m (state_at given p) p) p) q one (leads (Some q) e) ∙ none;
        }
    by_cases None e (Failed f w) g =
        inl (record {
          at = p;
          made = [];
          none_before = inl refl;
          moves = no_move s m given p;
          why = g.why;
          reason = subst (λ x. IsRefusedFor x p.left p.queue g.why) (sym is) g.reason;
          related = g.related;
          error = same_rule (machine_at s given written aside p) w f g.version g.options ∙ ap (ruled (machine_at s given written aside p)) g.error;
          output = error_written (ruled w f) w aside.output g.output g.open_yet;
          failure = refl;
        })
    by_cases (Some q) e (Failed f w) g = absurd g
    by_cases None e (Done a w) g = absurd g
