-- The frames of a journal as its entries, and a history that is replayed.
use Rattle.vm_state.specs.declared.state_map.StateMap.{StateMap}
use Rattle.std.proofs.Common.{◌≡◌, ℕ, inl, inr, ⊎_elim, Bool, true, false, cond, List, [], ◌∷◌, ◌++◌, Option, Some, None, refl, sym, ap, ◌∙◌, subst}
use Rattle.std.proofs.lemmas.Option.{same_Some}
use Rattle.journal_protocol.specs.Error.{Error}
use Rattle.journal_protocol.specs.NamedFault.{NamedFault}
use Rattle.journal_protocol.specs.Errors.{no_memory}
use Rattle.journal_protocol.specs.RawMessage.{RawMessage}
use Rattle.journal_protocol.specs.Notification.{Notification}
use Rattle.journal_protocol.specs.Bodies.{notification_in, acknowledgement_in}
use Rattle.vm_types.specs.declared.options.JournalReplay.TheVariants.{Enabled, Disabled}
use Rattle.vm_types.specs.declared.steps.Answer.{Answer}
use Rattle.vm_machine.specs.declared.machine.Machine.{Machine}
use Rattle.vm_model.specs.Calls.{Setup, Meaning}
use Rattle.vm_model.specs.Calls.Move.{Refuses}
use Rattle.journal_entries.specs.Journal.{Entry, commands_in, input_read_from, notifications_in}
use Rattle.vm_model.specs.Moves.{Point, move_at, start}
use Rattle.vm_model.specs.Histories.{History, Made, Handed}
use Rattle.vm_model.proofs.Compared.{attempt_is_told, none_refused}
use Rattle.vm_model.proofs.RightKinds.{none_unexpected}
use Rattle.vm_model.proofs.Refusals.{own_reason, refused_stuck}
use Rattle.vm_model.specs.Refusals.{IsRefusedFor}
use Rattle.vm_attempt.specs.Heard.{Heard}
use Rattle.vm_attempt.specs.Blames.{RefusedCall, Blame, IsHonest, IsOwnError, first_input}
use Rattle.vm_attempt.specs.Blames.Blame.{Memory, Frame, NoFrame, ClosedEarly, NoInput, NoSkip, Call, RunResult}
use Rattle.journal_entries.specs.JournalFrames.{as_entries, commands_among, is_command_frame, is_notification, notifications_among, notified_by, recorded_by, told_by}
use Rattle.vm_attempt.specs.Journals.{setup_for}
use Rattle.vm_attempt.specs.Told.{Journal, RefusesReplay, arrivals, start_state}
use Rattle.vm_attempt.specs.Arrivals.{arriving}
use Rattle.std.specs.Prelude.{◌==◌, ◌&&◌, nat_le, nat_lt}
use Rattle.std.proofs.lemmas.Bool.{eqb-true}
use Rattle.journal_protocol.specs.ProposeRunCompletionAck.{ProposeRunCompletionAck}
use Rattle.journal_protocol.specs.NamedFault.TheVariants as fault
use Rattle.journal_protocol.specs.Types.{type_number}
use Rattle.vm_machine.specs.declared.phase.Phase.TheVariants.{Processing}
use Rattle.vm_model.specs.Histories.{after_head}
use Rattle.journal_protocol.specs.ProposeRunCompletion.{ProposeRunCompletion}
use Rattle.vm_attempt.specs.Arrivals.{kept_after}
use Rattle.vm_attempt.specs.Blames.{BadFrame, fault_among, fault_by, acknowledgement_body_fault}
use Rattle.journal_entries.specs.JournalFrames.{is_acknowledgement}
use Rattle.vm_attempt.proofs.Arriving.{kept_none}
use Rattle.vm_attempt.proofs.Blaming.{none_kept}
use Rattle.vm_attempt.proofs.Proposed.{arriving_append, arriving_notified, kept_all}
use Rattle.vm_model.specs.Fixed.{Fixed}

recorded_commands : (b : Bool) (raw : RawMessage) (es : List Entry) (cs : List RawMessage) → commands_in es ≡ cs → commands_in (recorded_by b raw es) ≡ cond b (raw ∷ cs) cs
recorded_commands true raw es cs is = ap (λ l. raw ∷ l) is
recorded_commands false raw es cs is = is

told_commands : (o : Option Notification) (es : List Entry) → commands_in (told_by o es) ≡ commands_in es
told_commands None es = refl
told_commands (Some n) es = refl

noted_commands : (b : Bool) (o : Option Notification) (es : List Entry) → commands_in (cond b (told_by o es) es) ≡ commands_in es
noted_commands true o es = told_commands o es
noted_commands false o es = refl

pub commands_same : (raws : List RawMessage) → commands_in (as_entries raws) ≡ commands_among raws
commands_same [] = refl
commands_same (raw ∷ raws) =
    recorded_commands (is_command_frame raw) raw (cond (is_notification raw) (told_by (notification_in raw.body) (as_entries raws)) (as_entries raws)) (commands_among raws)
    (noted_commands (is_notification raw) (notification_in raw.body) (as_entries raws) ∙ commands_same raws)

recorded_notes : (b : Bool) (raw : RawMessage) (es : List Entry) → notifications_in (recorded_by b raw es) ≡ notifications_in es
recorded_notes true raw es = refl
recorded_notes false raw es = refl

told_notes : (o : Option Notification) (es : List Entry) (ns : List Notification) → notifications_in es ≡ ns → notifications_in (told_by o es) ≡ notified_by o ns
told_notes None es ns is = is
told_notes (Some n) es ns is = ap (λ l. n ∷ l) is

noted_notes : (b : Bool) (o : Option Notification) (es : List Entry) (ns : List Notification) → notifications_in es ≡ ns → notifications_in (cond b (told_by o es) es) ≡ cond b (notified_by o ns) ns
noted_notes true o es ns is = told_notes o es ns is
noted_notes false o es ns is = is

pub notes_same : (raws : List RawMessage) → notifications_in (as_entries raws) ≡ notifications_among raws
notes_same [] = refl
notes_same (raw ∷ raws) =
    recorded_notes (is_command_frame raw) raw (cond (is_notification raw) (told_by (notification_in raw.body) (as_entries raws)) (as_entries raws))
    ∙ noted_notes (is_notification raw) (notification_in raw.body) (as_entries raws) (notifications_among raws) (notes_same raws)

pub head_same : (a b : RawMessage) (xs ys : List RawMessage) → a ∷ xs ≡ b ∷ ys → a ≡ b
head_same a b xs ys e = cc

pub tail_same : (a b : RawMessage) (xs ys : List RawMessage) → a ∷ xs ≡ b ∷ ys → xs ≡ ys
tail_same a b xs ys e = cc

-- on a history no call is refused while recorded commands are left
pub history_refuses : (fixed : Fixed) (fed : Heard) (j : Journal fed) (base : StateMap) (moves : ℕ) (written : List RawMessage) (at : Point) → Made (setup_for fixed j.start) fixed.handler (Handed (start_state j)) moves (start (setup_for fixed j.start) j.input (arrivals j) j.rest) written at
    → (c : RawMessage) (further : List RawMessage) → at.left ≡ c ∷ further → (why : NamedFault) → IsRefusedFor (move_at (setup_for fixed j.start) fixed.handler at) at.left at.queue why → History (setup_for fixed j.start) fixed.handler base (as_entries j.entries) → ⊥
history_refuses fixed fed j base moves written at run c further left why reason h =
    let s = setup_for fixed j.start in
    let begins : h.first ∷ h.rest ≡ j.first ∷ j.rest = sym h.begins ∙ commands_same j.entries ∙ j.commands in
    let first : h.first ≡ j.first = head_same h.first j.first h.rest j.rest begins in
    let rest : h.rest ≡ j.rest = tail_same h.first j.first h.rest j.rest begins in
    let input : h.input ≡ j.input = same_Some h.input j.input (sym h.reads ∙ ap input_read_from first ∙ j.reads_input) in
    let later = arriving fed.proposed j.others in
    let notes : notifications_in (as_entries j.entries) ++ later ≡ arrivals j =
    (λ i. (notes_same j.entries ∙ sym (arriving_notified fed.proposed j.entries j.none_acknowledge)) i ++ arriving (sym (kept_all fed.proposed j.entries j.none_acknowledge) i) j.others)
    ∙ sym (arriving_append fed.proposed j.entries j.others)
    in
    let made : Made s fixed.handler (Handed (start_state j)) moves (start s h.input (notifications_in (as_entries j.entries) ++ later) h.rest) written at = subst (λ p. Made s fixed.handler (Handed (start_state j)) moves p written at) (λ i. start s (sym input i) (sym notes i) (sym rest i)) run in
    none_refused s fixed.handler base (start_state j) base (as_entries j.entries) later moves written further c at h made left (refused_stuck s fixed.handler base at why reason)

pub history_replayed : (fixed : Fixed) (fed : Heard) (answers : List Answer) (e : Error) (old new : Machine) (x : RefusesReplay fixed fed answers e old new) (c : RawMessage) (further : List RawMessage) → x.at.left ≡ c ∷ further → (base : StateMap) → History (setup_for fixed x.journal.start) fixed.handler base (as_entries x.journal.entries) → ⊥
history_replayed fixed fed answers e old new x c further left base h = history_refuses fixed fed x.journal base x.moves x.written x.at x.made c further left x.why x.reason h

-- ---- honest attempts

no_input : (s : Setup) (m : Meaning) (base : StateMap) (entries : List RawMessage) → History s m base (as_entries entries) → first_input (commands_among entries) ≡ None → ⊥
no_input s m base entries h none =
    let z : Some h.input ≡ None = sym h.reads ∙ ap first_input (sym h.begins ∙ commands_same entries) ∙ none in
    absurd (cc)

-- if no recorded command is left, a call is refused for a reason of its own
own_refusal : (fixed : Fixed) (fed : Heard) (answers : List Answer) (e : Error) (x : RefusedCall fixed fed answers e) → x.at.left ≡ [] → move_at (setup_for fixed x.journal.start) fixed.handler x.at ≡ Refuses x.why
own_refusal fixed fed answers e x is =
    let move = move_at (setup_for fixed x.journal.start) fixed.handler x.at in
    own_reason move x.at.queue x.why (subst (λ l. IsRefusedFor move l x.at.queue x.why) is x.reason)

-- a call of an honest attempt that was refused
honest_refused : (fixed : Fixed) (fed : Heard) (closed : Bool) (answers : List Answer) (R : Error → Type 0) (e : Error) → IsHonest fixed fed → (x : RefusedCall fixed fed answers e) → (left : List RawMessage) → x.at.left ≡ left → IsOwnError fixed fed closed answers R e
honest_refused fixed fed closed answers R e honest x [] is = inr (inr (inl (record {
  journal = x.journal;
  written = x.written;
  at = x.at;
  moves = x.moves;
  made = x.made;
  answers = x.answers;
  none_recorded = is;
  why = x.why;
  reason = own_refusal fixed fed answers e x is;
  expected = λ same.
      let told = (attempt_is_told (setup_for fixed x.journal.start) fixed.handler (start_state x.journal) x.journal.input x.moves (arrivals x.journal) x.journal.rest x.written x.at x.made).0 in
      none_unexpected (setup_for fixed x.journal.start) fixed.handler told.0 x.journal.input (arrivals x.journal) (x.journal.rest ++ x.written) x.at told.1 (honest.kinds x.journal x.moves x.written x.at x.made) (own_refusal fixed fed answers e x is ∙ ap Refuses same);
  related = x.related;
  error = x.error;
})))
honest_refused fixed fed closed answers R e honest x (c ∷ further) is = absurd (let h = honest.history x.journal.first_frame x.journal.entries x.journal.others x.journal.start x.journal.frames x.journal.reads_start x.journal.count in history_refuses fixed fed x.journal h.0 x.moves x.written x.at x.made c further is x.why x.reason h.1)

-- an acknowledgement is refused in Processing where its proposal isn't kept
acknowledged_by_kept : (kept : List ProposeRunCompletion) (raw : RawMessage) → is_acknowledgement raw ≡ true → fault_among kept Processing raw ≡ acknowledgement_body_fault kept (acknowledgement_in raw.body)
acknowledged_by_kept kept raw is = ap (λ n. fault_by kept Processing raw (n == 1) (nat_le 10 n && nat_lt n 30) (n == 30) (n == 6)) (eqb-true (type_number raw.ty) 6 is)

-- if no proposal is kept, an acknowledgement is refused
none_kept_fault : (ack : Option ProposeRunCompletionAck) → acknowledgement_body_fault [] ack ≡ None → ⊥
none_kept_fault None h = let z : Some fault.BadMessage ≡ None = h in cc
none_kept_fault (Some ack) h = let z : Some fault.BadProposeRunCompletionAck ≡ None = h in cc

-- no frame of an honest attempt is refused
honest_frame : (fixed : Fixed) (fed : Heard) (e : Error) → IsHonest fixed fed → (x : BadFrame fixed fed e) → (b : Bool) → is_acknowledgement x.raw ≡ b → ⊥
honest_frame fixed fed e honest x false is =
    let z : None ≡ Some x.why = sym (honest.frames x.before x.raw x.behind x.phase x.missing x.split x.place is) ∙ none_kept (kept_after fed.proposed (after_head x.before)) x.phase x.raw x.why x.reason in cc
honest_frame fixed fed e honest x true is =
    let kept = kept_after fed.proposed (after_head x.before) in
    let taken : acknowledgement_body_fault kept (acknowledgement_in x.raw.body) ≡ None = honest.acknowledgements x.before x.raw x.behind x.split is in
    ⊎_elim
    (λ (none : fed.proposed ≡ []). none_kept_fault (acknowledgement_in x.raw.body) (ap (λ ps. acknowledgement_body_fault ps (acknowledgement_in x.raw.body)) (sym (ap (λ ps. kept_after ps (after_head x.before)) none ∙ kept_none (after_head x.before))) ∙ taken))
    (λ (at : x.phase ≡ Processing).
    let z : None ≡ Some x.why = sym taken ∙ sym (acknowledged_by_kept kept x.raw is) ∙ ap (λ ph. fault_among kept ph x.raw) (sym at) ∙ x.reason in cc)
    x.late

-- an honest attempt fails for nothing but a reason of its own
pub honest_fails : (fixed : Fixed) (fed : Heard) (closed : Bool) (answers : List Answer) (R : Error → Type 0) (e : Error) → IsHonest fixed fed → Blame fixed fed closed answers R e → IsOwnError fixed fed closed answers R e
honest_fails fixed fed closed answers R e honest (Memory x) = inl x
honest_fails fixed fed closed answers R e honest (Frame x) = absurd (honest_frame fixed fed e honest x (is_acknowledgement x.raw) refl)
honest_fails fixed fed closed answers R e honest (NoFrame x y) = absurd (honest.whole x)
honest_fails fixed fed closed answers R e honest (ClosedEarly x y z) = inr (inl (x, y, z))
honest_fails fixed fed closed answers R e honest (NoInput x) = absurd (let h = honest.history x.first x.entries x.others x.start x.is x.reads x.count in no_input (setup_for fixed x.start) fixed.handler h.0 x.entries h.1 x.none)
honest_fails fixed fed closed answers R e honest (NoSkip x) = absurd (let z : Enabled ≡ Disabled = sym honest.premises.replays ∙ x.skips in cc)
honest_fails fixed fed closed answers R e honest (Call fails refuses) = ⊎_elim
    (λ (y : e ≡ no_memory). inl y)
    (λ (y : RefusedCall fixed fed answers e). honest_refused fixed fed closed answers R e honest y y.at.left refl)
    (refuses honest.premises)
honest_fails fixed fed closed answers R e honest (RunResult x) = inr (inr (inr x))
