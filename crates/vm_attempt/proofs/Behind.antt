-- What follows after some commands that a call has made.
use Rattle.std.proofs.Common.{◌≡◌, ◌⊎◌, ◌+◌, List, [], ◌∷◌, ◌++◌, refl, sym, ap, ◌∙◌, inl, inr, ⊎_elim, append_assoc, append-nil}
use Rattle.journal_protocol.specs.Error.{Error}
use Rattle.journal_protocol.specs.Errors.{error_message, named_error}
use Rattle.journal_protocol.specs.Message.TheVariants as message
use Rattle.journal_protocol.specs.RawMessage.{RawMessage}
use Rattle.journal_protocol.specs.Frames.{encoding}
use Rattle.vm_state.specs.declared.state_map.StateMap.{StateMap}
use Rattle.vm_types.specs.declared.steps.Answer.{Answer}
use Rattle.vm_machine.specs.declared.machine.Machine.{Machine}
use Rattle.vm_machine.specs.Outcomes.{Done, Failed, Outcome, failed, ruled, settled}
use Rattle.vm_model.specs.Calls.{Meaning, Setup}
use Rattle.vm_model.specs.Histories.{Handed}
use Rattle.vm_model.specs.Moves.{Point}
use Rattle.vm_model.proofs.Runs.{made_add}
use Rattle.vm_attempt.specs.Agreement.{Answered, IsCutShort, CallRefused, MovesOn, command_frames, machine_at}
use Rattle.vm_attempt.proofs.Leading.{made_or_spent, same_rule}

-- ---- outcomes

-- a call that was done, whose machine hadn't failed
pub settled_done : {A : Type 0} (o : Outcome A) (a : A) (w : Machine) → settled o ≡ Done a w → o ≡ Done a w
settled_done (Done b x) a w h = h
settled_done (Failed e x) a w h = absurd (cc)

-- a call that failed
pub settled_failed : {A : Type 0} (o : Outcome A) (e : Error) (w : Machine) → settled o ≡ Failed e w → (f : Error) × (x : Machine) × (o ≡ Failed f x) × (e ≡ ruled x f) × (w ≡ failed (ruled x f) x)
settled_failed (Done b x) e w h = absurd (cc)
settled_failed (Failed f x) e w h = (f, x, refl, cc, cc)

-- ---- frames of commands

pub frames_both : (made more : List RawMessage) → command_frames (made ++ more) ≡ command_frames made ++ command_frames more
frames_both [] more = refl
frames_both (c ∷ made) more = ap (λ l. command_frames (c ∷ []) ++ l) (frames_both made more)

-- ---- one after another

module _ (s : Setup) (m : Meaning) (given : StateMap) where
  -- some commands, and moves after them
  abbrev pub moves_on : (p q r : Point) (gives : List Answer) (made more : List RawMessage) → MovesOn s m given p [] made q → MovesOn s m given q gives more r → MovesOn s m given p gives (made ++ more) r
  moves_on p q r gives made more a b = record {
    moves = a.moves + b.moves;
    run = made_add s m (Handed given) a.moves b.moves p made q more r a.run b.run;
    answers = b.answers ∙ ap (λ l. l ++ gives) (a.answers ∙ append-nil p.answers);
  }

  pub refused_behind : (p q : Point) (made : List RawMessage) (v u : Machine) → MovesOn s m given p [] made q → u.output ≡ v.output ++ command_frames made → u.version ≡ v.version → u.options ≡ v.options → (e : Error) (w : Machine) → CallRefused s m given q u e w → CallRefused s m given p v e w
  refused_behind p q made v u a output version options e w h =
      let moves = moves_on p q h.at [] made h.made a h.moves in
      let frame = encoding (message.Error (error_message e)) ∷ [] in
      record {
        at = h.at;
        made = made ++ h.made;
        none_before = made_or_spent s m (Handed given) moves.moves p (made ++ h.made) h.at moves.run;
        moves = moves;
        why = h.why;
        reason = h.reason;
        related = h.related;
        error = h.error ∙ same_rule v u (named_error h.why h.related) version options;
        output = h.output ∙ ap (λ l. l ++ (command_frames h.made ++ frame)) output ∙ append_assoc v.output (command_frames made) (command_frames h.made ++ frame) ∙ ap (λ l. v.output ++ l) (sym (append_assoc (command_frames made) (command_frames h.made) frame) ∙ ap (λ l. l ++ frame) (sym (frames_both made h.made)));
        failure = h.failure;
      }

  pub cut_behind : (p q : Point) (made : List RawMessage) (v u : Machine) → MovesOn s m given p [] made q → u.output ≡ v.output ++ command_frames made → (e : Error) (w : Machine) → IsCutShort s m given q u e w → IsCutShort s m given p v e w
  cut_behind p q made v u a output e w h =
      let moves = moves_on p q h.at [] made h.made a h.moves in
      record {
        at = h.at;
        made = made ++ h.made;
        none_before = made_or_spent s m (Handed given) moves.moves p (made ++ h.made) h.at moves.run;
        moves = moves;
        many = h.many;
        error = h.error;
        output = h.output ∙ ap (λ l. l ++ command_frames h.made) output ∙ append_assoc v.output (command_frames made) (command_frames h.made) ∙ ap (λ l. v.output ++ l) (sym (frames_both made h.made));
        failure = h.failure;
      }

  pub either_behind : (p q : Point) (made : List RawMessage) (v u : Machine) → MovesOn s m given p [] made q → u.output ≡ v.output ++ command_frames made → u.version ≡ v.version → u.options ≡ v.options → (e : Error) (w : Machine) → CallRefused s m given q u e w ⊎ IsCutShort s m given q u e w → CallRefused s m given p v e w ⊎ IsCutShort s m given p v e w
  either_behind p q made v u a output version options e w h = ⊎_elim
      (λ (x : CallRefused s m given q u e w). inl (refused_behind p q made v u a output version options e w x))
      (λ (x : IsCutShort s m given q u e w). inr (cut_behind p q made v u a output e w x))
      h

  unfoldable pub answered_behind : (written : List RawMessage) (p q : Point) (made : List RawMessage) (v u : Machine) → MovesOn s m given p [] made q → u.output ≡ v.output ++ command_frames made → u.proposals ≡ v.proposals → (a : Answer) (w : Machine) (h : Answered s m given (written ++ made) q u a w) → (p.derived.parts ≡ 0 → h.at.derived.parts ≡ 0) → Answered s m given written p v a w
  answered_behind written p q made v u moved_to output kept a w h rests =
      let moves = moves_on p q h.at (a ∷ []) made h.made moved_to h.moves in
      record {
        at = h.at;
        made = made ++ h.made;
        none_before = made_or_spent s m (Handed given) moves.moves p (made ++ h.made) h.at moves.run;
        moves = moves;
        agrees = record { aside = h.agrees.aside; machine = h.agrees.machine ∙ (λ i. machine_at s given (append_assoc written made h.made i) h.agrees.aside h.at); identity = h.agrees.identity };
        kept = h.kept ∙ kept;
        output = h.output ∙ ap (λ l. l ++ command_frames h.made) output ∙ append_assoc v.output (command_frames made) (command_frames h.made) ∙ ap (λ l. v.output ++ l) (sym (frames_both made h.made));
        rests = rests;
      }
