-- A sleep that is recorded with another time than that of the handler's call.
use Rattle.std.proofs.Common.{◌≡◌, ◌≢◌, ℕ, zero, suc, Bool, true, List, [], ◌∷◌, ◌++◌, Some, None, Ok, Err, refl, sym, ap, ◌∙◌, subst}
use Rattle.std.specs.Prelude.{◌==◌, if◌then◌else◌}
use Rattle.std.proofs.lemmas.Option.{same_Some}
use Rattle.journal_protocol.specs.InputCommand.{InputCommand}
use Rattle.journal_protocol.specs.RawMessage.{RawMessage}
use Rattle.journal_protocol.specs.Message.{Message}
use Rattle.journal_protocol.specs.Message.TheVariants as message
use Rattle.journal_protocol.specs.NamedFault.TheVariants as fault
use Rattle.journal_protocol.specs.Frames.{IsWhole, type_of}
use Rattle.journal_protocol.specs.Types.{type_number}
use Rattle.journal_protocol.specs.Bodies.{message_in}
use Rattle.journal_protocol.specs.Equality.{header_equal}
use Rattle.journal_protocol.proofs.Facts.{input_back, read_back}
use Rattle.journal_entries.specs.Entries.{framed_by, journal_entries}
use Rattle.journal_entries.specs.Journal.{Entry, Recorded, read_before, stored_form}
use Rattle.journal_entries.specs.JournalFrames.{as_entries}
use Rattle.journal_entries.proofs.Framing.{frame_back}
use Rattle.vm_types.specs.declared.steps.Answer.{Answer}
use Rattle.vm_model.specs.Calls.{Derived, Move, Setup}
use Rattle.vm_model.specs.Calls.Demand.{Exactly}
use Rattle.vm_model.specs.Calls.Move.{Needs}
use Rattle.vm_model.specs.Histories.{EagerReadMatches, Honest, Knowledge, Made, after_head}
use Rattle.vm_model.specs.HonestRounds.{IsOneRun}
use Rattle.vm_model.specs.Moves.{Point, after, and_then, changed_by, command_used, found, move_at, moved, next, reads_as, said_of, start as began, uses_command}
use Rattle.vm_model.specs.SoundHistories.{SoundHistory}
use Rattle.vm_attempt.proofs.Replayed.{head_same, tail_same}
use Rattle.world_rounds.specs.declared.types.Setting.{Setting}
use Rattle.world_rounds.specs.Guarantees.{IsExactlyOnce, IsReplayable}
use Rattle.world_rounds.specs.Rounds.{ReplaysAndQueues}
use Rattle.world_rounds.specs.States.{base_of}
use Rattle.world_rounds.specs.Worlds.{setup_of}
use Rattle.world_laws.specs.Unmade.{sleep_until, sleeps_once, sleeping_in, slept_until}

-- where a call leads whose command is recorded, and that brings no result
abbrev led_by : Move → Point → Point
led_by (Needs demand gives d) p = record { answers = p.answers ++ gives; derived = d; said = p.said ++ said_of demand ∷ []; queue = p.queue; left = after_head p.left }
led_by mv p = p

-- a recorded command that can be read stands for a call's command to which it is header-equal
stands : (own said : Message) (ignore : Bool) (c : RawMessage) → (type_number c.ty == type_number (type_of own)) ≡ true → message_in c.ty c.body ≡ Some said → header_equal said own ignore ≡ true → found (Exactly own ignore) c ≡ Ok None
stands own said ignore c type reads same =
    (λ i. if type i then reads_as ignore own (reads i) else Err fault.CommandTypeMismatch)
    ∙ ap (λ b. if b then Ok None else Err fault.CommandMismatch) same

-- the point after a call whose command is recorded, with these commands left
abbrev answered : Message → List Answer → Derived → Point → List RawMessage → Point
answered own gives d p left = record { answers = p.answers ++ gives; derived = d; said = p.said ++ own ∷ []; queue = p.queue; left = left }

-- so the call is answered
goes_on : (mv : Move) (own : Message) (ignore : Bool) (gives : List Answer) (d : Derived) (c : RawMessage) (left : List RawMessage) (p : Point) → mv ≡ Needs (Exactly own ignore) gives d → p.left ≡ c ∷ left → found (Exactly own ignore) c ≡ Ok None → moved mv p ≡ Some (led_by mv p)
goes_on mv own ignore gives d c left p is at found = subst (λ mv. moved mv p ≡ Some (led_by mv p)) (sym is) (by_left p.left at)
  where
    by_left : (l : List RawMessage) → l ≡ c ∷ left → uses_command (Exactly own ignore) gives d l p ≡ Some (answered own gives d p (after_head l))
    by_left l e = subst (λ l. uses_command (Exactly own ignore) gives d l p ≡ Some (answered own gives d p (after_head l))) (sym e) (ap (λ x. command_used x (Exactly own ignore) gives d left p) found)

abbrev time_of : Message → ℕ
time_of (message.Sleep c) = c.wake_up_time
time_of m = 0

module _ (w : Setting) (input : InputCommand) (time : ℕ) (replays : ReplaysAndQueues w.options) (first : IsWhole (message.Input input)) (own : IsWhole (sleep_until 1000)) (other : IsWhole (sleep_until time)) (differs : time ≢ 1000) where
  abbrev s : Setup
  s = setup_of w

  abbrev raw : RawMessage
  raw = stored_form (message.Input input)

  abbrev recorded : RawMessage
  recorded = stored_form (sleep_until time)

  abbrev entries : List Entry
  entries = Recorded raw ∷ Recorded recorded ∷ []

  are_entries : journal_entries (slept_until input time) ≡ entries
  are_entries = λ i. as_entries (framed_by (frame_back raw first.1 i) (framed_by (frame_back recorded other.1 i) []))

  reads : message_in recorded.ty recorded.body ≡ Some (sleep_until time)
  reads = read_back (sleep_until time) other

  -- ---- it can be replayed

  abbrev begin : Point
  begin = began s input [] (recorded ∷ [])

  abbrev at : Point
  at = led_by (move_at s sleeps_once begin) begin

  same_header : (ignore : Bool) → header_equal (sleep_until time) (sleep_until 1000) ignore ≡ true
  unfolding header_equal
  same_header ignore = refl

  -- the recorded sleep stands for the handler's
  moves : next s sleeps_once begin ≡ Some at
  moves = goes_on (move_at s sleeps_once begin) (sleep_until 1000) _ _ _ recorded [] begin refl refl (stands (sleep_until 1000) (sleep_until time) _ recorded refl reads (same_header _))

  is_sound : SoundHistory s sleeps_once (base_of w) entries
  is_sound = record {
    history = record {
      first = raw;
      input = input;
      reads = input_back input first;
      rest = recorded ∷ [];
      begins = refl;
      at = at;
      told = (1, ap (λ o. and_then o (after s sleeps_once 0)) moves);
      uses_all = refl;
      eager = (subst (EagerReadMatches (base_of w) recorded) (sym reads) tt, tt);
    };
    leaves = ap (λ o. changed_by (read_before o []) (base_of w)) reads;
  }

  -- ---- no run made it

  -- the first command of a run is the handler's own sleep
  no_run : (K : Knowledge) (i : InputCommand) (n : ℕ) (made : List RawMessage) (p : Point) → recorded ∷ [] ≡ made → Made s sleeps_once K n (began s i [] []) made p → ⊥
  no_run K i zero made p is run = absurd (let z : recorded ∷ [] ≡ [] = is ∙ run.0 in cc)
  no_run K i (suc n) made p is (state, r, rest, knows, wrote, goes, more) =
      let head : recorded ≡ stored_form (sleep_until 1000) = head_same recorded (stored_form (sleep_until 1000)) [] rest (is ∙ wrote) in
      let same : sleep_until time ≡ sleep_until 1000 = same_Some (sleep_until time) (sleep_until 1000) (sym reads ∙ ap (λ (c : RawMessage). message_in c.ty c.body) head ∙ read_back (sleep_until 1000) own) in
      differs (ap time_of same)

  is_no_run : IsOneRun s sleeps_once (Honest (base_of w)) entries → ⊥
  is_no_run x = no_run (Honest (base_of w)) x.input x.moves x.rest x.at (tail_same raw x.first (recorded ∷ []) x.rest x.begins) x.made

  pub replayed_unmade : IsReplayable (sleeping_in w) (slept_until input time) × (IsExactlyOnce (sleeping_in w) (slept_until input time) → ⊥)
  replayed_unmade = (
    record { replays = replays; history = subst (SoundHistory s sleeps_once (base_of w)) (sym are_entries) is_sound },
    λ x. is_no_run (subst (IsOneRun s sleeps_once (Honest (base_of w))) are_entries x),
  )
