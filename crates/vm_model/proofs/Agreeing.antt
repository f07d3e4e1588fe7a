-- Two versions of a handler that agree on a journal: what it is of the one it is of the other.
use Rattle.std.proofs.Common.{◌≡◌, ℕ, zero, suc, List, [], ◌∷◌, ◌++◌, Some, refl, sym, ap, ◌∙◌}
use Rattle.journal_protocol.specs.InputCommand.{InputCommand}
use Rattle.journal_protocol.specs.RawMessage.{RawMessage}
use Rattle.vm_state.specs.declared.state_map.StateMap.{StateMap}
use Rattle.vm_types.specs.declared.steps.Step.{Step}
use Rattle.vm_model.specs.Calls.{Setup, Meaning, call_of}
use Rattle.journal_entries.specs.Journal.{Entry, commands_in, input_read_from, notifications_in}
use Rattle.vm_model.specs.Moves.{Point, after, and_then, longer, moved, next, start, supplied, supply}
use Rattle.vm_model.specs.Histories.{History, Knowledge, Made, Told}
use Rattle.vm_model.specs.HonestRounds.{IsOneRun}
use Rattle.vm_model.specs.SoundHistories.{SoundHistory}
use Rattle.vm_model.specs.Versions.{AgreeOn}
use Rattle.vm_model.proofs.Runs.{and_then_some, longer_twice, next_longer}

-- the versions make the same call at each point that the run of the one leads to from here
abbrev pub AgreeFrom : Setup → Meaning → Meaning → Point → Type 0
AgreeFrom s m other p = (k : ℕ) (r : Point) → after s m k p ≡ Some r → other r.answers ≡ m r.answers

next_same : (s : Setup) (m other : Meaning) (p : Point) → other p.answers ≡ m p.answers → next s other p ≡ next s m p
next_same s m other p e = ap (λ (c : Step). moved (call_of s c p.derived) p) e

agree_on : (s : Setup) (m other : Meaning) (p r : Point) → next s m p ≡ Some r → AgreeFrom s m other p → AgreeFrom s m other r
agree_on s m other p r is agree k x run = agree (suc k) x (ap (λ o. and_then o (after s m k)) is ∙ run)

-- the run of the one is the run of the other
pub after_same : (s : Setup) (m other : Meaning) (n : ℕ) (p q : Point) → AgreeFrom s m other p → after s m n p ≡ Some q → after s other n p ≡ Some q
after_same s m other zero p q agree h = h
after_same s m other (suc n) p q agree h =
    let x = and_then_some (next s m p) (after s m n) q h in
    ap (λ o. and_then o (after s other n)) (next_same s m other p (agree 0 p refl) ∙ x.1) ∙ after_same s m other n x.0 q (agree_on s m other p x.0 x.1 agree) x.2

-- and back
pub after_back : (s : Setup) (m other : Meaning) (n : ℕ) (p q : Point) → AgreeFrom s m other p → after s other n p ≡ Some q → after s m n p ≡ Some q
after_back s m other zero p q agree h = h
after_back s m other (suc n) p q agree h =
    let x = and_then_some (next s other p) (after s other n) q h in
    let is : next s m p ≡ Some x.0 = sym (next_same s m other p (agree 0 p refl)) ∙ x.1 in
    ap (λ o. and_then o (after s m n)) is ∙ after_back s m other n x.0 q (agree_on s m other p x.0 is agree) x.2

-- what the one makes the other makes
pub made_same : (s : Setup) (m other : Meaning) (K : Knowledge) (n : ℕ) (p : Point) (made : List RawMessage) (q : Point) → AgreeFrom s m other (longer made p) → Made s m K n p made q → Made s other K n p made q
made_same s m other K zero p made q agree h = h
made_same s m other K (suc n) p made q agree (state, r, rest, knows, is, moves, further) =
    let S = supplied s m state p in
    let call : other p.answers ≡ m p.answers = agree 0 (longer made p) refl in
    let same : supplied s other state p ≡ S = ap (λ (c : Step). supply state (call_of s c p.derived) p.left) call in
    let on : next s m (longer made p) ≡ Some (longer rest r) = ap (λ l. next s m (longer l p)) is ∙ sym (ap (next s m) (longer_twice S rest p)) ∙ next_longer s m rest (longer S p) r moves in (
      state,
      r,
      rest,
      knows,
      is ∙ ap (λ l. l ++ rest) (sym same),
      ap (λ l. next s other (longer l p)) same ∙ next_same s m other (longer S p) call ∙ moves,
      made_same s m other K n r rest q (agree_on s m other (longer made p) (longer rest r) on agree) further,
    )

-- ---- journals

from_journal : (s : Setup) (m other : Meaning) (journal : List Entry) (first : RawMessage) (input : InputCommand) (rest : List RawMessage) → commands_in journal ≡ first ∷ rest → input_read_from first ≡ Some input → AgreeOn s m other journal → AgreeFrom s m other (start s input (notifications_in journal) rest)
from_journal s m other journal first input rest begins reads agree k r run = agree first input rest r begins reads (k, run)

pub agree_back : (s : Setup) (m other : Meaning) (journal : List Entry) → AgreeOn s m other journal → AgreeOn s other m journal
agree_back s m other journal agree first input rest p begins reads told =
    sym (agree first input rest p begins reads (told.0, after_back s m other told.0 (start s input (notifications_in journal) rest) p (from_journal s m other journal first input rest begins reads agree) told.1))

pub told_same : (s : Setup) (m other : Meaning) (journal : List Entry) (first : RawMessage) (input : InputCommand) (rest : List RawMessage) (p : Point) → commands_in journal ≡ first ∷ rest → input_read_from first ≡ Some input → AgreeOn s m other journal → Told s m input (notifications_in journal) rest p
    → Told s other input (notifications_in journal) rest p
told_same s m other journal first input rest p begins reads agree told = (told.0, after_same s m other told.0 (start s input (notifications_in journal) rest) p (from_journal s m other journal first input rest begins reads agree) told.1)

pub history_same : (s : Setup) (m other : Meaning) (base : StateMap) (journal : List Entry) → AgreeOn s m other journal → History s m base journal → History s other base journal
history_same s m other base journal agree h = record {
  first = h.first;
  input = h.input;
  reads = h.reads;
  rest = h.rest;
  begins = h.begins;
  at = h.at;
  told = told_same s m other journal h.first h.input h.rest h.at h.begins h.reads agree h.told;
  uses_all = h.uses_all;
  eager = h.eager;
}

pub sound_same : (s : Setup) (m other : Meaning) (base : StateMap) (journal : List Entry) → AgreeOn s m other journal → SoundHistory s m base journal → SoundHistory s other base journal
unfolding history_same
sound_same s m other base journal agree h = record { history = history_same s m other base journal agree h.history; leaves = h.leaves }

pub one_run_same : (s : Setup) (m other : Meaning) (K : Knowledge) (journal : List Entry) → AgreeOn s m other journal → IsOneRun s m K journal → IsOneRun s other K journal
one_run_same s m other K journal agree h = record {
  first = h.first;
  input = h.input;
  reads = h.reads;
  rest = h.rest;
  begins = h.begins;
  moves = h.moves;
  at = h.at;
  made = made_same s m other K h.moves (start s h.input (notifications_in journal) []) h.rest h.at (from_journal s m other journal h.first h.input h.rest h.begins h.reads agree) h.made;
}
