-- A replay that used all recorded commands shows that the journal is a history.
use Rattle.std.proofs.Common.{◌≡◌, ℕ, zero, suc, List, [], ◌∷◌, ◌++◌, Some, refl, sym, ap, ◌∙◌, subst, append-nil}
use Rattle.journal_protocol.specs.InputCommand.{InputCommand}
use Rattle.journal_protocol.specs.RawMessage.{RawMessage}
use Rattle.vm_state.specs.declared.state_map.StateMap.{StateMap}
use Rattle.vm_model.specs.Calls.{Setup, Meaning}
use Rattle.journal_entries.specs.Journal.{Entry, commands_in, input_read_from, notifications_in}
use Rattle.vm_model.specs.Moves.{Point, after, and_then, longer, move_at, next, start, supplied, supply}
use Rattle.vm_model.specs.Histories.{EagerFrom, Handed, History, Knowledge, Made}
use Rattle.vm_model.specs.HonestRounds.{Attempted, IsToldOn}
use Rattle.vm_model.proofs.Compared.{nothing_supplied}
use Rattle.vm_model.proofs.Runs.{longer_nothing}

-- a point of the run at which all recorded commands are used, before the run brings one of its own
abbrev pub UsesAll : Setup → Meaning → Point → Type 0
UsesAll s m p = (k : ℕ) × (x : Point) × (after s m k p ≡ Some x) × (x.left ≡ [])

uses_next : (s : Setup) (m : Meaning) (p r : Point) → next s m p ≡ Some r → UsesAll s m r → UsesAll s m p
uses_next s m p r is (k, x, run, all) = (suc k, x, ap (λ o. and_then o (after s m k)) is ∙ run, all)

-- The move of a point with recorded commands brings none of its own.
moves_recorded : (s : Setup) (m : Meaning) (state : StateMap) (p r : Point) (c : RawMessage) (left : List RawMessage) → p.left ≡ c ∷ left → next s m (longer (supplied s m state p) p) ≡ Some r → next s m p ≡ Some r
moves_recorded s m state p r c left e moves =
    let S : supplied s m state p ≡ [] = ap (supply state (move_at s m p)) e ∙ nothing_supplied state (move_at s m p) c left in
    ap (next s m) (sym (longer_nothing p)) ∙ ap (λ l. next s m (longer l p)) (sym S) ∙ moves

all_used_at : (s : Setup) (m : Meaning) (state : StateMap) (p r : Point) (left : List RawMessage) → p.left ≡ left → next s m (longer (supplied s m state p) p) ≡ Some r → UsesAll s m r → UsesAll s m p
all_used_at s m state p r [] e moves on = (0, p, refl, e)
all_used_at s m state p r (c ∷ left) e moves on = uses_next s m p r (moves_recorded s m state p r c left e moves) on

pub all_used : (s : Setup) (m : Meaning) (K : Knowledge) (n : ℕ) (p : Point) (made : List RawMessage) (q : Point) → Made s m K n p made q → q.left ≡ [] → UsesAll s m p
all_used s m K zero p made q h all = (0, p, refl, ap (λ z. z.left) h.1 ∙ all)
all_used s m K (suc n) p made q (state, r, rest, knows, is, moves, further) all = all_used_at s m state p r p.left refl moves (all_used s m K n r rest q further all)

pub replay_is_history : (s : Setup) (m : Meaning) (K : Knowledge) (base : StateMap) (journal : List Entry) (first : RawMessage) (input : InputCommand) (rest : List RawMessage) (n : ℕ) (written : List RawMessage) (at : Point) → commands_in journal ≡ first ∷ rest → input_read_from first ≡ Some input
    → Made s m K n (start s input (notifications_in journal) rest) written at → at.left ≡ [] → EagerFrom base rest → History s m base journal
replay_is_history s m K base journal first input rest n written at begins reads made all eager =
    let u = all_used s m K n (start s input (notifications_in journal) rest) written at made all in
    record {
      first = first;
      input = input;
      reads = reads;
      rest = rest;
      begins = begins;
      at = u.1;
      told = (u.0, u.2);
      uses_all = u.3;
      eager = eager;
    }

-- an attempt that was delivered nothing and has used all recorded commands
pub attempt_is_history : (s : Setup) (m : Meaning) (base : StateMap) (journal : List Entry) (a : Attempted) (t : IsToldOn s m journal a) → notifications_in a.course ≡ [] → t.at.left ≡ [] → EagerFrom base t.rest → History s m base journal
attempt_is_history s m base journal a t none all eager =
    let ns : notifications_in journal ++ notifications_in a.course ≡ notifications_in journal = ap (λ l. notifications_in journal ++ l) none ∙ append-nil (notifications_in journal) in
    replay_is_history s m (Handed a.given) base journal t.first t.input t.rest t.moves (commands_in a.course) t.at t.begins t.reads
    (subst (λ l. Made s m (Handed a.given) t.moves (start s t.input l t.rest) (commands_in a.course) t.at) ns t.made) all eager
