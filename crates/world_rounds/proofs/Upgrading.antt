-- From version 7 to version 8 nothing changes for a handler's run, so a journal is for the one what it is for the other.
use Rattle.std.proofs.Common.{◌≡◌, ℕ, zero, suc, Bool, true, false, List, [], ◌∷◌, ◌++◌, Option, Some, None, refl, sym, ap, ◌∙◌}
use Rattle.journal_protocol.specs.RawMessage.{RawMessage}
use Rattle.journal_protocol.specs.Version.TheVariants as version
use Rattle.vm_state.specs.declared.state_map.StateMap.{StateMap}
use Rattle.vm_types.specs.declared.steps.Step.{Step}
use Rattle.vm_types.specs.declared.steps.Step.TheVariants as step
use Rattle.vm_asks.specs.declared.asks.Ask.{Ask}
use Rattle.vm_asks.specs.declared.asks.Ask.TheVariants as ask
use Rattle.vm_asks.specs.declared.command.Command.{Command}
use Rattle.vm_asks.specs.declared.asks.AnswerKind.{AnswerKind}
use Rattle.vm_asks.specs.Asks.{ask_of}
use Rattle.vm_asks.specs.Requests.{ids_of}
use Rattle.vm_state.specs.Counting.{missing_number, missing_signals}
use Rattle.vm_parts.specs.Tracked.{invocation_ids, unresolved_handles}
use Rattle.vm_types.specs.Options.{skips_replay}
use Rattle.await_trees.specs.declared.tree.UnresolvedFuture.{UnresolvedFuture}
use Rattle.journal_protocol.specs.NamedFault.{NamedFault}
use Rattle.vm_model.specs.Calls.{Derived, Setup, Meaning, Move, Turn, asked, awaited, awakeable_made, behind_command, calling, cancel_sent, cancelled, cancelling, commanding, is_cancelled_in, making_awakeable, numbered, part, part_unless, refused_before, turn_after, turn_taken}
use Rattle.journal_entries.specs.Journal.{Entry, notifications_in}
use Rattle.vm_model.specs.Moves.{Point, after, and_then, longer, move_at, moved, next, start, supplied, supply}
use Rattle.vm_model.specs.Histories.{Honest, Knowledge, Made}
use Rattle.vm_model.specs.HonestRounds.{IsOneRun}
use Rattle.vm_model.specs.SoundHistories.{SoundHistory}
use Rattle.vm_model.proofs.Runs.{and_then_some}
use Rattle.world_rounds.specs.declared.types.Setting.{Setting}
use Rattle.journal_entries.specs.Entries.{journal_entries}
use Rattle.world_rounds.specs.States.{base_of}
use Rattle.world_rounds.specs.Worlds.{setup_of}
use Rattle.world_rounds.specs.Sound.{IsSoundFor}

-- what a step asks for is the same
same_ask : (st : Step) → ask_of version.V8 st ≡ ask_of version.V7 st
same_ask (step.Sleep name wake_up_time now) = refl
same_ask (step.StateSet key value name options) = refl
same_ask (step.StateClear key name) = refl
same_ask (step.StateClearAll name) = refl
same_ask (step.StateGet key name options) = refl
same_ask (step.StateGetKeys name) = refl
same_ask (step.Call target input name options) = refl
same_ask (step.CallWithDeadline target input time name options) = refl
same_ask (step.Send target input time name options) = refl
same_ask step.Awakeable = refl
same_ask (step.Signal name) = refl
same_ask (step.CompleteAwakeable id value options) = refl
same_ask (step.CompleteSignal target signal value) = refl
same_ask (step.CancelInvocation target) = refl
same_ask (step.GetPromise key) = refl
same_ask (step.PeekPromise key) = refl
same_ask (step.CompletePromise key value options) = refl
same_ask (step.Run name) = refl
same_ask (step.AttachInvocation target) = refl
same_ask (step.GetInvocationOutput target) = refl
same_ask (step.WriteOutput value options) = refl
same_ask (step.Await future) = refl
same_ask (step.Take handle) = refl
same_ask (step.Completed handle) = refl
same_ask step.End = refl

abbrev pub at8 : Setup → Setup
at8 s = record s { version = version.V8 }

abbrev pub at7 : Setup → Setup
at7 s = record s { version = version.V7 }

same_numbered : (s : Setup) (c : Command) (o : Option NamedFault) (d : Derived) → numbered (at8 s) c o d ≡ numbered (at7 s) c o d
same_numbered s c (Some name) d = refl
same_numbered s c None d = refl

same_commanding : (s : Setup) (c : Command) (o : Option NamedFault) (d : Derived) → commanding (at8 s) c o d ≡ commanding (at7 s) c o d
same_commanding s c (Some name) d = refl
same_commanding s c None d = same_numbered s c (missing_number (ids_of c.message) 0 (ids_of c.message) d.counters) d

same_turn : (s : Setup) (n : ℕ) (c : Command) (bs : List Command) (d : Derived) → turn_after (at8 s) n c bs d ≡ turn_after (at7 s) n c bs d
same_turn s zero c bs d = refl
same_turn s (suc n) c [] d = refl
same_turn s (suc n) c (b ∷ bs) d = same_turn s n b bs (behind_command (at7 s) c d)

same_part : (s : Setup) (kind : AnswerKind) (c : Command) (bs : List Command) (before d : Derived) → part (at8 s) kind c bs before d ≡ part (at7 s) kind c bs before d
same_part s kind c [] before d = refl
same_part s kind c (b ∷ bs) before d = refl

same_unless : (o : Option NamedFault) (s : Setup) (kind : AnswerKind) (t : Turn) (d : Derived) → part_unless o (at8 s) kind t d ≡ part_unless o (at7 s) kind t d
same_unless (Some name) s kind t d = refl
same_unless None s kind t d = same_part s kind t.command t.behind t.before d

same_calling : (s : Setup) (kind : AnswerKind) (c : Command) (bs : List Command) (d : Derived) → calling (at8 s) kind c bs d ≡ calling (at7 s) kind c bs d
same_calling s kind c bs d =
    ap (λ t. turn_taken (at8 s) kind t d) (same_turn s d.parts c bs d)
    ∙ (let t = turn_after (at7 s) d.parts c bs d in same_unless (refused_before t.command t.behind t.before.counters) s kind t d)

same_made_awakeable : (s : Setup) (o : Option NamedFault) (d : Derived) → awakeable_made (at8 s) o d ≡ awakeable_made (at7 s) o d
same_made_awakeable s (Some name) d = refl
same_made_awakeable s None d = refl

same_awakeable : (s : Setup) (b : Bool) (d : Derived) → making_awakeable (at8 s) b d ≡ making_awakeable (at7 s) b d
same_awakeable s true d = refl
same_awakeable s false d = same_made_awakeable s (missing_signals 1 1 d.counters) d

same_sent : (s : Setup) (id : List ℕ) (o : Option NamedFault) (d : Derived) → cancel_sent (at8 s) id o d ≡ cancel_sent (at7 s) id o d
same_sent s id (Some name) d = refl
same_sent s id None d = refl

same_cancelling : (s : Setup) (ids : List (List ℕ)) (d : Derived) → cancelling (at8 s) ids d ≡ cancelling (at7 s) ids d
same_cancelling s [] d = refl
same_cancelling s (id ∷ ids) d = same_sent s id (missing_number 0 0 0 d.counters) d

same_cancelled : (s : Setup) (handles : List ℕ) (d : Derived) → cancelled (at8 s) handles d ≡ cancelled (at7 s) handles d
same_cancelled s [] d = same_cancelling s (invocation_ids d.tracked) d
same_cancelled s (handle ∷ handles) d = refl

same_awaited : (s : Setup) (b : Bool) (future : UnresolvedFuture) (d : Derived) → awaited (at8 s) b future d ≡ awaited (at7 s) b future d
same_awaited s true future d = same_cancelled s (unresolved_handles d.tracked) d
same_awaited s false future d = refl

same_asked : (s : Setup) (a : Ask) (d : Derived) → asked (at8 s) a d ≡ asked (at7 s) a d
same_asked s (ask.Command c) d = same_commanding s c c.refusal d
same_asked s (ask.Commands kind first second) d = same_calling s kind first (second ∷ []) d
same_asked s (ask.Read r) d = refl
same_asked s ask.Awakeable d = same_awakeable s (skips_replay s.options.journal_replay) d
same_asked s (ask.Signal name) d = refl
same_asked s (ask.Await future) d = same_awaited s (is_cancelled_in s d) future d
same_asked s (ask.Take handle) d = refl
same_asked s (ask.Completed handle) d = refl
same_asked s ask.End d = refl

same_move : (s : Setup) (m : Meaning) (p : Point) → move_at (at8 s) m p ≡ move_at (at7 s) m p
same_move s m p = same_asked s (ask_of version.V8 (m p.answers)) p.derived ∙ ap (λ (a : Ask). asked (at7 s) a p.derived) (same_ask (m p.answers))

same_next : (s : Setup) (m : Meaning) (p : Point) → next (at8 s) m p ≡ next (at7 s) m p
same_next s m p = ap (λ (mv : Move). moved mv p) (same_move s m p)

same_after : (s : Setup) (m : Meaning) (n : ℕ) (p q : Point) → after (at7 s) m n p ≡ Some q → after (at8 s) m n p ≡ Some q
same_after s m zero p q h = h
same_after s m (suc n) p q h =
    let x = and_then_some (next (at7 s) m p) (after (at7 s) m n) q h in
    ap (λ o. and_then o (after (at8 s) m n)) (same_next s m p ∙ x.1) ∙ same_after s m n x.0 q x.2

same_made : (s : Setup) (m : Meaning) (K : Knowledge) (n : ℕ) (p : Point) (made : List RawMessage) (q : Point) → Made (at7 s) m K n p made q → Made (at8 s) m K n p made q
same_made s m K zero p made q h = h
same_made s m K (suc n) p made q (state, r, rest, knows, is, moves, further) =
    let same : supplied (at8 s) m state p ≡ supplied (at7 s) m state p = ap (λ (mv : Move). supply state mv p.left) (same_move s m p) in
    (state, r, rest, knows, is ∙ ap (λ l. l ++ rest) (sym same), ap (λ l. next (at8 s) m (longer l p)) same ∙ same_next s m (longer (supplied (at7 s) m state p) p) ∙ moves, same_made s m K n r rest q further)

history_at8 : (s : Setup) (m : Meaning) (base : StateMap) (journal : List Entry) → SoundHistory (at7 s) m base journal → SoundHistory (at8 s) m base journal
history_at8 s m base journal h = record {
  history = record {
    first = h.history.first;
    input = h.history.input;
    reads = h.history.reads;
    rest = h.history.rest;
    begins = h.history.begins;
    at = h.history.at;
    told = (h.history.told.0, same_after s m h.history.told.0 (start (at7 s) h.history.input (notifications_in journal) h.history.rest) h.history.at h.history.told.1);
    uses_all = h.history.uses_all;
    eager = h.history.eager;
  };
  leaves = h.leaves;
}

run_at8 : (s : Setup) (m : Meaning) (K : Knowledge) (journal : List Entry) → IsOneRun (at7 s) m K journal → IsOneRun (at8 s) m K journal
run_at8 s m K journal h = record {
  first = h.first;
  input = h.input;
  reads = h.reads;
  rest = h.rest;
  begins = h.begins;
  moves = h.moves;
  at = h.at;
  made = same_made s m K h.moves (start (at7 s) h.input (notifications_in journal) []) h.rest h.at h.made;
}

-- ---- worlds

abbrev pub in8 : Setting → Setting
in8 w = record w { version = version.V8 }

abbrev pub in7 : Setting → Setting
in7 w = record w { version = version.V7 }

pub replayable_in8 : (m : Meaning) (w : Setting) (journal : List (List ℕ)) → IsSoundFor m (in7 w) journal → IsSoundFor m (in8 w) journal
replayable_in8 m w journal h = record { replays = h.replays; history = history_at8 (setup_of (in7 w)) m (base_of w) (journal_entries journal) h.history }

pub one_run_in8 : (m : Meaning) (w : Setting) (journal : List (List ℕ)) → IsOneRun (setup_of (in7 w)) m (Honest (base_of w)) (journal_entries journal) → IsOneRun (setup_of (in8 w)) m (Honest (base_of w)) (journal_entries journal)
one_run_in8 m w journal h = run_at8 (setup_of (in7 w)) m (Honest (base_of w)) (journal_entries journal) h
