-- When the machine of an attempt agrees with a point of the handler's run, and what a call then
-- does.
use Rattle.std.specs.Prelude.{◌≡◌, ◌⊎◌, ℕ, Bool, true, false, if◌then◌else◌, List, [], ◌∷◌, ◌++◌, map, Option, Some, None}
use Rattle.std.specs.List.{list_any}
use Rattle.std.proofs.Common.{Global}
use Rattle.journal_protocol.specs.Suspension.{Suspension}
use Rattle.journal_protocol.specs.Error.{Error}
use Rattle.journal_protocol.specs.RelatedCommand.{RelatedCommand}
use Rattle.journal_protocol.specs.NamedFault.{NamedFault}
use Rattle.journal_protocol.specs.Message.{Message}
use Rattle.journal_protocol.specs.Message.TheVariants as message
use Rattle.journal_protocol.specs.RawMessage.{RawMessage}
use Rattle.journal_protocol.specs.Errors.{error_message, named_error, no_memory}
use Rattle.journal_protocol.specs.Frames.{encoding, frame}
use Rattle.vm_parts.specs.declared.context.LastCommand.{LastCommand}
use Rattle.vm_parts.specs.declared.context.StartInfo.{StartInfo}
use Rattle.vm_state.specs.declared.state_map.StateMap.{StateMap}
use Rattle.journal_protocol.specs.ProposeRunCompletion.{ProposeRunCompletion}
use Rattle.vm_runs.specs.declared.pending.PendingRun.{PendingRun}
use Rattle.vm_types.specs.declared.steps.Answer.{Answer}
use Rattle.vm_types.specs.declared.steps.Step.TheVariants as step
use Rattle.await_trees.specs.declared.tree.UnresolvedFuture.{UnresolvedFuture}
use Rattle.await_trees.specs.Residual.{Residual}
use Rattle.await_trees.specs.Tree.{Tree, leaf, tree_of}
use Rattle.await_trees.specs.Wires.{sent}
use Rattle.await_tries.specs.Await.{AwakeAlike}
use Rattle.vm_runs.specs.Pending.{is_executing}
use Rattle.vm_parts.specs.Deliveries.{id_at}
use Rattle.vm_parts.specs.Ephemerals.{no_ephemerals}
use Rattle.vm_asks.specs.declared.asks.Ask.{Ask}
use Rattle.vm_asks.specs.declared.asks.Ask.TheVariants as ask
use Rattle.vm_asks.specs.Asks.{ask_of}
use Rattle.vm_types.specs.Options.{ends_awaits}
use Rattle.vm_parts.specs.Tracked.{unresolved_handles}
use Rattle.vm_machine.specs.declared.machine.Machine.{Machine}
use Rattle.vm_machine.specs.declared.phase.Phase.TheVariants.{Closed}
use Rattle.vm_awaits.specs.Awaits.{or_cancelled, said_waiting}
use Rattle.vm_machine.specs.Commands.{phase_after}
use Rattle.vm_machine.specs.Outcomes.{Outcome, Done, Failed, ruled}
use Rattle.vm_model.specs.Calls.{Setup, Meaning, Derived, identity_of, is_cancelled_in, leaf_in, ready_in}
use Rattle.vm_model.specs.Calls.Move.{Awaits}
use Rattle.vm_model.specs.Moves.{Point, changed_by, move_at}
use Rattle.vm_model.specs.Histories.{Handed, IsAwaiting, Made}
use Rattle.vm_model.specs.Refusals.{IsRefusedFor}
use Rattle.vm_attempt.specs.declared.progress.Reply.{Reply}
use Rattle.vm_attempt.specs.declared.progress.Reply.TheVariants as reply

-- what the calls so far left in a machine that no later move depends on: the last command, as
-- errors show it, and the pending runs
pub record Beside : Type 0 where
  pub last : LastCommand
  pub runs : List PendingRun

-- what a machine has that no call of a run depends on
pub record Aside : Type 0 where
  pub alloc : Global
  pub start : StartInfo
  pub input_closed : Bool
  pub entries_missing : ℕ
  pub beside : Beside
  pub proposals : List ProposeRunCompletion
  pub output : List (List ℕ)

-- there is one
abbrev pub is_some_command : List RawMessage → Bool
is_some_command [] = false
is_some_command (c ∷ cs) = true

-- The machine at a point. The setup, what was handed out as state, what the attempt has written,
-- and the point determine all of it but what no call of a run depends on.
abbrev pub machine_at : Setup → StateMap → List RawMessage → Aside → Point → Machine
machine_at s given written aside p = record {
  alloc = aside.alloc;
  version = s.version;
  options = s.options;
  phase = phase_after p.left;
  failure = None;
  input_closed = aside.input_closed;
  start = aside.start;
  entries_missing = aside.entries_missing;
  commands = p.left;
  counters = p.derived.counters;
  last_command = aside.beside.last;
  wrote_command = is_some_command written;
  results = record { queued = p.queue; ready = ready_in s p.derived; handles = p.derived.handles };
  state = changed_by p.said given;
  runs = aside.beside.runs;
  proposals = aside.proposals;
  tracked = p.derived.tracked;
  ephemeral = no_ephemerals;
  output = aside.output;
  output_ended = false;
}

-- A machine agrees with a point: it is the machine at this point, for an invocation of this
-- identity.
pub record Agrees (s : Setup) (given : StateMap) (written : List RawMessage) (v : Machine)
    (p : Point) : Type 0 where
  pub aside : Aside
  pub machine : v ≡ machine_at s given written aside p
  pub identity : s.identity ≡ identity_of aside.start

-- the frames of commands
abbrev pub command_frames : List RawMessage → List (List ℕ)
command_frames cs = map (λ c. frame c.ty c.body) cs

-- the run moves on: to a point with these answers more, and these commands made, by what was handed
-- out as state
pub record MovesOn (s : Setup) (m : Meaning) (given : StateMap) (p : Point) (gives : List Answer)
    (made : List RawMessage) (q : Point) : Type 0 where
  pub moves : ℕ
  pub run : Made s m (Handed given) moves p made q
  pub answers : q.answers ≡ p.answers ++ gives

-- A call was answered: the run moves on by that answer, the machine agrees with where that leads
-- and keeps its proposals, what was made is what was written, and nothing was made, or no recorded
-- command is left there. No call has made a part there, if none had before.
pub record Answered (s : Setup) (m : Meaning) (given : StateMap) (written : List RawMessage)
    (p : Point) (v : Machine) (a : Answer) (w : Machine) : Type 0 where
  pub at : Point
  pub made : List RawMessage
  pub none_before : (made ≡ []) ⊎ (at.left ≡ [])
  pub moves : MovesOn s m given p (a ∷ []) made at
  pub agrees : Agrees s given (written ++ made) w at
  pub kept : w.proposals ≡ v.proposals
  pub output : w.output ≡ v.output ++ command_frames made
  pub rests : p.derived.parts ≡ 0 → at.derived.parts ≡ 0

-- An await waits: no recorded command was left, and with all arrivals used it asks for one more.
pub record Waits (s : Setup) (m : Meaning) (given : StateMap) (p q : Point) : Type 0 where
  pub moves : MovesOn s m given p [] [] q
  pub future : UnresolvedFuture
  pub awaits : IsAwaiting m q future
  pub asks : move_at s m q ≡ Awaits
  pub no_arrival : q.queue ≡ []
  pub none_recorded : p.left ≡ []
  pub no_command : q.left ≡ []

-- the first of these handles, or a tree
abbrev pub first_or : List ℕ → Tree → Tree
first_or [] t = t
first_or (handle ∷ handles) t = leaf handle

-- What an await of a future waits for: its tree, which the cancel signal ends too where it ends
-- awaits; once that is there, the id of the first call that is cancelled with the handler and whose
-- id isn't known.
abbrev pub awaited_tree : Setup → UnresolvedFuture → Derived → Tree
awaited_tree s future d =
    if is_cancelled_in s d then first_or (unresolved_handles d.tracked) (tree_of future)
    else if ends_awaits s.options.implicit_cancellation then or_cancelled (tree_of future)
    else tree_of future

-- This is left of a tree: of each node the children that have no outcome yet. For all later
-- outcomes of the leaves, the one is awake if the other is.
pub record IsLeftOf (s : Setup) (t : Tree) (d : Derived) (left : Tree) : Type 0 where
  pub residual : Residual (leaf_in s d) t left
  pub alike : AwakeAlike (leaf_in s d) t left

-- What an await that waits says, where it waits for input: what is left of it, by the ids of its
-- handles, and by whether a run is executing.
abbrev pub waiting_on : Bool → Setup → Bool → Tree → Derived → List Message
waiting_on true s executing left d = said_waiting s.version s.options.awaiting_on_policy executing
    (λ handle. id_at handle d.handles) left
waiting_on false s executing left d = []

-- It waits, for input or for a run, in a machine that agrees with where that leads and keeps its
-- proposals; all that is written is what it says of what is left of what it waits for.
pub record StillAgrees (input : Bool) (s : Setup) (m : Meaning) (given : StateMap)
    (written : List RawMessage) (p : Point) (v w : Machine) : Type 0 where
  pub at : Point
  pub waits : Waits s m given p at
  pub left : Tree
  pub is_left : IsLeftOf s (awaited_tree s waits.future at.derived) at.derived left
  pub agrees : Agrees s given written w at
  pub kept : w.proposals ≡ v.proposals
  pub output : w.output ≡ v.output
      ++ map encoding (waiting_on input s (list_any is_executing w.runs) left at.derived)

-- what a suspension on this tree waits for, by the ids of its handles
abbrev pub suspended_on : Tree → Derived → Suspension
suspended_on left d = record { future = sent (λ handle. id_at handle d.handles) left }

-- it waits, and the invocation is suspended: one Suspension is written, on what is left of what it
-- waits for
pub record IsSuspended (s : Setup) (m : Meaning) (given : StateMap) (p : Point)
    (v w : Machine) : Type 0 where
  pub at : Point
  pub waits : Waits s m given p at
  pub left : Tree
  pub is_left : IsLeftOf s (awaited_tree s waits.future at.derived) at.derived left
  pub output : w.output ≡ v.output
      ++ encoding (message.Suspension (suspended_on left at.derived)) ∷ []
  pub closed : w.phase ≡ Closed

-- the handler ends once no recorded command is left: one End is written
pub record HasEnded (m : Meaning) (p : Point) (v w : Machine) : Type 0 where
  pub step : m p.answers ≡ step.End
  pub no_command : p.left ≡ []
  pub output : w.output ≡ v.output ++ encoding message.End ∷ []
  pub closed : w.phase ≡ Closed

-- A call was refused: the run reaches a point from which no move leads on, and one Error is
-- written, after the commands that were made up to there: none, or no recorded one is left. The
-- error is that of the reason, by the error rule.
pub record CallRefused (s : Setup) (m : Meaning) (given : StateMap) (p : Point) (v : Machine)
    (e : Error) (w : Machine) : Type 0 where
  pub at : Point
  pub made : List RawMessage
  pub none_before : (made ≡ []) ⊎ (at.left ≡ [])
  pub moves : MovesOn s m given p [] made at
  pub why : NamedFault
  pub reason : IsRefusedFor (move_at s m at) at.left at.queue why
  pub related : Option RelatedCommand
  pub error : e ≡ ruled v (named_error why related)
  pub output : w.output ≡ v.output
      ++ (command_frames made ++ encoding (message.Error (error_message e)) ∷ [])
  pub failure : w.failure ≡ Some e

-- a call that may make more than one command: an await, and one that asks for several
abbrev pub MakesMany : Ask → Type 0
MakesMany (ask.Await future) = Unit {0}
MakesMany (ask.Commands kind first second) = Unit {0}
MakesMany a = ⊥

-- A call that may make more than one command found no memory, once it had made these, each whole:
-- none, or no recorded one is left.
pub record IsCutShort (s : Setup) (m : Meaning) (given : StateMap) (p : Point) (v : Machine)
    (e : Error) (w : Machine) : Type 0 where
  pub at : Point
  pub made : List RawMessage
  pub none_before : (made ≡ []) ⊎ (at.left ≡ [])
  pub moves : MovesOn s m given p [] made at
  pub many : MakesMany (ask_of s.version (m at.answers))
  pub error : e ≡ no_memory
  pub output : w.output ≡ v.output ++ command_frames made
  pub failure : w.failure ≡ Some e

-- What a call does, by what it answers.
abbrev pub CallFollows : Setup → Meaning → StateMap → List RawMessage → Point → Machine
    → Outcome Reply
    → Type 0
CallFollows s m given written p v (Done (reply.Answer a) w) = Answered s m given written p v a w
CallFollows s m given written p v (Done (reply.Waiting input run) w) = StillAgrees input s m given
    written p v w
CallFollows s m given written p v (Done (reply.Execute run) w) = StillAgrees false s m given written
    p v
    w
CallFollows s m given written p v (Done reply.Suspended w) = IsSuspended s m given p v w
CallFollows s m given written p v (Done reply.Ended w) = HasEnded m p v w
CallFollows s m given written p v (Failed e w) = CallRefused s m given p v e w
    ⊎ IsCutShort s m given p v e w
