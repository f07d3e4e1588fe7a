-- For which ids the handles of an answer stand: for those in the fields of the commands that its
-- call made.
use Rattle.std.specs.Prelude.{◌≡◌, ◌⊎◌, ℕ, List, [], ◌∷◌, ◌++◌, Some}
use Rattle.journal_protocol.specs.SleepCommand.{SleepCommand}
use Rattle.journal_protocol.specs.CallCommand.{CallCommand}
use Rattle.journal_protocol.specs.OneWayCallCommand.{OneWayCallCommand}
use Rattle.journal_protocol.specs.Message.{Message}
use Rattle.journal_protocol.specs.Message.TheVariants as message
use Rattle.journal_protocol.specs.NotificationId.TheVariants.{CompletionId, SignalId, SignalName}
use Rattle.vm_types.specs.declared.steps.Answer.{Answer}
use Rattle.vm_types.specs.declared.steps.Answer.TheVariants as answer
use Rattle.vm_types.specs.declared.steps.Step.TheVariants as step
use Rattle.vm_types.specs.declared.types.AwakeableHandle.{AwakeableHandle}
use Rattle.vm_types.specs.declared.types.CallHandle.{CallHandle}
use Rattle.vm_types.specs.declared.types.DeadlineCallHandle.{DeadlineCallHandle}
use Rattle.vm_types.specs.declared.types.SendHandle.{SendHandle}
use Rattle.await_trees.specs.declared.handle.NotificationHandle.{NotificationHandle}
use Rattle.vm_parts.specs.Deliveries.{id_at}
use Rattle.vm_asks.specs.Carried.{carried}
use Rattle.vm_asks.specs.Awakeables.{awakeable_id}
use Rattle.vm_model.specs.Calls.{Meaning, Setup}
use Rattle.vm_model.specs.Moves.{Point, next}

-- a handle stands for this completion id
abbrev pub StandsFor : NotificationHandle → ℕ → Point → Type 0
StandsFor handle id q = id_at handle.0 q.derived.handles ≡ Some (CompletionId id)

-- The command of a call: one handle stands for the id that it has for the invocation's id, the
-- other for the one that it has for the result.
pub record NamesCall (h : CallHandle) (p q : Point) : Type 0 where
  pub command : CallCommand
  pub said : q.said ≡ p.said ++ message.Call command ∷ []
  pub invocation : StandsFor h.invocation_id_notification_handle
      command.request.invocation_id_notification_idx q
  pub result : StandsFor h.call_notification_handle command.result_completion_id q

-- The command of a send: its handle stands for the id that it has for the invocation's id.
pub record NamesSend (h : SendHandle) (p q : Point) : Type 0 where
  pub command : OneWayCallCommand
  pub said : q.said ≡ p.said ++ message.OneWayCall command ∷ []
  pub invocation : StandsFor h.invocation_id_notification_handle
      command.request.invocation_id_notification_idx q

-- The commands of a call with a deadline, a call and a sleep: the handles stand for the ids of the
-- invocation's id, of the result, and of the sleep's end.
pub record NamesDeadlineCall (h : DeadlineCallHandle) (q : Point) : Type 0 where
  pub before : List Message
  pub call : CallCommand
  pub sleep : SleepCommand
  pub said : q.said ≡ before ++ message.Call call ∷ message.Sleep sleep ∷ []
  pub invocation : StandsFor h.invocation_id_notification_handle
      call.request.invocation_id_notification_idx q
  pub result : StandsFor h.call_notification_handle call.result_completion_id q
  pub deadline : StandsFor h.deadline_notification_handle sleep.result_completion_id q

-- The command of another call, or of a read of the state in its lazy form: it carries one id, for
-- which the handle stands.
pub record NamesOne (h : NotificationHandle) (p q : Point) : Type 0 where
  pub command : Message
  pub said : q.said ≡ p.said ++ command ∷ []
  pub id : ℕ
  pub carries : carried command ≡ id ∷ []
  pub stands : StandsFor h id q

-- The handler asked for a signal by name, for which the handle stands; no command is made.
pub record NamesSignal (m : Meaning) (h : NotificationHandle) (p q : Point) : Type 0 where
  pub name : List ℕ
  pub asks : m p.answers ≡ step.Signal name
  pub said : q.said ≡ p.said
  pub stands : id_at h.0 q.derived.handles ≡ Some (SignalName name)

-- An awakeable's handle stands for the signal that its text names; no command is made.
pub record NamesAwakeable (s : Setup) (a : AwakeableHandle) (p q : Point) : Type 0 where
  pub signal : ℕ
  pub text : a.id ≡ awakeable_id s.identity.id signal
  pub said : q.said ≡ p.said
  pub stands : id_at a.handle.0 q.derived.handles ≡ Some (SignalId signal)

-- the handles of an answer, if it has any, stand for the ids of its call's own commands
abbrev pub Names : Setup → Meaning → Point → Point → Answer → Type 0
Names s m p q (answer.Call h) = NamesCall h p q
Names s m p q (answer.Send h) = NamesSend h p q
Names s m p q (answer.CallWithDeadline h) = NamesDeadlineCall h q
Names s m p q (answer.Handle h) = NamesOne h p q ⊎ NamesSignal m h p q
Names s m p q (answer.Awakeable a) = NamesAwakeable s a p q
Names s m p q a = Unit {0}

-- with the move from the first point to the second the handler gets this answer
pub record Gets (s : Setup) (m : Meaning) (a : Answer) (p q : Point) : Type 0 where
  pub moves : next s m p ≡ Some q
  pub answers : q.answers ≡ p.answers ++ a ∷ []
