-- Which runs an attempt hands out to be executed.
use Rattle.std.specs.Prelude.{◌≡◌, false, List, ◌∷◌, ◌++◌}
use Rattle.await_trees.specs.declared.handle.NotificationHandle.{NotificationHandle}
use Rattle.journal_protocol.specs.Notification.{Notification}
use Rattle.journal_entries.specs.Arrivals.{completes_id}
use Rattle.vm_runs.specs.Pending.{handle_of}
use Rattle.vm_runs.specs.declared.pending.PendingRun.{PendingRun}

-- One of these pending runs has this handle, and none of these notifications completes it.
pub record HasNoResult (handle : NotificationHandle) (runs : List PendingRun)
    (ns : List Notification) : Type 0 where
  pub before : List PendingRun
  pub run : PendingRun
  pub behind : List PendingRun
  pub split : runs ≡ before ++ run ∷ behind
  pub named : handle_of run ≡ handle
  pub free : completes_id run.completion_id ns ≡ false
