-- What contracts see of an attempt.
use Rattle.std.specs.Prelude.{ℕ, Bool, List, ◌++◌, Option}
use Rattle.std.specs.List.{concat}
use Rattle.journal_protocol.specs.Version.{Version}
use Rattle.vm_types.specs.declared.options.VMOptions.{VMOptions}
use Rattle.vm_types.specs.declared.steps.Answer.{Answer}
use Rattle.await_trees.specs.declared.handle.NotificationHandle.{NotificationHandle}
use Rattle.await_trees.specs.declared.tree.UnresolvedFuture.{UnresolvedFuture}
use Rattle.journal_protocol.specs.ProposeRunCompletion.{ProposeRunCompletion}
use Rattle.invocation_vm.specs.Views.{View}
use Rattle.vm_attempt.specs.Heard.{Heard, acknowledged_from}
use Rattle.vm_attempt.specs.declared.progress.Fed.{Fed}
use Rattle.vm_attempt.specs.declared.progress.Progress.{Progress}

-- what an attempt keeps of itself
pub record Record : Type 0 where
  -- the pieces that came until the VM failed or closed
  pub fed : List Fed
  -- the pieces that came after them, to a VM that was closed and hadn't failed
  pub late : List Fed
  -- the input was closed
  pub closed : Bool
  -- the run whose result failed the VM
  pub failed_by : Option NotificationHandle
  pub answers : List Answer
  -- the output that was taken, piece by piece
  pub taken : List (List ℕ)
  -- the results of runs that were proposed, in order: those among the frames of all output
  pub proposed : List ProposeRunCompletion
  -- the await that waits
  pub waiting : Option UnresolvedFuture
  -- the attempt itself found no memory
  pub starved : Bool
  -- the invocation is suspended, or the handler has ended
  pub over : Option Progress
  pub vm : View

-- what the attempt has received until its VM failed or closed
abbrev pub heard : Version → Record → Heard
heard version r = record { pieces = r.fed; proposed = acknowledged_from version r.proposed }

-- what it has received until its VM failed
abbrev pub all_heard : Version → Record → Heard
all_heard version r =
    record { pieces = r.fed ++ r.late; proposed = acknowledged_from version r.proposed }

-- what was reported to an attempt besides its bytes
pub record Said : Type 0 where
  -- that no more bytes come
  pub closed : Bool
  -- the result of this run, and it failed the VM
  pub failed_by : Option NotificationHandle

-- what was reported to an attempt besides its bytes, by its record
abbrev pub all_said : Record → Said
all_said r = record { closed = r.closed; failed_by = r.failed_by }

-- all bytes that an attempt wrote: those that were taken, and those that wait
abbrev pub bytes_written : Record → List ℕ
bytes_written r = concat r.taken ++ concat r.vm.machine.output

-- an attempt: what it was made for, and its record
pub record AttemptView (H : Type 0) : Type 0 where
  pub handler : H
  pub version : Version
  pub options : VMOptions
  pub record_of : Record
