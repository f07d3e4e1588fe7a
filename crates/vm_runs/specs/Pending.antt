-- Runs that were called and whose results are neither known nor proposed, in the order of their
-- calls.
use Rattle.std.specs.Prelude.{ℕ, min, ◌==◌, ◌&&◌, Bool, true, false, List, Option, Some, None}
use Rattle.std.specs.List.{list_any}
use Rattle.vm_runs.specs.declared.pending.PendingRun.{PendingRun}
use Rattle.vm_runs.specs.declared.pending.RunExecution.{RunExecution}
use Rattle.vm_runs.specs.declared.pending.RunExecution.TheVariants.{Waiting, Executing}
use Rattle.await_trees.specs.declared.handle.NotificationHandle.{NotificationHandle}

-- a run that was just called
abbrev pub to_execute : NotificationHandle → ℕ → ℕ → List ℕ → PendingRun
to_execute handle id index name = record {
  handle = handle.0;
  completion_id = id;
  command_index = index;
  name = name;
  execution = Waiting;
}

abbrev pub handle_of : PendingRun → NotificationHandle
handle_of run = record { 0 = run.handle }

-- the index and the name of its command
abbrev pub run_info : PendingRun → ℕ × List ℕ
run_info run = (run.command_index, run.name)

abbrev pub has_handle : NotificationHandle → PendingRun → Bool
has_handle handle run = run.handle == handle.0

-- a handle is one of these
abbrev pub is_one_of : List ℕ → ℕ → Bool
is_one_of any handle = list_any (λ other. other == handle) any

abbrev pub is_waiting_run : RunExecution → Bool
is_waiting_run Waiting = true
is_waiting_run Executing = false

abbrev pub executes : RunExecution → Bool
executes Waiting = false
executes Executing = true

-- it was handed to the handler's runner to be executed
abbrev pub is_executing : PendingRun → Bool
is_executing run = executes run.execution

abbrev pub is_executing_in : List ℕ → PendingRun → Bool
is_executing_in any run = is_executing run && is_one_of any run.handle

-- it waits, and is one of these
abbrev pub may_execute : List ℕ → PendingRun → Bool
may_execute any run = is_waiting_run run.execution && is_one_of any run.handle

-- the run from when it is executed
abbrev pub run_started : PendingRun → PendingRun
run_started run = record run { execution = Executing }

-- the less of two handles, if there is another
abbrev pub lesser_handle : Option ℕ → ℕ → ℕ
lesser_handle None handle = handle
lesser_handle (Some other) handle = min other handle
