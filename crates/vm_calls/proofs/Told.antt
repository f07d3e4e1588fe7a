-- A reply says what a call did.
use Rattle.std.proofs.Common.{◌≡◌, List, ℕ, Result}
use Rattle.std.specs.declared.alloc.AllocError.{AllocError}
use Rattle.journal_protocol.specs.Error.{Error}
use Rattle.journal_protocol.specs.RawMessage.{RawMessage}
use Rattle.vm_types.specs.declared.types.AwaitResponse.{AwaitResponse}
use Rattle.await_trees.specs.declared.tree.UnresolvedFuture.{UnresolvedFuture}
use Rattle.vm_types.specs.declared.steps.Answer.TheVariants as answer
use Rattle.await_trees.specs.declared.handle.NotificationHandle.{NotificationHandle}
use Rattle.vm_retries.specs.declared.policy.RetryPolicy.{RetryPolicy}
use Rattle.vm_types.specs.declared.runs.RunExitResult.{RunExitResult}
use Rattle.vm_types.specs.declared.runs.RunHandle.{RunHandle}
use Rattle.vm_machine.specs.declared.machine.Machine.{Machine}
use Rattle.vm_machine.specs.Outcomes.{Does, Outcome, called}
use Rattle.invocation_vm.specs.Calls.{CallsFlatAwait, CallsProposal, CallsRun}
use Rattle.invocation_vm.specs.Views.{View, Leaves, TakesOutput}
use Rattle.vm_types.specs.declared.reply.Reply.{Reply}
use Rattle.vm_types.specs.declared.reply.Reply.TheVariants as reply
use Rattle.vm_calls.specs.Called.{Answers, FeedsVm, Drains, RepliesWith, reply_of, reply_or_memory}

pub answers : {A : Type 0} (f : A → Reply) (step : Machine → Outcome A) (given : Result A Error) (answer : Reply) (old new : View) → Does (called (step old.machine) old.machine) given old.machine new.machine → new.undecoded ≡ old.undecoded → answer ≡ reply_of f given → Answers f step answer old new
answers f step given answer old new does undecoded told = record { given = given; calls = (does, undecoded); told = told }

pub awaits : (future : UnresolvedFuture) (given : Result AwaitResponse Error) (answer : Reply) (old new : View) → CallsFlatAwait future given old new → answer ≡ reply_of reply.Awaited given → RepliesWith reply.Awaited (CallsFlatAwait future) answer old new
awaits future given answer old new calls told = record { given = given; calls = calls; told = told }

pub runs : (name : List ℕ) (given : Result RunHandle Error) (answer : Reply) (old new : View) → CallsRun name given old new → answer ≡ reply_of reply.Run given → RepliesWith reply.Run (CallsRun name) answer old new
runs name given answer old new calls told = record { given = given; calls = calls; told = told }

pub proposes : (handle : NotificationHandle) (exit : RunExitResult) (policy : RetryPolicy) (given : Result Unit Error) (said : Reply) (old new : View) → CallsProposal handle exit policy given old new → said ≡ reply_of (λ _. reply.Answer answer.Unit) given → RepliesWith (λ _. reply.Answer answer.Unit) (CallsProposal handle exit policy) said old new
proposes handle exit policy given said old new calls told = record { given = given; calls = calls; told = told }

pub feeds : (raws : List RawMessage) (after : View) (given : Result Unit AllocError) (answer : Reply) (old new : View) → Leaves raws after given old new → answer ≡ reply_or_memory (λ _. reply.Done) given → FeedsVm raws after answer old new
feeds raws after given answer old new leaves told = record { given = given; leaves = leaves; told = told }

pub drains : (given : Result (List ℕ) AllocError) (answer : Reply) (old new : View) → TakesOutput given old new → answer ≡ reply_or_memory reply.Output given → Drains answer old new
drains given answer old new takes told = record { given = given; takes = takes; told = told }
