-- Of which kind the errors are that a call from C returns.
use Rattle.std.specs.Prelude.{◌≡◌, ℕ, Bool, Option, Some, None}
use Rattle.journal_protocol.specs.Error.{Error}
use Rattle.invocation_vm.specs.Seen.{seen}
use Rattle.invocation_vm.specs.declared.core_vm.CoreVM.{CoreVM}
use Rattle.vm_types.specs.declared.reply.Reply.{Reply}
use Rattle.c_sessions.specs.Calls.{IsCalled}
use Rattle.c_sessions.specs.Replies.{kind_code}
use Rattle.c_sessions.specs.declared.kind.Kind.{Kind}
use Rattle.c_sessions.specs.declared.kind.Kind.TheVariants as kind
use Rattle.c_sessions.specs.declared.replied.Replied.{Replied}
use Rattle.c_calls.specs.Calls.{Call}

-- By whether the VM has failed: its error is of the kind of errors; or else it is of this kind, and
-- has this code.
abbrev pub IsToldAs : Kind → ℕ → Replied → Option Error → Type 0
IsToldAs k code told (Some e) = told.kind ≡ kind_code kind.Error
IsToldAs k code told None = (told.kind ≡ kind_code k) × (told.number ≡ code)

-- Each error that this call returns is so.
abbrev pub RefusesAs : Kind → ℕ → Call → Type 0
RefusesAs k code does = (told : Replied) (old new : CoreVM) (was is : Bool)
    (last next : Reply) → IsCalled does told old new was is last next → told.status ≡ 5
    → IsToldAs k code told (seen new).machine.failure

-- the VM has failed, and its error is of the kind of errors
abbrev pub IsToldAsError : Replied → Option Error → Type 0
IsToldAsError told (Some e) = told.kind ≡ kind_code kind.Error
IsToldAsError told None = ⊥

-- Each error that this call returns has failed the VM.
abbrev pub FailsByRefusal : Call → Type 0
FailsByRefusal does = (told : Replied) (old new : CoreVM) (was is : Bool)
    (last next : Reply) → IsCalled does told old new was is last next → told.status ≡ 5
    → IsToldAsError told (seen new).machine.failure
