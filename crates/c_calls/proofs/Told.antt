-- Of which kind the errors of a call are, by what it does.
use Rattle.std.proofs.Common.{◌≡◌, ◌⊎◌, ℕ, true, false, List, Option, Some, None, Result, Ok, Err, inl, inr, refl, sym, ap, subst, ◌∙◌, arith}
use Rattle.std.specs.Prelude.{is_some, Bool}
use Rattle.std.specs.declared.alloc.AllocError.{AllocError}
use Rattle.journal_protocol.specs.Error.{Error}
use Rattle.vm_machine.specs.Queries.{IsReadyAt, ready_at}
use Rattle.vm_machine.specs.declared.machine.Machine.{Machine}
use Rattle.vm_machine.specs.declared.phase.Phase.{Phase}
use Rattle.vm_machine.specs.declared.phase.Phase.TheVariants.{WaitingStart, WaitingReplayEntries, Replaying, Processing, Closed}
use Rattle.vm_types.specs.declared.reply.Reply.{Reply}
use Rattle.vm_types.specs.declared.reply.Reply.TheVariants as reply
use Rattle.vm_calls.specs.Called.{TellsReady, reply_or_memory}
use Rattle.invocation_vm.specs.Seen.{seen}
use Rattle.invocation_vm.specs.Views.{View}
use Rattle.c_sessions.specs.Calls.{outcome_told}
use Rattle.c_sessions.specs.Replies.{kept_told, kind_code, numbers_by, summary, unfailed_kind}
use Rattle.c_sessions.specs.declared.kind.Kind.{Kind}
use Rattle.c_sessions.specs.declared.kind.Kind.TheVariants as kind
use Rattle.c_sessions.specs.declared.replied.Replied.{Replied}
use Rattle.c_sessions.proofs.Erring.{IsNoError, IsRefusal, error_kind, error_number, error_or_not, error_status, failed_kind, five_said, number_stays, unfailed_error}
use Rattle.c_values.specs.Statuses.{status_by, status_number}
use Rattle.c_values.specs.declared.status.Status.{Status}
use Rattle.c_values.specs.declared.status.Status.TheVariants as status
use Rattle.c_values.proofs.StatusNumbers.{named_again}
use Rattle.c_calls.specs.Calls.{AsksReady, Call, ReadsHead, TakesOutputOf}
use Rattle.c_calls.specs.Given.{CannotCopy, Misfits}
use Rattle.c_calls.specs.Makes.{MadeUnless, MadeWith, MakesCall}
use Rattle.c_calls.specs.Refusals.{FailsByRefusal, IsToldAs, IsToldAsError, RefusesAs}
use Rattle.c_calls.proofs.Failing.{FailsIn, NoError, given_err, same_refusal}

-- ---- a call that isn't made isn't refused by the VM

pub five_is : (s : Status) → status_number s ≡ 5 → s ≡ status.Refused
five_is s five = sym (named_again s) ∙ ap status_by five

-- no reason for which a call isn't made is that the VM refused it
abbrev pub NeverRefused : (Status → Type 0) → Type 0
NeverRefused Why = Why status.Refused → ⊥

pub never_copied : (texts : List (List ℕ)) → NeverRefused (CannotCopy texts)
never_copied texts c = c.why

pub never_misfit : (texts : List (List ℕ)) (NamesNone : Type 0) → NeverRefused (Misfits texts NamesNone)
never_misfit texts NamesNone why = why

-- such a call
abbrev pub Unmade : Call → Type 0
Unmade does = (s : Status) (old new : View) → does (Err s) old new → status_number s ≡ 5 → ⊥

pub unmade_unless : (Why : Status → Type 0) (makes : Reply → View → View → Type 0) → NeverRefused Why → Unmade (MadeUnless Why makes)
unmade_unless Why makes never s old new m five = never (subst Why (five_is s five) m.0)

pub unmade_never : (makes : Reply → View → View → Type 0) → Unmade (MakesCall makes)
unmade_never makes s old new m five = m

-- ---- what C gets

-- what has the status of a refusal was one before
said_five : (failed mimics : Bool) (told said : Replied) → told ≡ numbers_by failed mimics said → told.status ≡ 5 → said.status ≡ 5
said_five failed mimics told said is five = five_said failed mimics said (sym (ap (λ (z : Replied). z.status) is) ∙ five)

zero_five : (n : ℕ) → n ≡ 0 → n ≡ 5 → ⊥
zero_five n z e = omega (arith, z, e)

kind_of_failed : (mimics : Bool) (e : Error) (r : Reply) (told : Replied) → r ≡ reply.Refused e → told ≡ numbers_by true mimics (summary r) → told.kind ≡ 21
kind_of_failed mimics e r told is by = ap (λ (z : Replied). z.kind) by ∙ failed_kind mimics (summary r) ∙ error_kind r e is

number_of : (mimics : Bool) (e : Error) (r : Reply) (told : Replied) (code : ℕ) → r ≡ reply.Refused e → told ≡ numbers_by false mimics (summary r) → e.code ≡ code → told.number ≡ code
number_of mimics e r told code is by has = ap (λ (z : Replied). z.number) by ∙ number_stays mimics (summary r) ∙ error_number r e is ∙ has

kind_of_unfailed : (mimics : Bool) (e : Error) (r : Reply) (told : Replied) (code : ℕ) → r ≡ reply.Refused e → told ≡ numbers_by false mimics (summary r) → e.code ≡ code
    → told.kind ≡ unfailed_kind code
kind_of_unfailed mimics e r told code is by has =
    ap (λ (z : Replied). z.kind) by ∙ unfailed_error mimics (summary r) (error_status r e is)
    ∙ ap unfailed_kind (error_number r e is ∙ has)

told_as : (failure : Option Error) (mimics : Bool) (k : Kind) (code : ℕ) (e : Error) (r : Reply) (told : Replied) → unfailed_kind code ≡ kind_code k → r ≡ reply.Refused e
    → told ≡ numbers_by (is_some failure) mimics (summary r) → (failure ≡ None → e.code ≡ code) → IsToldAs k code told failure
told_as (Some x) mimics k code e r told named is by has = kind_of_failed mimics e r told is by
told_as None mimics k code e r told named is by has =
    (kind_of_unfailed mimics e r told code is by (has refl) ∙ named, number_of mimics e r told code is by (has refl))

told_as_error : (failure : Option Error) (mimics : Bool) (e : Error) (r : Reply) (told : Replied) → r ≡ reply.Refused e
    → told ≡ numbers_by (is_some failure) mimics (summary r) → (failure ≡ None → ⊥) → IsToldAsError told failure
told_as_error (Some x) mimics e r told is by never = kind_of_failed mimics e r told is by
told_as_error None mimics e r told is by never = absurd (never refl)

-- ---- a call by its outcome

made_as : (makes : Reply → View → View → Type 0) (mimics : Bool) (k : Kind) (code : ℕ) (r : Reply) (told : Replied) (old new : View) → unfailed_kind code ≡ kind_code k
    → ((e : Error) (before after : View) → makes (reply.Refused e) before after → after.machine.failure ≡ None → e.code ≡ code)
    → makes r old new → told ≡ numbers_by (is_some new.machine.failure) mimics (summary r) → told.status ≡ 5 → IsRefusal r ⊎ IsNoError (summary r)
    → IsToldAs k code told new.machine.failure
made_as makes mimics k code r told old new named has done by five (inl x) =
    told_as new.machine.failure mimics k code x.0 r told named x.1 by (has x.0 old new (subst (λ z. makes z old new) x.1 done))
made_as makes mimics k code r told old new named has done by five (inr x) =
    absurd (zero_five (summary r).status x.0 (said_five (is_some new.machine.failure) mimics told (summary r) by five))

made_as_error : (makes : Reply → View → View → Type 0) (mimics : Bool) (r : Reply) (told : Replied) (old new : View) → FailsIn makes
    → makes r old new → told ≡ numbers_by (is_some new.machine.failure) mimics (summary r) → told.status ≡ 5 → IsRefusal r ⊎ IsNoError (summary r)
    → IsToldAsError told new.machine.failure
made_as_error makes mimics r told old new fails done by five (inl x) =
    told_as_error new.machine.failure mimics x.0 r told x.1 by (fails x.0 old new (subst (λ z. makes z old new) x.1 done))
made_as_error makes mimics r told old new fails done by five (inr x) =
    absurd (zero_five (summary r).status x.0 (said_five (is_some new.machine.failure) mimics told (summary r) by five))

unmade_told : (does : Call) (mimics : Bool) (s : Status) (told : Replied) (old new : View) → Unmade does → does (Err s) old new
    → told ≡ numbers_by (is_some new.machine.failure) mimics (kept_told s) → told.status ≡ 5 → ⊥
unmade_told does mimics s told old new unmade done by five =
    unmade s old new done (said_five (is_some new.machine.failure) mimics told (kept_told s) by five)

outcome_as : (does : Call) (mimics : Bool) (k : Kind) (code : ℕ) (outcome : Result Reply Status) (told : Replied) (old new : View) → unfailed_kind code ≡ kind_code k → Unmade does
    → ((e : Error) (before after : View) → does (Ok (reply.Refused e)) before after → after.machine.failure ≡ None → e.code ≡ code)
    → does outcome old new → told ≡ numbers_by (is_some new.machine.failure) mimics (outcome_told outcome) → told.status ≡ 5 → IsToldAs k code told new.machine.failure
outcome_as does mimics k code (Ok r) told old new named unmade has done by five =
    made_as (λ z. does (Ok z)) mimics k code r told old new named has done by five (error_or_not r)
outcome_as does mimics k code (Err s) told old new named unmade has done by five = absurd (unmade_told does mimics s told old new unmade done by five)

outcome_as_error : (does : Call) (mimics : Bool) (outcome : Result Reply Status) (told : Replied) (old new : View) → Unmade does
    → FailsIn (λ z. does (Ok z)) → does outcome old new → told ≡ numbers_by (is_some new.machine.failure) mimics (outcome_told outcome) → told.status ≡ 5
    → IsToldAsError told new.machine.failure
outcome_as_error does mimics (Ok r) told old new unmade fails done by five = made_as_error (λ z. does (Ok z)) mimics r told old new fails done by five (error_or_not r)
outcome_as_error does mimics (Err s) told old new unmade fails done by five = absurd (unmade_told does mimics s told old new unmade done by five)

pub refuses_as : (does : Call) (k : Kind) (code : ℕ) → unfailed_kind code ≡ kind_code k → Unmade does
    → ((e : Error) (before after : View) → does (Ok (reply.Refused e)) before after → after.machine.failure ≡ None → e.code ≡ code) → RefusesAs k code does
refuses_as does k code named unmade has told old new was is last next c five =
    outcome_as does is k code c.outcome told (seen old) (seen new) named unmade has c.done c.told five

pub fails_by : (does : Call) → Unmade does → FailsIn (λ z. does (Ok z)) → FailsByRefusal does
fails_by does unmade fails told old new was is last next c five =
    outcome_as_error does is c.outcome told (seen old) (seen new) unmade fails c.done c.told five

-- ---- by how a call is made

pub fails_made : (makes : Reply → View → View → Type 0) → FailsIn makes → FailsByRefusal (MakesCall makes)
fails_made makes fails = fails_by (MakesCall makes) (unmade_never makes) fails

pub fails_unless : (Why : Status → Type 0) (makes : Reply → View → View → Type 0) → NeverRefused Why → FailsIn makes → FailsByRefusal (MadeUnless Why makes)
fails_unless Why makes never fails = fails_by (MadeUnless Why makes) (unmade_unless Why makes never) fails

pub fails_with : (texts : List (List ℕ)) (makes : Reply → View → View → Type 0) → FailsIn makes → FailsByRefusal (MadeWith texts makes)
fails_with texts makes fails = fails_unless (CannotCopy texts) makes (never_copied texts) fails

-- the same, where what is done is said by the VM that there was
pub fails_with_old : (texts : List (List ℕ)) (makes : View → Reply → View → View → Type 0) → ((v : View) → FailsIn (makes v))
    → FailsByRefusal (λ outcome old new. MadeWith texts (makes old) outcome old new)
fails_with_old texts makes fails = fails_by (λ outcome old new. MadeWith texts (makes old) outcome old new)
    (λ s old new m five. unmade_unless (CannotCopy texts) (makes old) (never_copied texts) s old new m five)
    (λ e old new m none. fails old e old new m none)

-- ---- the queries

-- the code of a result that is an error
abbrev pub code_if : {A : Type 0} → Result A Error → ℕ
code_if (Ok a) = 0
code_if (Err e) = e.code

ready_code : (phase : Phase) (x : Error) → Err x ≡ ready_at phase → x.code ≡ 598
ready_code WaitingStart x h = absurd cc
ready_code WaitingReplayEntries x h = absurd cc
ready_code Replaying x h = absurd cc
ready_code Processing x h = absurd cc
ready_code Closed x h = ap code_if h

ready_at_none : (failure : Option Error) (phase : Phase) (x : Error) → failure ≡ None → IsReadyAt failure phase (Err x) → x.code ≡ 598
ready_at_none None phase x none r = ready_code phase x r
ready_at_none (Some e) phase x none r = absurd cc

ready_of : (m : Machine) (r : Reply) (e : Error) → r ≡ reply.Refused e → m.failure ≡ None → TellsReady m r → e.code ≡ 598
ready_of m r e is none told =
    let x = given_err reply.Ready (λ a f h. cc) told.given e (sym is ∙ told.told) in
    ap (λ (f : Error). f.code) x.2
    ∙ ready_at_none m.failure m.phase x.0 none (subst (IsReadyAt m.failure m.phase) x.1 told.ready)

same_machine : (before after : View) → after ≡ before → after.machine.failure ≡ None → before.machine.failure ≡ None
same_machine before after same none = ap (λ (v : View). v.machine.failure) (sym same) ∙ none

ready_has : (e : Error) (before after : View) → AsksReady (Ok (reply.Refused e)) before after → after.machine.failure ≡ None → e.code ≡ 598
ready_has e before after done none = ready_of before.machine (reply.Refused e) e refl (same_machine before after done.1 none) done.0

pub ready_refuses : RefusesAs kind.Closed 598 AsksReady
ready_refuses = refuses_as AsksReady kind.Closed 598 refl (λ s old new m five. m) ready_has

memory_code : {A : Type 0} (f : A → Reply) → NoError f → (given : Result A AllocError) (e : Error) → reply.Refused e ≡ reply_or_memory f given → e.code ≡ 500
memory_code f other (Ok a) e told = absurd (other a e (sym told))
memory_code f other (Err x) e told = ap (λ (f : Error). f.code) (same_refusal told)

head_has : (e : Error) (before after : View) → ReadsHead (Ok (reply.Refused e)) before after → after.machine.failure ≡ None → e.code ≡ 500
head_has e before after done none = memory_code reply.Head (λ a f h. cc) done.0.given e done.0.told

pub head_refuses : RefusesAs kind.OutOfMemory 500 ReadsHead
head_refuses = refuses_as ReadsHead kind.OutOfMemory 500 refl (λ s old new m five. m) head_has

output_has : (e : Error) (before after : View) → TakesOutputOf (Ok (reply.Refused e)) before after → after.machine.failure ≡ None → e.code ≡ 500
output_has e before after done none = memory_code reply.Output (λ a f h. cc) done.given e done.told

pub output_refuses : RefusesAs kind.OutOfMemory 500 TakesOutputOf
output_refuses = refuses_as TakesOutputOf kind.OutOfMemory 500 refl (λ s old new m five. m) output_has
