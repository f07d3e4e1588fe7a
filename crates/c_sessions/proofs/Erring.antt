-- The kind of a reply, by whether it is an error and whether the VM has failed.
use Rattle.std.proofs.Common.{◌≡◌, ◌⊎◌, ◌<◌, ℕ, Bool, true, false, Option, Some, None, Result, Ok, Err, inl, inr, refl, sym, ap, ◌∙◌, arith}
use Rattle.std.specs.Prelude.{◌==◌, ◌&&◌, not, nat_lt, if◌then◌else◌, ℤ, pos, negsuc, is_none, length}
use Rattle.std.proofs.lemmas.Bool.{false≢true}
use Rattle.std.proofs.lemmas.Bool.Decides.{nat_tests}
use Rattle.journal_protocol.specs.Error.{Error}
use Rattle.journal_protocol.specs.RelatedCommand.{RelatedCommand}
use Rattle.vm_types.specs.declared.reply.Reply.{Reply}
use Rattle.vm_types.specs.declared.reply.Reply.TheVariants as reply
use Rattle.vm_types.specs.declared.steps.Answer.{Answer}
use Rattle.vm_types.specs.declared.steps.Answer.TheVariants as answer
use Rattle.vm_types.specs.declared.types.AwaitResponse.{AwaitResponse}
use Rattle.vm_types.specs.declared.types.AwaitResponse.TheVariants as response
use Rattle.vm_types.specs.declared.values.Value.{Value}
use Rattle.vm_types.specs.declared.values.Value.TheVariants as value
use Rattle.c_sessions.specs.Calls.{outcome_told}
use Rattle.c_sessions.specs.Replies.{handles_told, kept_told, number_told, numbers_by, reads_as_memory, related_told, response_told, summary, taken_told, tells_memory, unfailed_kind, value_told}
use Rattle.c_sessions.specs.declared.replied.Replied.{Replied}
use Rattle.c_values.specs.declared.status.Status.{Status}

below : (n : ℕ) → nat_lt n 21 ≡ true → n < 21
below n h = grind (arith, nat_tests)

not_below : (n : ℕ) → n < 21 → n ≡ 21 → ⊥
not_below n l e = omega (arith, l, e)

differ : (n : ℕ) → (n == 21) ≡ false → n ≡ 21 → ⊥
differ n h e = false≢true (sym h ∙ ap (λ (m : ℕ). m == 21) e)

-- ---- which replies are errors

abbrev pub IsRefusal : Reply → Type 0
IsRefusal r = (e : Error) × (r ≡ reply.Refused e)

-- a call was made, and its reply is of a kind that comes before that of an error
abbrev pub IsNoError : Replied → Type 0
IsNoError told = (told.status ≡ 0) × (told.kind < 21)

of_value : (v : Value) → IsNoError (value_told v)
of_value value.Void = (refl, below 16 refl)
of_value (value.Success bytes) = (refl, below 17 refl)
of_value (value.Failure failure) = (refl, below 18 refl)
of_value (value.StateKeys keys) = (refl, below 19 refl)
of_value (value.InvocationId id) = (refl, below 20 refl)

of_taken : (taken : Option Value) → IsNoError (taken_told taken)
of_taken (Some v) = of_value v
of_taken None = (refl, below 0 refl)

of_response : (r : AwaitResponse) → IsNoError (response_told r)
of_response response.AnyCompleted = (refl, below 12 refl)
of_response (response.WaitingExternalProgress input run) = (refl, below 13 refl)
of_response (response.ExecuteRun handle) = (refl, below 14 refl)
of_response response.CancelSignalReceived = (refl, below 15 refl)
of_response (response.EphemeralNotificationReady id) = (refl, below 4 refl)

of_answer : (a : Answer) → IsNoError (handles_told a)
of_answer (answer.Input input) = (refl, below 11 refl)
of_answer (answer.Handle handle) = (refl, below 1 refl)
of_answer (answer.Call call) = (refl, below 1 refl)
of_answer (answer.CallWithDeadline call) = (refl, below 1 refl)
of_answer (answer.Send send) = (refl, below 1 refl)
of_answer (answer.Awakeable made) = (refl, below 2 refl)
of_answer answer.Unit = (refl, below 0 refl)
of_answer answer.Awake = (refl, below 12 refl)
of_answer answer.Cancelled = (refl, below 15 refl)
of_answer (answer.Taken taken) = of_taken taken
of_answer (answer.Completed is) = (refl, below 5 refl)

of_index : (index : ℤ) → IsNoError (number_told index)
of_index (pos index) = (refl, below 7 refl)
of_index (negsuc under) = (refl, below 0 refl)

pub error_or_not : (r : Reply) → IsRefusal r ⊎ IsNoError (summary r)
error_or_not (reply.Refused e) = inl (e, refl)
error_or_not (reply.Made version) = inr (refl, below 8 refl)
error_or_not (reply.Head head) = inr (refl, below 9 refl)
error_or_not (reply.Output bytes) = inr (refl, below 10 refl)
error_or_not (reply.Ready is_ready) = inr (refl, below 5 refl)
error_or_not (reply.State state) = inr (refl, below 6 refl)
error_or_not (reply.Index index) = inr (of_index index)
error_or_not (reply.Awaited response) = inr (of_response response)
error_or_not (reply.Run run) = inr (refl, below 3 refl)
error_or_not (reply.Ephemeral id) = inr (refl, below 4 refl)
error_or_not (reply.Answer given) = inr (of_answer given)
error_or_not reply.Nothing = inr (refl, below 0 refl)
error_or_not reply.Bad = inr (refl, below 0 refl)
error_or_not reply.NoVm = inr (refl, below 0 refl)
error_or_not reply.Done = inr (refl, below 0 refl)

-- ---- the numbers of an error

related_status : (code : ℕ) (o : Option RelatedCommand) → (related_told code o).status ≡ 5
related_status code (Some command) = refl
related_status code None = refl

related_kind : (code : ℕ) (o : Option RelatedCommand) → (related_told code o).kind ≡ 21
related_kind code (Some command) = refl
related_kind code None = refl

related_number : (code : ℕ) (o : Option RelatedCommand) → (related_told code o).number ≡ code
related_number code (Some command) = refl
related_number code None = refl

pub error_status : (r : Reply) (e : Error) → r ≡ reply.Refused e → (summary r).status ≡ 5
error_status r e is = ap (λ z. (summary z).status) is ∙ related_status e.code e.related_command

pub error_kind : (r : Reply) (e : Error) → r ≡ reply.Refused e → (summary r).kind ≡ 21
error_kind r e is = ap (λ z. (summary z).kind) is ∙ related_kind e.code e.related_command

pub error_number : (r : Reply) (e : Error) → r ≡ reply.Refused e → (summary r).number ≡ e.code
error_number r e is = ap (λ z. (summary z).number) is ∙ related_number e.code e.related_command

-- ---- by whether the VM has failed

status_if : (b : Bool) (told : Replied) → (if b then record told { kind = unfailed_kind told.number } else told).status ≡ told.status
status_if true told = refl
status_if false told = refl

one_five : ◌≡◌ {A = ℕ} 1 5 → ⊥
one_five e = omega (arith, e)

-- what has the status of a refusal was one before
five_if : (b : Bool) (told : Replied) → (if b then record told { status = 1 } else told).status ≡ 5 → told.status ≡ 5
five_if true told five = absurd (one_five five)
five_if false told five = five

pub five_said : (failed mimics : Bool) (told : Replied) → (numbers_by failed mimics told).status ≡ 5 → told.status ≡ 5
five_said true mimics told five = five_if (tells_memory told && not mimics) told five
five_said false mimics told five = sym (status_if (told.status == 5) told) ∙ five

number_if : (b : Bool) (told : Replied) → (if b then record told { kind = unfailed_kind told.number } else told).number ≡ told.number
number_if true told = refl
number_if false told = refl

pub number_stays : (mimics : Bool) (told : Replied) → (numbers_by false mimics told).number ≡ told.number
number_stays mimics told = number_if (told.status == 5) told

starved_kind : (b : Bool) (told : Replied) → (if b then record told { status = 1 } else told).kind ≡ told.kind
starved_kind true told = refl
starved_kind false told = refl

-- an error by which a VM has failed keeps its kind
pub failed_kind : (mimics : Bool) (told : Replied) → (numbers_by true mimics told).kind ≡ told.kind
failed_kind mimics told = starved_kind (tells_memory told && not mimics) told

-- the kind of an error by which no VM has failed
pub unfailed_error : (mimics : Bool) (told : Replied) → told.status ≡ 5 → (numbers_by false mimics told).kind ≡ unfailed_kind told.number
unfailed_error mimics told five = ap (λ n. (if n == 5 then record told { kind = unfailed_kind told.number } else told).kind) five

unfailed_done : (mimics : Bool) (told : Replied) → told.status ≡ 0 → (numbers_by false mimics told).kind ≡ told.kind
unfailed_done mimics told done = ap (λ n. (if n == 5 then record told { kind = unfailed_kind told.number } else told).kind) done

kind_if : (a b : Bool) → ◌≡◌ {A = ℕ} (if a then 22 else if b then 24 else 23) 21 → ⊥
kind_if true b e = differ 22 refl e
kind_if false true e = differ 24 refl e
kind_if false false e = differ 23 refl e

no_error_kind : (code : ℕ) → unfailed_kind code ≡ 21 → ⊥
no_error_kind code e = kind_if (code == 599) (code == 598) e

kept_if : (b : Bool) (told : Replied) → told.kind ≡ 0 → (if b then record told { kind = unfailed_kind told.number } else told).kind ≡ 21 → ⊥
kept_if true told none e = no_error_kind told.number e
kept_if false told none e = differ 0 refl (sym none ∙ e)

reply_if : (mimics : Bool) (r : Reply) → IsRefusal r ⊎ IsNoError (summary r) → (numbers_by false mimics (summary r)).kind ≡ 21 → ⊥
reply_if mimics r (inl x) e = no_error_kind (summary r).number (sym (unfailed_error mimics (summary r) (error_status r x.0 x.1)) ∙ e)
reply_if mimics r (inr x) e = not_below (summary r).kind x.1 (sym (unfailed_done mimics (summary r) x.0) ∙ e)

pub error_failed : (failed mimics : Bool) (outcome : Result Reply Status) → (numbers_by failed mimics (outcome_told outcome)).kind ≡ 21 → failed ≡ true
error_failed true mimics outcome e = refl
error_failed false mimics (Ok r) e = absurd (reply_if mimics r (error_or_not r) e)
error_failed false mimics (Err status) e = absurd (kept_if ((kept_told status).status == 5) (kept_told status) refl e)

-- ---- out of memory

-- whether an error that relates to this command reads so, by its numbers
tells_as : (code len : ℕ) (o : Option RelatedCommand) → tells_memory (record (related_told code o) { len = len }) ≡ ((code == 500) && (len == 0) && is_none o)
tells_as code len (Some command) = refl
tells_as code len None = refl

tells_refused : (e : Error) → tells_memory (summary (reply.Refused e)) ≡ reads_as_memory e
tells_refused e = tells_as e.code (length e.message) e.related_command

starved_status : (b : Bool) (told : Replied) → b ≡ true → (if b && not false then record told { status = 1 } else told).status ≡ 1
starved_status true told is = refl
starved_status false told is = absurd (false≢true is)

other_status : (b mimics : Bool) (told : Replied) → b ≡ false → told.status ≡ 5 → (if b && not mimics then record told { status = 1 } else told).status ≡ 5
other_status true mimics told is five = absurd (false≢true (sym is))
other_status false mimics told is five = five

mimicked_status : (b : Bool) (told : Replied) → told.status ≡ 5 → (if b && not true then record told { status = 1 } else told).status ≡ 5
mimicked_status true told five = five
mimicked_status false told five = five

pub memory_status : (e : Error) → reads_as_memory e ≡ true → (numbers_by true false (summary (reply.Refused e))).status ≡ 1
memory_status e reads = starved_status (tells_memory (summary (reply.Refused e))) (summary (reply.Refused e)) (tells_refused e ∙ reads)

pub refused_status : (mimics : Bool) (e : Error) → reads_as_memory e ≡ false → (numbers_by true mimics (summary (reply.Refused e))).status ≡ 5
refused_status mimics e reads =
    other_status (tells_memory (summary (reply.Refused e))) mimics (summary (reply.Refused e)) (tells_refused e ∙ reads) (error_status (reply.Refused e) e refl)

pub reported_status : (e : Error) → (numbers_by true true (summary (reply.Refused e))).status ≡ 5
reported_status e = mimicked_status (tells_memory (summary (reply.Refused e))) (summary (reply.Refused e)) (error_status (reply.Refused e) e refl)
