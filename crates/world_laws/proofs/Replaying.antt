-- What the calls of an attempt keep as long as recorded commands are left, whoever makes them.
use Rattle.std.proofs.Common.{◌≡◌, ℕ, zero, suc, Result, Global, inl, sym, subst}
use Rattle.journal_protocol.specs.Error.{Error}
use Rattle.vm_types.specs.declared.types.State.TheVariants as state
use Rattle.vm_machine.specs.Queries.{state_of}
use Rattle.invocation_vm.specs.Making.{made}
use Rattle.vm_model.specs.Fixed.{Fixed}
use Rattle.vm_attempt.specs.declared.progress.Progress.{Progress}
use Rattle.vm_attempt.specs.Record.{Record, heard}
use Rattle.vm_attempt.specs.Stepping.{IsReplaying, StepDoes, fresh_record}
use Rattle.vm_attempt.specs.Courses.{Leads, OneCall}
use Rattle.vm_attempt.specs.Courses.OneCall.{Feeding, Closing, Stepping, Taking, Telling}
use Rattle.vm_attempt.specs.Told.{AnswersInReplay, HasCome, IsKeptInReplay, ProvesHistory, ReplayPremises}
use Rattle.vm_attempt.proofs.Advanced.{made_new}
use Rattle.vm_attempt.proofs.Coming.{made_comes}
use Rattle.vm_attempt.proofs.Finishing.{finish_in_replay}
use Rattle.vm_attempt.proofs.InReplay.{close_in_replay, feed_in_replay, proves_in_replay, replays_in_replay, step_in_replay, take_in_replay}
use Rattle.vm_attempt.proofs.Proving.{shows_processing}
use Rattle.world_laws.proofs.Unfinished.{call_comes}

module _ (fixed : Fixed) where
  -- what came and what was written; and in replay the handler's run
  record Stays (r : Record) : Type 0 where
    came : HasCome fixed r
    kept : IsKeptInReplay fixed r

  call_in_replay : (old new : Record) → Stays old → OneCall fixed.handler old new → IsKeptInReplay fixed new
  call_in_replay old new x (Feeding piece result does) = feed_in_replay fixed piece old result new x.kept does
  call_in_replay old new x (Closing result does) = close_in_replay fixed old result new x.kept does
  call_in_replay old new x (Stepping result does) = step_in_replay fixed old result new x.kept does
  call_in_replay old new x (Telling handle exit policy result does) = finish_in_replay fixed handle exit policy old result new x.came does x.kept
  call_in_replay old new x (Taking result does) = take_in_replay fixed old result new x.kept does

  all_stay : (n : ℕ) (old new : Record) → Stays old → Leads fixed.handler n old new → Stays new
  all_stay zero old new x is = subst Stays (sym is) x
  all_stay (suc n) old new x (mid, call, more) =
      all_stay n mid new (record { came = call_comes fixed old mid x.came call; kept = call_in_replay old mid x call }) more

  led : (alloc : Global) (n : ℕ) (r : Record) → Leads fixed.handler n (fresh_record (made alloc fixed.options fixed.version)) r → Stays r
  led alloc n r leads = all_stay n (fresh_record (made alloc fixed.options fixed.version)) r (record { came = made_comes alloc fixed; kept = λ p. inl (made_new alloc fixed) }) leads

pub calls_prove : (fixed : Fixed) (alloc : Global) (n : ℕ) (r : Record) → Leads fixed.handler n (fresh_record (made alloc fixed.options fixed.version)) r → state_of r.vm.machine ≡ state.Processing → ReplayPremises fixed (heard fixed.version r) → ProvesHistory fixed (heard fixed.version r)
calls_prove fixed alloc n r leads is p =
    let at = shows_processing r.vm.machine is in
    proves_in_replay fixed r (led fixed alloc n r leads).kept at.0 at.1 p

pub calls_replay : (fixed : Fixed) (alloc : Global) (n : ℕ) (old new : Record) (result : Result Progress Error) → Leads fixed.handler n (fresh_record (made alloc fixed.options fixed.version)) old → IsReplaying old → ReplayPremises fixed (heard fixed.version old) → StepDoes fixed.handler old result new
    → AnswersInReplay fixed old result new
calls_replay fixed alloc n old new result leads is p does = replays_in_replay fixed old result new (led fixed alloc n old leads).kept is p does
