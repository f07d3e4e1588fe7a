-- Calls that are made, or not, as C sees them.
use Rattle.std.proofs.Common.{◌≡◌, Bool, refl, ap, ◌∙◌}
use Rattle.std.specs.Prelude.{◌==◌, Result, Ok, Err, is_some}
use Rattle.invocation_vm.specs.declared.core_vm.CoreVM.{CoreVM}
use Rattle.invocation_vm.specs.Seen.{seen}
use Rattle.invocation_vm.specs.Views.{View}
use Rattle.vm_types.specs.declared.reply.Reply.{Reply}
use Rattle.c_sessions.specs.declared.replied.Replied.{Replied}
use Rattle.c_values.specs.declared.status.Status.{Status}
use Rattle.c_sessions.specs.Calls.{IsCalled}
use Rattle.c_sessions.specs.Replies.{kept_told, mimics_by, summary, numbers_by}

-- a call that was made
pub is_called : (does : Result Reply Status → View → View → Type 0) (told made : Replied) (old new : CoreVM) (was is : Bool) (last kept : Reply) → does (Ok kept) (seen old) (seen new) → made ≡ summary kept → is ≡ mimics_by was (is_some (seen old).machine.failure) (seen new).machine.failure (made.status == 5) → told ≡ numbers_by (is_some (seen new).machine.failure) is made → IsCalled does told old new was is last kept
is_called does told made old new was is last kept done same mimics by = record {
  outcome = Ok kept;
  done = done;
  mimics = mimics ∙ ap (λ (m : Replied). mimics_by was (is_some (seen old).machine.failure) (seen new).machine.failure (m.status == 5)) same;
  told = by ∙ ap (numbers_by (is_some (seen new).machine.failure) is) same;
  kept = refl;
}

-- a call that wasn't made
pub is_kept : (does : Result Reply Status → View → View → Type 0) (status : Status) (told made : Replied) (old new : CoreVM) (was is : Bool) (last kept : Reply) → does (Err status) (seen old) (seen new) → made ≡ kept_told status → is ≡ mimics_by was (is_some (seen old).machine.failure) (seen new).machine.failure (made.status == 5) → told ≡ numbers_by (is_some (seen new).machine.failure) is made → kept ≡ last → IsCalled does told old new was is last kept
is_kept does status told made old new was is last kept done same mimics by stays = record {
  outcome = Err status;
  done = done;
  mimics = mimics ∙ ap (λ (m : Replied). mimics_by was (is_some (seen old).machine.failure) (seen new).machine.failure (m.status == 5)) same;
  told = by ∙ ap (numbers_by (is_some (seen new).machine.failure) is) same;
  kept = stays;
}
