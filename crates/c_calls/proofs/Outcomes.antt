-- VMs that C makes, or that aren't made.
use Rattle.std.proofs.Common.{◌≡◌, inl, inr, refl, subst}
use Rattle.std.proofs.Common.{Global}
use Rattle.std.specs.Prelude.{Option, Some, codes}
use Rattle.vm_types.specs.declared.options.VMOptions.{VMOptions}
use Rattle.invocation_vm.specs.Making.{version_in}
use Rattle.vm_types.specs.ContentTypes.{header_under}
use Rattle.vm_types.specs.declared.content_type.ContentType.{ContentType}
use Rattle.c_sessions.specs.Calls.{MadeFromC}
use Rattle.c_sessions.specs.Replies.{kept_told}
use Rattle.c_sessions.specs.declared.replied.Replied.{Replied}
use Rattle.c_sessions.specs.declared.session.Session.{Session}
use Rattle.c_values.specs.declared.status.Status.{Status}
use Rattle.c_calls.specs.declared.given.MayLend.{MayLend}
use Rattle.c_calls.specs.declared.making.GivenOptions.{GivenOptions}
use Rattle.c_calls.specs.Given.{Misfits, optional_of, lent_texts}
use Rattle.c_calls.specs.Making.{AreOptionsOf, IsFoundOf, MakesAsGiven, NamesNoOption}

-- no VM can be made of what was given
pub is_kept : (alloc : Global) (given : MayLend) (by : GivenOptions) (told : Replied) (vm : Option Session) (why : Status) → Misfits (lent_texts given) (NamesNoOption by) why → told ≡ kept_told why → MakesAsGiven alloc given by told vm vm
is_kept alloc given by told vm why misfits is = inl (record { why = why; misfits = misfits; told_why = is; kept = refl })

-- a VM is made, or C gets the reason why not
pub is_made : (alloc : Global) (given : MayLend) (by : GivenOptions) (told : Replied) (old new : Option Session) (options : VMOptions) (content_type : ContentType) → AreOptionsOf by options → IsFoundOf given content_type → MadeFromC alloc options (version_in (header_under content_type (codes "content-type"))) told old new → MakesAsGiven alloc given by told old new
is_made alloc given by told old new options content_type are is made =
    inr (record { options = options; are = are; made = subst (λ it. MadeFromC alloc options (version_in it) told old new) is made })
