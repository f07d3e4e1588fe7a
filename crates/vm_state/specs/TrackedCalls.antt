-- Calls whose invocations are cancelled with the handler's, in the order of their handles: one more
-- is tracked.
use Rattle.std.specs.Prelude.{ℕ, ◌==◌, nat_lt, if◌then◌else◌, List, [], ◌∷◌, None}
use Rattle.vm_state.specs.declared.tracked_call.TrackedCall.{TrackedCall}

-- a call whose invocation's id isn't known
abbrev pub unresolved_call : ℕ → TrackedCall
unresolved_call handle = record { handle = handle; invocation_id = None }

-- one more call is tracked
abbrev pub with_call : ℕ → List TrackedCall → List TrackedCall
with_call handle [] = unresolved_call handle ∷ []
with_call handle (t ∷ ts) =
    if nat_lt handle t.handle then unresolved_call handle ∷ t ∷ ts
    else if handle == t.handle then unresolved_call handle ∷ ts
    else t ∷ with_call handle ts
