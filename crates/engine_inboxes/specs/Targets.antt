-- Which handler is meant.
use Rattle.std.specs.Prelude.{ℕ, ◌&&◌, nat_eq, Bool, false, List, Option, Some, None, slice_get, position}
use Rattle.std.specs.Cmp.Lexicographic.{pointwise}
use Rattle.engine_inboxes.specs.declared.target.Target.{Target}

-- two texts are the same
abbrev pub is_text : List ℕ → List ℕ → Bool
is_text a b = pointwise nat_eq a b

-- it is called by these names
abbrev pub has_names : {H : Type 0} → List ℕ → List ℕ → Target H → Bool
has_names service handler t = is_text t.service service && is_text t.handler handler

-- the place of the handler that is called by these names
abbrev pub handler_named : {H : Type 0} → List (Target H) → List ℕ → List ℕ → Option ℕ
handler_named targets service handler = position (has_names service handler) targets

-- both are exclusive handlers of one service
abbrev pub are_exclusive : {H : Type 0} → Target H → Target H → Bool
are_exclusive one other = one.exclusive && other.exclusive && is_text one.service other.service

abbrev pub are_exclusive_of : {H : Type 0} → Option (Target H) → Option (Target H) → Bool
are_exclusive_of None other = false
are_exclusive_of (Some one) None = false
are_exclusive_of (Some one) (Some other) = are_exclusive one other

-- the handlers at these places are exclusive ones of one service
abbrev pub share : {H : Type 0} → List (Target H) → ℕ → ℕ → Bool
share targets one other = are_exclusive_of (slice_get targets one) (slice_get targets other)
