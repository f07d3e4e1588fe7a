-- What a call changes before its command.
use Rattle.std.proofs.Common.{◌≡◌, ℕ, zero, suc, ◌+◌, List, [], ◌∷◌, ◌++◌, refl, sym, ap, ◌∙◌, subst, append_assoc, arith}
use native.Mathlib.Nat.{add-zero}
use Rattle.journal_protocol.specs.NotificationId.TheVariants.{CompletionId}
use Rattle.vm_parts.specs.declared.async_results.Mapping.{Mapping}
use Rattle.vm_parts.specs.Arrived.{Arrived}
use Rattle.vm_machine.specs.declared.machine.Machine.{Machine}
use Rattle.vm_parts.specs.Mappings.{mapped_from}

-- the handle that is given after n others
abbrev at_place : ℕ → ℕ → ℕ → Mapping
at_place n handle id = record { handle = handle + n; id = CompletionId (id + n) }

mapped_next : (n handle id : ℕ) → mapped_from (suc n) handle id ≡ mapped_from n handle id ++ at_place n handle id ∷ []
mapped_next zero handle id = rw (add-zero handle, add-zero id) refl
mapped_next (suc n) handle id =
    let h : handle + 1 + n ≡ handle + suc n = omega arith in
    let i : id + 1 + n ≡ id + suc n = omega arith in
    let first : Mapping = record { handle = handle; id = CompletionId id } in
    let last : at_place n (handle + 1) (id + 1) ≡ at_place (suc n) handle id = λ j. record { handle = h j; id = CompletionId (i j) } in
    ap (λ t. first ∷ t) (mapped_next n (handle + 1) (id + 1) ∙ ap (λ x. mapped_from n (handle + 1) (id + 1) ++ x ∷ []) last)

handles_next : (before : List Mapping) (n handle id : ℕ) → (before ++ mapped_from n handle id) ++ at_place n handle id ∷ [] ≡ before ++ mapped_from (n + 1) handle id
handles_next before n handle id =
    let e : suc n ≡ n + 1 = omega arith in
    append_assoc before (mapped_from n handle id) (at_place n handle id ∷ []) ∙ ap (λ t. before ++ t) (sym (mapped_next n handle id) ∙ ap (λ k. mapped_from k handle id) e)

-- n handles were mapped
abbrev pub mapped_to : ℕ → Machine → Machine
mapped_to n v = record v { results = record v.results { handles = v.results.handles ++ mapped_from n v.counters.handle v.counters.completion } }

-- one handle more
pub mapped_more : (v u : Machine) (n : ℕ) (r : Arrived) → u ≡ mapped_to n v → r ≡ record u.results { handles = u.results.handles ++ at_place n u.counters.handle u.counters.completion ∷ [] } → record u { results = r } ≡ mapped_to (n + 1) v
mapped_more v u n r is more =
    subst
    (λ (x : Machine). (q : Arrived) → q ≡ record x.results { handles = x.results.handles ++ at_place n x.counters.handle x.counters.completion ∷ [] } → record x { results = q } ≡ mapped_to (n + 1) v)
    (sym is)
    (λ q same. ap (λ (y : Arrived). record v { results = y }) (same ∙ ap (λ (hs : List Mapping). record v.results { handles = hs }) (handles_next v.results.handles n v.counters.handle v.counters.completion)))
    r more
