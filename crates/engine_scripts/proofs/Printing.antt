-- Texts that are printed one after another.
use Rattle.std.proofs.Common.{◌≡◌, ◌<◌, ◌≤◌, ◌+◌, ℕ, List, [], ◌∷◌, ◌++◌, drop, length, slice_index_or, sym, subst, refl, ap, ◌∙◌, append_assoc, append-nil}
use Rattle.std.proofs.lemmas.List.{drop_all, drop_more}
use Rattle.call_lines.specs.declared.plan.Plan.{Plan}
use Rattle.engines.specs.declared.engine.Engine.{Engine}
use Rattle.engines.specs.declared.engine.Invocation.{Invocation}
use Rattle.engine_lines.specs.Printed.{AddsText}
use Rattle.engine_scripts.specs.Printed.{PrintsAll, PrintsInvocation}

pub adds_none : (old : List ℕ) → AddsText old old
adds_none old = ([], sym (append-nil old))

pub adds_then : (old now then : List ℕ) → AddsText old now → AddsText now then → AddsText old then
adds_then old now then first second = (first.0 ++ second.0, second.1 ∙ ap (λ l. l ++ second.0) first.1 ∙ append_assoc old first.0 second.0)

-- What is printed of the others after those so far is printed of all.
abbrev pub PrintsOn : Engine Plan → ℕ → List (Invocation Plan) → List ℕ → List ℕ → Type 0
PrintsOn e i all old now = (new : List ℕ) → PrintsAll e i (drop i all) now new → PrintsAll e 0 all old new

pub prints_none : (e : Engine Plan) (all : List (Invocation Plan)) (old : List ℕ) → PrintsOn e 0 all old old
prints_none e all old new h = h

pub prints_more : (e : Engine Plan) (i : ℕ) (all : List (Invocation Plan)) (it : Invocation Plan) (old now then : List ℕ) → PrintsOn e i all old now → i < length all → it ≡ slice_index_or all i it → PrintsInvocation e i it now then → PrintsOn e (i + 1) all old then
prints_more e i all it old now then on lt is one new h =
    let same : drop i all ≡ it ∷ drop (i + 1) all = drop_more all i it lt ∙ ap (λ y. y ∷ drop (i + 1) all) (sym is) in
    on new (subst (λ its. PrintsAll e i its now new) (sym same) (then, one, h))

pub prints_all : (e : Engine Plan) (i : ℕ) (all : List (Invocation Plan)) (old now : List ℕ) → PrintsOn e i all old now → length all ≤ i → PrintsAll e 0 all old now
prints_all e i all old now on le = on now (subst (λ its. PrintsAll e i its now now) (sym (drop_all i all le)) refl)
