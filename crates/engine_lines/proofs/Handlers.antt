-- The handlers of a script, one after another.
use Rattle.std.proofs.Common.{◌≡◌, List, [], ◌∷◌, ◌++◌, length, append_assoc, sym, subst, arith}
use Rattle.std.specs.List.{AllZip}
use Rattle.std.proofs.lemmas.List.{append-nil}
use Rattle.call_lines.specs.declared.plan.Plan.{Plan}
use Rattle.engine_inboxes.specs.declared.target.Target.{Target}
use Rattle.engine_lines.specs.declared.script.Planned.{Planned}
use Rattle.engine_lines.specs.Targets.{IsTarget}

-- What the other handlers are, after those so far, all are.
abbrev pub TargetsOn : List Planned → List Planned → List (Target Plan) → Type 0
TargetsOn all rest targets = (more : List (Target Plan)) → AllZip IsTarget rest more → AllZip IsTarget all (targets ++ more)

pub targets_none : (all : List Planned) → TargetsOn all all []
targets_none all more zips = zips

pub targets_more : (all left rest : List Planned) (p : Planned) (targets after : List (Target Plan)) (target : Target Plan) → TargetsOn all left targets → left ≡ p ∷ rest → IsTarget p target → after ≡ targets ++ target ∷ [] → TargetsOn all rest after
targets_more all left rest p targets after target on is one pushed more zips =
    let long = on (target ∷ more) (subst (λ ls. AllZip IsTarget ls (target ∷ more)) (sym is) (one, zips)) in
    subst (λ ts. AllZip IsTarget all (ts ++ more)) (sym pushed) (subst (λ ts. AllZip IsTarget all ts) (sym (append_assoc targets (target ∷ []) more)) long)

pub targets_all : (all left : List Planned) (targets : List (Target Plan)) → TargetsOn all left targets → length left ≡ 0 → AllZip IsTarget all targets
targets_all all [] targets on none = subst (λ ts. AllZip IsTarget all ts) (append-nil targets) (on [] tt)
targets_all all (p ∷ left) targets on none = absurd (omega arith)
