use Rattle.std.proofs.Common.{ℕ, Bool, ap, get_or, sym, take, take_all, ◌||◌, ◌∷◌, [], false, ◌∙◌}
use Rattle.std.specs.List.{list_any}
use Rattle.std.proofs.lemmas.List.{take_more}
use Rattle.std.proofs.lemmas.List.Folds.{list_any-append, list_any_at}
use Rattle.vm_runs.specs.Pending.{executes, is_executing_in}
use Rattle.vm_runs.proofs.Rising.{any_of}
use Rattle.vm_runs.proofs.ordered_runs.OrderedRuns.any_executing_in_this_set.Goals as goal

pub loop-handle-preserved : goal.loop-handle-preserved
loop-handle-preserved c =
    let one : ℕ → Bool = λ h. list_any (is_executing_in (h ∷ [])) c.args.self.now in
    let handles = c.args.any_handle.now in
    let i = c.loop-handle.handle-index in
    ap (list_any one) (take_more handles i 0 c.loop-handle-test.true) ∙ list_any-append one (take i handles) (get_or handles i 0 ∷ [])
    ∙ ap (λ b. b || (one (get_or handles i 0) || false)) c.loop-handle.invariant ∙ ap (λ b. b || false) (sym c.executes.ensures ∙ c.if-executes.false)

pub returns-then-executes : goal.returns-then-executes
returns-then-executes c =
    let one : ℕ → Bool = λ h. list_any (is_executing_in (h ∷ [])) c.args.self.now in
    sym (any_of executes c.args.any_handle.now c.args.self.now ∙ list_any_at one c.args.any_handle.now c.loop-handle.handle-index 0 c.loop-handle-test.true (sym c.executes.ensures ∙ c.if-executes.true))

pub returns : goal.returns
returns c =
    let one : ℕ → Bool = λ h. list_any (is_executing_in (h ∷ [])) c.args.self.now in
    sym (any_of executes c.args.any_handle.now c.args.self.now ∙ ap (list_any one) (sym (take_all c.loop-handle.handle-index c.args.any_handle.now c.loop-handle-test.false)) ∙ c.loop-handle.invariant)
