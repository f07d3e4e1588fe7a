-- Lines that say steps, one more at a time.
use Rattle.std.proofs.Common.{◌≡◌, ◌<◌, ◌+◌, ◌++◌, ℕ, List, [], ◌∷◌, Global, length, take, get_or, string_bytes, sym, subst}
use Rattle.std.proofs.lemmas.List.{take_more}
use Rattle.std.specs.declared.string.String.{String}
use Rattle.lines.proofs.Growing.{zip_push}
use Rattle.vm_types.specs.declared.steps.Step.{Step}
use Rattle.call_lines.specs.Said.{AreSaid, SaysStep}

-- one line more, which says a step
pub said_more : (lines : List (String Global)) (i : ℕ) (line : String Global) (steps after : List Step) (step : Step) → i < length lines → get_or lines i line ≡ line → AreSaid (take i lines) steps
    → SaysStep (string_bytes line) step → after ≡ steps ++ step ∷ [] → AreSaid (take (i + 1) lines) after
said_more lines i line steps after step h here all says is =
    let pushed = zip_push (λ (l : String Global) (s : Step). SaysStep (string_bytes l) s) (take i lines) steps line step all says in
    let longer = subst (λ l. AreSaid (take i lines ++ l ∷ []) (steps ++ step ∷ [])) (sym here) pushed in
    subst (λ ys. AreSaid (take (i + 1) lines) ys) (sym is) (subst (λ ls. AreSaid ls (steps ++ step ∷ [])) (sym (take_more lines i line h)) longer)
