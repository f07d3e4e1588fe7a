-- What a transcoder takes of a VM's output.
use Rattle.std.proofs.Common.{◌≡◌, ℕ, List, [], ◌++◌, Result, sym, ap, subst, ◌∙◌, append-nil}
use Rattle.std.specs.List.{concat}
use Rattle.journal_protocol.specs.Message.{Message}
use Rattle.invocation_vm.specs.Views.{View}
use Rattle.vm_layers.specs.Layers.{Moves, Stops}
use Rattle.vm_layers.specs.Own.{own_front}
use Rattle.vm_layers.specs.Transcoding.{WithOutput, unsent}
use Rattle.vm_layers.specs.declared.layer.LayerFault.{LayerFault}
use Rattle.vm_layers.proofs.Translating.{none_moved}

-- a VM whose output was taken
abbrev pub without_output : View → View
without_output v = record v { machine = record v.machine { output = [] } }

same_unsent : (rest : List ℕ) (v w : View) → w ≡ without_output v → rest ≡ unsent rest w
same_unsent rest v w e = sym (append-nil rest) ∙ ap (unsent rest) (sym e)

pub moved_out : (Fits : Message → Type 0) (frame : Message → List ℕ) (waits rest old new : List ℕ) (v w : View) → w ≡ without_output v
    → Moves own_front Fits frame (waits ++ concat v.machine.output) rest old new → Moves own_front Fits frame (unsent waits v) (unsent rest w) old new
moved_out Fits frame waits rest old new v w e m = subst (λ z. Moves own_front Fits frame (unsent waits v) z old new) (same_unsent rest v w e) m

pub stops_out : (Has Fits : Message → Type 0) (rest : List ℕ) (result : Result (Unit {0}) LayerFault) (v w : View) → w ≡ without_output v
    → Stops own_front Has Fits rest result → Stops own_front Has Fits (unsent rest w) result
stops_out Has Fits rest result v w e s = subst (λ z. Stops own_front Has Fits z result) (same_unsent rest v w e) s

pub only_output : (v w : View) → w ≡ without_output v → WithOutput v w
only_output v w e = e ∙ ap (λ o. record v { machine = record v.machine { output = o } }) (sym (ap (λ (x : View). x.machine.output) e))

pub none_taken : (Fits : Message → Type 0) (frame : Message → List ℕ) (waits waits' out out' : List ℕ) (v w : View) → waits ≡ waits' → v ≡ w → out ≡ out' → Moves own_front Fits frame (unsent waits v) (unsent waits' w) out out'
none_taken Fits frame waits waits' out out' v w e d f =
    subst (λ z. Moves own_front Fits frame (unsent waits v) (unsent waits' w) out z) f
    (subst (λ z. Moves own_front Fits frame (unsent waits v) z out out) (ap (λ z. unsent z v) e ∙ ap (unsent waits') d) (none_moved own_front Fits frame (unsent waits v) out))
