-- The machine values of a session as C holds it. Assumes `Logic`.
use Rattle.std.proofs.Common.{◌≡◌, List, [], ◌∷◌, ◌++◌, refl, subst, Option}
use seplogic.Ra.Ura.{Ura}
use mir.Val.{Val, vstruct, of_list}
use types.Logic.{Logic}
use types.Kit.{Item, Goal, Seq, Step, step, ‵, ◌$◌, drop, fsplit, fjoin, fpick, fpack, feq_i, feq_l}
use denote.RattleType.{Valss}
use denote.Builtin.{RawPtr}
use denote.RawPtr.{Ptr, ptr_val}
use denote.Steps.{nothing}
use denote.Struct.Struct.{within}
use denote.Struct.Owning.{shape}
use Rattle.c_values.specs.Held.{held}
use Rattle.c_sessions.specs.contracts.held.Vm as vm
use Rattle.c_sessions.specs.declared.held.Vm.{Vm}
use Rattle.c_sessions.specs.contracts.session.Session.{the_row as session_row}
use Rattle.c_sessions.specs.declared.session.Session.{Session}

module _ {M : Type 1} {𝓤 : Ura M} {𝓛 : Logic 𝓤} {K : Type 0} {Γ : List (Item 𝓤)} {G : Goal 𝓤 𝓛.H} where
  pub vm_in : K → (p : Ptr) (x : Option Session) → Step K 𝓛 (‵ ((vm.the_row).own_val (record { at = p; value = x }) (vstruct (of_list (ptr_val p ∷ [])) ∷ [])) ∷ Γ) G (‵ (held session_row p x) ∷ Γ) G
  vm_in t p x = step (λ s. let v : Val = vstruct (of_list (ptr_val p ∷ [])) in
      nothing t $ feq_i t (List Val) (ptr_val p ∷ []) (ptr_val p ∷ []) refl $ fjoin t $ feq_i t (List Val) (v ∷ []) (v ∷ []) refl $ fjoin t $
      fpack t (Valss (RawPtr ∷ [])) (within (shape vm.the_type) (p, tt) (v ∷ [])) (ptr_val p ∷ [], tt) $ fjoin t $ s)

  pub vm_out : K → (d : Vm) (vs : List Val) → (vs ≡ vstruct (of_list (ptr_val d.at ∷ [])) ∷ [] → Seq K 𝓛 (‵ (held session_row d.at d.value) ∷ Γ) G) → Seq K 𝓛 (‵ ((vm.the_row).own_val d vs) ∷ Γ) G
  vm_out t d vs k = fsplit t $ fpick t (λ vss. fsplit t $ feq_l t (λ ev. fsplit t $ feq_l t (λ ep. drop t $
      k (subst (λ (ps : List Val). vs ≡ vstruct (of_list (ps ++ [])) ∷ []) ep ev))))
