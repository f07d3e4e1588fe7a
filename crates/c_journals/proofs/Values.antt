-- The machine values of a journal as C holds it. Assumes `Logic`.
use Rattle.std.proofs.Common.{◌≡◌, List, [], ◌∷◌, ◌++◌, refl, subst, Option}
use seplogic.Ra.Ura.{Ura}
use mir.Val.{Val, vstruct, of_list}
use types.Logic.{Logic}
use types.Kit.{Item, Goal, Seq, Step, step, ‵, ◌$◌, drop, fsplit, fjoin, fpick, fpack, feq_i, feq_l}
use denote.RattleType.{Valss}
use denote.Builtin.{RawPtr}
use denote.RawPtr.{Ptr, ptr_val}
use denote.Steps.{nothing}
use denote.Struct.Struct.{within}
use denote.Struct.Owning.{shape}
use Rattle.c_values.specs.Held.{held}
use Rattle.c_journals.specs.contracts.held.Journal as handle
use Rattle.c_journals.specs.declared.held.Journal.{Journal}
use Rattle.c_journals.specs.contracts.journal.HeldJournal.{the_row as journal_row}
use Rattle.c_journals.specs.declared.journal.HeldJournal.{HeldJournal}

module _ {M : Type 1} {𝓤 : Ura M} {𝓛 : Logic 𝓤} {K : Type 0} {Γ : List (Item 𝓤)} {G : Goal 𝓤 𝓛.H} where
  pub handle_in : K → (p : Ptr) (x : Option HeldJournal) → Step K 𝓛 (‵ ((handle.the_row).own_val (record { at = p; value = x }) (vstruct (of_list (ptr_val p ∷ [])) ∷ [])) ∷ Γ) G (‵ (held journal_row p x) ∷ Γ) G
  handle_in t p x = step (λ s. let v : Val = vstruct (of_list (ptr_val p ∷ [])) in
      nothing t $ feq_i t (List Val) (ptr_val p ∷ []) (ptr_val p ∷ []) refl $ fjoin t $ feq_i t (List Val) (v ∷ []) (v ∷ []) refl $ fjoin t $
      fpack t (Valss (RawPtr ∷ [])) (within (shape handle.the_type) (p, tt) (v ∷ [])) (ptr_val p ∷ [], tt) $ fjoin t $ s)

  pub handle_out : K → (d : Journal) (vs : List Val) → (vs ≡ vstruct (of_list (ptr_val d.at ∷ [])) ∷ [] → Seq K 𝓛 (‵ (held journal_row d.at d.value) ∷ Γ) G) → Seq K 𝓛 (‵ ((handle.the_row).own_val d vs) ∷ Γ) G
  handle_out t d vs k = fsplit t $ fpick t (λ vss. fsplit t $ feq_l t (λ ev. fsplit t $ feq_l t (λ ep. drop t $
      k (subst (λ (ps : List Val). vs ≡ vstruct (of_list (ps ++ [])) ∷ []) ep ev))))
