-- `show` tests the pointer, and takes it.
use Rattle.std.proofs.Common.{◌≡◌, ℕ, List, [], ◌∷◌, ◌++◌, refl, sym, ap, ◌∙◌, subst, Option, Some, None, lit<}
use mir.Val.{Val, vptr, vstruct, vcons, vnil, of_list}
use base.Logic.{SProp, ent, emp, id⊢, never, fst∗, guard_i}
use base.Fml.{ftrue}
use mir.Raw.{raw as bare}
use prog.Wp.{WpFn}
use types.Logic.{sem}
use types.Kit.{Sq, ‵, raw, prop, given, at_ret, ◌⊛◌, ◌$◌, ◌∵◌, !, qed, by, move, keep, drop, split, fsplit, fjoin, fpick, learn, use0, use1, rewrite, suffices}
use types.Run.{stop, fld, lit, of_opd, bin, no_more, and_then, first, branches, exec, returns, enter}
use types.ByLocal.{alloc_all, pass_all, free_all, look_at, get, get_in, sets, sets_last, env}
use types.Part.{agg, sub, whole}
use types.Match.{live}
use contract.Monad.{fact, fact_i, fact_use}
use contract.Running.{tables}
use denote.Exit.{yes}
use denote.RattleType.{RattleType, owns}
use denote.Laws.{Is, shows}
use denote.Memory.{lone}
use denote.Param.{layout}
use denote.Signature.{types_at, type_at, plain}
use denote.RawPtr.{Ptr, block_ptr, null_ptr, ptr_val, in_a_block, tests_null, Testable}
use denote.Steps.{nothing, peeks}
use denote.Triple.Walked.{Stays, stay_dropped, Goes-dropped, walk_of}
use Rattle.std.specs.Box.Ownership.{box_owns}
use Rattle.std.proofs.GlobalToken.{dealloc_token-Testable}
use Rattle.std.proofs.alloc.Shapes.{after}
use Rattle.std.proofs.option.Made.{Some-of, none_of}
use Rattle.std.proofs.cell.Inside.{Good}
use Rattle.std.proofs.raw_atomic.Walks.{proved_at, leaves}
use Rattle.c_values.specs.Held.{chunk, held}
use Rattle.c_sessions.specs.contracts.held.Vm as vm
use Rattle.c_sessions.specs.declared.session.Session.{Session}
use Rattle.c_sessions.specs.contracts.session.Session.{the_row as session_row}
use Rattle.c_values.proofs.Values.{both, heap_val, heap_row, heap_Tells, loose_row, held_in}
use Rattle.c_sessions.proofs.Values.{vm_out}
use Rattle.c_sessions.specs.contracts.held.show as f
use Rattle.c_sessions.proofs.held.show.Statement.{statement}
use Rattle.c_sessions.proofs.held.show.Code as code

abbrev stayed : Stays f.ended.signature.params f.ended.kept
stayed = (stay_dropped (plain (λ _. vm.the_row)) yes, (stay_dropped (plain (λ _. heap_row)) yes, tt))

pub show_spec : {M : Type 1} → statement M
show_spec 𝓤 𝓛 𝓜 𝓡 wired =
    let H = 𝓛.H in let 𝓣 = tables 𝓤 H 𝓜 𝓡 𝓡.env in let c = f.clauses 𝓛 𝓜.mem 𝓡.returns in
    proved_at 𝓛 f.ended stayed c 𝓜 𝓡 (Goes-dropped 𝓛 0 (plain (λ _. vm.the_row)) yes (λ κs x w. refl), (Goes-dropped 𝓛 0 (plain (λ _. heap_row)) yes (λ κs x w. refl), tt)) f.Key.name code.function (code.unfolded 𝓤 H 𝓜 𝓡 wired) (λ z are.
    let d = z.0.3.0 in let a = z.0.3.1.0 in let Post : Val → SProp 𝓤 = (walk_of 𝓛 f.ended stayed c).post z in let Run : List Val → SProp 𝓤 = λ ws. WpFn 𝓤 H 𝓣.C 𝓣.Λ code.function ws Post in
    let Out : RattleType = type_at f.signature.result z.0.0 in
    let passed : (p : Ptr) → d.at ≡ p → z.0.4.0 ≡ vstruct (of_list (ptr_val d.at ∷ [])) ∷ [] → z.0.4.1.0 ≡ heap_val ∷ [] → z.0.4.0 ++ (z.0.4.1.0 ++ []) ≡ vstruct (of_list (ptr_val p ∷ [])) ∷ heap_val ∷ [] = λ p e ws hs.
    λ i. (ws ∙ ap (λ (q : Ptr). vstruct (of_list (ptr_val q ∷ [])) ∷ []) e) i ++ (hs i ++ []) in
    let none : d.value ≡ None → d.at ≡ null_ptr → z.0.4.0 ≡ vstruct (of_list (ptr_val d.at ∷ [])) ∷ [] → z.0.4.1.0 ≡ heap_val ∷ []
    → Sq 𝓛 (‵ (heap_row.own_val a (heap_val ∷ [])) ∷ []) (prop (Run (z.0.4.0 ++ (z.0.4.1.0 ++ [])))) = λ is e ws hs.
    let w : Val = vstruct (of_list (ptr_val null_ptr ∷ [])) in
    suffices ! (Run (w ∷ heap_val ∷ [])) (subst (λ (vs : List Val). ent 𝓤 (Run (w ∷ heap_val ∷ [])) (Run vs)) (sym (passed null_ptr e ws hs)) (id⊢ 𝓤 (Run (w ∷ heap_val ∷ [])))) $
    enter ! 𝓣.C 𝓣.Λ code.function (w ∷ heap_val ∷ []) Post $ alloc_all ! (λ l. pass_all ! refl ((tt, (record { fits = lit< tt }, tt)), ((tt, ((tt, tt), tt)), tt)) $ let Ev = env code.function.locals l in
    sets ! (of_opd ! (get_in ! (fld ! refl (stop !)) (sub ! 0 refl (whole !)))) refl (tt, record { fits = lit< tt }) $
    sets ! (bin ! (get ! refl) (lit ! tt) tt) refl (tt, tt) $ first ! $ branches ! (get ! refl)
    (λ _. sets_last ! (agg ! (and_then ! (lit ! tt) (no_more !))) refl (tt, (record { fits = lit< tt }, tt)) $ exec ! 𝓣.C 𝓣.Λ Ev (after 3 code.function.body) (at_ret Ev Post) $
    sets ! (of_opd ! (get ! refl)) refl (tt, (record { fits = lit< tt }, tt)) $
    returns ! (look_at ! 0 refl) $ free_all ! refl $ use0 𝓛 (‵ (Out.own_val None (live 0 vnil ∷ []))) (none_of 𝓛 (loose_row session_row)) $
    use0 𝓛 (raw (fact 𝓤 (d.value ≡ None))) (fact_i 𝓤 (d.value ≡ None) (emp 𝓤) is) $ nothing ! $ nothing ! $ fjoin ! $ nothing ! $ fjoin ! $ nothing ! $ keep ! (0 ∷ 1 ∷ 3 ∷ 2 ∷ []) $
    by ! (leaves 𝓛 f.ended stayed c z (live 0 vnil) None (tt, (tt, tt)) (tt, (tt, tt)))) (λ wrong. absurd wrong)) in
    let full : (x : Session) (b o : ℕ) → d.value ≡ Some x → d.at ≡ block_ptr b o → Testable (block_ptr b o) → z.0.4.0 ≡ vstruct (of_list (ptr_val d.at ∷ [])) ∷ [] → z.0.4.1.0 ≡ heap_val ∷ []
    → Sq 𝓛 (‵ (box_owns chunk session_row (block_ptr b o) x) ∷ ‵ (heap_row.own_val a (heap_val ∷ [])) ∷ []) (prop (Run (z.0.4.0 ++ (z.0.4.1.0 ++ [])))) = λ x b o is e t ws hs.
    let w : Val = vstruct (of_list (vptr b o ∷ [])) in let made : Val = both (vptr b o) heap_val in let v₁ : Val = live 1 (vcons made vnil) in
    let l₁ : (loose_row session_row).Denot = record { at = block_ptr b o; alloc = a; value = x } in
    let good : Good (layout Out) v₁ = (tt, (record { fits = lit< tt }, ((tt, (((tt, tt), tt), tt)), tt))) in
    suffices ! (Run (w ∷ heap_val ∷ [])) (subst (λ (vs : List Val). ent 𝓤 (Run (w ∷ heap_val ∷ [])) (Run vs)) (sym (passed (block_ptr b o) e ws hs)) (id⊢ 𝓤 (Run (w ∷ heap_val ∷ [])))) $
    enter ! 𝓣.C 𝓣.Λ code.function (w ∷ heap_val ∷ []) Post $ alloc_all ! (λ l. pass_all ! refl ((tt, (tt, tt)), ((tt, ((tt, tt), tt)), tt)) $ let Ev = env code.function.locals l in
    sets ! (of_opd ! (get_in ! (fld ! refl (stop !)) (sub ! 0 refl (whole !)))) refl (tt, tt) $
    sets ! (bin ! (get ! refl) (lit ! tt) (tests_null (block_ptr b o) t)) refl (tt, tt) $ first ! $ branches ! (get ! refl) (λ wrong. absurd wrong) (λ _.
    sets ! (of_opd ! (get ! refl)) refl (tt, tt) $
    sets ! (agg ! (and_then ! (get ! refl) (and_then ! (get ! refl) (no_more !)))) refl (tt, (tt, (((tt, tt), tt), tt))) $
    sets_last ! (agg ! (and_then ! (lit ! tt) (and_then ! (get ! refl) (no_more !)))) refl good $ exec ! 𝓣.C 𝓣.Λ Ev (after 3 code.function.body) (at_ret Ev Post) $
    sets ! (of_opd ! (get ! refl)) refl good $
    returns ! (look_at ! 0 refl) $ free_all ! refl $ held_in ! session_row b o a x $ use1 𝓛 (‵ (Out.own_val (Some l₁) (v₁ ∷ []))) (Some-of 𝓛 (loose_row session_row) l₁ made) $
    use0 𝓛 (raw (fact 𝓤 (d.value ≡ Some x))) (fact_i 𝓤 (d.value ≡ Some x) (emp 𝓤) is) $ nothing ! $ nothing ! $ fjoin ! $ nothing ! $ fjoin ! $ nothing ! $ keep ! (0 ∷ 1 ∷ 3 ∷ 2 ∷ []) $
    by ! (leaves 𝓛 f.ended stayed c z v₁ (Some l₁) (tt, (tt, tt)) (tt, (tt, tt))))) in
    let cased : (x : Option Session) → d.value ≡ x → z.0.4.0 ≡ vstruct (of_list (ptr_val d.at ∷ [])) ∷ [] → z.0.4.1.0 ≡ heap_val ∷ []
    → Sq 𝓛 (‵ (held session_row d.at x) ∷ ‵ (heap_row.own_val a (heap_val ∷ [])) ∷ []) (prop (Run (z.0.4.0 ++ (z.0.4.1.0 ++ [])))) = elim [
      | None ↦ λ is ws hs. fpick ! (λ e. drop ! $ none is e ws hs)
      | Some x ↦ λ is ws hs. in_a_block ! d.at (λ p. box_owns chunk session_row p x) (fst∗ 𝓤 (never 𝓤) (sem 𝓛 (chunk (bare (lone session_row.mir)) null_ptr))) (λ b o e.
          let p : Ptr = block_ptr b o in let right = chunk (bare (lone session_row.mir)) p in
          fsplit ! $ move ! (1 ∷ []) $ use1 𝓛 (given (Testable p) (‵ right)) (fact_use 𝓤 (Testable p) (dealloc_token-Testable 𝓛 (record { memory = record { seal = tt } }) (bare (lone session_row.mir)) p) (λ t. guard_i 𝓤 (Testable p) (sem 𝓛 right) t)) $
          learn ! (λ t. move ! (1 ∷ 0 ∷ []) $ fjoin ! $ full x b o is e t ws hs))
    ] in
    qed 𝓛 ((‵ ftrue ⊛ ‵ (owns (types_at f.signature.params z.0.0) z.0.3 z.0.4)) ∷ ‵ ftrue ∷ []) ∵ split ! $ drop ! $ fsplit ! $
    vm_out ! d z.0.4.0 (λ ws. move ! (1 ∷ []) $ fsplit ! $ peeks ! heap_row (Is heap_row) (shows 𝓛 heap_row) a z.0.4.1.0 (λ is. rewrite ! 0 (λ (us : List Val). ‵ (heap_row.own_val a us)) (heap_Tells a z.0.4.1.0 is) refl $
    keep ! (2 ∷ 0 ∷ []) $ cased d.value refl ws (heap_Tells a z.0.4.1.0 is))))
