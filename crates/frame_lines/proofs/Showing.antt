-- Which words show nothing as it is.
use Rattle.std.proofs.Common.{◌≡◌, ℕ, List, [], ◌∷◌, length, get_or, inl, inr, sym, subst, ◌∙◌, arith}
use Rattle.std.specs.Borrow.{Bor}
use Rattle.plain.specs.declared.fault.Fault.{Fault}
use Rattle.plain.specs.declared.fault.Fault.TheVariants.{Malformed}
use Rattle.lines.specs.Atoms.{IsAtom}
use Rattle.lines.specs.Readings.{Blames}
use Rattle.lines.proofs.Once.{Same}
use Rattle.frame_lines.specs.FrameLines.{AreRaw, IsRaw, IsRest, ShowAsIs}

-- a frame as it is whose body is refused
pub body_blamed : (number body : List ℕ) (fault : Fault) → Blames (IsAtom body) fault → Blames (IsRaw number body) fault
body_blamed number body fault blames = record { nothing = λ bad shown raw. blames.nothing bad raw.bytes_of raw.is_body }

-- two words of which the second isn't the bytes of a rest
pub rest_blamed : (words : List (Bor (List ℕ))) (d : Bor (List ℕ)) (fault : Fault) → length words ≡ 2 → Blames (IsAtom (get_or words 1 d).now) fault → Blames (ShowAsIs words) fault
rest_blamed [] d fault two blames = absurd (omega arith)
rest_blamed (a ∷ []) d fault two blames = absurd (omega arith)
rest_blamed (a ∷ b ∷ c ∷ ws) d fault two blames = absurd (omega arith)
rest_blamed (a ∷ b ∷ []) d fault two blames = record { nothing = go }
  where
    go : fault ≡ Malformed → (shown : List ℕ) → ShowAsIs (a ∷ b ∷ []) shown → ⊥
    go bad shown (inl (raw, frame)) = absurd frame
    go bad shown (inr (is, atom)) = blames.nothing bad shown atom

-- ---- the words' texts decide

same_raw : (ws vs : List (Bor (List ℕ))) (shown : List ℕ) → Same ws vs → AreRaw ws shown → AreRaw vs shown
same_raw [] vs shown all raw = absurd raw
same_raw (a ∷ []) vs shown all raw = absurd raw
same_raw (a ∷ b ∷ c ∷ ws) vs shown all raw = absurd raw
same_raw (a ∷ b ∷ []) [] shown all raw = absurd all
same_raw (a ∷ b ∷ []) (c ∷ []) shown all raw = absurd all.1
same_raw (a ∷ b ∷ []) (c ∷ d ∷ e ∷ vs) shown all raw = absurd all.1.1
same_raw (a ∷ b ∷ []) (c ∷ d ∷ []) shown all raw = subst (λ n. IsRaw n d.now shown) all.0 (subst (λ n. IsRaw a.now n shown) all.1.0 raw)

same_rest : (ws vs : List (Bor (List ℕ))) (shown : List ℕ) → Same ws vs → IsRest ws shown → IsRest vs shown
same_rest [] vs shown all rest = absurd rest
same_rest (a ∷ b ∷ ws) vs shown all rest = absurd rest
same_rest (a ∷ []) [] shown all rest = absurd all
same_rest (a ∷ []) (c ∷ d ∷ vs) shown all rest = absurd all.1
same_rest (a ∷ []) (c ∷ []) shown all rest = subst (λ n. IsAtom n shown) all.0 rest

pub same_shown : (ws vs : List (Bor (List ℕ))) (shown : List ℕ) → Same ws vs → ShowAsIs ws shown → ShowAsIs vs shown
same_shown [] vs shown all as_is = absurd as_is
same_shown (a ∷ ws) [] shown all as_is = absurd all
same_shown (a ∷ ws) (c ∷ vs) shown all (inl (raw, frame)) = inl (sym all.0 ∙ raw, same_raw ws vs shown all.1 frame)
same_shown (a ∷ ws) (c ∷ vs) shown all (inr (is, rest)) = inr (sym all.0 ∙ is, same_rest ws vs shown all.1 rest)
