-- Lists that grow side by side: texts and what they spell.
use Rattle.std.proofs.Common.{◌≡◌, ◌++◌, ℕ, List, [], ◌∷◌, sym, subst, Global, string_bytes}
use Rattle.std.specs.declared.string.String.{String}
use Rattle.lines.specs.Atoms.{IsText}
use Rattle.lines.proofs.Growing.{zip_push}
use Rattle.world_scripts.specs.Rounds.{AreKeys}
use Rattle.world_scripts.specs.Worlds.{AreStateTexts, IsStateText}

-- one text more that is a key
pub keys_more : (found more : List (List ℕ)) (text : List ℕ) (keys after : List (List ℕ)) (key : List ℕ) → AreKeys found keys → more ≡ found ++ text ∷ [] → IsText text key → after ≡ keys ++ key ∷ [] → AreKeys more after
keys_more found more text keys after key all longer atom is =
    let pushed = zip_push (λ (t k : List ℕ). IsText t k) found keys text key all atom in
    subst (λ ys. AreKeys more ys) (sym is) (subst (λ ts. AreKeys ts (keys ++ key ∷ [])) (sym longer) pushed)

-- one text more that is a key with its value
pub entries_more : (found more : List (List ℕ)) (text : List ℕ) (entries after : List (String Global × List ℕ)) (entry : String Global × List ℕ) → AreStateTexts found entries → more ≡ found ++ text ∷ [] → IsStateText text (string_bytes entry.0, entry.1) → after ≡ entries ++ entry ∷ [] → AreStateTexts more after
entries_more found more text entries after entry all longer pair is =
    let pushed = zip_push (λ (t : List ℕ) (e : String Global × List ℕ). IsStateText t (string_bytes e.0, e.1)) found entries text entry all pair in
    subst (λ ys. AreStateTexts more ys) (sym is) (subst (λ ts. AreStateTexts ts (entries ++ entry ∷ [])) (sym longer) pushed)
