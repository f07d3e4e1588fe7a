-- Texts that are printed one after another.
use Rattle.std.proofs.Common.{◌≡◌, ℕ, List, ◌++◌, ap, ◌∙◌, append_assoc}

pub two_added : (a b old one two : List ℕ) → one ≡ old ++ a → two ≡ one ++ b → two ≡ old ++ (a ++ b)
two_added a b old one two ea eb = eb ∙ ap (λ l. l ++ b) ea ∙ append_assoc old a b

pub four_added : (a b c d old one two three four : List ℕ) → one ≡ old ++ a → two ≡ one ++ b → three ≡ two ++ c → four ≡ three ++ d → four ≡ old ++ (((a ++ b) ++ c) ++ d)
four_added a b c d old one two three four ea eb ec ed =
    let first : two ≡ old ++ (a ++ b) = two_added a b old one two ea eb in
    let second : three ≡ old ++ ((a ++ b) ++ c) = two_added (a ++ b) c old two three first ec in
    two_added ((a ++ b) ++ c) d old three four second ed
