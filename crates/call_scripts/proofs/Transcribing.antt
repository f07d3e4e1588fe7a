-- A script that is answered line by line.
use Rattle.std.proofs.Common.{◌≡◌, ◌≢◌, ◌++◌, ℕ, List, [], ◌∷◌, Option, Some, None, Global, ap, refl, sym, ◌∙◌, subst, append_assoc}
use Rattle.std.specs.Io.KnownBytes.{Appends}
use Rattle.invocation_vm.specs.declared.core_vm.CoreVM.{CoreVM}
use Rattle.call_scripts.specs.Transcripts.{Transcribes, AreAnswered, TranscriptIsWritten}
use Rattle.lines.specs.Text.{IsFirstLine, AreFirstLines}

-- more is written
appends_more : (held now then : Option (List ℕ)) (xs ys : List ℕ) → Appends held now xs → Appends now then ys → Appends held then (xs ++ ys)
appends_more None now then xs ys h k = tt
appends_more (Some bs) None then xs ys h k = absurd h
appends_more (Some bs) (Some cs) None xs ys h k = absurd k
appends_more (Some bs) (Some cs) (Some ds) xs ys h k = k ∙ ap (λ l. l ++ ys) h ∙ append_assoc bs xs ys

-- a line more
lines_more : (lines : List (List ℕ)) (script rest line behind : List ℕ) → AreFirstLines lines script rest → rest ≢ [] → IsFirstLine rest line behind → AreFirstLines (lines ++ line ∷ []) script behind
lines_more [] script rest line behind same some first = subst (λ s. AreFirstLines (line ∷ []) s behind) (sym same) (some, (behind, first, refl))
lines_more (l ∷ lines) script rest line behind (full, (next, is, more)) some first = (full, (next, is, lines_more lines next rest line behind more some first))

-- its answer after the others
answers_more : (alloc : Global) (lines : List (List ℕ)) (line : List ℕ) (old now new : Option CoreVM) (transcript answer : List ℕ)
    → AreAnswered alloc lines old now transcript → Transcribes alloc now new line answer → AreAnswered alloc (lines ++ line ∷ []) old new (transcript ++ (answer ++ 10 ∷ []))
answers_more alloc [] line old now new transcript answer (same, none) told =
    (new, answer, [], subst (λ vm. Transcribes alloc vm new line answer) same told, (refl, refl), ap (λ l. l ++ (answer ++ 10 ∷ [])) none)
answers_more alloc (l ∷ lines) line old now new transcript answer (next, first, others, is, more, all) told =
    let last = answer ++ 10 ∷ [] in (
      next,
      first,
      others ++ last,
      is,
      answers_more alloc lines line next now new others answer more told,
      ap (λ l. l ++ last) all ∙ append_assoc first (10 ∷ others) last,
    )

-- the script up to a line more
pub written_more : (alloc : Global) (script rest line behind : List ℕ) (old now new : Option CoreVM) (answer ended : List ℕ) (before between after : Option (List ℕ))
    → TranscriptIsWritten alloc script rest old now before between → rest ≢ [] → IsFirstLine rest line behind → Transcribes alloc now new line answer
    → ended ≡ answer ++ 10 ∷ [] → Appends between after ended → TranscriptIsWritten alloc script behind old new before after
written_more alloc script rest line behind old now new answer ended before between after so_far some first told is appended =
    let front = so_far.transcript in
    let same : front ++ ended ≡ front ++ (answer ++ 10 ∷ []) = ap (λ l. front ++ l) is in record {
      transcript = front ++ (answer ++ 10 ∷ []);
      is_transcript = record {
        lines = so_far.is_transcript.lines ++ line ∷ [];
        are_lines = lines_more so_far.is_transcript.lines script rest line behind so_far.is_transcript.are_lines some first;
        are_answered = answers_more alloc so_far.is_transcript.lines line old now new front answer so_far.is_transcript.are_answered told;
      };
      appended = subst (Appends before after) same (appends_more before between after front ended so_far.appended appended);
    }
