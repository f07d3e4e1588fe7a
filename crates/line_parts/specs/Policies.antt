-- Policies of retries, by their words.
use Rattle.std.specs.Prelude.{◌≡◌, ◌+◌, ◌==◌, ℕ, Bool, true, List, [], ◌∷◌, drop, take, position, Some, codes}
use Rattle.std.specs.Borrow.{Bor}
use Rattle.vm_retries.specs.declared.fraction.Fraction.{Fraction}
use Rattle.vm_retries.specs.Policies.{is_pause}
use Rattle.vm_retries.specs.declared.policy.RetryPolicy.{RetryPolicy}
use Rattle.vm_retries.specs.declared.policy.RetryPolicy.TheVariants as policy
use Rattle.lines.specs.Pieces.{AreWordsWithin}
use Rattle.line_parts.specs.declared.policies.Bounds.{Bounds}
use Rattle.line_parts.specs.declared.policies.Growth.{Growth}
use Rattle.lines.specs.Fields.{IsOptional, IsRequired, are_named, text_behind, texts_named}
use Rattle.line_parts.specs.Values.{HasFlag, words_without}
use Rattle.lines.specs.Durations.{IsTime}
use Rattle.lines.specs.Words.{IsNumberOf}

abbrev pub is_slash : ℕ → Bool
is_slash b = b == 47

-- the number in front of the first slash, over that after it
pub record IsFraction (text : List ℕ) (fraction : Fraction) : Type 0 where
  pub at : ℕ
  pub slash : position is_slash text ≡ Some at
  pub numerator : IsNumberOf 32 (take at text) fraction.numerator
  pub denominator : IsNumberOf 32 (drop (at + 1) text) fraction.denominator

-- `[interval=D] [attempts=N] [max=D] [pause]`, among other words
pub record AreBounds (words : List (Bor (List ℕ))) (bounds : Bounds) : Type 0 where
  pub interval : IsOptional IsTime (texts_named (codes "interval=") words) bounds.interval
  pub attempts : IsOptional (IsNumberOf 32) (texts_named (codes "attempts=") words)
      bounds.max_attempts
  pub longest : IsOptional IsTime (texts_named (codes "max=") words) bounds.max_duration
  pub pause : HasFlag (codes "pause") words (is_pause bounds.on_max_attempts)

-- what a policy with a fixed delay may have, beside `pause`
abbrev pub fixed_names : List (List ℕ)
fixed_names = codes "interval=" ∷ codes "attempts=" ∷ codes "max=" ∷ []

-- what one with a growing delay may have
abbrev pub exponential_names : List (List ℕ)
exponential_names =
    codes "initial=" ∷ codes "factor=" ∷ codes "interval=" ∷ codes "attempts=" ∷ codes "max=" ∷ []

-- the bounds in the brackets, and nothing else
pub record IsFixed (text : List ℕ) (bounds : Bounds) : Type 0 where
  pub words : List (Bor (List ℕ))
  pub are_words : AreWordsWithin 40 41 text words
  pub are_bounds : AreBounds words bounds
  pub only : are_named fixed_names (words_without (codes "pause") words) ≡ true

-- `initial=D factor=N/N [interval=D] [attempts=N] [max=D] [pause]`, and nothing else
abbrev pub AreGrowth : List (Bor (List ℕ)) → Growth → Type 0
AreGrowth words growth =
    IsRequired IsTime (texts_named (codes "initial=") words) growth.initial
    × IsRequired IsFraction (texts_named (codes "factor=") words) growth.factor
    × AreBounds words growth.bounds
    × (are_named exponential_names (words_without (codes "pause") words) ≡ true)

-- the first delay in the brackets, its factor and the bounds, and nothing else
pub record IsExponential (text : List ℕ) (growth : Growth) : Type 0 where
  pub words : List (Bor (List ℕ))
  pub are_words : AreWordsWithin 40 41 text words
  pub initial : IsRequired IsTime (texts_named (codes "initial=") words) growth.initial
  pub factor : IsRequired IsFraction (texts_named (codes "factor=") words) growth.factor
  pub are_bounds : AreBounds words growth.bounds
  pub only : are_named exponential_names (words_without (codes "pause") words) ≡ true

-- `infinite`, `none`, `fixed(..)` or `exp(..)`; if the delay grows, the interval is the longest one
abbrev pub IsPolicy : List ℕ → RetryPolicy → Type 0
IsPolicy text policy.Infinite = text ≡ codes "infinite"
IsPolicy text policy.None = text ≡ codes "none"
IsPolicy text (policy.FixedDelay interval attempts longest on) =
    (inside : List ℕ) × (text_behind (codes "fixed") text ≡ Some inside)
    × IsFixed inside (record {
      interval = interval;
      max_attempts = attempts;
      max_duration = longest;
      on_max_attempts = on;
    })
IsPolicy text (policy.Exponential initial factor interval attempts longest on) =
    (inside : List ℕ) × (text_behind (codes "exp") text ≡ Some inside)
    × IsExponential inside
    (record {
      initial = initial;
      factor = factor;
      bounds = record {
        interval = interval;
        max_attempts = attempts;
        max_duration = longest;
        on_max_attempts = on;
      };
    })
