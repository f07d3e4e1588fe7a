-- Texts that name no policy.
use Rattle.std.proofs.Common.{◌≡◌, ◌≢◌, ◌<◌, ◌+◌, ℕ, false, List, Some, None, codes, position, take, drop, get_or, ap, sym, subst, ◌∙◌, arith}
use Rattle.std.specs.Borrow.{Bor}
use Rattle.plain.specs.declared.fault.Fault.{Fault}
use Rattle.plain.specs.declared.fault.Fault.TheVariants.{Malformed}
use Rattle.vm_retries.specs.declared.policy.RetryPolicy.{RetryPolicy}
use Rattle.vm_retries.specs.declared.policy.RetryPolicy.TheVariants as policy
use Rattle.vm_retries.specs.Policies.{is_pause}
use Rattle.lines.specs.Pieces.{AreWordsWithin}
use Rattle.lines.specs.Readings.{Blames}
use Rattle.lines.proofs.Once.{Same, words_within_once}
use Rattle.line_parts.specs.declared.policies.Bounds.{Bounds}
use Rattle.line_parts.specs.declared.policies.Growth.{Growth}
use Rattle.lines.specs.Fields.{IsOptional, IsRequired, are_named, text_behind, texts_named}
use Rattle.line_parts.specs.Policies.{AreBounds, AreGrowth, IsExponential, IsFixed, IsFraction, IsPolicy, exponential_names, fixed_names, is_slash}
use Rattle.line_parts.specs.Values.{HasFlag, words_without}
use Rattle.lines.specs.Durations.{IsTime}
use Rattle.lines.specs.Words.{IsNumberOf}
use Rattle.lines.proofs.Naming.{begins_so, otherwise, same_text}
use Rattle.line_parts.proofs.Flags.{flag_same, without_same}
use Rattle.lines.proofs.Sames.{named_same, texts_same}

-- ---- fractions

same_place : (a b : ℕ) → Some a ≡ Some b → a ≡ b
same_place a b e = search e

pub slashless_blamed : (text : List ℕ) (fault : Fault) → position is_slash text ≡ None → Blames (IsFraction text) fault
slashless_blamed text fault none = record { nothing = λ bad fraction is. absurd (cc (sym none ∙ is.slash)) }

pub numerator_blamed : (text : List ℕ) (at : ℕ) (fault : Fault) → position is_slash text ≡ Some at → Blames (IsNumberOf 32 (take at text)) fault → Blames (IsFraction text) fault
numerator_blamed text at fault e blames = record {
  nothing = λ bad fraction is. blames.nothing bad fraction.numerator (subst (λ i. IsNumberOf 32 (take i text) fraction.numerator) (same_place is.at at (sym is.slash ∙ e)) is.numerator);
}

pub denominator_blamed : (text : List ℕ) (at : ℕ) (fault : Fault) → position is_slash text ≡ Some at → Blames (IsNumberOf 32 (drop (at + 1) text)) fault → Blames (IsFraction text) fault
denominator_blamed text at fault e blames = record {
  nothing = λ bad fraction is. blames.nothing bad fraction.denominator (subst (λ i. IsNumberOf 32 (drop (i + 1) text) fraction.denominator) (same_place is.at at (sym is.slash ∙ e)) is.denominator);
}

pub zero_blamed : (text : List ℕ) (at d : ℕ) (fault : Fault) → position is_slash text ≡ Some at → IsNumberOf 32 (drop (at + 1) text) d → d ≡ 0 → Blames (IsFraction text) fault
zero_blamed text at d fault e is_d zero = record {
  nothing = λ bad fraction is.
      let it : IsNumberOf 32 (drop (at + 1) text) fraction.denominator = subst (λ i. IsNumberOf 32 (drop (i + 1) text) fraction.denominator) (same_place is.at at (sym is.slash ∙ e)) is.denominator in
      let same : fraction.denominator ≡ d = it.1 ∙ sym is_d.1 in
      let some : 0 < fraction.denominator = fraction.divides in
      absurd (omega arith);
}

-- ---- bounds

pub pause_blamed : (words : List (Bor (List ℕ))) (fault : Fault) → Blames (HasFlag (codes "pause") words) fault → Blames (AreBounds words) fault
pause_blamed words fault blames = record { nothing = λ bad bounds are. blames.nothing bad (is_pause bounds.on_max_attempts) are.pause }

bounds_same : (ws vs : List (Bor (List ℕ))) (bounds : Bounds) → Same ws vs → AreBounds vs bounds → AreBounds ws bounds
bounds_same ws vs bounds all are = record {
  interval = subst (λ ts. IsOptional IsTime ts bounds.interval) (sym (texts_same (codes "interval=") ws vs all)) are.interval;
  attempts = subst (λ ts. IsOptional (IsNumberOf 32) ts bounds.max_attempts) (sym (texts_same (codes "attempts=") ws vs all)) are.attempts;
  longest = subst (λ ts. IsOptional IsTime ts bounds.max_duration) (sym (texts_same (codes "max=") ws vs all)) are.longest;
  pause = flag_same (codes "pause") ws vs (is_pause bounds.on_max_attempts) all are.pause;
}

-- ---- brackets

pub fixed_unbracketed : (text : List ℕ) (fault : Fault) → Blames (AreWordsWithin 40 41 text) fault → Blames (IsFixed text) fault
fixed_unbracketed text fault blames = record { nothing = λ bad bounds is. blames.nothing bad is.words is.are_words }

pub fixed_bounds : (text : List ℕ) (ws : List (Bor (List ℕ))) (fault : Fault) → AreWordsWithin 40 41 text ws → Blames (AreBounds ws) fault → Blames (IsFixed text) fault
fixed_bounds text ws fault are blames = record { nothing = λ bad bounds is. blames.nothing bad bounds (bounds_same ws is.words bounds (words_within_once 40 41 text ws is.words are is.are_words) is.are_bounds) }

pub fixed_others : (text : List ℕ) (ws others : List (Bor (List ℕ))) (fault : Fault) → AreWordsWithin 40 41 text ws → others ≡ words_without (codes "pause") ws → are_named fixed_names others ≡ false → Blames (IsFixed text) fault
fixed_others text ws others fault are but other = record {
  nothing = λ bad bounds is.
      let all = words_within_once 40 41 text ws is.words are is.are_words in
      absurd (cc (sym other ∙ ap (are_named fixed_names) but ∙ named_same fixed_names (words_without (codes "pause") ws) (words_without (codes "pause") is.words) (without_same (codes "pause") ws is.words all) ∙ is.only));
}

pub growth_unbracketed : (text : List ℕ) (fault : Fault) → Blames (AreWordsWithin 40 41 text) fault → Blames (IsExponential text) fault
growth_unbracketed text fault blames = record { nothing = λ bad growth is. blames.nothing bad is.words is.are_words }

pub initial_blamed : (words : List (Bor (List ℕ))) (fault : Fault) → Blames (IsRequired IsTime (texts_named (codes "initial=") words)) fault → Blames (AreGrowth words) fault
initial_blamed words fault blames = record { nothing = λ bad growth are. blames.nothing bad growth.initial are.0 }

pub factor_blamed : (words : List (Bor (List ℕ))) (fault : Fault) → Blames (IsRequired IsFraction (texts_named (codes "factor=") words)) fault → Blames (AreGrowth words) fault
factor_blamed words fault blames = record { nothing = λ bad growth are. blames.nothing bad growth.factor are.1 }

pub growth_bounds : (words : List (Bor (List ℕ))) (fault : Fault) → Blames (AreBounds words) fault → Blames (AreGrowth words) fault
growth_bounds words fault blames = record { nothing = λ bad growth are. blames.nothing bad growth.bounds are.2 }

pub growth_others : (words others : List (Bor (List ℕ))) (fault : Fault) → others ≡ words_without (codes "pause") words → are_named exponential_names others ≡ false → Blames (AreGrowth words) fault
growth_others words others fault but other = record { nothing = λ bad growth are. absurd (cc (sym other ∙ ap (are_named exponential_names) but ∙ are.3)) }

pub growth_blamed : (text : List ℕ) (ws : List (Bor (List ℕ))) (fault : Fault) → AreWordsWithin 40 41 text ws → Blames (AreGrowth ws) fault → Blames (IsExponential text) fault
growth_blamed text ws fault are blames = record {
  nothing = λ bad growth is.
      let all = words_within_once 40 41 text ws is.words are is.are_words in
      blames.nothing bad growth (
        subst (λ ts. IsRequired IsTime ts growth.initial) (sym (texts_same (codes "initial=") ws is.words all)) is.initial,
        subst (λ ts. IsRequired IsFraction ts growth.factor) (sym (texts_same (codes "factor=") ws is.words all)) is.factor,
        bounds_same ws is.words growth.bounds all is.are_bounds,
        named_same exponential_names (words_without (codes "pause") ws) (words_without (codes "pause") is.words) (without_same (codes "pause") ws is.words all) ∙ is.only,
      );
}

-- ---- policies

pub fixed_blamed : (text inside : List ℕ) (fault : Fault) → text_behind (codes "fixed") text ≡ Some inside → Blames (IsFixed inside) fault → Blames (IsPolicy text) fault
fixed_blamed text inside fault e blames = record { nothing = λ bad it is. go bad it is }
  where
    go : fault ≡ Malformed → (it : RetryPolicy) → IsPolicy text it → ⊥
    go bad policy.Infinite is = otherwise 102 105 (codes "ixed") text inside e (ap (λ t. get_or t 0 0) is) (omega arith)
    go bad policy.None is = otherwise 102 110 (codes "ixed") text inside e (ap (λ t. get_or t 0 0) is) (omega arith)
    go bad (policy.FixedDelay interval attempts longest on) (other, at, is) = let bounds : Bounds = record { interval = interval; max_attempts = attempts; max_duration = longest; on_max_attempts = on } in blames.nothing bad bounds (subst (λ t. IsFixed t bounds) (same_text other inside (sym at ∙ e)) is)
    go bad (policy.Exponential initial factor interval attempts longest on) (other, at, is) = otherwise 102 101 (codes "ixed") text inside e (begins_so 101 (codes "xp") text other at) (omega arith)

pub exponential_blamed : (text inside : List ℕ) (fault : Fault) → text_behind (codes "exp") text ≡ Some inside → Blames (IsExponential inside) fault → Blames (IsPolicy text) fault
exponential_blamed text inside fault e blames = record { nothing = λ bad it is. go bad it is }
  where
    go : fault ≡ Malformed → (it : RetryPolicy) → IsPolicy text it → ⊥
    go bad policy.Infinite is = otherwise 101 105 (codes "xp") text inside e (ap (λ t. get_or t 0 0) is) (omega arith)
    go bad policy.None is = otherwise 101 110 (codes "xp") text inside e (ap (λ t. get_or t 0 0) is) (omega arith)
    go bad (policy.FixedDelay interval attempts longest on) (other, at, is) = otherwise 101 102 (codes "xp") text inside e (begins_so 102 (codes "ixed") text other at) (omega arith)
    go bad (policy.Exponential initial factor interval attempts longest on) (other, at, is) = let bounds : Bounds = record { interval = interval; max_attempts = attempts; max_duration = longest; on_max_attempts = on } in let growth : Growth = record { initial = initial; factor = factor; bounds = bounds } in blames.nothing bad growth (subst (λ t. IsExponential t growth) (same_text other inside (sym at ∙ e)) is)

pub no_policy : (text : List ℕ) (fault : Fault) → text ≢ codes "infinite" → text ≢ codes "none" → text_behind (codes "fixed") text ≡ None → text_behind (codes "exp") text ≡ None → Blames (IsPolicy text) fault
no_policy text fault i n f e = record { nothing = λ bad it is. go it is }
  where
    go : (it : RetryPolicy) → IsPolicy text it → ⊥
    go policy.Infinite is = i is
    go policy.None is = n is
    go (policy.FixedDelay interval attempts longest on) (other, at, is) = absurd (cc (sym f ∙ at))
    go (policy.Exponential initial factor interval attempts longest on) (other, at, is) = absurd (cc (sym e ∙ at))
