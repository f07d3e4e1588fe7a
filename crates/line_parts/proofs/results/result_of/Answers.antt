use Rattle.std.proofs.Common.{◌≡◌, ◌≢◌, [], Err, codes, get_or, sym, ◌∙◌, subst, rules, arith}
use Rattle.line_parts.specs.Results.{IsRetryable}
use Rattle.lines.specs.Words.{text_at}
use Rattle.lines.proofs.Places.{others_are, word_at}
use Rattle.line_parts.proofs.Proposing.{retryable_blamed, value_blamed}
use Rattle.line_parts.proofs.results.result_of.Goals as goal

pub returns-in_err-attempt_duration-clause-none : goal.returns-in_err-attempt_duration-clause-none
returns-in_err-attempt_duration-clause-none c =
    let first : text_at 0 c.args.words.now ≡ codes "retryable" = sym (word_at c.args.words.now 0 (record { ref_ptr = (0, 0); now = [] }) (omega (arith, c.in-len1-up.len_at_least))) ∙ (search rules) in
    let is : c.from_residual.result ≡ Err c.in_err-attempt_duration.field-0.0 = search rules in
    rw is (retryable_blamed c.args.words.now _ c.in_err-attempt_duration.field-0.0 first (others_are c.args.words.now) c.in_err-attempt_duration.ensures.none)

pub returns-then-eq-clause-value : goal.returns-then-eq-clause-value
returns-then-eq-clause-value c = (
  sym (word_at c.args.words.now 0 (record { ref_ptr = (0, 0); now = [] }) (omega (arith, c.in-len1-up.len_at_least))) ∙ (search rules),
  subst (λ ws. IsRetryable ws (c.in_ok-attempt_duration.attempt_duration, c.in_ok-attempt_duration.error)) (others_are c.args.words.now) c.in_ok-attempt_duration.ensures.value,
)

pub returns-in_err-value-clause-none : goal.returns-in_err-value-clause-none
returns-in_err-value-clause-none c =
    let same = word_at c.args.words.now 0 (record { ref_ptr = (0, 0); now = [] }) (omega (arith, c.in-len1-up.len_at_least)) in
    let other : (get_or c.args.words.now 0 (record { ref_ptr = (0, 0); now = [] })).now ≢ codes "retryable" = search rules in
    let is : c.from_residual-in_err-value.result ≡ Err c.in_err-value.field-0.0 = search rules in
    rw is (value_blamed c.args.words.now c.before_policy.result.now c.in_err-value.field-0.0 (λ e. other (same ∙ e)) c.before_policy.ensures c.in_err-value.ensures.none)
