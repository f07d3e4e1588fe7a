use Rattle.std.proofs.Common.{◌≡◌, ◌<◌, Err, length, subst, arith, rules}
use Rattle.std.proofs.lemmas.Grind.{common_steps}
use Rattle.lines.specs.Readings.{Blames}
use Rattle.lines.specs.Words.{text_at}
use Rattle.frame_values.proofs.Refusing.{first_blamed, no_pair_blamed}
use Rattle.frame_values.proofs.value.pair_of.Goals as goal

pub returns-in_err-words-clause-none : goal.returns-in_err-words-clause-none
returns-in_err-words-clause-none g c =
    let failed : c.from_residual.result ≡ Err c.in_err-words.field-0.0 = search rules in
    rw failed (λ a b. no_pair_blamed g.A.Value.notation.Says g.B.Value.notation.Says c.args.text.now _ c.in_err-words.ensures.none)

pub returns-in_err-first-clause-none : goal.returns-in_err-first-clause-none
returns-in_err-first-clause-none g c =
    let failed : c.from_residual-in_err-first.result ≡ Err c.in_err-first.field-0.0 = search rules in
    let some : 0 < length c.as_slice.result.now = first_of (search rules, grind (arith, common_steps)) in
    let none = c.in_err-first.ensures.none in
    rw failed (λ a b. first_blamed g.A.Value.notation.Says g.B.Value.notation.Says c.args.text.now _ c.in_ok-words.words.items c.in_ok-words.ensures.words
    (subst (λ ws. Blames (g.A.Value.notation.Says (text_at 0 ws)) c.in_err-first.field-0.0) c.as_slice.ensures.value (none a some)))

pub returns-in-Ok-clause-value : goal.returns-in-Ok-clause-value
returns-in-Ok-clause-value g c =
    let two : length c.in_ok-words.words.items ≡ 2 = first_of (search rules, grind (arith, common_steps)) in
    record {
      words = c.in_ok-words.words.items;
      are_words = c.in_ok-words.ensures.words;
      are_two = two;
      is_first = subst (λ ws. g.A.Value.notation.Says (text_at 0 ws) c.in_ok-first.first) c.as_slice.ensures.value c.in_ok-first.ensures.value;
      is_second = subst (λ ws. g.B.Value.notation.Says (text_at 1 ws) c.in-Ok.second) c.as_slice-2.ensures.value c.in-Ok.ensures.value;
    }
