use Rattle.std.proofs.Common.{◌≡◌, [], codes, get_or, sym, ◌∙◌, subst, rules, arith}
use Rattle.call_lines.specs.Lines.{IsContentType}
use Rattle.line_parts.specs.VmOptions.{AreOptions}
use Rattle.lines.proofs.Places.{behind_is, word_at}
use Rattle.call_lines.proofs.parse.make_of_words.Goals as goal

pub returns-clause-value : goal.returns-clause-value
returns-clause-value c =
    let named : (get_or c.args.words.now 0 (record { ref_ptr = (0, 0); now = [] })).now ≡ codes "vm" = search rules in record {
      name = sym (word_at c.args.words.now 0 (record { ref_ptr = (0, 0); now = [] }) (omega (arith, c.in-len2-up.len_at_least))) ∙ named;
      content_type = subst (λ t. IsContentType t c.in_ok-content_type.content_type) (word_at c.args.words.now 1 (record { ref_ptr = (0, 0); now = [] }) (omega (arith, c.in-len2-up.len_at_least))) c.in_ok-content_type.ensures.value;
      options = subst (λ ws. AreOptions ws c.in_ok-options.options) (behind_is 2 c.args.words.now) c.in_ok-options.ensures.value;
    }
