use Rattle.std.proofs.Common.{codes, rules, arith, subst}
use Rattle.std.proofs.lemmas.Grind.{common_steps}
use Rattle.lines.specs.Fields.{IsOptional, texts_named}
use Rattle.line_parts.specs.Targets.{HasCallOptions}
use Rattle.lines.specs.Durations.{IsTime}
use Rattle.call_lines.proofs.Calling.{is_send}
use Rattle.call_lines.proofs.callees.send_line.Goals as goal

pub returns-clause-value : goal.returns-clause-value
returns-clause-value c =
    rw c.in_ok-new.ensures (is_send c.args.arguments.now c.in_ok-callee.rest.now c.in_ok-words.words.items c.in_ok-callee.callee.service c.in_ok-callee.callee.handler c.in_ok-callee.callee.input c.in_ok-target.target c.in_ok-execution_time_since_unix_epoch.execution_time_since_unix_epoch c.in_ok-target.name c.in_ok-words.options
    c.in_ok-callee.ensures.callee c.in_ok-target.ensures.service c.in_ok-target.ensures.handler c.in_ok-callee.ensures.rest c.in_ok-words.ensures.others c.in_ok-words.ensures.flag
    (subst (λ ws. IsOptional IsTime (texts_named (codes "at=") ws) c.in_ok-execution_time_since_unix_epoch.execution_time_since_unix_epoch) c.as_slice-2.ensures.value c.in_ok-execution_time_since_unix_epoch.ensures.value)
    (subst (λ ws. HasCallOptions ws (c.in_ok-target.target, c.in_ok-target.name)) c.as_slice-3.ensures.value c.in_ok-target.ensures.options)
    (first_of (search rules, grind (arith, common_steps))))
