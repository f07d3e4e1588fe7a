use Rattle.std.proofs.Common.{◌≡◌, ◌/◌, ap, refl, ◌∙◌}
use Rattle.std.specs.Duration.{as_nanos}
use Rattle.vm_asks.specs.Asks.{ask_of, attach_invocation_command, call_command, clear_all_state_command, clear_state_command, get_invocation_output_command, millis_of, name_in, send_command, set_state_command, sleep_command}
use Rattle.vm_asks.specs.declared.asks.AnswerKind.TheVariants as kind
use Rattle.vm_asks.specs.declared.asks.Ask.TheVariants as ask
use Rattle.vm_asks.proofs.AskedCommands.{asks_one, asks_two}
use Rattle.vm_asks.proofs.asks.ask_of.Goals as goal

pub returns-in-Sleep-clause-ask : goal.returns-in-Sleep-clause-ask
returns-in-Sleep-clause-ask c = asks_one c.args.version _ _ _ _ (c.sleep.ensures) c.in-Sleep.is refl

pub returns-in-CompleteAwakeable-clause-ask : goal.returns-in-CompleteAwakeable-clause-ask
returns-in-CompleteAwakeable-clause-ask c = asks_one c.args.version _ _ _ _ (c.complete_awakeable.ensures) c.in-CompleteAwakeable.is refl

pub returns-in-CompleteSignal-clause-ask : goal.returns-in-CompleteSignal-clause-ask
returns-in-CompleteSignal-clause-ask c = asks_one c.args.version _ _ _ _ (c.complete_signal.ensures) c.in-CompleteSignal.is refl

pub returns-in-CancelInvocation-clause-ask : goal.returns-in-CancelInvocation-clause-ask
returns-in-CancelInvocation-clause-ask c = asks_one c.args.version _ _ _ _ (c.cancel_invocation.ensures) c.in-CancelInvocation.is refl

pub returns-in-GetPromise-clause-ask : goal.returns-in-GetPromise-clause-ask
returns-in-GetPromise-clause-ask c = asks_one c.args.version _ _ _ _ (c.get_promise.ensures) c.in-GetPromise.is refl

pub returns-in-PeekPromise-clause-ask : goal.returns-in-PeekPromise-clause-ask
returns-in-PeekPromise-clause-ask c = asks_one c.args.version _ _ _ _ (c.peek_promise.ensures) c.in-PeekPromise.is refl

pub returns-in-CompletePromise-clause-ask : goal.returns-in-CompletePromise-clause-ask
returns-in-CompletePromise-clause-ask c = asks_one c.args.version _ _ _ _ (c.complete_promise.ensures) c.in-CompletePromise.is refl

pub returns-in-Run-clause-ask : goal.returns-in-Run-clause-ask
returns-in-Run-clause-ask c = asks_one c.args.version _ _ _ _ (c.run.ensures) c.in-Run.is refl

pub returns-in-WriteOutput-clause-ask : goal.returns-in-WriteOutput-clause-ask
returns-in-WriteOutput-clause-ask c = asks_one c.args.version _ _ _ _ (c.output.ensures) c.in-WriteOutput.is refl

pub returns-in-StateSet-clause-ask : goal.returns-in-StateSet-clause-ask
returns-in-StateSet-clause-ask c = asks_one c.args.version _ _ _ _ (c.set_state.ensures ∙ ap (λ n. set_state_command c.in-StateSet.key c.in-StateSet.value n c.in-StateSet.options) c.name_in.ensures) c.in-StateSet.is refl

pub returns-in-StateClear-clause-ask : goal.returns-in-StateClear-clause-ask
returns-in-StateClear-clause-ask c = asks_one c.args.version _ _ _ _ (c.clear_state.ensures ∙ ap (clear_state_command c.in-StateClear.key) c.name_in-in-StateClear.ensures) c.in-StateClear.is refl

pub returns-in-StateClearAll-clause-ask : goal.returns-in-StateClearAll-clause-ask
returns-in-StateClearAll-clause-ask c = asks_one c.args.version _ _ _ _ (c.clear_all_state.ensures ∙ ap clear_all_state_command c.name_in-in-StateClearAll.ensures) c.in-StateClearAll.is refl

pub returns-in-Call-clause-ask : goal.returns-in-Call-clause-ask
returns-in-Call-clause-ask c =
    let input = c.in-Call.input in
    let options = c.in-Call.options in
    let version = c.args.version in
    let made = c.call.ensures
    ∙ ap (λ n. call_command c.into_inner.result input n options version) c.name_in-name-in-Call.ensures
    ∙ ap (λ t. call_command t input (name_in c.in-Call.name) options version) c.into_inner.ensures in
    asks_one version _ _ _ _ made c.in-Call.is refl

pub returns-in-Send-clause-ask : goal.returns-in-Send-clause-ask
returns-in-Send-clause-ask c =
    let input = c.in-Send.input in
    let options = c.in-Send.options in
    let version = c.args.version in
    let millis = millis_of c.in-Send.execution_time_since_unix_epoch in
    let made = c.send.ensures
    ∙ ap (λ n. send_command c.into_inner-target-in-Send.result input millis n options version) c.name_in-name-in-Send.ensures
    ∙ ap (λ t. send_command t input millis (name_in c.in-Send.name) options version) c.into_inner-target-in-Send.ensures in
    asks_one version _ _ _ _ made c.in-Send.is refl

pub returns-in-AttachInvocation-clause-ask : goal.returns-in-AttachInvocation-clause-ask
returns-in-AttachInvocation-clause-ask c = asks_one c.args.version _ _ _ _ (c.attach_invocation.ensures ∙ ap (λ t. attach_invocation_command t c.args.version) c.into_inner-in-AttachInvocation.ensures) c.in-AttachInvocation.is refl

pub returns-in-GetInvocationOutput-clause-ask : goal.returns-in-GetInvocationOutput-clause-ask
returns-in-GetInvocationOutput-clause-ask c = asks_one c.args.version _ _ _ _ (c.get_invocation_output.ensures ∙ ap (λ t. get_invocation_output_command t c.args.version) c.into_inner-in-GetInvocationOutput.ensures) c.in-GetInvocationOutput.is refl

pub returns-in-CallWithDeadline-clause-ask : goal.returns-in-CallWithDeadline-clause-ask
returns-in-CallWithDeadline-clause-ask c =
    let input = c.in-CallWithDeadline.input in
    let options = c.in-CallWithDeadline.options in
    let name = name_in c.in-CallWithDeadline.name in
    let millis = as_nanos c.in-CallWithDeadline.wake_up_time_since_unix_epoch / 1000000 in
    let first = c.call-call.ensures
    ∙ ap (λ n. call_command c.into_inner-target.result input n options c.args.version) c.name_in-name-in-CallWithDeadline.ensures
    ∙ ap (λ t. call_command t input name options c.args.version) c.into_inner-target.ensures in
    let second = c.sleep-deadline.ensures ∙ ap (sleep_command millis) c.empty.ensures in
    asks_two c.args.version _ _ kind.CallWithDeadline _ _ _ _ first second c.in-CallWithDeadline.is refl
