-- `==` of errors says whether they are the same.
use Rattle.std.specs.Prelude.{refl}
use Rattle.std.specs.Cmp.Lexicographic.{bytes_decides}
use Rattle.std.proofs.lemmas.Bool.Decides.{Decides-eqb}
use Rattle.wire.specs.Same.{Exact, exact_pair, exact_on, exact_option}
use Rattle.journal_errors.specs.contracts.error.ErrorBehaviorPartialEq.TheImpl as behaviors
use Rattle.journal_errors.specs.contracts.error_message.ErrorMessagePartialEq.TheImpl as error_messages
use Rattle.journal_errors.specs.declared.error.ErrorBehavior.TheVariants.{Retry, Pause, Fail}

pub behavior_exact : Exact (behaviors.ghosts).eq
behavior_exact Retry Retry = (λ _. refl, λ _. refl)
behavior_exact Pause Pause = (λ _. refl, λ _. refl)
behavior_exact Fail Fail = (λ _. refl, λ _. refl)
behavior_exact _ _ = (λ e. absurd cc, λ e. absurd cc)

pub error_exact : Exact (error_messages.ghosts).eq
error_exact = exact_on
    (λ m. (m.code, (m.message, (m.stacktrace, (m.behavior, (m.index, (m.ty, (m.name, m.delay))))))))
    (λ (code, (message, (stacktrace, (behavior, (index, (ty, (name, delay))))))).
    record {
      code = code;
      message = message;
      stacktrace = stacktrace;
      behavior = behavior;
      index = index;
      ty = ty;
      name = name;
      delay = delay;
    })
    (λ _. refl)
    (exact_pair Decides-eqb (exact_pair bytes_decides
    (exact_pair bytes_decides
    (exact_pair behavior_exact
    (exact_pair (exact_option Decides-eqb) (exact_pair (exact_option Decides-eqb)
    (exact_pair (exact_option bytes_decides) (exact_option Decides-eqb))))))))
