-- `==` of starts and of futures says whether they are the same.
use Rattle.std.specs.Prelude.{refl}
use Rattle.std.specs.Cmp.Lexicographic.{bytes_decides, pointwise_decides}
use Rattle.std.proofs.lemmas.Bool.Decides.{Decides-eqb}
use Rattle.wire.specs.Same.{Exact, exact_pair, exact_on, exact_bool, exact_option}
use Rattle.journal_attempt.specs.contracts.start.StartPartialEq.TheImpl as starts
use Rattle.journal_attempt.specs.contracts.future.FutureKindPartialEq.TheImpl as kinds
use Rattle.journal_attempt.specs.contracts.future.FutureNodePartialEq.TheImpl as nodes
use Rattle.journal_attempt.specs.contracts.future.FuturePartialEq.TheImpl as futures
use Rattle.journal_attempt.specs.declared.future.FutureKind.TheVariants.{FirstCompleted, AllCompleted, FirstSucceededOrAllFailed, AllSucceededOrFirstFailed, Unknown}

pub start_exact : Exact (starts.ghosts).eq
start_exact = exact_on
    (λ s. (
      s.id,
      (
        s.debug_id,
        (
          s.key,
          (
            s.known_entries,
            (
              s.state,
              (
                s.partial,
                (
                  s.retry_count,
                  (
                    s.duration,
                    (s.random_seed, (s.scope, (s.limit_key, s.idempotency_key))),
                  ),
                ),
              ),
            ),
          ),
        ),
      ),
    ))
    (λ (
      id,
      (
        debug_id,
        (
          key,
          (
            known_entries,
            (
              state,
              (
                partial,
                (
                  retry_count,
                  (duration, (random_seed, (scope, (limit_key, idempotency_key)))),
                ),
              ),
            ),
          ),
        ),
      ),
    ).
    record {
      id = id;
      debug_id = debug_id;
      key = key;
      known_entries = known_entries;
      state = state;
      partial = partial;
      retry_count = retry_count;
      duration = duration;
      random_seed = random_seed;
      scope = scope;
      limit_key = limit_key;
      idempotency_key = idempotency_key;
    })
    (λ _. refl)
    (exact_pair bytes_decides
    (exact_pair bytes_decides
    (exact_pair bytes_decides
    (exact_pair Decides-eqb
    (exact_pair (pointwise_decides (exact_pair bytes_decides bytes_decides))
    (exact_pair exact_bool (exact_pair Decides-eqb
    (exact_pair Decides-eqb (exact_pair Decides-eqb
    (exact_pair (exact_option bytes_decides)
    (exact_pair (exact_option bytes_decides) (exact_option bytes_decides))))))))))))

pub kind_exact : Exact (kinds.ghosts).eq
kind_exact FirstCompleted FirstCompleted = (λ _. refl, λ _. refl)
kind_exact AllCompleted AllCompleted = (λ _. refl, λ _. refl)
kind_exact FirstSucceededOrAllFailed FirstSucceededOrAllFailed = (λ _. refl, λ _. refl)
kind_exact AllSucceededOrFirstFailed AllSucceededOrFirstFailed = (λ _. refl, λ _. refl)
kind_exact Unknown Unknown = (λ _. refl, λ _. refl)
kind_exact _ _ = (λ e. absurd cc, λ e. absurd cc)

pub node_exact : Exact (nodes.ghosts).eq
node_exact = exact_on
    (λ n. (
      n.kind,
      (
        n.waiting_completions,
        (n.waiting_signals, (n.waiting_named_signals, n.nested)),
      ),
    ))
    (λ (kind, (waiting_completions, (waiting_signals, (waiting_named_signals, nested)))).
    record {
      kind = kind;
      waiting_completions = waiting_completions;
      waiting_signals = waiting_signals;
      waiting_named_signals = waiting_named_signals;
      nested = nested;
    })
    (λ _. refl)
    (exact_pair kind_exact (exact_pair bytes_decides
    (exact_pair bytes_decides (exact_pair (pointwise_decides bytes_decides) Decides-eqb))))

pub future_exact : Exact (futures.ghosts).eq
future_exact = pointwise_decides node_exact
