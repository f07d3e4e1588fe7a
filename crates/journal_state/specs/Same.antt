-- `==` of what stands under a key says whether it is the same.
use Rattle.std.specs.Prelude.{refl}
use Rattle.std.specs.Cmp.Lexicographic.{bytes_decides}
use Rattle.std.proofs.Common.{ap}
use Rattle.wire.specs.Same.{Exact}
use Rattle.journal_state.specs.declared.state.VoidOrValue.TheVariants as state
use Rattle.journal_state.specs.contracts.state.VoidOrValuePartialEq.TheImpl as states

pub void_or_value_exact : Exact (states.ghosts).eq
void_or_value_exact state.Void state.Void = (λ _. refl, λ _. refl)
void_or_value_exact (state.Value x) (state.Value y) =
    (λ e. ap state.Value ((bytes_decides x y).0 e), λ e. (bytes_decides x y).1 cc)
void_or_value_exact _ _ = (λ e. absurd cc, λ e. absurd cc)
