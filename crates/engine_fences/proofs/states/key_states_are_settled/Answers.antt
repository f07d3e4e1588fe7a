use Rattle.engine_fences.proofs.HandingOn.{states_handed_on}
use Rattle.engine_fences.proofs.Settling.{settled}
use Rattle.engine_fences.proofs.states.key_states_are_settled.Goals as goal

pub returns : goal.returns
returns g c = record {
  settled = λ kept events new d. settled (λ h. g.H.Handler.meaning h) events c.args.engine.now new kept d;
  handed = λ none events new d. states_handed_on (λ h. g.H.Handler.meaning h) events c.args.engine.now new none d;
}
