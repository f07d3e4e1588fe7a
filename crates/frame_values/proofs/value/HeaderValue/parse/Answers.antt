use Rattle.frame_values.proofs.value.HeaderValue.parse.Goals as goal

pub returns-in-Err-clause-none : goal.returns-in-Err-clause-none
returns-in-Err-clause-none c = λ exact. record { nothing = λ bad h says. (c.in-Err.ensures.none tt tt).nothing bad (h.key, h.value) says }
