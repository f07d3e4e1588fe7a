-- Whose errors the reports of rounds tell: each is its attempt's own, or that of the attempt's
-- making.
use Rattle.std.specs.Prelude.{◌≡◌, ◌⊎◌, ℕ, List, [], ◌∷◌, Some, None}
use Rattle.std.proofs.Common.{inl, inr}
use Rattle.journal_protocol.specs.Error.{Error}
use Rattle.invocation_vm.specs.Making.{supported}
use Rattle.vm_model.specs.Calls.{Meaning}
use Rattle.vm_attempt.specs.Attempts.{IsItsOwn}
use Rattle.world_rounds.specs.declared.types.Event.{Event}
use Rattle.world_rounds.specs.declared.types.Round.{Round}
use Rattle.world_rounds.specs.declared.types.Setting.{Setting}
use Rattle.world_rounds.specs.Worlds.{fixed_in}
use Rattle.world_rounds.specs.Rounds.{Happen, IsRefusal, Now, ReportView, RoundDoes, RoundsDo, begin}

-- On this course of a round's events: the event that brought the round's error brought this one,
-- and right after it the error is the attempt's own: out of memory, input that was closed too
-- early, a call's own refusal after the recorded commands, or what the VM returned for a run's
-- result that was reported. It is out of memory, or one of the attempt's calls brought it.
abbrev pub BringsOwn : (m : Meaning) (w : Setting) (events : List Event) (begun end : Now)
    → Happen m events begun end → Error → Type 0
BringsOwn m w [] begun end h e = ⊥
BringsOwn m w (v ∷ es) begun end (mid, happens, others) e =
    ((begun.error ≡ None) × (mid.error ≡ Some e) × IsItsOwn (fixed_in m w) mid.attempt e)
    ⊎ BringsOwn m w es mid end others e

-- The error of a round, if it has one, is its attempt's own; or, if no attempt was made, why.
abbrev pub OwnOf : (m : Meaning) (w : Setting) (round : Round) (old : List (List ℕ))
    (report : ReportView) (new : List (List ℕ)) → RoundDoes m w round old report new → Type 0
OwnOf m w round old report new (inl d) = (e : Error) → report.error ≡ Some e
    → BringsOwn m w round.events (begin d.alloc w round old) d.ran.now d.ran.happen e
OwnOf m w round old report new (inr d) = (e : Error) → report.error ≡ Some e
    → IsRefusal (supported w.version) e

-- so it is in each of the rounds
abbrev pub AreOwn : (m : Meaning) (w : Setting) (rounds : List Round) (old : List (List ℕ))
    (reports : List ReportView) (new : List (List ℕ)) → RoundsDo m w rounds old reports new → Type 0
AreOwn m w [] old reports new d = Unit {0}
AreOwn m w (r ∷ rs) old reports new (mid, report, more, is, does, others) = OwnOf m w r old report
    mid does × AreOwn m w rs mid more new others
