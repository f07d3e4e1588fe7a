use Rattle.world_rounds.proofs.Completing.{completes_once_too}
use Rattle.world_rounds.specs.States.{base_of}
use Rattle.world_rounds.specs.Worlds.{setup_of}
use Rattle.world_rounds.proofs.Takeover.{one_run_over, replayable_over, rounds_over, reads_over, undisturbed_over}
use Rattle.world_rounds.proofs.laws.versions_take_over.Goals as goal

pub returns-clause-replayable : goal.returns-clause-replayable
returns-clause-replayable c = replayable_over

pub returns-clause-one_run : goal.returns-clause-one_run
returns-clause-one_run c = one_run_over

pub returns-clause-undisturbed : goal.returns-clause-undisturbed
returns-clause-undisturbed c = undisturbed_over

pub returns-clause-rounds : goal.returns-clause-rounds
returns-clause-rounds c = rounds_over

pub returns-clause-reads : goal.returns-clause-reads
returns-clause-reads c = reads_over

pub returns-clause-once : goal.returns-clause-once
returns-clause-once c = λ w m other journal. completes_once_too (setup_of w) m other (base_of w) journal
