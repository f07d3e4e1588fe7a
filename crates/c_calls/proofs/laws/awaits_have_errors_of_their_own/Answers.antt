use Rattle.c_calls.proofs.Awaiting.{handle_refuses, nodes_refuse}
use Rattle.c_calls.proofs.laws.awaits_have_errors_of_their_own.Goals as goal

pub returns-clause-handle : goal.returns-clause-handle
returns-clause-handle c = handle_refuses

pub returns-clause-nodes : goal.returns-clause-nodes
returns-clause-nodes c = nodes_refuse
