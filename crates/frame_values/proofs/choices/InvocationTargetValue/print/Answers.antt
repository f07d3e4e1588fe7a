use Rattle.frame_values.proofs.choices.InvocationTargetValue.print.Goals as goal

pub returns-in-WorkflowId : goal.returns-in-WorkflowId
returns-in-WorkflowId c = rw c.in-WorkflowId.is c.print_bracketed.ensures
