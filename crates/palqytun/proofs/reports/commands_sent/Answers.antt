use Rattle.std.proofs.Common.{◌≡◌, [], ◌∷◌, ◌++◌, sym, ap, ◌∙◌}
use Rattle.journal_entries.specs.Entries.{frame_of}
use Rattle.palqytun.proofs.Sending.{all_stored, command_next, other_next, stored_among}
use Rattle.palqytun.proofs.reports.commands_sent.Goals as goal
use Rattle.palqytun.proofs.reports.commands_sent.Goals.{then-is_command_frame+in_ok-encode+in_ok-push, else-is_command_frame}

pub loop-raw-preserved : goal.loop-raw-preserved
loop-raw-preserved c =
    elim c.if-is_command_frame.branch [
      | then-is_command_frame+in_ok-encode+in_ok-push w ↦
          let more : c.if-is_command_frame.commands.items ≡ c.loop-raw.commands.items ++ frame_of c.raw-item.result ∷ [] = cc (w.commands-is, w.in_ok-push.ensures.items, w.in_ok-encode.ensures) in
          command_next _ _ _ _ _ _ c.loop-raw.invariant c.raw-item.is c.loop-raw-test.true (sym c.is_command_frame.ensures ∙ w.if-is_command_frame.true) more
      | else-is_command_frame w ↦ rw w.commands-is (other_next _ _ _ _ _ c.loop-raw.invariant c.raw-item.is c.loop-raw-test.true (sym c.is_command_frame.ensures ∙ w.if-is_command_frame.false))
    ]

pub returns : goal.returns
returns c = all_stored _ _ c.deref-raw-items.result.now _ c.loop-raw.invariant c.loop-raw-test.false ∙ ap stored_among (c.deref-raw-items.ensures.value ∙ c.in_ok-frames.ensures)
