use Rattle.std.proofs.Common.{◌≡◌, List, ℕ, ◌∷◌, [], ◌++◌, true, sym, subst, ◌∙◌}
use Rattle.engine_inboxes.specs.Deliverable.{CommandFaults, Commanded, Deliverable, Entered, EntryFaults, IsProposedApart, IsUnwaited, MayBeStored, completes_waited}
use Rattle.engine_inboxes.proofs.Coming.{command_apart, command_entered, command_faults, command_stays, entry_stays, if_err_then, on_ok_then, other_entered, proposal_faults}
use Rattle.engine_inboxes.proofs.inbox.Inbox.stored.Goals as goal

pub returns-in-Some-clause-ok : goal.returns-in-Some-clause-ok
returns-in-Some-clause-ok c = on_ok_then c.commanded.result (Commanded c.in-Some.command c.args.self.now.waiting.items c.args.self.now.next c.commanded.new.inbox.waiting.items c.commanded.new.inbox.next)
    ((journal : List (List ℕ)) → MayBeStored c.args.entry.now journal → Deliverable journal c.args.self.now.waiting.items c.args.self.now.next → Deliverable (journal ++ c.args.entry.now ∷ []) c.commanded.new.inbox.waiting.items c.commanded.new.inbox.next)
    (λ h journal may d. command_stays journal c.args.entry.now c.in-Some.command c.args.self.now.waiting.items c.args.self.now.next c.commanded.new.inbox.waiting.items c.commanded.new.inbox.next (sym c.in-Ok.ensures ∙ c.in-Some.is) h d)
    c.commanded.ensures.ok

pub returns-clause-ok : goal.returns-clause-ok
returns-clause-ok c = λ journal may d. entry_stays journal c.args.entry.now c.args.self.now.waiting.items c.args.self.now.next (sym c.in-Ok.ensures ∙ c.in-None.is)
    (subst (λ o. IsUnwaited o c.args.self.now.waiting.items) c.in-Ok-note_in.ensures (subst (λ l. IsUnwaited c.in-Ok-note_in.note l) c.as_slice.ensures.value c.in-Ok-proposed.ensures.ok)) may d

pub returns-in-Some-clause-entered : goal.returns-in-Some-clause-entered
returns-in-Some-clause-entered c = on_ok_then c.commanded.result (Commanded c.in-Some.command c.args.self.now.waiting.items c.args.self.now.next c.commanded.new.inbox.waiting.items c.commanded.new.inbox.next)
    (Entered c.args.entry.now c.args.self.now.waiting.items c.args.self.now.next c.commanded.new.inbox.waiting.items c.commanded.new.inbox.next)
    (command_entered c.args.entry.now c.in-Some.command c.args.self.now.waiting.items c.args.self.now.next c.commanded.new.inbox.waiting.items c.commanded.new.inbox.next (sym c.in-Ok.ensures ∙ c.in-Some.is))
    c.commanded.ensures.ok

pub returns-clause-entered : goal.returns-clause-entered
returns-clause-entered c = other_entered c.args.entry.now c.args.self.now.waiting.items c.args.self.now.next (sym c.in-Ok.ensures ∙ c.in-None.is)

pub returns-in-Some-clause-apart : goal.returns-in-Some-clause-apart
returns-in-Some-clause-apart c = command_apart c.commanded.result c.args.entry.now c.in-Some.command c.args.self.now.waiting.items (sym c.in-Ok.ensures ∙ c.in-Some.is)

pub returns-clause-apart : goal.returns-clause-apart
returns-clause-apart c = λ said. subst (λ o. IsUnwaited o c.args.self.now.waiting.items) c.in-Ok-note_in.ensures (subst (λ l. IsUnwaited c.in-Ok-note_in.note l) c.as_slice.ensures.value c.in-Ok-proposed.ensures.ok)

pub returns-in-Some-clause-err : goal.returns-in-Some-clause-err
returns-in-Some-clause-err c = if_err_then c.commanded.result (CommandFaults c.in-Some.command c.args.self.now.next) (EntryFaults c.args.entry.now c.args.self.now.waiting.items c.args.self.now.next)
    (command_faults c.args.entry.now c.in-Some.command c.args.self.now.waiting.items c.args.self.now.next (sym c.in-Ok.ensures ∙ c.in-Some.is))
    c.commanded.ensures.err

pub returns-in-Err-proposed-clause-err : goal.returns-in-Err-proposed-clause-err
returns-in-Err-proposed-clause-err c = proposal_faults c.args.entry.now c.args.self.now.waiting.items c.args.self.now.next (sym c.in-Ok.ensures ∙ c.in-None.is)
    (subst (λ o. completes_waited o c.args.self.now.waiting.items ≡ true) c.in-Ok-note_in.ensures (subst (λ l. completes_waited c.in-Ok-note_in.note l ≡ true) c.as_slice.ensures.value c.in-Err-proposed.ensures.err.1))
    c.in-Err-proposed.fault c.in-Err-proposed.ensures.err.0
