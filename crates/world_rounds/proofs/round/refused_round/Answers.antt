use Rattle.std.proofs.Common.{◌≤◌, length, arith, ap}
use Rattle.journal_entries.specs.Arrivals.{most_entries}
use Rattle.world_rounds.proofs.Keeping.{arrivals_keep}
use Rattle.world_rounds.proofs.round.refused_round.Goals as goal

pub overflow_cast-entries : goal.overflow_cast-entries
overflow_cast-entries c =
    let h : length c.arrive_all.new.journal ≤ most_entries = (arrivals_keep c.as_slice.result.now c.args.journal c.arrive_all.new.journal c.requires.entries c.in_ok-arrive_all.ensures.ok).journal.short in
    omega (arith, h, ap length c.as_slice-2.ensures.value)
