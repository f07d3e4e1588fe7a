-- The journal that a handler can replay and that no run of it made, for a sleep of one second more: its commands can be encoded.
use Rattle.std.proofs.Common.{◌≡◌, [], refl, lit<, arith}
use Rattle.journal_attempt.specs.Encoding.{sleep_body}
use Rattle.journal_messages.specs.Message.{IsWhole}
use Rattle.wire.specs.Format.{bytes, u32s, u64s}
use Rattle.world_rounds.specs.declared.types.Setting.{Setting}
use Rattle.world_rounds.specs.Guarantees.{IsExactlyOnce, IsReplayable}
use Rattle.world_rounds.specs.Rounds.{ReplaysAndQueues}
use Rattle.world_laws.proofs.OtherTimes.{replayed_unmade}
use Rattle.world_laws.specs.Unmade.{sleep_until, sleeping_in, slept_until}
use Rattle.test_worlds.proofs.Attempts.{input, input_is_whole, slept_is_whole}

other_is_whole : IsWhole (sleep_until 2000)
unfolding sleep_body u32s u64s bytes
other_is_whole = ((lit< tt, (lit< tt, (lit< tt, ([], (refl, refl))))), lit< tt)

-- in each setting that replays and queues
unmade : (w : Setting) → ReplaysAndQueues w.options → IsReplayable (sleeping_in w) (slept_until input 2000) × (IsExactlyOnce (sleeping_in w) (slept_until input 2000) → ⊥)
unmade w replays = replayed_unmade w input 2000 replays input_is_whole slept_is_whole other_is_whole (λ (same : 2000 ≡ 1000). omega (arith, same))
