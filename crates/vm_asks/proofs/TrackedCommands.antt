-- Which commands are tracked, by cases over messages.
use Rattle.std.proofs.Common.{◌≡◌, ℕ, List, refl}
use Rattle.journal_protocol.specs.Message.{Message}
use Rattle.journal_protocol.specs.Message.TheVariants as message
use Rattle.vm_types.specs.declared.options.ImplicitCancellationOption.{ImplicitCancellationOption}
use Rattle.vm_types.specs.declared.options.ImplicitCancellationOption.TheVariants.{Disabled}
use Rattle.vm_asks.specs.TrackedCommands.{TracksNothing, TracksNothingElse}

pub others_untracked : (option : ImplicitCancellationOption) (m : Message) → TracksNothingElse option m
others_untracked option (message.Call c) = λ no_call no_send handle ts. absurd (no_call refl)
others_untracked option (message.OneWayCall c) = λ no_call no_send handle ts. absurd (no_send refl)
others_untracked option m = λ no_call no_send handle ts. refl

pub none_tracked : TracksNothing Disabled
none_tracked (message.Call c) handle ts = refl
none_tracked (message.OneWayCall c) handle ts = refl
none_tracked m handle ts = refl
