-- What a stored row asks for, as numbers. Where the engine has an effect for its command, they are
-- that effect's (`effect_of`).
use Rattle.std.specs.Prelude.{ℕ, if◌then◌else◌, Bool, true, false, List, Option, Some, None, is_some}
use Rattle.std.specs.Option.{unwrap_or}
use Rattle.journal_protocol.specs.Message.{Message}
use Rattle.journal_protocol.specs.Message.TheVariants as message
use Rattle.journal_store.specs.declared.effect.Effect.{Effect}
use Rattle.journal_store.specs.declared.effect.Effect.TheVariants as effect
use Rattle.journal_store.specs.Effects.{effect_of}
use Rattle.c_values.specs.declared.numbers.FrameRow.{FrameRow}
use Rattle.c_values.specs.Messages.{message_at, message_row}
use Rattle.c_values.specs.declared.status.Status.{Status}
use Rattle.c_values.specs.declared.status.Status.TheVariants as status
use Rattle.c_values.specs.Statuses.{status_number}
use Rattle.c_journals.specs.declared.effect.EffectKind.{EffectKind}
use Rattle.c_journals.specs.declared.effect.EffectKind.TheVariants as kind
use Rattle.c_journals.specs.declared.effect.EffectRow.{EffectRow}

-- the number of each kind
abbrev pub kind_number : EffectKind → ℕ
kind_number kind.Nothing = 0
kind_number kind.Begin = 1
kind_number kind.Wait = 2
kind_number kind.Send = 3
kind_number kind.Result = 4
kind_number kind.Command = 5

-- it isn't known what is asked for, and why
abbrev pub no_effect : Status → EffectRow
no_effect why = record {
  status = status_number why;
  kind = 0;
  is_awaited = false;
  completes = 0;
  id_completes = 0;
  target = 0;
  time = 0;
  headers = 0;
}

-- this is asked for, and this completion id is completed by what comes of it
abbrev pub asking_row : EffectKind → ℕ → EffectRow
asking_row asks completes = record {
  status = 0;
  kind = kind_number asks;
  is_awaited = false;
  completes = completes;
  id_completes = 0;
  target = 0;
  time = 0;
  headers = 0;
}

-- an effect that the engine has, with the number of headers of a call
abbrev pub engine_row : Effect → ℕ → EffectRow
engine_row (effect.Begin b) headers = record {
  status = 0;
  kind = kind_number kind.Begin;
  is_awaited = is_some b.result_completes;
  completes = unwrap_or b.result_completes 0;
  id_completes = b.id_completes;
  target = 0;
  time = b.begins;
  headers = headers;
}
engine_row (effect.Wait timer) headers =
    record (asking_row kind.Wait timer.completes) { time = timer.due }
engine_row (effect.Send sent) headers = asking_row kind.Send 0
engine_row (effect.Result ends) headers = asking_row kind.Result 0

-- a message for which the engine has no effect asks for something itself: all but these do
abbrev pub is_asking : Message → Bool
is_asking (message.Input m) = false
is_asking (message.GetEagerState m) = false
is_asking (message.GetEagerStateKeys m) = false
is_asking (message.CompleteAwakeable m) = false
is_asking (message.Run m) = false
is_asking (message.Notification m) = false
is_asking m = true

-- what a message with these numbers asks for itself
abbrev pub own_row : Message → FrameRow → EffectRow
own_row m numbers =
    if is_asking m then record (asking_row kind.Command numbers.id) { target = numbers.kind }
    else asking_row kind.Nothing 0

-- what a message with these numbers asks for: the effect that the engine has for it, or its own
abbrev pub asked_row : Option Effect → Message → FrameRow → EffectRow
asked_row (Some e) m numbers = engine_row e numbers.rows
asked_row None m numbers = own_row m numbers

-- what a message asks for, if there is one
abbrev pub asked_of : Option Message → EffectRow
asked_of None = no_effect status.NotAFrame
asked_of (Some m) = asked_row (effect_of m) m (message_row (Some m))

-- what an entry asks for
abbrev pub effect_row : List ℕ → EffectRow
effect_row entry = asked_of (message_at entry)
