-- The bytes of an error.
use Rattle.std.specs.Prelude.{ℕ, List, [], ◌∷◌}
use Rattle.wire.specs.Format.{u32s, u64s, bytes, option, fields}
use Rattle.journal_errors.specs.declared.error_message.ErrorMessage.{ErrorMessage}
use Rattle.journal_errors.specs.declared.error.ErrorBehavior.{ErrorBehavior}
use Rattle.journal_errors.specs.declared.error.ErrorBehavior.TheVariants.{Retry, Pause, Fail}

-- one byte: 0 retry, 1 pause, 2 fail
abbrev pub behavior : ErrorBehavior → List ℕ
behavior Retry = 0 ∷ []
behavior Pause = 1 ∷ []
behavior Fail = 2 ∷ []

-- an error: code (u32), message and stacktrace (texts), behavior; then index (u32), type (u32) and
-- name (text) of the command that it relates to, and the delay of a retry in ms (u64): each of
-- these four 0, or 1 and what it is
unfoldable pub error : ErrorMessage → List ℕ
error m = fields (u32s m.code ∷ bytes m.message ∷ bytes m.stacktrace ∷ behavior m.behavior
    ∷ option u32s m.index ∷ option u32s m.ty ∷ option bytes m.name ∷ option u64s m.delay ∷ [])
