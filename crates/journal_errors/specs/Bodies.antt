-- The format of an error's body.
use Rattle.std.specs.Prelude.{◌≡◌, refl}
use Rattle.wire.specs.Format.{Format}
use Rattle.wire.specs.Forms.{u32_format, u64_format, text_format, pair_format, option_format, via, spelled}
use Rattle.journal_errors.specs.Encoding.{error}
use Rattle.journal_errors.specs.Parts.{behavior_format}
use Rattle.journal_errors.specs.declared.error_message.ErrorMessage.{ErrorMessage}

-- ---- error

-- an error as nested pairs of its eight fields, in the order in which they are encoded
abbrev pub error_by_parts : Format ErrorMessage
error_by_parts = via (λ m.
    (m.code, (m.message, (m.stacktrace, (m.behavior, (m.index, (m.ty, (m.name, m.delay))))))))
    (λ (code, (message, (stacktrace, (behavior, (index, (ty, (name, delay))))))).
    record {
      code = code;
      message = message;
      stacktrace = stacktrace;
      behavior = behavior;
      index = index;
      ty = ty;
      name = name;
      delay = delay;
    }) (λ _. refl) (λ _. refl)
    (pair_format u32_format (pair_format text_format
    (pair_format text_format
    (pair_format behavior_format
    (pair_format (option_format u32_format) (pair_format (option_format u32_format)
    (pair_format (option_format text_format) (option_format u64_format))))))))

pub error_same : (m : ErrorMessage) → error m ≡ (error_by_parts).spelling m
unfolding error
error_same m = refl

-- the format of an error's body: code (u32), message and stacktrace (texts), behavior (retry, pause
-- or fail), and index (u32), type (u32), name (text) and delay (u64), each of which may be absent
abbrev pub error_format : Format ErrorMessage
error_format = spelled error error_by_parts error_same
