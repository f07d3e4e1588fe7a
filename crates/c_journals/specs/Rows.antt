-- Rows: entries of a journal as a runtime stores them.
use Rattle.std.specs.Prelude.{ℕ, false, List, length, Option, Some, None, is_some}
use Rattle.std.specs.Option.{unwrap_or}
use Rattle.journal_protocol.specs.Types.{type_number}
use Rattle.journal_store.specs.Entered.{entered_in}
use Rattle.journal_store.specs.declared.entered.Entered.{Entered}
use Rattle.c_journals.specs.declared.row.Row.{Row}
use Rattle.c_values.specs.declared.status.Status.{Status}
use Rattle.c_values.specs.Statuses.{status_number}

-- the type of an entry, the completion id that it completes, and its length; 0 and none of what is
-- no frame
abbrev pub entry_row : Option Entered → ℕ → Row
entry_row None len = record { status = 0; ty = 0; is_completion = false; completes = 0; len = len }
entry_row (Some it) len = record {
  status = 0;
  ty = type_number it.ty;
  is_completion = is_some it.completes;
  completes = unwrap_or it.completes 0;
  len = len;
}

-- an entry as a row
abbrev pub row_in : List ℕ → Row
row_in entry = entry_row (entered_in entry) (length entry)

-- no row, and why
abbrev pub no_row : Status → Row
no_row status =
    record { status = status_number status; ty = 0; is_completion = false; completes = 0; len = 0 }
