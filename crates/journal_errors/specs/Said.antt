-- The text of an error.
use Rattle.std.specs.Prelude.{ℕ, List, string_bytes}
use Rattle.journal_errors.specs.declared.said.Said.TheInside.{Inside}
use Rattle.journal_errors.specs.declared.said.Source.{Source}
use Rattle.journal_errors.specs.declared.said.Source.TheVariants.{Fixed, Own}

-- the bytes of a text of the program's, or of one of the error's own
abbrev pub source_text : Source → List ℕ
source_text (Fixed s) = s.now
source_text (Own s) = string_bytes s

-- what contracts see of a text: its bytes, wherever it comes from
abbrev pub said : Inside → List ℕ
said i = source_text i.text
