use Rattle.std.proofs.Common.{◌≡◌, [], ◌∷◌, take}
use Rattle.std.specs.Prelude.{MatchOption}
use Rattle.lines.specs.Fields.{texts_named}
use Rattle.lines.proofs.fields.field_of.Given as goal

abbrev pub invariant-loop-word : goal.invariant-loop-word
invariant-loop-word l = MatchOption l.found (texts_named l.name (take l.word-index l.words) ≡ []) (λ text. texts_named l.name (take l.word-index l.words) ≡ text.now ∷ [])
