-- Results that C gives.
use Rattle.std.specs.Prelude.{ℕ, if◌then◌else◌, List, [], ◌∷◌, map}
use Rattle.std.specs.List.{flat_map}
use Rattle.vm_types.specs.declared.values.NonEmptyValue.{NonEmptyValue}
use Rattle.vm_types.specs.declared.values.NonEmptyValue.TheVariants.{Success, Failure}
use Rattle.vm_types.specs.declared.values.TerminalFailure.{TerminalFailure}
use Rattle.c_calls.specs.declared.values.GivenValue.{GivenValue}
use Rattle.c_calls.specs.Given.{pair_of, texts_of_pair}

-- the failure, of its code, message and metadata
abbrev pub given_failure : GivenValue → TerminalFailure
given_failure given = record {
  code = given.code;
  message = given.lent.bytes.now;
  metadata = map pair_of given.metadata.now;
}

-- bytes, or a failure
abbrev pub given_value : GivenValue → NonEmptyValue
given_value given =
    if given.is_failure then Failure (given_failure given) else Success given.lent.bytes.now

-- the failure's texts
abbrev pub texts_of_failure : GivenValue → List (List ℕ)
texts_of_failure given = given.lent.bytes.now ∷ flat_map texts_of_pair given.metadata.now

-- the texts that have to be UTF-8: those of a failure
abbrev pub texts_of_value : GivenValue → List (List ℕ)
texts_of_value given = if given.is_failure then texts_of_failure given else []
