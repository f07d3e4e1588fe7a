-- The format of what stands under a key.
use Rattle.std.specs.Prelude.{refl}
use Rattle.wire.specs.Format.{Format, Reading, IsReadBack, IsSpelled, read_as, read_nothing, read_byte, read_if_number, read_no_case, read_case}
use Rattle.wire.specs.Forms.{case_reads, case_is, cases_are, no_case_is, nothing_format, bytes_format}
use Rattle.journal_state.specs.Encoding.{void_or_value}
use Rattle.journal_state.specs.declared.state.VoidOrValue.{VoidOrValue}
use Rattle.journal_state.specs.declared.state.VoidOrValue.TheVariants as state

-- ---- nothing or a value

-- void; or a value of fewer than 2 ^ 64 bytes
abbrev pub void_or_value_valid : VoidOrValue → Type 0
void_or_value_valid state.Void = Unit {0}
void_or_value_valid (state.Value bs) = bytes_format.valid bs

-- 0 is void, 1 and bytes are a value; none if another byte stands in front or the bytes end before
unfoldable pub read_void_or_value : Reading VoidOrValue
read_void_or_value = read_case (
    read_if_number 0 (read_as (λ _. state.Void) read_nothing) (
    read_if_number 1 (read_as state.Value bytes_format.read) (
    read_no_case)))

pub void_or_value_reads : IsReadBack void_or_value void_or_value_valid read_void_or_value
unfolding read_void_or_value read_byte
void_or_value_reads state.Void rest v = refl
void_or_value_reads (state.Value a) rest v = case_reads state.Value bytes_format a rest v

pub void_or_value_is : IsSpelled void_or_value void_or_value_valid read_void_or_value
unfolding read_void_or_value
void_or_value_is = cases_are void_or_value void_or_value_valid _ (
    case_is void_or_value void_or_value_valid 0 (λ _. state.Void) nothing_format _ (λ _ v. v)
    (λ _. refl) (
    case_is void_or_value void_or_value_valid 1 state.Value bytes_format _ (λ _ v. v) (λ _. refl) (
    no_case_is void_or_value void_or_value_valid)))

-- the format of what stands under a key: 0 for void, or 1 and a value's bytes
abbrev pub void_or_value_format : Format VoidOrValue
void_or_value_format = record {
  spelling = void_or_value;
  valid = void_or_value_valid;
  read = read_void_or_value;
  reads = void_or_value_reads;
  read_is = void_or_value_is;
}
