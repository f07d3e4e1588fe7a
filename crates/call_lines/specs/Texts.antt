-- How lists and values are written on a line.
use Rattle.std.specs.Prelude.{ℕ, Bool, true, false, List, [], ◌∷◌, ◌++◌, Option, Some, None, codes}
use Rattle.std.specs.Fmt.{decimal}
use Rattle.std.specs.List.{flat_map}
use Rattle.lines.specs.Atoms.{quoted}
use Rattle.journal_protocol.specs.Header.{Header}
use Rattle.vm_types.specs.declared.values.Input.{Input}
use Rattle.vm_types.specs.declared.values.TerminalFailure.{TerminalFailure}
use Rattle.vm_types.specs.declared.values.Value.{Value}
use Rattle.vm_types.specs.declared.values.Value.TheVariants as value

-- ---- lists

-- a blank and an item, for each item
abbrev pub spaced : {A : Type 0} → (A → List ℕ) → List A → List ℕ
spaced text items = flat_map (λ item. codes " " ++ text item) items

-- items with a blank between them
abbrev pub between : {A : Type 0} → (A → List ℕ) → List A → List ℕ
between text [] = []
between text (item ∷ items) = text item ++ spaced text items

-- the same in square brackets
abbrev pub listed : {A : Type 0} → (A → List ℕ) → List A → List ℕ
listed text items = codes "[" ++ between text items ++ codes "]"

-- ---- values

abbrev pub flag_text : Bool → List ℕ
flag_text true = codes "true"
flag_text false = codes "false"

-- a text, or `-` for None
abbrev pub optional_text : Option (List ℕ) → List ℕ
optional_text None = codes "-"
optional_text (Some text) = quoted text

-- a key and its value
abbrev pub pair_text : List ℕ × List ℕ → List ℕ
pair_text p = codes "{" ++ quoted p.0 ++ codes " " ++ quoted p.1 ++ codes "}"

abbrev pub header_text : Header → List ℕ
header_text h = pair_text (h.key, h.value)

-- a failure: its code, its message, and its metadata
abbrev pub failure_text : TerminalFailure → List ℕ
failure_text f = codes "failure " ++ decimal f.code ++ codes " " ++ quoted f.message
    ++ spaced pair_text f.metadata

abbrev pub value_text : Value → List ℕ
value_text value.Void = codes "void"
value_text (value.Success bytes) = codes "success " ++ quoted bytes
value_text (value.Failure failure) = failure_text failure
value_text (value.StateKeys keys) = codes "keys " ++ listed quoted keys
value_text (value.InvocationId id) = codes "invocation " ++ quoted id

-- which invocation it is, and the headers, each field after its name
abbrev pub invocation_text : Input → List ℕ
invocation_text i = codes "id=" ++ quoted i.invocation_id ++ codes " seed=" ++ decimal i.random_seed
    ++ codes " key=" ++ quoted i.key ++ codes " headers=" ++ listed header_text i.headers

-- what came with the call, in the same way
abbrev pub payload_text : Input → List ℕ
payload_text i = codes " value=" ++ quoted i.input ++ codes " scope=" ++ optional_text i.scope
    ++ codes " limit=" ++ optional_text i.limit_key ++ codes " idem="
    ++ optional_text i.idempotency_key

-- what a handler was called with
abbrev pub input_text : Input → List ℕ
input_text i = invocation_text i ++ payload_text i
