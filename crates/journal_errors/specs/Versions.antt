-- The versions of the protocol: their content types, and what is later than what.
use Rattle.std.specs.Prelude.{Bool, true, false, ℕ, List, codes, nat_eq, Option, Some, None, Result, Ok, Err, if◌then◌else◌}
use Rattle.std.specs.Cmp.Lexicographic.{pointwise}
use Rattle.journal_errors.specs.declared.version.Version.{Version}
use Rattle.journal_errors.specs.declared.version.Version.TheVariants.{V1, V2, V3, V4, V5, V6, V7, V8}
use Rattle.journal_errors.specs.declared.error.Error.{Error}
use Rattle.journal_errors.specs.declared.faults.NamedFault.TheVariants as fault
use Rattle.journal_errors.specs.Errors.{named_error}

-- the content type by which a request asks for the version; its last character is the version's
-- number
unfoldable pub content_type : Version → List ℕ
content_type V1 = codes "application/vnd.restate.invocation.v1"
content_type V2 = codes "application/vnd.restate.invocation.v2"
content_type V3 = codes "application/vnd.restate.invocation.v3"
content_type V4 = codes "application/vnd.restate.invocation.v4"
content_type V5 = codes "application/vnd.restate.invocation.v5"
content_type V6 = codes "application/vnd.restate.invocation.v6"
content_type V7 = codes "application/vnd.restate.invocation.v7"
content_type V8 = codes "application/vnd.restate.invocation.v8"

-- the version whose content type the text is, byte for byte
unfoldable pub version_of : List ℕ → Option Version
version_of text =
    if pointwise nat_eq text (content_type V1) then Some V1
    else if pointwise nat_eq text (content_type V2) then Some V2
    else if pointwise nat_eq text (content_type V3) then Some V3
    else if pointwise nat_eq text (content_type V4) then Some V4
    else if pointwise nat_eq text (content_type V5) then Some V5
    else if pointwise nat_eq text (content_type V6) then Some V6
    else if pointwise nat_eq text (content_type V7) then Some V7
    else if pointwise nat_eq text (content_type V8) then Some V8
    else None

-- what reading a version answers
abbrev pub version_read : Option Version → Result Version Error
version_read None = Err (named_error fault.BadContentType None)
version_read (Some v) = Ok v

-- the version is V6 or later
abbrev pub is_from_v6 : Version → Bool
is_from_v6 V6 = true
is_from_v6 V7 = true
is_from_v6 V8 = true
is_from_v6 earlier = false

-- the version is V7 or later
abbrev pub is_from_v7 : Version → Bool
is_from_v7 V7 = true
is_from_v7 V8 = true
is_from_v7 earlier = false
