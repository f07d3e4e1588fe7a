-- Which version a request asks for, and the VM that is made for it.
use Rattle.std.specs.Prelude.{◌≡◌, ℕ, List, [], ◌∷◌, codes, Option, Some, None, Result, Ok, Err}
use Rattle.std.proofs.Common.{Global}
use Rattle.journal_protocol.specs.Error.{Error}
use Rattle.journal_protocol.specs.NamedFault.TheVariants as fault
use Rattle.journal_protocol.specs.Version.{Version}
use Rattle.journal_protocol.specs.Version.TheVariants.{V1, V2, V3, V4, V5, V6, V7, V8}
use Rattle.journal_protocol.specs.Errors.{named_error, no_memory}
use Rattle.journal_protocol.specs.Versions.{content_type, version_of}
use Rattle.vm_types.specs.declared.options.VMOptions.{VMOptions}
use Rattle.vm_types.specs.declared.values.ResponseHead.{ResponseHead}
use Rattle.vm_machine.specs.Making.{fresh}
use Rattle.invocation_vm.specs.Views.{View}

-- V5 and later are supported
abbrev pub supported : Version → Result Version Error
supported V1 = Err (named_error fault.UnsupportedMediaType None)
supported V2 = Err (named_error fault.UnsupportedMediaType None)
supported V3 = Err (named_error fault.UnsupportedMediaType None)
supported V4 = Err (named_error fault.UnsupportedMediaType None)
supported V5 = Ok V5
supported V6 = Ok V6
supported V7 = Ok V7
supported V8 = Ok V8

-- The version is one that the VM supports.
abbrev pub IsSupported : Version → Type 0
IsSupported version = supported version ≡ Ok version

-- a version that is read has to be supported
abbrev pub supported_version : Option Version → Result Version Error
supported_version None = Err (named_error fault.BadContentType None)
supported_version (Some version) = supported version

-- The header that names the content type can't be read, is absent, or is a text.
abbrev pub version_in : Option (Option (List ℕ)) → Result Version Error
version_in None = Err (named_error fault.BadRequest None)
version_in (Some None) = Err (named_error fault.MissingContentType None)
version_in (Some (Some text)) = supported_version (version_of text)

-- a VM before any input
abbrev pub made : Global → VMOptions → Version → View
made alloc options version = record { undecoded = []; machine = fresh alloc version options }

-- A VM is made for the version that is asked for; else the error says why, or no memory was found.
abbrev pub Makes : {S : Type 0} → Global → VMOptions → Result Version Error → (S → View)
    → Result S Error → Type 0
Makes alloc options (Ok version) view (Ok vm) = view vm ≡ made alloc options version
Makes alloc options (Ok version) view (Err e) = e ≡ no_memory
Makes alloc options (Err refusal) view (Ok vm) = ⊥
Makes alloc options (Err refusal) view (Err e) = e ≡ refusal

-- the head of the response
abbrev pub response_head : Version → ResponseHead
response_head version = record {
  status_code = 200;
  headers = record { key = codes "content-type"; value = content_type version } ∷ [];
  version = version;
}
