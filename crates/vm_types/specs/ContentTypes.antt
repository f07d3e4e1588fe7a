-- The content type that a `vm` line names.
use Rattle.std.specs.Prelude.{ℕ, List, Option, Some, None, if◌then◌else◌, nat_eq, codes, string_bytes}
use Rattle.std.specs.Cmp.Lexicographic.{pointwise}
use Rattle.vm_types.specs.declared.content_type.ContentType.{ContentType}
use Rattle.vm_types.specs.declared.content_type.ContentType.TheVariants.{Absent, Unreadable, Named}

-- what stands under a name in the request's headers
abbrev pub header_under : ContentType → List ℕ → Option (Option (List ℕ))
header_under Absent name = Some None
header_under Unreadable name =
    if pointwise nat_eq name (codes "content-type") then None else Some None
header_under (Named text) name =
    if pointwise nat_eq name (codes "content-type") then Some (Some (string_bytes text))
    else Some None
