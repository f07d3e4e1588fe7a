-- The headers of a request, as the rows need them.
use Rattle.std.specs.Prelude.{ℕ, List, codes, nat_eq, if◌then◌else◌, Option, Some, None}
use Rattle.std.specs.Cmp.Lexicographic.{pointwise}
use Rattle.test_support.specs.declared.headers.Headers.{Headers}
use Rattle.test_support.specs.declared.headers.Headers.TheVariants.{ContentType, Empty, Unreadable}

-- the text under `content-type`, if there is one, and no other header; None if they can't be read
abbrev pub test_header : Headers → List ℕ → Option (Option (List ℕ))
test_header (ContentType text) name = if pointwise nat_eq name (codes "content-type")
    then Some (Some text.now) else Some None
test_header Empty name = Some None
test_header Unreadable name = None
