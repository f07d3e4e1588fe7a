-- The ids of awakeables.
use Rattle.std.specs.Prelude.{ℕ, ◌+◌, List, ◌++◌, codes}
use Rattle.std.specs.Int.{w32, to_be_bytes}
use Rattle.base64.specs.Engines.{url_safe_no_pad}
use Rattle.base64.specs.GeneralPurpose.{encode_of}

-- The id by which others complete an awakeable: a fixed text, and after it the invocation's id and
-- its signal's in four bytes, in the base64 of URLs without padding.
unfoldable pub awakeable_id : List ℕ → ℕ → List ℕ
awakeable_id invocation signal =
    codes "sign_1" ++ encode_of url_safe_no_pad (invocation ++ to_be_bytes w32 signal)
