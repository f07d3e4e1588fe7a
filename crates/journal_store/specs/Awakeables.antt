-- Whose signal an awakeable's id names: what the id's text says in base64 is the invocation's id,
-- and after it the signal's in four bytes.
use Rattle.std.specs.Prelude.{ℕ, ◌-◌, nat_lt, nat_eq, cond, List, length, take, drop, codes, Option, Some, None, Result, Ok, Err}
use Rattle.std.specs.Cmp.Lexicographic.{pointwise}
use Rattle.std.specs.Int.{w32, from_be_bytes}
use Rattle.base64.specs.Engines.{url_safe_no_pad}
use Rattle.base64.specs.GeneralPurpose.{decode_of}

-- what stands before the last four bytes, and the number that they are
abbrev pub named_in : List ℕ → Option (List ℕ × ℕ)
named_in named = cond (nat_lt (length named) 4) None (Some
    (take (length named - 4) named, from_be_bytes w32 (drop (length named - 4) named)))

-- the same of what was decoded, if it could be
abbrev pub named_by : {E : Type 0} → Result (List ℕ) E → Option (List ℕ × ℕ)
named_by (Ok named) = named_in named
named_by (Err e) = None

-- the invocation and the signal that an awakeable's id names, if it names one
abbrev pub awakeable_named : List ℕ → Option (List ℕ × ℕ)
awakeable_named id = cond (pointwise nat_eq (take 6 id) (codes "sign_1"))
    (named_by (decode_of url_safe_no_pad (drop 6 id))) None
