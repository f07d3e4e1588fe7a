-- The version that most content types name.
use Rattle.std.proofs.Common.{◌≡◌, ℕ, List, Some, true, refl}
use Rattle.std.specs.Str.{bytes_eq}
use Rattle.std.proofs.lemmas.Slice.Eq.{bytes_eq-Decides}
use Rattle.journal_protocol.specs.Version.TheVariants.{V7}
use Rattle.journal_protocol.specs.Versions.{content_type, version_of}

pub names_v7 : (text : List ℕ) → bytes_eq text (content_type V7) ≡ true → version_of text ≡ Some V7
unfolding version_of content_type
names_v7 text h = let is : text ≡ content_type V7 = (bytes_eq-Decides text (content_type V7)).0 h in rw is refl
