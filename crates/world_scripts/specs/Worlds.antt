-- What a script says of its world, and the world where it says nothing.
use Rattle.std.specs.Prelude.{◌≡◌, ℕ, true, List, [], ◌∷◌, length, codes, None, string_bytes}
use Rattle.std.proofs.Common.{Global}
use Rattle.std.specs.Borrow.{Bor}
use Rattle.std.specs.List.{AllZip}
use Rattle.std.specs.declared.string.String.{String}
use Rattle.lines.specs.Atoms.{IsAtom, IsText}
use Rattle.lines.specs.Pieces.{AreWordsWithin}
use Rattle.lines.specs.Fields.{IsOptional, IsSet, are_named, texts_named}
use Rattle.line_parts.specs.VmOptions.{ArePolicies}
use Rattle.lines.specs.Words.{IsNumberOf, text_at}
use Rattle.vm_types.specs.Options.{default_options}
use Rattle.world_rounds.specs.declared.types.Identity.{Identity}
use Rattle.world_scripts.specs.declared.given.Given.{Given}

-- the invocation "abc"
abbrev pub default_identity : Identity
default_identity = record {
  id = codes "abc";
  debug_id = codes "abc";
  key = [];
  random_seed = 0;
  scope = None;
  limit_key = None;
  idempotency_key = None;
}

-- the invocation "abc", with nothing in its input and its state, and the options by default
pub record IsDefault (given : Given) : Type 0 where
  pub identity : given.identity ≡ default_identity
  pub options : given.options ≡ default_options
  pub input : given.input ≡ []
  pub state : given.state.items ≡ []

-- the words say this of the invocation
pub record SaysIdentity (words : List (Bor (List ℕ))) (identity : Identity) : Type 0 where
  pub id : IsSet IsAtom default_identity.id (texts_named (codes "id=") words) identity.id
  pub debug_id : IsSet IsText default_identity.debug_id (texts_named (codes "debug_id=") words)
      identity.debug_id
  pub key : IsSet IsText default_identity.key (texts_named (codes "key=") words) identity.key
  pub random_seed : IsSet (IsNumberOf 64) default_identity.random_seed
      (texts_named (codes "seed=") words)
      identity.random_seed
  pub scope : IsOptional IsText (texts_named (codes "scope=") words) identity.scope
  pub limit_key : IsOptional IsText (texts_named (codes "limit=") words) identity.limit_key
  pub idempotency_key : IsOptional IsText (texts_named (codes "idem=") words)
      identity.idempotency_key

-- a key and its value, in braces
pub record IsStateText (text : List ℕ) (entry : List ℕ × List ℕ) : Type 0 where
  pub words : List (Bor (List ℕ))
  pub are_words : AreWordsWithin 123 125 text words
  pub two : length words ≡ 2
  pub is_key : IsText (text_at 0 words) entry.0
  pub is_value : IsAtom (text_at 1 words) entry.1

-- texts that are these keys with their values
abbrev pub AreStateTexts : List (List ℕ) → List (String Global × List ℕ) → Type 0
AreStateTexts found entries =
    AllZip (λ text entry. IsStateText text (string_bytes entry.0, entry.1)) found entries

-- what may be said of a world
abbrev pub world_names : List (List ℕ)
world_names =
    codes "id=" ∷ codes "debug_id=" ∷ codes "key=" ∷ codes "seed=" ∷ codes "scope=" ∷ codes "limit="
    ∷ codes "idem=" ∷ codes "input=" ∷ codes "state=" ∷ codes "cancel=" ∷ codes "checks="
    ∷ codes "awaiting=" ∷ codes "mismatch=" ∷ codes "replay=" ∷ codes "delivery=" ∷ []

-- the words say this of a world; the seed is the invocation's, and no option of the VM
pub record SaysWorld (words : List (Bor (List ℕ))) (given : Given) : Type 0 where
  pub identity : SaysIdentity words given.identity
  pub options : ArePolicies words given.options
  pub seed : given.options.fallback_random_seed ≡ default_options.fallback_random_seed
  pub input : IsSet IsAtom [] (texts_named (codes "input=") words) given.input
  pub state : AreStateTexts (texts_named (codes "state=") words) given.state.items
  pub only : are_named world_names words ≡ true
