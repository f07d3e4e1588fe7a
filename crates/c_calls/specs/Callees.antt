-- Which handler C calls.
use Rattle.std.specs.Prelude.{ℕ, List, [], ◌∷◌, ◌++◌, map}
use Rattle.std.specs.List.{flat_map}
use Rattle.vm_types.specs.declared.values.Target.{Target}
use Rattle.c_calls.specs.declared.callees.GivenTarget.{GivenTarget}
use Rattle.c_calls.specs.Given.{header_of, optional_of, lent_texts, texts_of_pair}

-- the handler that is called, and how
abbrev pub given_target : GivenTarget → Target
given_target given = record {
  service = given.service.bytes.now;
  handler = given.handler.bytes.now;
  key = optional_of given.key;
  idempotency_key = optional_of given.idempotency_key;
  scope = optional_of given.scope;
  limit_key = optional_of given.limit_key;
  headers = map header_of given.headers.now;
}

-- the texts that name it
abbrev pub texts_of_target : GivenTarget → List (List ℕ)
texts_of_target given =
    given.service.bytes.now ∷ given.handler.bytes.now
    ∷ (lent_texts given.key ++ (lent_texts given.idempotency_key ++ (lent_texts given.scope
    ++ (lent_texts given.limit_key ++ flat_map texts_of_pair given.headers.now))))

-- the texts of a call: those that name the handler, and the call's name
abbrev pub texts_of_call : GivenTarget → List ℕ → List (List ℕ)
texts_of_call given name = texts_of_target given ++ (name ∷ [])
