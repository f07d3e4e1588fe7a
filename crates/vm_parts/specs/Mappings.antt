-- Handles that were handed out in ascending order, and which of them still stand for an id.
use Rattle.std.specs.Prelude.{ℕ, ◌≡◌, ◌<◌, slice_index_or, length, List, [], ◌∷◌, Option, Some, None, zero, suc, ◌+◌}
use Rattle.journal_values.specs.declared.notification.NotificationId.{NotificationId}
use Rattle.journal_values.specs.declared.notification.NotificationId.TheVariants.{CompletionId}
use Rattle.vm_parts.specs.declared.async_results.Mapping.{Mapping}
use Rattle.vm_parts.specs.declared.handles.Held.{Held}

-- a forgotten handle is left out
abbrev pub mapping_if : ℕ → Option NotificationId → List Mapping → List Mapping
mapping_if handle None ms = ms
mapping_if handle (Some id) ms = record { handle = handle; id = id } ∷ ms

-- the handles that still stand for an id
abbrev pub live_mappings : List Held → List Mapping
live_mappings [] = []
live_mappings (h ∷ hs) = mapping_if h.handle h.id (live_mappings hs)

-- each is greater than this one
abbrev pub MappingsAbove : ℕ → List Held → Type 0
MappingsAbove handle [] = Unit {0}
MappingsAbove handle (h ∷ hs) = (handle < h.handle) × MappingsAbove handle hs

-- handles ascend
abbrev pub MappingsAscend : List Held → Type 0
MappingsAscend [] = Unit {0}
MappingsAscend (h ∷ hs) = MappingsAbove h.handle hs × MappingsAscend hs

-- each is less than this one
abbrev pub AllUnder : List Held → ℕ → Type 0
AllUnder [] handle = Unit {0}
AllUnder (h ∷ hs) handle = (h.handle < handle) × AllUnder hs handle

-- no entry has the handle
abbrev pub HasNoMapping : ℕ → List Held → Type 0
HasNoMapping handle hs =
    (k : ℕ) (d : Held) → k < length hs → (slice_index_or hs k d).handle ≡ handle → ⊥

-- the place of the entry of a handle
abbrev pub IsMappingAt : ℕ → List Held → ℕ → Type 0
IsMappingAt handle hs place =
    (place < length hs) × ((d : Held) → (slice_index_or hs place d).handle ≡ handle)

-- n handles, from this one on, each for a completion id, from this one on
abbrev pub mapped_from : ℕ → ℕ → ℕ → List Mapping
mapped_from zero handle id = []
mapped_from (suc n) handle id = record { handle = handle; id = CompletionId id }
    ∷ mapped_from n (handle + 1) (id + 1)
