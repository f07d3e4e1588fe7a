-- A list of items may hold values of the type that it is a part of: as a list it holds each of
-- them, in order.
use mathlib.Core.Path.{◌≡◌, refl, sym}
use mathlib.Core.List.{List, []}
use mathlib.Core.Former.{Former, this, list, via, children}
use base.Stored.{code_map}
use denote.RattleType.{RattleType}
use denote.HoleLaws.{Alike}
use denote.HolePlaces.{Recodes, struct_places, laid}
use denote.Hole.Carrier.{listed, list-listed}
use denote.Hole.Fix.{over}
use denote.Param.Weighed.{Weighed, w_list}
use denote.Model.Placed.{view_places}
use Rattle.std.specs.formers.vec.Vec as vec
use Rattle.std.specs.declared.alloc.Global.{Global}
use Rattle.std.specs.contracts.alloc.Global as global
use Rattle.std.specs.contracts.impls.GlobalAllocator.TheImpl.{ghosts}
use Rattle.plain.specs.declared.items.Items.TheInside.{Inside}
use Rattle.plain.specs.declared.items.Items.TheView.{view, invariant}
use Rattle.plain.specs.contracts.items.Items as items
use Rattle.plain.specs.contracts.items.Items.TheInside as inside

abbrev pub the_former : Former {0} → Former {0}
the_former item = list item

abbrev pub the_weighed : {item : Former {0}} → Weighed item → Weighed (the_former item)
the_weighed weight = w_list weight

pub the_empty : List ⊥
the_empty = []

abbrev pub the_items : (X : Type 0) → List X → List X
the_items X xs = xs

pub the_items_listed : (X : Type 0) (xs : List X) → listed _ (children (the_former this) X xs)
    ≡ the_items X xs
the_items_listed X xs = list-listed X xs

-- the one field, a vector of the items
abbrev field : Former {0}
field = via (vec.the_former this Global) Inside (λ X s. s.items) (λ X v. record { items = v })
    (λ X s. refl) (λ X v. refl)

module _ (from to : RattleType) (h : from.Denot → to.Denot) where
  pub the_places : Alike from to h
      → Alike (items.the_row from) (items.the_row to) ((the_former this).map from.Denot to.Denot h)
  the_places alike =
      view_places field (list this) view (λ X Y k u. refl) (λ X u. refl)
      from.Denot to.Denot h (items.the_row from).coded (items.the_row to).coded
      (invariant from.Denot) (invariant to.Denot) (λ u p q. refl) (λ u p q. refl) (λ u e. tt)
      (λ u e. tt)
      (over (inside.the_row from)) (over (inside.the_row to))
      (struct_places (inside.the_type from) (inside.the_type to) (vec.mapped h, tt) _ (λ d. refl)
      refl
      (laid _ _ _ (vec.the_places global.the_row ghosts from to h alike), tt))

  pub the_codes_placed : Recodes from to h
      → Recodes (items.the_row from) (items.the_row to)
      ((the_former this).map from.Denot to.Denot h)
  the_codes_placed recoded xs =
      sym (code_map from.coded.code to.coded.code h (λ x. sym (recoded x)) xs)
