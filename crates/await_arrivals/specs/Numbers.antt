-- The slot of each number, and what is held for it.
use Rattle.std.specs.Prelude.{ℕ, ◌+◌, ◌-◌, nat_le, cond, List, get_or, length, Option, Some, None}
use Rattle.std.specs.Ordering.{nat_cmp}
use Rattle.std.specs.BTreeMap.{get, btree_map_len}
use Rattle.await_arrivals.specs.declared.numbers.Numbers.{Numbers}

-- what the table has, and else what is found elsewhere
abbrev pub or_else : Option ℕ → Option ℕ → Option ℕ
or_else None elsewhere = elsewhere
or_else (Some slot) elsewhere = Some slot

-- the slot of a number in a table whose first place is this number's
abbrev pub slot_in_table : ℕ → List (Option ℕ) → ℕ → Option ℕ
slot_in_table base table n = cond (nat_le base n) (get_or table (n - base) None) None

unfoldable pub slot_of_number : Numbers → ℕ → Option ℕ
slot_of_number s n = or_else (slot_in_table s.base s.table.items n) (get nat_cmp s.others n)

-- how many places the table has, and keys the map
abbrev pub held_for_numbers : Numbers → ℕ
held_for_numbers s = length s.table.items + btree_map_len s.others

-- how many more are held at most, once a number came
abbrev pub most_for_one : ℕ
most_for_one = 4
